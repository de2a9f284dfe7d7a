-- Laws of the first bad line: bytes have one at most, and that of session texts is the one of their set.
use Rattle.std.proofs.Common.{◌≡◌, ℕ, ◌+◌, true, List, [], ◌∷◌, ◌++◌, length, map, refl, ap, sym, ◌∙◌, subst, append_assoc, append-nil}
use Rattle.std.proofs.lemmas.List.{append_cancel_left}
use Rattle.std.proofs.lemmas.List.Folds.{list_all-append}
use Rattle.std.specs.List.{list_all}
use Rattle.mx_name.specs.Names.{is_free}
use Rattle.mx_reader.specs.FirstBadLine.{BeginsSome, IsFirstBad}
use Rattle.mx_reader.specs.Laws.{OfSessionsLaw}
use Rattle.mx_request.proofs.LineLaws.{same_cut}
use Rattle.mx_request.proofs.StepLaws.{both, both_hold}
use Rattle.mx_script.proofs.ReadingLaws.{lines_front, lines_text-append, rows_free}
use Rattle.mx_script.specs.FirstBadLine as sessions
use Rattle.mx_script.specs.SessionTexts.{IsSomeSession, lines_text, row_text, rows_of, session_text}

both_of : (x y : List ℕ) (xs ys : List (List ℕ)) → x ≡ y → xs ≡ ys → x ∷ xs ≡ y ∷ ys
both_of x y xs ys e f = cc

-- of whole lines that begin the same bytes, the one list begins with the other
one_begins : {R : Type 0} (xs ys : List (List ℕ)) (r s : List ℕ) → list_all (is_free 10) xs ≡ true → list_all (is_free 10) ys ≡ true
    → lines_text xs ++ r ≡ lines_text ys ++ s → ((more : List (List ℕ)) → ys ≡ xs ++ more → R)
    → ((more : List (List ℕ)) → xs ≡ ys ++ more → R) → R
one_begins [] ys r s a b e shorter longer = shorter ys refl
one_begins (x ∷ xs) [] r s a b e shorter longer = longer (x ∷ xs) refl
one_begins (x ∷ xs) (y ∷ ys) r s a b e shorter longer =
    let f = both (is_free 10 x) (list_all (is_free 10) xs) a in
    let g = both (is_free 10 y) (list_all (is_free 10) ys) b in
    let same = same_cut 10 x y (lines_text xs ++ r) (lines_text ys ++ s) f.0 g.0
    (sym (append_assoc x (10 ∷ lines_text xs) r) ∙ e ∙ append_assoc y (10 ∷ lines_text ys) s) in
    one_begins xs ys r s f.1 g.1 same.1
    (λ more e. shorter more (both_of y x ys (xs ++ more) (sym same.0) e))
    (λ more e. longer more (both_of x y xs (ys ++ more) same.0 e))

-- where one stops, the other does
module _ (IsOne : List ℕ → Type 0) where
  fewer : (first more : List (List ℕ)) (all : List (List ℕ)) → all ≡ first ++ more → BeginsSome IsOne all → BeginsSome IsOne first
  fewer first more all e b = record {
    text = b.text;
    is_one = b.is_one;
    more = lines_text more ++ b.more;
    begins = b.begins ∙ ap (λ ls. lines_text ls ++ b.more) e ∙ ap (λ t. t ++ b.more) (lines_text-append first more)
        ∙ append_assoc (lines_text first) (lines_text more) b.more;
  }

  not_longer : (spelled : List ℕ) (n m : ℕ) (one : IsFirstBad IsOne spelled n) (other : IsFirstBad IsOne spelled m) (more : List (List ℕ))
      → other.lines ≡ one.lines ++ more → n ≡ m
  not_longer spelled n m one other [] e =
      one.first.at ∙ ap (λ (ls : List (List ℕ)). length ls + 1) (sym (e ∙ append-nil one.lines)) ∙ sym other.first.at
  not_longer spelled n m one other (line ∷ more) e =
      let free = both _ _ (sym (list_all-append (is_free 10) one.lines (line ∷ more)) ∙ subst (λ ls. list_all (is_free 10) ls ≡ true) e other.first.whole) in
      let rest : one.rest ≡ line ++ 10 ∷ (lines_text more ++ other.rest)
      = append_cancel_left (lines_text one.lines) _ _
      (sym one.first.parts ∙ other.first.parts ∙ ap (λ ls. lines_text ls ++ other.rest) e
      ∙ ap (λ t. t ++ other.rest) (lines_text-append one.lines (line ∷ more))
      ∙ append_assoc (lines_text one.lines) (line ++ 10 ∷ lines_text more) other.rest)
      ∙ append_assoc line (10 ∷ lines_text more) other.rest in
      absurd (one.first.bad line (lines_text more ++ other.rest) (both (is_free 10 line) (list_all (is_free 10) more) free.1).0 rest
      (fewer (one.lines ++ line ∷ []) more other.lines (e ∙ sym (append_assoc one.lines (line ∷ []) more)) other.first.begins))

pub one_first_bad : (IsOne : List ℕ → Type 0) (spelled : List ℕ) (n m : ℕ) → IsFirstBad IsOne spelled n → IsFirstBad IsOne spelled m → n ≡ m
one_first_bad IsOne spelled n m one other =
    one_begins one.lines other.lines one.rest other.rest one.first.whole other.first.whole (sym one.first.parts ∙ other.first.parts)
    (λ more e. not_longer IsOne spelled n m one other more e) (λ more e. sym (not_longer IsOne spelled m n other one more e))

-- lines that begin the text of a session
some_of : (lines : List (List ℕ)) → sessions.BeginsText lines → BeginsSome IsSomeSession lines
some_of lines b = record {
  text = session_text b.session;
  is_one = (b.session, record { session = b.is_one; fits_all = b.fits_all; text = refl });
  more = lines_text b.more;
  begins = ap lines_text b.begins ∙ lines_text-append lines b.more;
}

free_of : (lines : List (List ℕ)) → sessions.BeginsText lines → list_all (is_free 10) lines ≡ true
free_of lines b =
    let all : list_all (is_free 10) (lines ++ b.more) ≡ true
    = subst (λ ls. list_all (is_free 10) ls ≡ true) b.begins (rows_free (rows_of b.session) b.fits_all) in
    (both _ _ (sym (list_all-append (is_free 10) lines b.more) ∙ all)).0

of_some : (lines : List (List ℕ)) → list_all (is_free 10) lines ≡ true → BeginsSome IsSomeSession lines → sessions.BeginsText lines
of_some lines whole b =
    let session = b.is_one.0 in
    let is = b.is_one.1 in
    let m = lines_front (map row_text (rows_of session)) lines b.more (rows_free (rows_of session) is.fits_all) whole (sym is.text ∙ b.begins) in
    record { session = session; is_one = is.session; fits_all = is.fits_all; more = m.0; begins = m.1 }

pub of_sessions : OfSessionsLaw
of_sessions spelled n = (to, back)
  where
    to : sessions.IsFirstBad spelled n → IsFirstBad IsSomeSession spelled n
    to b =
        let whole = free_of b.lines b.first.begins in
        record {
          none = b.no_session;
          lines = b.lines;
          rest = b.rest;
          first = record {
            parts = b.first.parts;
            whole = whole;
            at = b.first.at;
            begins = some_of b.lines b.first.begins;
            bad = λ line more free e begun. b.first.bad line more free e (of_some (b.lines ++ line ∷ [])
                (list_all-append (is_free 10) b.lines (line ∷ []) ∙ both_hold _ _ whole (both_hold _ _ free refl)) begun);
          };
        }

    back : IsFirstBad IsSomeSession spelled n → sessions.IsFirstBad spelled n
    back b = record {
      no_session = b.none;
      lines = b.lines;
      rest = b.rest;
      first = record {
        parts = b.first.parts;
        at = b.first.at;
        begins = of_some b.lines b.first.whole b.first.begins;
        bad = λ line more free e begun. b.first.bad line more free e (some_of (b.lines ++ line ∷ []) begun);
      };
    }
