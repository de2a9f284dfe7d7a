-- Laws of lines `end`: a session's text has one, its last, and bytes have one first such line.
use Rattle.std.proofs.Common.{◌≡◌, ℕ, ◌+◌, ◌≤◌, ◌==◌, Bool, true, false, not, List, [], ◌∷◌, ◌++◌, length, map, Option, Some, None, codes, refl, ap, sym, ◌∙◌, subst, append_assoc, length-append, arith}
use Rattle.std.proofs.lemmas.List.{append_cancel_left, length-map, map-append}
use Rattle.std.proofs.lemmas.List.Folds.{list_all-append}
use Rattle.std.specs.Cmp.Lexicographic.{pointwise}
use Rattle.std.specs.List.{list_all}
use Rattle.mx_both.specs.Cutting.{HasNoEnd, IsEnded}
use Rattle.mx_both.specs.Ends.{is_other}
use Rattle.mx_name.proofs.CutLaws.{cut_again}
use Rattle.mx_name.specs.Cuts.{cut_at}
use Rattle.mx_name.specs.Names.{is_free}
use Rattle.mx_request.proofs.LineLaws.{same_cut}
use Rattle.mx_request.proofs.StepLaws.{both, both_hold, same_bytes}
use Rattle.mx_request.specs.declared.entrants.Entrant.{Entrant}
use Rattle.mx_request.specs.declared.requests.Request.{Request}
use Rattle.mx_script.proofs.ReadingLaws.{lines_text-append}
use Rattle.mx_script.proofs.RowLaws.{plain_again, plain_alone, row_free}
use Rattle.mx_script.specs.Progress.{front_rows}
use Rattle.mx_script.specs.Sessions.{Outline}
use Rattle.mx_script.specs.SessionTexts.{IsText, asked, fits, history_rows, lines_text, process_rows, row_text, setup_rows}
use Rattle.mx_script.specs.declared.lines.Line.{Line}
use Rattle.mx_script.specs.declared.rows.Row.{Row}
use Rattle.mx_script.specs.declared.rows.Row.TheVariants as row

-- lines take at least a byte each
pub fewer_lines : (lines : List (List ℕ)) → length lines ≤ length (lines_text lines)
fewer_lines [] = omega arith
fewer_lines (line ∷ lines) = omega (arith, fewer_lines lines, length-append line (10 ∷ lines_text lines))

-- a row that stands before the last
abbrev is_front : Row → Bool
is_front row.End = false
is_front _ = true

asked_front : (requests : List Request) → list_all is_front (map asked requests) ≡ true
asked_front [] = refl
asked_front (request ∷ requests) = asked_front requests

script_front : (script : List Line) → list_all is_front (map row.Line script) ≡ true
script_front [] = refl
script_front (line ∷ script) = script_front script

process_front : (entrants : List Entrant) (scripts : List (List Line)) → list_all is_front (process_rows entrants scripts) ≡ true
process_front [] scripts = refl
process_front (entrant ∷ entrants) [] = refl
process_front (entrant ∷ entrants) (script ∷ scripts) =
    list_all-append is_front (map row.Line script) (process_rows entrants scripts)
    ∙ both_hold _ _ (script_front script) (process_front entrants scripts)

history_front : (x : Outline) → list_all is_front (row.Header x.version ∷ history_rows x.history) ≡ true
history_front x = by_limit x.history
  where
    by_limit : (limit : Option ℕ) → list_all is_front (row.Header x.version ∷ history_rows limit) ≡ true
    by_limit None = refl
    by_limit (Some limit) = refl

all_front : (x : Outline) → list_all is_front (front_rows x) ≡ true
all_front x =
    list_all-append is_front (setup_rows x.version x.history x.setup) (process_rows x.principals x.scripts)
    ∙ both_hold _ _
    (list_all-append is_front (row.Header x.version ∷ history_rows x.history) (map asked x.setup)
    ∙ both_hold _ _ (history_front x) (asked_front x.setup))
    (process_front x.principals x.scripts)

not_last : (r : Row) → is_front r ≡ true → row.End ≡ r → ⊥
not_last r e f = cc

-- its text is not `end`
row_other : (r : Row) → fits r ≡ true → is_front r ≡ true → is_other (row_text r) ≡ true
row_other r fit front = both_hold _ _ (row_free r fit) (by_test (pointwise ◌==◌ (row_text r) (codes "end")) refl)
  where
    by_test : (test : Bool) → pointwise ◌==◌ (row_text r) (codes "end") ≡ test → not test ≡ true
    by_test false t = refl
    by_test true t =
        absurd (not_last r front (plain_alone (codes "end") row.End r (plain_again row.End refl)
        (record { spelled = same_bytes (row_text r) (codes "end") t; fits = fit })))

rows_other : (rows : List Row) → list_all fits rows ≡ true → list_all is_front rows ≡ true → list_all is_other (map row_text rows) ≡ true
rows_other [] e f = refl
rows_other (r ∷ rows) e f =
    let fit = both (fits r) (list_all fits rows) e in
    let front = both (is_front r) (list_all is_front rows) f in
    both_hold _ _ (row_other r fit.0 front.0) (rows_other rows fit.1 front.1)

-- a session's text ends with its first line `end`
pub session_ends : (spelled : List ℕ) (x : Outline) → IsText spelled x → IsEnded spelled (length (front_rows x) + 1)
session_ends spelled x is =
    let fit = both (list_all fits (front_rows x)) (list_all fits (row.End ∷ []))
    (sym (list_all-append fits (front_rows x) (row.End ∷ [])) ∙ is.fits_all) in
    record {
      earlier = length (front_rows x);
      passed = record {
        lines = map row_text (front_rows x);
        others = rows_other (front_rows x) fit.0 (all_front x);
        parts = is.text ∙ ap lines_text (map-append row_text (front_rows x) (row.End ∷ []))
            ∙ lines_text-append (map row_text (front_rows x)) (codes "end" ∷ []);
        count = sym (length-map (front_rows x) row_text);
      };
      count = refl;
    }

-- lines other than `end` are whole
pub others_free : (lines : List (List ℕ)) → list_all is_other lines ≡ true → list_all (is_free 10) lines ≡ true
others_free [] e = refl
others_free (line ∷ lines) e =
    let f = both (is_other line) (list_all is_other lines) e in
    both_hold _ _ (both (is_free 10 line) (not (pointwise ◌==◌ line (codes "end"))) f.0).0 (others_free lines f.1)

free_of : (line : List ℕ) → is_other line ≡ true → is_free 10 line ≡ true
free_of line e = (both (is_free 10 line) (not (pointwise ◌==◌ line (codes "end"))) e).0

-- a line other than `end`, with its newline, does not begin as `end` does
other_line : (line t r : List ℕ) → is_other line ≡ true → (line ++ 10 ∷ t) ≡ codes "end" ++ 10 ∷ r → ⊥
other_line line t r e f =
    let same = same_cut 10 line (codes "end") t r (free_of line e) refl f in
    false_true (subst (λ text. is_other text ≡ true) same.0 e)
  where
    false_true : false ≡ true → ⊥
    false_true e = cc

-- bytes have one first line `end`
pub same_end : (xs ys : List (List ℕ)) (r s : List ℕ) → list_all is_other xs ≡ true → list_all is_other ys ≡ true
    → lines_text xs ++ (codes "end\n" ++ r) ≡ lines_text ys ++ (codes "end\n" ++ s) → (lines_text xs ≡ lines_text ys) × (r ≡ s)
same_end [] [] r s a b e = (refl, append_cancel_left (codes "end\n") r s e)
same_end [] (y ∷ ys) r s a b e =
    let g = both (is_other y) (list_all is_other ys) b in
    absurd (other_line y (lines_text ys ++ (codes "end\n" ++ s)) r g.0 (sym (append_assoc y (10 ∷ lines_text ys) (codes "end\n" ++ s)) ∙ sym e))
same_end (x ∷ xs) [] r s a b e =
    let f = both (is_other x) (list_all is_other xs) a in
    absurd (other_line x (lines_text xs ++ (codes "end\n" ++ r)) s f.0 (sym (append_assoc x (10 ∷ lines_text xs) (codes "end\n" ++ r)) ∙ e))
same_end (x ∷ xs) (y ∷ ys) r s a b e =
    let f = both (is_other x) (list_all is_other xs) a in
    let g = both (is_other y) (list_all is_other ys) b in
    let same = same_cut 10 x y (lines_text xs ++ (codes "end\n" ++ r)) (lines_text ys ++ (codes "end\n" ++ s)) (free_of x f.0) (free_of y g.0)
    (sym (append_assoc x (10 ∷ lines_text xs) (codes "end\n" ++ r)) ∙ e ∙ append_assoc y (10 ∷ lines_text ys) (codes "end\n" ++ s)) in
    let on = same_end xs ys r s f.1 g.1 same.1 in
    (joined x y (lines_text xs) (lines_text ys) same.0 on.0, on.1)
  where
    joined : (x y s t : List ℕ) → x ≡ y → s ≡ t → x ++ 10 ∷ s ≡ y ++ 10 ∷ t
    joined x y s t e f = cc

pub one_front : (front rest first second : List ℕ) (n m : ℕ) → IsEnded front n → IsEnded first m → front ++ rest ≡ first ++ second
    → (front ≡ first) × (rest ≡ second)
one_front front rest first second n m a b e =
    let same = same_end a.passed.lines b.passed.lines rest second a.passed.others b.passed.others
    (sym (behind front rest n a) ∙ e ∙ behind first second m b) in
    (a.passed.parts ∙ ap (λ text. text ++ codes "end\n") same.0 ∙ sym b.passed.parts, same.1)
  where
    behind : (front rest : List ℕ) (n : ℕ) (a : IsEnded front n) → front ++ rest ≡ lines_text a.passed.lines ++ (codes "end\n" ++ rest)
    behind front rest n a = ap (λ text. text ++ rest) a.passed.parts ∙ append_assoc (lines_text a.passed.lines) (codes "end\n") rest

none_is_cut : (p : List ℕ × List ℕ) → ◌≡◌ {A = Option (List ℕ × List ℕ)} None (Some p) → ⊥
none_is_cut p e = cc

-- bytes without a line `end` do not begin with bytes that end with one
never_ends : (xs ys : List (List ℕ)) (r s : List ℕ) → list_all is_other xs ≡ true → list_all is_other ys ≡ true → cut_at 10 r ≡ None
    → lines_text xs ++ r ≡ lines_text ys ++ (codes "end\n" ++ s) → ⊥
never_ends [] [] r s a b none e =
    none_is_cut (codes "end", s) (sym none ∙ ap (cut_at 10) e ∙ cut_again 10 (codes "end") s refl)
never_ends [] (y ∷ ys) r s a b none e =
    let g = both (is_other y) (list_all is_other ys) b in
    let rest : List ℕ = lines_text ys ++ (codes "end\n" ++ s) in
    none_is_cut (y, rest)
    (sym none ∙ ap (cut_at 10) (e ∙ append_assoc y (10 ∷ lines_text ys) (codes "end\n" ++ s)) ∙ cut_again 10 y rest (free_of y g.0))
never_ends (x ∷ xs) [] r s a b none e =
    let f = both (is_other x) (list_all is_other xs) a in
    other_line x (lines_text xs ++ r) s f.0 (sym (append_assoc x (10 ∷ lines_text xs) r) ∙ e)
never_ends (x ∷ xs) (y ∷ ys) r s a b none e =
    let f = both (is_other x) (list_all is_other xs) a in
    let g = both (is_other y) (list_all is_other ys) b in
    let same = same_cut 10 x y (lines_text xs ++ r) (lines_text ys ++ (codes "end\n" ++ s)) (free_of x f.0) (free_of y g.0)
    (sym (append_assoc x (10 ∷ lines_text xs) r) ∙ e ∙ append_assoc y (10 ∷ lines_text ys) (codes "end\n" ++ s)) in
    never_ends xs ys r s f.1 g.1 none same.1

pub no_front : (spelled first second : List ℕ) (n m : ℕ) → HasNoEnd spelled n → IsEnded first m → spelled ≡ first ++ second → ⊥
no_front spelled first second n m a b e =
    never_ends a.passed.lines b.passed.lines a.last second a.passed.others b.passed.others a.none
    (sym a.passed.parts ∙ e ∙ ap (λ text. text ++ second) b.passed.parts ∙ append_assoc (lines_text b.passed.lines) (codes "end\n") second)
