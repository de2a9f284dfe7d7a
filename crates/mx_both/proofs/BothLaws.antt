-- Laws of bytes cut behind their first line `end`: they are both texts where each part is one, and a first bad line of a part
-- is theirs.
use Rattle.std.proofs.Common.{◌≡◌, ℕ, ◌+◌, ◌≤◌, true, ◌⊎◌, inl, inr, List, [], ◌∷◌, ◌++◌, length, codes, map, refl, ap, sym, ◌∙◌, subst, append_assoc, append-nil, length-append, arith}
use Rattle.std.proofs.lemmas.List.Folds.{list_all-append}
use Rattle.std.specs.List.{list_all}
use Rattle.mx_both.proofs.EndLaws.{others_free, fewer_lines, no_front, one_front, session_ends}
use Rattle.mx_both.specs.BothTexts.{IsBothText, IsSomeBoth}
use Rattle.mx_both.specs.Cutting.{HasNoEnd, IsCut, IsEnded}
use Rattle.mx_both.specs.Laws.{BehindEndLaw, OneBothLaw}
use Rattle.mx_name.specs.Names.{is_free}
use Rattle.mx_reader.proofs.FirstBadLaws.{of_sessions}
use Rattle.mx_reader.specs.FirstBadLine.{BeginsSome, IsFirstBad}
use Rattle.mx_reader.specs.RunTexts.{IsRunText, IsSomeRun}
use Rattle.mx_request.proofs.LineLaws.{same_cut}
use Rattle.mx_request.proofs.StepLaws.{both, both_hold}
use Rattle.mx_script.proofs.ReadingLaws.{lines_front, lines_text-append, rows_free}
use Rattle.mx_script.proofs.TextLaws.{one_session}
use Rattle.mx_script.specs.FirstBadLine as sessions
use Rattle.mx_script.specs.Progress.{front_rows}
use Rattle.mx_script.specs.Sessions.{Outline}
use Rattle.mx_script.specs.SessionTexts.{IsSomeSession, IsText, lines_text, row_text, rows_of}
use Rattle.mx_state.specs.declared.journal.Entry as journaled
use Rattle.mx_text.proofs.RunLaws.{one_run}
use Rattle.mx_text.specs.RunText.{run_text}
use Rattle.mx_transcript.specs.Transcripts.{Step}

-- the session text that begins the bytes is their front, and what follows is the rest
record IsOwn (front rest first second : List ℕ) : Type 0 where
  pub same : front ≡ first
  pub left : rest ≡ second

own : (spelled front rest first second : List ℕ) (n : ℕ) (x : Outline) → IsCut spelled front rest n → IsText first x
    → spelled ≡ first ++ second → IsOwn front rest first second
own spelled front rest first second n x cut is e = by_end cut.ends
  where
    by_end : IsEnded front n ⊎ (HasNoEnd front n × (rest ≡ [])) → IsOwn front rest first second
    by_end (inl ended) =
        let same = one_front front rest first second n (length (front_rows x) + 1) ended (session_ends first x is) (sym cut.parts ∙ e) in
        record { same = same.0; left = same.1 }
    by_end (inr without) =
        absurd (no_front front first second n (length (front_rows x) + 1) without.0 (session_ends first x is)
        (sym (append-nil front) ∙ ap (λ r. front ++ r) (sym without.1) ∙ sym cut.parts ∙ e))

-- both texts are the two parts
pub record AreParts (front rest : List ℕ) (x : Outline) (journal : List journaled.Entry) (transcripts : List (List Step)) : Type 0 where
  pub session : IsText front x
  pub run : IsRunText rest journal transcripts

pub parts_are : (spelled front rest : List ℕ) (n : ℕ) (x : Outline) (journal : List journaled.Entry) (transcripts : List (List Step))
    → IsCut spelled front rest n → IsBothText spelled x journal transcripts → AreParts front rest x journal transcripts
parts_are spelled front rest n x journal transcripts cut is =
    let o = own spelled front rest is.first is.second n x cut is.of_session is.parts in
    record {
      session = subst (λ text. IsText text x) (sym o.same) is.of_session;
      run = subst (λ text. IsRunText text journal transcripts) (sym o.left) is.of_run;
    }

pub one_both : OneBothLaw
one_both spelled x y journal entries transcripts parts a b =
    let same = one_front a.first a.second b.first b.second (length (front_rows x) + 1) (length (front_rows y) + 1)
    (session_ends a.first x a.of_session) (session_ends b.first y b.of_session) (sym a.parts ∙ b.parts) in
    let run = one_run journal entries transcripts parts a.of_run.spellable b.of_run.spellable (sym a.of_run.text ∙ same.1 ∙ b.of_run.text) in
    (one_session a.first x y a.of_session (subst (λ text. IsText text y) (sym same.0) b.of_session), run.0, run.1)

pub behind_end : BehindEndLaw
behind_end spelled x journal transcripts is =
    let ends = session_ends is.first x is.of_session in
    record {
      lines = ends.passed.lines;
      others = ends.passed.others;
      parts = is.parts ∙ ap (λ text. text ++ is.second) ends.passed.parts
          ∙ append_assoc (lines_text ends.passed.lines) (codes "end\n") is.second;
    }

-- the shortest run text
no_run : IsRunText (run_text [] []) [] []
no_run = record {
  spellable = record { count = refl; entries = refl; parts = refl; steps = refl };
  replies = refl;
  events = refl;
  text = refl;
}

-- lines that begin a session's text begin both texts
session_begins : (lines : List (List ℕ)) → BeginsSome IsSomeSession lines → BeginsSome IsSomeBoth lines
session_begins lines b = record {
  text = b.text ++ run_text [] [];
  is_one = (
    b.is_one.0,
    [],
    [],
    record {
      first = b.text;
      second = run_text [] [];
      parts = refl;
      of_session = b.is_one.1;
      of_run = no_run;
    },
  );
  more = b.more ++ run_text [] [];
  begins = ap (λ text. text ++ run_text [] []) b.begins ∙ append_assoc (lines_text lines) b.more (run_text [] []);
}

-- of whole lines that begin the same bytes, the one list begins with the other
record HasMore (xs ys : List (List ℕ)) : Type 0 where
  pub more : List (List ℕ)
  pub same : ys ≡ xs ++ more

and_more : (x y : List ℕ) (xs ys : List (List ℕ)) → x ≡ y → HasMore xs ys → HasMore (x ∷ xs) (y ∷ ys)
and_more x y xs ys e m = record { more = m.more; same = joined y x ys (xs ++ m.more) (sym e) m.same }
  where
    joined : (x y : List ℕ) (xs ys : List (List ℕ)) → x ≡ y → xs ≡ ys → x ∷ xs ≡ y ∷ ys
    joined x y xs ys e f = cc

one_begins : (xs ys : List (List ℕ)) (r s : List ℕ) → list_all (is_free 10) xs ≡ true → list_all (is_free 10) ys ≡ true
    → lines_text xs ++ r ≡ lines_text ys ++ s → HasMore xs ys ⊎ HasMore ys xs
one_begins [] ys r s a b e = inl (record { more = ys; same = refl })
one_begins (x ∷ xs) [] r s a b e = inr (record { more = x ∷ xs; same = refl })
one_begins (x ∷ xs) (y ∷ ys) r s a b e =
    let f = both (is_free 10 x) (list_all (is_free 10) xs) a in
    let g = both (is_free 10 y) (list_all (is_free 10) ys) b in
    let same = same_cut 10 x y (lines_text xs ++ r) (lines_text ys ++ s) f.0 g.0
    (sym (append_assoc x (10 ∷ lines_text xs) r) ∙ e ∙ append_assoc y (10 ∷ lines_text ys) s) in
    longer (one_begins xs ys r s f.1 g.1 same.1) same.0
  where
    longer : HasMore xs ys ⊎ HasMore ys xs → x ≡ y → HasMore (x ∷ xs) (y ∷ ys) ⊎ HasMore (y ∷ ys) (x ∷ xs)
    longer (inl m) e = inl (and_more x y xs ys e m)
    longer (inr m) e = inr (and_more y x ys xs (sym e) m)

-- whole lines of the bytes that begin both texts begin the session's, where the front is no session text
both_begin : (spelled front rest : List ℕ) (n : ℕ) (lines : List (List ℕ)) (after : List ℕ) → IsCut spelled front rest n
    → (IsSomeSession front → ⊥) → list_all (is_free 10) lines ≡ true → spelled ≡ lines_text lines ++ after
    → BeginsSome IsSomeBoth lines → BeginsSome IsSomeSession lines
both_begin spelled front rest n lines after cut none free e b =
    by_lengths (one_begins lines (map row_text (rows_of x)) b.more is.second free (rows_free (rows_of x) is.of_session.fits_all)
    (sym b.begins ∙ is.parts ∙ ap (λ text. text ++ is.second) is.of_session.text))
  where
    x : Outline
    x = b.is_one.0

    is : IsBothText b.text x b.is_one.1 b.is_one.2
    is = b.is_one.3

    by_lengths : HasMore lines (map row_text (rows_of x)) ⊎ HasMore (map row_text (rows_of x)) lines → BeginsSome IsSomeSession lines
    by_lengths (inl m) = record {
      text = is.first;
      is_one = (x, is.of_session);
      more = lines_text m.more;
      begins = is.of_session.text ∙ ap lines_text m.same ∙ lines_text-append lines m.more;
    }
    by_lengths (inr m) =
        let o = own spelled front rest is.first (lines_text m.more ++ after) n x cut is.of_session
        (e ∙ ap (λ ls. lines_text ls ++ after) m.same ∙ ap (λ t. t ++ after) (lines_text-append (map row_text (rows_of x)) m.more)
        ∙ append_assoc (lines_text (map row_text (rows_of x))) (lines_text m.more) after
        ∙ ap (λ t. t ++ (lines_text m.more ++ after)) (sym is.of_session.text)) in
        absurd (none (x, subst (λ text. IsText text x) (sym o.same) is.of_session))

-- the lines of a front that ends with its first line `end`
abbrev all_lines : (front : List ℕ) (n : ℕ) → IsEnded front n → List (List ℕ)
all_lines front n ended = ended.passed.lines ++ codes "end" ∷ []

all_whole : (front : List ℕ) (n : ℕ) (ended : IsEnded front n) → list_all (is_free 10) (all_lines front n ended) ≡ true
all_whole front n ended =
    list_all-append (is_free 10) ended.passed.lines (codes "end" ∷ [])
    ∙ both_hold _ _ (others_free ended.passed.lines ended.passed.others) refl

all_parts : (front : List ℕ) (n : ℕ) (ended : IsEnded front n) → front ≡ lines_text (all_lines front n ended)
all_parts front n ended = ended.passed.parts ∙ sym (lines_text-append ended.passed.lines (codes "end" ∷ []))

-- a whole line behind lines that begin a session stands in the front, where this is no session text
record StandsIn (rest line : List ℕ) : Type 0 where
  pub more : List ℕ
  pub parts : rest ≡ line ++ 10 ∷ more

stands_in : (spelled front rest : List ℕ) (n : ℕ) (lines : List (List ℕ)) (left line more : List ℕ) → IsCut spelled front rest n
    → (IsSomeSession front → ⊥) → list_all (is_free 10) lines ≡ true → front ≡ lines_text lines ++ left
    → BeginsSome IsSomeSession lines → is_free 10 line ≡ true → left ++ rest ≡ line ++ 10 ∷ more → StandsIn left line
stands_in spelled front rest n lines left line more cut none free e b own_free f = by_end cut.ends
  where
    by_more : (ended : IsEnded front n) (others : List (List ℕ)) → list_all (is_free 10) others ≡ true → lines_text others ≡ left
        → StandsIn left line
    by_more ended [] g h =
        let begins : b.text ≡ front ++ b.more
        = b.begins ∙ ap (λ text. text ++ b.more) (sym (append-nil (lines_text lines)) ∙ ap (λ l. lines_text lines ++ l) h ∙ sym e) in
        let x : Outline = b.is_one.0 in
        let same = one_front front b.more b.text [] n (length (front_rows x) + 1) ended (session_ends b.text x b.is_one.1)
        (sym begins ∙ sym (append-nil b.text)) in
        absurd (none (x, subst (λ text. IsText text x) (sym same.0) b.is_one.1))
    by_more ended (other ∷ others) g h =
        let first = both (is_free 10 other) (list_all (is_free 10) others) g in
        let same = same_cut 10 other line (lines_text others ++ rest) more first.0 own_free
        (sym (append_assoc other (10 ∷ lines_text others) rest) ∙ ap (λ t. t ++ rest) h ∙ f) in
        record { more = lines_text others; parts = sym h ∙ ap (λ l. l ++ 10 ∷ lines_text others) same.0 }

    by_end : IsEnded front n ⊎ (HasNoEnd front n × (rest ≡ [])) → StandsIn left line
    by_end (inr without) = record { more = more; parts = sym (append-nil left) ∙ ap (λ r. left ++ r) (sym without.1) ∙ f }
    by_end (inl ended) =
        let all : List (List ℕ) = all_lines front n ended in
        let m = lines_front all lines left (all_whole front n ended) free (sym (all_parts front n ended) ∙ e) in
        let others = both _ _ (sym (list_all-append (is_free 10) lines m.0) ∙ subst (λ ls. list_all (is_free 10) ls ≡ true) m.1 (all_whole front n ended)) in
        by_more ended m.0 others.1 m.2

-- a first bad line of the front is that of the bytes
pub bad_session : (spelled front rest : List ℕ) (n number : ℕ) → IsCut spelled front rest n → sessions.IsFirstBad front number
    → IsFirstBad IsSomeBoth spelled number
bad_session spelled front rest n number cut is =
    let b = (of_sessions front number).0 is in
    let parts : spelled ≡ lines_text b.lines ++ (b.rest ++ rest)
    = cut.parts ∙ ap (λ text. text ++ rest) b.first.parts ∙ append_assoc (lines_text b.lines) b.rest rest in
    record {
      none = λ x. b.none (x.0, (parts_are spelled front rest n x.0 x.1 x.2 cut x.3).session);
      lines = b.lines;
      rest = b.rest ++ rest;
      first = record {
        parts = parts;
        whole = b.first.whole;
        at = b.first.at;
        begins = session_begins b.lines b.first.begins;
        bad = λ line more free e begun.
            let there = stands_in spelled front rest n b.lines b.rest line more cut b.none b.first.whole b.first.parts b.first.begins free e in
            let whole : list_all (is_free 10) (b.lines ++ line ∷ []) ≡ true
            = list_all-append (is_free 10) b.lines (line ∷ []) ∙ both_hold _ _ b.first.whole (both_hold _ _ free refl) in
            b.first.bad line there.more free there.parts
            (both_begin spelled front rest n (b.lines ++ line ∷ []) more cut b.none whole (parts ∙ ap (λ r. lines_text b.lines ++ r) e
            ∙ one_more b.lines line more) begun);
      };
    }
  where
    one_more : (lines : List (List ℕ)) (line more : List ℕ) → lines_text lines ++ (line ++ 10 ∷ more) ≡ lines_text (lines ++ line ∷ []) ++ more
    one_more lines line more =
        sym (ap (λ t. t ++ more) (lines_text-append lines (line ∷ [])) ∙ append_assoc (lines_text lines) (line ++ 10 ∷ []) more
        ∙ ap (λ t. lines_text lines ++ t) (append_assoc line (10 ∷ []) more))

-- the bytes, by the front's lines
behind : (front : List ℕ) (n : ℕ) (ended : IsEnded front n) (more : List (List ℕ)) (left : List ℕ)
    → front ++ (lines_text more ++ left) ≡ lines_text (all_lines front n ended ++ more) ++ left
behind front n ended more left =
    ap (λ text. text ++ (lines_text more ++ left)) (all_parts front n ended)
    ∙ sym (append_assoc (lines_text (all_lines front n ended)) (lines_text more) left)
    ∙ ap (λ text. text ++ left) (sym (lines_text-append (all_lines front n ended) more))

-- behind them, lines that begin both texts begin a run's
run_begins : (front : List ℕ) (n : ℕ) (ended : IsEnded front n) (lines : List (List ℕ))
    → BeginsSome IsSomeBoth (all_lines front n ended ++ lines) → BeginsSome IsSomeRun lines
run_begins front n ended lines b =
    let is : IsBothText b.text b.is_one.0 b.is_one.1 b.is_one.2 = b.is_one.3 in
    let same = one_front front (lines_text lines ++ b.more) is.first is.second n (length (front_rows b.is_one.0) + 1) ended
    (session_ends is.first b.is_one.0 is.of_session) (behind front n ended lines b.more ∙ sym b.begins ∙ is.parts) in
    record { text = is.second; is_one = (b.is_one.1, b.is_one.2, is.of_run); more = b.more; begins = sym same.1 }

-- a first bad line of the rest, behind a session's text, is counted on from the lines of the front
pub bad_run : (spelled front rest : List ℕ) (n number : ℕ) (x : Outline) → IsCut spelled front rest n → IsText front x
    → IsFirstBad IsSomeRun rest number → IsFirstBad IsSomeBoth spelled (n + number)
bad_run spelled front rest n number x cut is b = by_end cut.ends
  where
    counted : (earlier : ℕ) (first lines : List (List ℕ)) → n ≡ earlier + 1 → earlier ≡ length first → number ≡ length lines + 1
        → n + number ≡ length ((first ++ codes "end" ∷ []) ++ lines) + 1
    counted earlier first lines e f g =
        omega (arith, e, f, g, length-append (first ++ codes "end" ∷ []) lines, length-append first (codes "end" ∷ []))

    by_end : IsEnded front n ⊎ (HasNoEnd front n × (rest ≡ [])) → IsFirstBad IsSomeBoth spelled (n + number)
    by_end (inr without) =
        absurd (no_front front front [] n (length (front_rows x) + 1) without.0 (session_ends front x is) (sym (append-nil front)))
    by_end (inl ended) =
        let all : List (List ℕ) = all_lines front n ended in
        let start = b.first.begins in
        record {
          none = λ y. b.none (y.1, y.2, (parts_are spelled front rest n y.0 y.1 y.2 cut y.3).run);
          lines = all ++ b.lines;
          rest = b.rest;
          first = record {
            parts = cut.parts ∙ ap (λ text. front ++ text) b.first.parts ∙ behind front n ended b.lines b.rest;
            whole = list_all-append (is_free 10) all b.lines ∙ both_hold _ _ (all_whole front n ended) b.first.whole;
            at = counted ended.earlier ended.passed.lines b.lines ended.count ended.passed.count b.first.at;
            begins = record {
              text = front ++ start.text;
              is_one = (
                x,
                start.is_one.0,
                start.is_one.1,
                record {
                  first = front;
                  second = start.text;
                  parts = refl;
                  of_session = is;
                  of_run = start.is_one.2;
                },
              );
              more = start.more;
              begins = ap (λ text. front ++ text) start.begins ∙ behind front n ended b.lines start.more;
            };
            bad = λ line more free e begun. b.first.bad line more free e (run_begins front n ended (b.lines ++ line ∷ [])
                (subst (BeginsSome IsSomeBoth) (append_assoc all b.lines (line ∷ [])) begun));
          };
        }

-- its number is small
pub bad_run_small : (spelled front rest : List ℕ) (n number : ℕ) → IsCut spelled front rest n → IsFirstBad IsSomeRun rest number
    → n + number ≤ length spelled + 1
bad_run_small spelled front rest n number cut b =
    omega (
      arith,
      cut.few,
      b.first.at,
      ap length cut.parts,
      length-append front rest,
      ap length b.first.parts,
      length-append (lines_text b.lines) b.rest,
      fewer_lines b.lines,
    )
