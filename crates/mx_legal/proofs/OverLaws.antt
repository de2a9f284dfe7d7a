-- A part that keeps the rule of lines is whole, or cut and over, exactly where it ends with the last line.
use Rattle.std.proofs.Common.{◌≡◌, ◌⊎◌, ◌↔◌, inl, inr, ℕ, zero, suc, ◌+◌, ◌-◌, ◌<◌, ◌≤◌, ◌==◌, Bool, true, false, if◌then◌else◌, IsTrue, List, [], ◌∷◌, ◌++◌, length, take, drop, Option, Some, refl, ap, sym, ◌∙◌, subst, arith, slice_get}
use Rattle.std.proofs.lemmas.List.{length-append, length-drop, length-take-le, take_all}
use Rattle.std.proofs.lemmas.Option.{slice_get_within}
use Rattle.std.specs.Prelude.{map}
use Rattle.mx_parts.proofs.OnwardLaws.{last_behind}
use Rattle.mx_parts.specs.FirstBad.{AreKept}
use Rattle.mx_script.specs.Sessions.{Outline}
use Rattle.mx_script.specs.declared.lines.Line.{Line}
use Rattle.mx_script.specs.declared.lines.Line.TheVariants.{Ask}
use Rattle.mx_state.specs.declared.journal.Entry as journaled
use Rattle.mx_transcript.specs.Legal.{setting_of}
use Rattle.mx_transcript.specs.Openings.{opening_control}
use Rattle.mx_transcript.specs.Parts.{AreDone, AreLines, AreLinesOf, last_line}
use Rattle.mx_transcript.specs.Scripts.{first_line, lines_of, numbered, script_at}
use Rattle.mx_transcript.specs.Settings.{Setting}
use Rattle.mx_transcript.specs.Transcripts.{Step, part}
use Rattle.mx_upcall.specs.Control.{Control}
use Rattle.mx_legal.specs.Breach.{IsBadLine, is_last, number_at}
use Rattle.mx_legal.specs.Deciding.{is_over}
use Rattle.mx_legal.specs.Fronts.{IsGoodPart, IsGoodTo}
use Rattle.mx_legal.proofs.FirstLaws.{missing_line}
use Rattle.mx_legal.proofs.LineNumbers.{numbered_at, numbered_count}
use Rattle.mx_legal.proofs.LegalLaws.{done_count, none_of_none}

some_same : {A : Type 0} {a b : A} → Some a ≡ Some b → a ≡ b
some_same e = cc

eq_is : (a b : ℕ) → a == b ≡ true → a ≡ b
eq_is a b e = grind arith

is_eq : (a b : ℕ) → a ≡ b → a == b ≡ true
is_eq a b e = grind arith

get_drop : {A : Type 0} (n : ℕ) (xs : List A) (i : ℕ) → slice_get (drop n xs) i ≡ slice_get xs (n + i)
get_drop zero xs i = let none : i ≡ zero + i = omega arith in ap (slice_get xs) none
get_drop (suc n) [] i = refl
get_drop (suc n) (x ∷ xs) i =
    let more : suc (n + i) ≡ suc n + i = omega arith in
    get_drop n xs i ∙ ap (slice_get (x ∷ xs)) more

-- the numbers of the lines of a script rise by one
number_of : (first : ℕ) (script : List Line) (i : ℕ) (line : ℕ × Line) → slice_get (numbered first script) i ≡ Some line
    → line.0 ≡ first + i
number_of first [] i line at = absurd cc
number_of first (own ∷ script) zero line at =
    let same : first ≡ line.0 = ap (λ (l : ℕ × Line). l.0) (some_same at) in omega (arith, same)
number_of first (own ∷ script) (suc i) line at =
    let rest = number_of (suc first) script i line at in omega (arith, rest)

-- that of the last one
last_of : (first : ℕ) (script : List Line) (i : ℕ) (line : ℕ × Line) → slice_get (last_line (numbered first script)) i ≡ Some line
    → (i ≡ 0) × (line.0 ≡ first + (length script - 1))
last_of first script i line at =
    let lines = numbered first script in
    let count = numbered_count first script in
    let there : slice_get lines (length lines - 1 + i) ≡ Some line = sym (get_drop (length lines - 1) lines i) ∙ at in
    let within = slice_get_within lines (length lines - 1 + i) line there in
    let number = number_of first script (length lines - 1 + i) line there in (
      omega (arith, within),
      omega (arith, number, count, within),
    )

-- the lines of a part that is cut: those up to a place, and then the last
cut_of : (first : ℕ) (script : List Line) (place i : ℕ) (line : ℕ × Line) → suc place < length script
    → slice_get (take (suc place) (numbered first script) ++ last_line (numbered first script)) i ≡ Some line
    → ((line.0 ≡ first + i) × (i ≤ place)) ⊎ ((line.0 ≡ first + (length script - 1)) × (i ≡ suc place))
cut_of first [] place i line more at = absurd (omega (arith, more))
cut_of first (own ∷ script) place zero line more at =
    let same : first ≡ line.0 = ap (λ (l : ℕ × Line). l.0) (some_same at) in
    inl (omega (arith, same), omega arith)
cut_of first (own ∷ script) zero (suc i) line more at =
    let last = last_of first (own ∷ script) i line at in
    let none = last.0 in
    inr (last.1, omega (arith, none))
cut_of first (own ∷ script) (suc place) (suc i) line more at =
    let count = numbered_count (suc first) script in
    let at' : slice_get (take (suc place) (numbered (suc first) script) ++ last_line (numbered (suc first) script)) i ≡ Some line =
    ap (λ (l : List (ℕ × Line)). slice_get (take (suc place) (numbered (suc first) script) ++ l) i)
    (sym (last_behind (first, own) (numbered (suc first) script) (omega (arith, more, count)))) ∙ at in
    elim (cut_of (suc first) script place i line (omega (arith, more)) at') [
      | inl here ↦ let number = here.0 in let below = here.1 in inl (omega (arith, number), omega (arith, below))
      | inr last ↦ let number = last.0 in let same = last.1 in inr (omega (arith, number, more), omega (arith, same))
    ]

cut_length : (first : ℕ) (script : List Line) (place : ℕ) → suc place < length script
    → length (take (suc place) (numbered first script) ++ last_line (numbered first script)) ≡ suc (suc place)
cut_length first script place more =
    let lines = numbered first script in
    let count = numbered_count first script in
    let front = length-take-le (suc place) lines (omega (arith, more, count)) in
    let back = length-drop (length lines - 1) lines in
    let all = length-append (take (suc place) lines) (last_line lines) in
    omega (arith, more, count, front, back, all)

-- in either the last line alone has the last number
last_alone : (first : ℕ) (script : List Line) (steps : List Step) (ran : List (ℕ × Line))
    → AreLinesOf (numbered first script) steps ran → (i : ℕ) (line : ℕ × Line) → slice_get ran i ≡ Some line → (line.0 ≡ first + (length script - 1)) ↔ (suc i ≡ length ran)
last_alone first script steps ran are i line at = elim are [
  | inl whole ↦
      let count = numbered_count first script in
      let there : slice_get (numbered first script) i ≡ Some line = ap (λ (l : List (ℕ × Line)). slice_get l i) (sym whole) ∙ at in
      let within = slice_get_within (numbered first script) i line there in
      let number = number_of first script i line there in
      let long = ap (λ (l : List (ℕ × Line)). length l) whole in (
        λ last. omega (arith, count, within, number, long, last),
        λ last. omega (arith, count, within, number, long, last),
      )
  | inr cut ↦
      let count = numbered_count first script in
      let more = cut.more in
      let more' : suc cut.place < length script = omega (arith, count, more) in
      let there : slice_get (take (suc cut.place) (numbered first script) ++ last_line (numbered first script)) i ≡ Some line =
      ap (λ (l : List (ℕ × Line)). slice_get l i) (sym cut.is) ∙ at in
      let long = ap (λ (l : List (ℕ × Line)). length l) cut.is ∙ cut_length first script cut.place more' in
      elim (cut_of first script cut.place i line more' there) [
        | inl before ↦
            let number = before.0 in
            let below = before.1 in (
              λ last. absurd (omega (arith, number, below, last, more')),
              λ last. absurd (omega (arith, below, last, long)),
            )
        | inr end ↦ let number = end.0 in let same = end.1 in (λ last. omega (arith, same, long), λ last. number)
      ]
]

-- the line of a step that was done
record HasLine (ran : List (ℕ × Line)) (i : ℕ) (step : Step) : Type 0 where
  line : ℕ × Line
  at : slice_get ran i ≡ Some line
  number : step.0 ≡ line.0

line_done : (s : Setting) (g : Control) (ran : List (ℕ × Line)) (steps : List Step) (left : List (ℕ × Line)) (now : Control)
    → AreDone s g ran steps left now → (i : ℕ) (step : Step) → slice_get steps i ≡ Some step → HasLine ran i step
line_done s g ran [] left now are i step at = absurd cc
line_done s g [] (made ∷ steps) left now are i step at = absurd are
line_done s g (line ∷ ran) (made ∷ steps) left now are zero step at =
    record { line = line; at = refl; number = ap (λ (t : Step). t.0) (sym (some_same at)) ∙ are.0 }
line_done s g (line ∷ ran) (made ∷ steps) left now are (suc i) step at =
    let rest = line_done s are.1 ran steps left now are.3 i step at in
    record { line = rest.line; at = rest.at; number = rest.number }

none_left : {A : Type 0} (left : List A) → length left ≡ 0 → left ≡ []
none_left [] e = refl
none_left (x ∷ left) e = absurd cc

last_there : (step : Step) (steps : List Step) → (last : Step) × (slice_get (step ∷ steps) (length steps) ≡ Some last)
last_there step [] = (step, refl)
last_there step (next ∷ steps) = last_there next steps

module _ (s : Setting) (g : Control) (first : ℕ) (script : List Line) where
  abbrev lines : List (ℕ × Line)
  lines = numbered first script

  last_number : 1 ≤ length script → number_at lines (length lines) ≡ first + (length script - 1)
  last_number some =
      let count = numbered_count first script in
      let at = numbered_at first (length lines) script some in
      omega (arith, count, at)

  -- a script with a line that was done has a line
  some_line : (steps : List Step) (ran : List (ℕ × Line)) (i : ℕ) (line : ℕ × Line) → AreLinesOf lines steps ran
      → slice_get ran i ≡ Some line → 1 ≤ length script
  some_line steps ran i line are at = elim are [
    | inl whole ↦
        let count = numbered_count first script in
        let within = slice_get_within lines i line (ap (λ (l : List (ℕ × Line)). slice_get l i) (sym whole) ∙ at) in
        omega (arith, count, within)
    | inr cut ↦ let count = numbered_count first script in let more = cut.more in omega (arith, count, more)
  ]

  -- whether the last step is the last line
  over_at : (step : Step) (steps : List Step) (ran left : List (ℕ × Line)) (now : Control) → AreLinesOf lines (step ∷ steps) ran
      → AreDone s g ran (step ∷ steps) left now
      → IsTrue (is_last lines (slice_get (step ∷ steps) (length steps))) ↔ (length ran ≡ length (step ∷ steps))
  over_at step steps ran left now are done =
      let last = last_there step steps in
      let line = line_done s g ran (step ∷ steps) left now done (length steps) last.0 last.1 in
      let only = last_alone first script (step ∷ steps) ran are (length steps) line.line line.at in
      let some = some_line (step ∷ steps) ran (length steps) line.line are line.at in
      let end = last_number some in
      let number = line.number in
      subst (λ (found : Option Step). IsTrue (is_last lines found) ↔ (length ran ≡ length (step ∷ steps))) (sym last.1) (
        λ told. sym (only.0 (sym number ∙ eq_is last.0.0 (number_at lines (length lines)) told ∙ end)),
        λ long. is_eq last.0.0 (number_at lines (length lines)) (number ∙ only.1 (sym long) ∙ sym end),
      )

  pub over : (steps : List Step) → AreKept s g lines steps
      → IsTrue (is_over lines steps) ↔ ((after : Control) × AreLines s g lines steps after)
  over [] kept =
      let none : IsTrue (is_over lines []) → lines ≡ [] = λ told. none_left lines (eq_is (length lines) 0 told) in (
        λ told. (g, record { ran = lines; are = inl refl; done = (sym (none told), refl) }),
        λ are. is_eq (length lines) 0 (ap (λ (l : List (ℕ × Line)). length l) (none_of_none s g lines are.0 are.1)),
      )
  over (step ∷ steps) kept =
      let test : is_over lines (step ∷ steps) ≡ is_last lines (slice_get (step ∷ steps) (length steps)) = by_length in (
        λ told.
            let long = (over_at step steps kept.ran kept.left kept.now kept.are kept.done).0 (sym test ∙ told) in
            let count = done_count s g kept.ran (step ∷ steps) kept.left kept.now kept.done in
            let none : kept.left ≡ [] = none_left kept.left (omega (arith, long, count)) in (
              kept.now,
              record {
                ran = kept.ran;
                are = kept.are;
                done = subst (λ (l : List (ℕ × Line)). AreDone s g kept.ran (step ∷ steps) l kept.now) none kept.done;
              },
            ),
        λ are.
            let count = done_count s g are.1.ran (step ∷ steps) [] are.0 are.1.done in
            test ∙ (over_at step steps are.1.ran [] are.0 are.1.are are.1.done).1 (omega (arith, count)),
      )
    where
      one_less : (n : ℕ) → suc n - 1 ≡ n
      one_less n = omega arith

      not_zero : (n : ℕ) → suc n == 0 ≡ false
      not_zero n = grind arith

      by_length : is_over lines (step ∷ steps) ≡ is_last lines (slice_get (step ∷ steps) (length steps))
      by_length =
          ap (λ (t : Bool). if t then length lines == 0 else is_last lines (slice_get (step ∷ steps) (suc (length steps) - 1)))
          (not_zero (length steps))
          ∙ ap (λ (n : ℕ). is_last lines (slice_get (step ∷ steps) n)) (one_less (length steps))

-- of the lines of a process
pub over_of : (s : Setting) (g : Control) (session : Outline) (p : ℕ) (steps : List Step) → AreKept s g (lines_of session p) steps
    → IsTrue (is_over (lines_of session p) steps) ↔ ((after : Control) × AreLines s g (lines_of session p) steps after)
over_of s g session zero steps kept = over s g (first_line session zero) (map Ask session.setup) steps kept
over_of s g session (suc p) steps kept = over s g (first_line session (suc p)) (script_at session.scripts p) steps kept

-- a part that keeps the rules to its end is good where it is over, and else a line of it is missing
module _ (session : Outline) (journal : List journaled.Entry) (transcripts : List (List Step)) (p : ℕ) where
  own_over : IsGoodTo session journal transcripts p (length (part transcripts p))
      → IsTrue (is_over (lines_of session p) (part transcripts p))
      ↔ ((after : Control) × AreLines (setting_of session journal p) (opening_control session p) (lines_of session p)
      (part transcripts p) after)
  own_over good =
      over_of (setting_of session journal p) (opening_control session p) session p (part transcripts p)
      (subst (AreKept (setting_of session journal p) (opening_control session p) (lines_of session p))
      (take_all (length (part transcripts p)) (part transcripts p) (omega arith)) good.lines)

  pub good_part : (steps : List Step) → steps ≡ part transcripts p → p ≤ length session.principals
      → IsGoodTo session journal transcripts p (length steps) → is_over (lines_of session p) steps ≡ true
      → IsGoodPart session journal transcripts p
  good_part steps is there good told =
      let good' = subst (λ (s : List Step). IsGoodTo session journal transcripts p (length s)) is good in
      record {
        process = there;
        good = good';
        whole = (own_over good').0 (subst (λ (s : List Step). is_over (lines_of session p) s ≡ true) is told);
      }

  pub missing : (steps : List Step) → steps ≡ part transcripts p → IsGoodTo session journal transcripts p (length steps)
      → (p ≤ length session.principals → is_over (lines_of session p) steps ≡ true → ⊥)
      → IsBadLine session journal transcripts p (length steps)
  missing steps is good not_over =
      let good' = subst (λ (s : List Step). IsGoodTo session journal transcripts p (length s)) is good in
      subst (λ (s : List Step). IsBadLine session journal transcripts p (length s)) (sym is)
      (missing_line session journal transcripts p good'
      (λ there after are. not_over there
      (subst (λ (s : List Step). is_over (lines_of session p) s ≡ true) (sym is) ((own_over good').1 (after, are)))))
