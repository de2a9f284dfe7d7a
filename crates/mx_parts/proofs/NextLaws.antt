-- Which line of a script a printed number may be of: at one place alone.
use Rattle.std.proofs.Common.{◌≡◌, ◌⊎◌, inl, inr, ℕ, zero, suc, ◌+◌, ◌-◌, ◌<◌, ◌≤◌, Bool, true, false, List, [], ◌∷◌, length, drop, Option, Some, None, refl, sym, ◌∙◌, ap, subst, arith}
use Rattle.std.proofs.lemmas.Bool.{cases_eq, cases_lt}
use Rattle.std.proofs.lemmas.Bool.Decides.{nat_tests}
use Rattle.std.proofs.lemmas.List.{drop-drop, length-drop}
use Rattle.std.proofs.lemmas.Option.{slice_get_within}
use Rattle.std.specs.List.{slice_get}
use Rattle.std.specs.Prelude.{◌==◌, ◌&&◌, if◌then◌else◌, nat_lt}
use Rattle.mx_line.proofs.ScriptLaws.{numbered_next, numbered_none, past_end}
use Rattle.mx_parts.specs.Rests.{IsNext, place_for}
use Rattle.mx_script.specs.declared.lines.Line.{Line}
use Rattle.mx_transcript.specs.Parts.{last_line}
use Rattle.mx_transcript.specs.Scripts.{numbered}

-- the last place is meant, behind a denied line; or the next one, which is the last where the number is the last one's there
abbrev pub IsLastPlace : ℕ → ℕ → ℕ → Bool → ℕ → Type 0
IsLastPlace first lines next denied number = (denied ≡ true) × (next < lines) × (number ≡ first + (lines - 1))

abbrev pub IsPlace : ℕ → ℕ → ℕ → Bool → ℕ → ℕ → Type 0
IsPlace first lines next denied number place =
    (IsLastPlace first lines next denied number × (place ≡ lines - 1))
    ⊎ ((place ≡ next) × (IsLastPlace first lines next denied number → ⊥))

same_test : (a b : ℕ) → a ≡ b → a == b ≡ true
same_test a b e = grind arith

other_test : (a b : ℕ) → (a ≡ b → ⊥) → a == b ≡ false
other_test a b e = grind arith

lt_test : (a b : ℕ) → a < b → nat_lt a b ≡ true
lt_test a b l = grind (arith, nat_tests)

not_lt_test : (a b : ℕ) → b ≤ a → nat_lt a b ≡ false
not_lt_test a b l = grind (arith, nat_tests)

pub place_is : (first lines next : ℕ) (denied : Bool) (number : ℕ)
    → IsPlace first lines next denied number (place_for first lines next denied number)
place_is first lines next false number = inr (refl, λ last. let denied = last.0 in absurd cc)
place_is first lines next true number = elim (cases_lt next lines) [
  | inl l ↦ elim (cases_eq number (first + (lines - 1))) [
    | inl same ↦ inl (
      (refl, l, same),
      ap (λ (t : Bool). if t && (number == first + (lines - 1)) then lines - 1 else next) (lt_test next lines l)
          ∙ ap (λ (t : Bool). if t then lines - 1 else next) (same_test number (first + (lines - 1)) same),
    )
    | inr other ↦ inr (
      ap (λ (t : Bool). if t && (number == first + (lines - 1)) then lines - 1 else next) (lt_test next lines l)
          ∙ ap (λ (t : Bool). if t then lines - 1 else next) (other_test number (first + (lines - 1)) other),
      λ last. other last.2,
    )
  ]
  | inr past ↦ inr (
    ap (λ (t : Bool). if t && (number == first + (lines - 1)) then lines - 1 else next) (not_lt_test next lines past),
    λ last. let l = last.1 in absurd (omega (arith, l, past)),
  )
]

-- it is not before the next one
pub here_ahead : (first lines next : ℕ) (denied : Bool) (number : ℕ) → next ≤ place_for first lines next denied number
here_ahead first lines next denied number = elim (place_is first lines next denied number) [
  | inl last ↦ let end = last.1 in let l = last.0.1 in omega (arith, end, l)
  | inr here ↦ let same = here.0 in omega (arith, same)
]

-- the last of the lines that are left
pub last_left : (first next : ℕ) (script : List Line) (line : Line) → next < length script
    → slice_get script (length script - 1) ≡ Some line
    → last_line (drop next (numbered first script)) ≡ (first + (length script - 1), line) ∷ []
last_left first next script line l at =
    let lines = numbered first script in
    let count = numbered_count first script in
    let left = length-drop next lines in
    let place : next + (length (drop next lines) - 1) ≡ length script - 1 = omega (arith, count, left, l) in
    drop-drop (length (drop next lines) - 1) next lines
    ∙ ap (λ (n : ℕ). drop n lines) place
    ∙ numbered_next first (length script - 1) script line at
    ∙ ap (λ (others : List (ℕ × Line)). (first + (length script - 1), line) ∷ others)
    (numbered_none first (suc (length script - 1)) script (omega (arith, l)))
  where
    numbered_count : (first : ℕ) (script : List Line) → length (numbered first script) ≡ length script
    numbered_count first [] = refl
    numbered_count first (line ∷ script) = ap suc (numbered_count (suc first) script)

-- the line at the place is one that may be next
pub may_be_next : (first next : ℕ) (script : List Line) (denied : Bool) (number place : ℕ) (line : Line)
    → IsPlace first (length script) next denied number place → slice_get script place ≡ Some line
    → IsNext denied (drop next (numbered first script)) (first + place, line) (drop (place + 1) (numbered first script))
may_be_next first next script denied number place line is at = elim is [
  | inr here ↦ inl
      (subst (λ (k : ℕ). drop next (numbered first script) ≡ (first + place, line) ∷ drop k (numbered first script)) (more place)
      (subst (λ (k : ℕ). drop k (numbered first script) ≡ (first + place, line) ∷ drop (suc place) (numbered first script)) here.0
      (numbered_next first place script line at)))
  | inl last ↦
      let within = slice_get_within script place line at in
      let end = last.1 in inr (
        last.0.0,
        subst (λ (k : ℕ). last_line (drop next (numbered first script)) ≡ (first + k, line) ∷ []) (sym last.1)
            (last_left first next script line last.0.1 (ap (slice_get script) (sym last.1) ∙ at)),
        numbered_none first (place + 1) script (omega (arith, within, end)),
      )
]
  where
    more : (n : ℕ) → suc n ≡ n + 1
    more n = omega arith

-- and no other line of this number is
pub record IsThere (first : ℕ) (script : List Line) (place : ℕ) (line : ℕ × Line) (others : List (ℕ × Line)) : Type 0 where
  pub own : Line
  pub at : slice_get script place ≡ Some own
  pub line_is : line ≡ (first + place, own)
  pub others_are : others ≡ drop (place + 1) (numbered first script)

head_is : {a b : ℕ × Line} {l m : List (ℕ × Line)} → a ∷ l ≡ b ∷ m → b ≡ a
head_is e = cc

tail_is : {a b : ℕ × Line} {l m : List (ℕ × Line)} → a ∷ l ≡ b ∷ m → m ≡ l
tail_is e = cc

there_first : (first next : ℕ) (script : List Line) (line : ℕ × Line) (others : List (ℕ × Line))
    → drop next (numbered first script) ≡ line ∷ others → IsThere first script next line others
there_first first next script line others is = by_line (slice_get script next) refl
  where
    no_more : {a : ℕ × Line} {l : List (ℕ × Line)} → [] ≡ a ∷ l → ⊥
    no_more e = cc

    by_line : (found : Option Line) → slice_get script next ≡ found → IsThere first script next line others
    by_line None at = absurd (no_more (sym (numbered_none first next script (past_end script next at)) ∙ is))
    by_line (Some own) at =
        let both = sym (numbered_next first next script own at) ∙ is in
        let one : suc next ≡ next + 1 = omega arith in
        record {
          own = own;
          at = at;
          line_is = head_is both;
          others_are = tail_is both ∙ ap (λ (n : ℕ). drop n (numbered first script)) one;
        }

there_last : (first next : ℕ) (script : List Line) (line : ℕ × Line) (others : List (ℕ × Line))
    → last_line (drop next (numbered first script)) ≡ line ∷ [] → others ≡ []
    → (next < length script) × IsThere first script (length script - 1) line others
there_last first next script line others is none = elim (cases_lt next (length script)) [
  | inr past ↦ absurd (no_last (ap last_line (sym (numbered_none first next script past)) ∙ is))
  | inl l ↦ (l, by_line l (slice_get script (length script - 1)) refl)
]
  where
    no_last : {a : ℕ × Line} → last_line [] ≡ a ∷ [] → ⊥
    no_last e = cc

    by_line : next < length script → (found : Option Line) → slice_get script (length script - 1) ≡ found
        → IsThere first script (length script - 1) line others
    by_line l None at = let past = past_end script (length script - 1) at in absurd (omega (arith, l, past))
    by_line l (Some own) at = record {
      own = own;
      at = at;
      line_is = head_is (sym (last_left first next script own l at) ∙ is);
      others_are = none ∙ sym (numbered_none first (length script - 1 + 1) script (omega (arith, l)));
    }

pub only_next : (first next : ℕ) (script : List Line) (denied : Bool) (number place : ℕ) (line : ℕ × Line)
    (others : List (ℕ × Line))
    → IsPlace first (length script) next denied number place → IsNext denied (drop next (numbered first script)) line others
    → number ≡ line.0 → IsThere first script place line others
only_next first next script denied number place line others is may number_is = elim may [
  | inl here ↦
      let there = there_first first next script line others here in
      let within = slice_get_within script next there.own there.at in
      let number' : number ≡ first + next = number_is ∙ ap (λ (l : ℕ × Line). l.0) there.line_is in
      let place_is' : next ≡ place = elim is [
        | inr next_is ↦ sym next_is.0
        | inl last ↦ let end = last.1 in let same = last.0.2 in omega (arith, end, same, number', within)
      ] in
      subst (λ (k : ℕ). IsThere first script k line others) place_is' there
  | inr behind ↦
      let found = there_last first next script line others behind.1 behind.2 in
      let number' : number ≡ first + (length script - 1) = number_is ∙ ap (λ (l : ℕ × Line). l.0) found.1.line_is in
      let place_is' : length script - 1 ≡ place = elim is [
        | inl last ↦ sym last.1
        | inr next_is ↦ absurd (next_is.1 (behind.0, found.0, number'))
      ] in
      subst (λ (k : ℕ). IsThere first script k line others) place_is' found.1
]
