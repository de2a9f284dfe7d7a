-- Which lines a process is to do, and where it stands among them, as lines end.
use Rattle.std.proofs.Common.{◌≡◌, inl, inr, ℕ, zero, suc, ◌<◌, ◌≤◌, ◌+◌, ◌-◌, ◌^◌, List, [], ◌∷◌, ◌++◌, drop, take, length, length-append, append-nil, Some, refl, sym, ◌∙◌, ap, subst, arith}
use Rattle.std.proofs.lemmas.List.{take-append-drop}
use Rattle.std.proofs.lemmas.Option.{slice_get_within}
use Rattle.std.specs.List.{slice_get}
use Rattle.std.specs.Option.{IsSome}
use Rattle.mx_line.specs.Operands.{IsSayable}
use Rattle.mx_line.specs.declared.processes.Process.{Process as LineState}
use Rattle.mx_request.specs.declared.requests.Request.TheVariants.{Logout}
use Rattle.mx_script.specs.Sessions.{Outline, IsSession}
use Rattle.mx_script.specs.declared.lines.Line.{Line}
use Rattle.mx_script.specs.declared.lines.Line.TheVariants.{Ask}
use Rattle.mx_sdw.specs.declared.denials.Denial.{Denial}
use Rattle.mx_transcript.specs.Parts.{AreLinesOf, last_line}
use Rattle.mx_transcript.specs.Scripts.{first_line, lines_of}
use Rattle.mx_transcript.specs.Transcripts.{Step}
use Rattle.mx_process.proofs.PlaceLaws.{before_last, fewer_at, lines_count, number_at, numbers_fit, sayable_at, script_at_place}
use Rattle.mx_process.specs.Plans.{IsCutBehind, IsPlanned, IsUncut, left_of, left_out, number_in, place_in, plan_of}
use Rattle.mx_process.specs.Processes.{script_of}

-- the lines that are left, those behind the next one, and the lines that the part is to have: by what they hang on
abbrev pub left_by : Outline → ℕ → ℕ → List Step → List (ℕ × Line)
left_by x p first steps = drop ((first - first_line x p) + length steps) (lines_of x p)

abbrev pub rest_by : Outline → ℕ → ℕ → List Step → List (ℕ × Line)
rest_by x p first steps = drop (suc ((first - first_line x p) + length steps)) (lines_of x p)

abbrev pub plan_by : Outline → ℕ → ℕ → List (ℕ × Line)
plan_by x p first = take (length (lines_of x p) - suc (first - first_line x p)) (lines_of x p) ++ last_line (lines_of x p)

-- what stands in a list stands in a longer one
got_on : {A : Type 0} (xs more : List A) (n : ℕ) (y : A) → slice_get xs n ≡ Some y → slice_get (xs ++ more) n ≡ Some y
got_on [] more n y e = absurd cc
got_on (x ∷ xs) more zero y e = e
got_on (x ∷ xs) more (suc n) y e = got_on xs more n y e

-- as lines end, nothing of the plan changes
module _ (x : Outline) (p : ℕ) (old new : LineState) (first : new.first ≡ old.first) where
  pub uncut_on : IsUncut x p old → IsUncut x p new
  uncut_on is = first ∙ is

  module _ (more : List Step) (steps : new.recording.steps ≡ old.recording.steps ++ more) where
    pub cut_on : (denial : ℕ × Denial) → IsCutBehind x p old denial → IsCutBehind x p new denial
    cut_on denial c = record {
      place = c.place;
      step = c.step;
      at = ap (λ (l : List Step). slice_get l c.place) steps ∙ got_on old.recording.steps more c.place c.step c.at;
      denied = c.denied;
      more = c.more;
      left_out = first ∙ c.left_out;
    }

    pub planned_on : IsPlanned x p old → IsPlanned x p new
    planned_on (inl uncut) = inl (uncut_on uncut)
    planned_on (inr cut) = inr (cut.0, cut_on cut.0 cut.1)

    pub place_on : place_in x p new ≡ place_in x p old + length more
    place_on =
        let count = ap (λ (l : List Step). length l) steps ∙ length-append old.recording.steps more in
        omega (arith, first, count)

-- the same lines are done
pub planned_same : (x : Outline) (p q : ℕ) (old new : LineState) → new.first ≡ old.first
    → new.recording.steps ≡ old.recording.steps → p ≡ q → IsPlanned x p old → IsPlanned x q new
planned_same x p q old new first steps own is =
    subst (λ r. IsPlanned x r new) own
    (planned_on x p old new first [] (steps ∙ sym (append-nil old.recording.steps)) is)

-- and one more
pub planned_next : (x : Outline) (p : ℕ) (old new : LineState) (step : Step) → new.first ≡ old.first
    → new.recording.steps ≡ old.recording.steps ++ step ∷ [] → IsPlanned x p old → IsPlanned x p new
planned_next x p old new step first steps is = planned_on x p old new first (step ∷ []) steps is

pub place_next : (x : Outline) (p : ℕ) (old new : LineState) (step : Step) → new.first ≡ old.first
    → new.recording.steps ≡ old.recording.steps ++ step ∷ [] → place_in x p new ≡ suc (place_in x p old)
place_next x p old new step first steps =
    let on = place_on x p old new first (step ∷ []) steps in omega (arith, on)

-- the lines that are left after one more
pub left_next : (x : Outline) (p : ℕ) (old new : LineState) (step : Step) → new.first ≡ old.first
    → new.recording.steps ≡ old.recording.steps ++ step ∷ [] → left_of x p new ≡ drop (suc (place_in x p old)) (lines_of x p)
left_next x p old new step first steps = ap (λ n. drop n (lines_of x p)) (place_next x p old new step first steps)

-- where it is planned so
module _ (x : Outline) (p : ℕ) (state : LineState) where
  pub first_low : IsPlanned x p state → first_line x p ≤ state.first
  first_low (inl uncut) = omega (arith, uncut)
  first_low (inr cut) = let is = cut.1.left_out in omega (arith, is)

  pub number_is : IsPlanned x p state → first_line x p + place_in x p state ≡ number_in state
  number_is planned = let low = first_low planned in omega (arith, low)

  pub none_left_out : IsUncut x p state → left_out x p state ≡ 0
  none_left_out is = omega (arith, is)

  pub uncut_place : IsUncut x p state → place_in x p state ≡ length state.recording.steps
  uncut_place is = let none = none_left_out is in omega (arith, none)

  pub uncut_plan : IsUncut x p state → plan_of x p state ≡ lines_of x p
  uncut_plan is =
      ap (λ n. take (length (lines_of x p) - suc n) (lines_of x p) ++ last_line (lines_of x p)) (none_left_out is)
      ∙ take-append-drop (length (lines_of x p) - 1) (lines_of x p)

  cut_plan : (denial : ℕ × Denial) (c : IsCutBehind x p state denial)
      → plan_of x p state ≡ take (suc c.place) (lines_of x p) ++ last_line (lines_of x p)
  cut_plan denial c =
      let more = c.more in
      let is = c.left_out in
      let count : length (lines_of x p) - suc (left_out x p state) ≡ suc c.place = omega (arith, more, is) in
      ap (λ n. take n (lines_of x p) ++ last_line (lines_of x p)) count

  -- the lines that a part is to have are those of a part that has these lines and others
  pub are_lines : (more : List Step) → IsPlanned x p state
      → AreLinesOf (lines_of x p) (state.recording.steps ++ more) (plan_of x p state)
  are_lines more (inl uncut) = inl (uncut_plan uncut)
  are_lines more (inr cut) = inr (record {
    place = cut.1.place;
    step = cut.1.step;
    at = got_on state.recording.steps more cut.1.place cut.1.step cut.1.at;
    denied = subst IsSome (sym cut.1.denied) refl;
    more = cut.1.more;
    is = cut_plan cut.0 cut.1;
  })

  -- behind a cut only the last line is left
  pub never_cut : (denial : ℕ × Denial) → IsCutBehind x p state denial → suc (place_in x p state) < length (lines_of x p) → ⊥
  never_cut denial c within =
      let low = slice_get_within state.recording.steps c.place c.step c.at in
      let more = c.more in
      let is = c.left_out in
      absurd (omega (arith, low, more, is, within))

  -- the next line
  module _ (some : 1 ≤ p) (planned : IsPlanned x p state) where
    -- has the number after those done
    pub number_next : (number : ℕ) (line : Line) (left : List (ℕ × Line)) → left_of x p state ≡ (number, line) ∷ left
        → number ≡ number_in state
    number_next number line left e = number_at x p (place_in x p state) some number line left e ∙ number_is planned

    -- a script may hold it
    pub sayable_next : (number : ℕ) (line : Line) (left : List (ℕ × Line)) → IsSession x
        → left_of x p state ≡ (number, line) ∷ left → IsSayable line
    sayable_next number line left session e = sayable_at x p (place_in x p state) some number line left session e

    pub fewer_next : (number : ℕ) (line : Line) (left : List (ℕ × Line)) → left_of x p state ≡ (number, line) ∷ left
        → place_in x p state < length (script_of x p)
    fewer_next number line left e = fewer_at x p (place_in x p state) some number line left e

    pub within_next : (number : ℕ) (line : Line) (left : List (ℕ × Line)) → left_of x p state ≡ (number, line) ∷ left
        → suc (place_in x p state) ≤ length (lines_of x p)
    within_next number line left e =
        let fewer = fewer_next number line left e in
        let count = lines_count x p some in
        omega (arith, fewer, count)

    -- its number has 32 bits
    pub countable_next : (number : ℕ) (line : Line) (left : List (ℕ × Line)) → IsSession x
        → left_of x p state ≡ (number, line) ∷ left → number_in state < 2 ^ 32
    countable_next number line left session e =
        let fewer = fewer_next number line left e in
        let fit = numbers_fit x p some session in
        let is = number_is planned in
        omega (arith, fewer, fit, is)

    pub script_next : (line : Line) → slice_get (script_of x p) (place_in x p state) ≡ Some line
        → left_of x p state ≡ (number_in state, line) ∷ drop (suc (place_in x p state)) (lines_of x p)
    script_next line e =
        script_at_place x p (place_in x p state) some line e
        ∙ ap (λ n. (n, line) ∷ drop (suc (place_in x p state)) (lines_of x p)) (number_is planned)

    -- one that is no `logout` has one behind it
    pub more_next : (number : ℕ) (line : Line) (left : List (ℕ × Line)) → IsSession x
        → left_of x p state ≡ (number, line) ∷ left → (line ≡ Ask Logout → ⊥) → suc (place_in x p state) < length (lines_of x p)
    more_next number line left session e other = before_last x p (place_in x p state) some number line left session e other
