-- Which lines of its script a process does: all of them; or, where its auditor logged it out behind a line that was denied,
-- those up to that one and then the last.
use Rattle.std.specs.Prelude.{◌≡◌, ◌⊎◌, ℕ, suc, ◌+◌, ◌-◌, ◌<◌, ◌++◌, List, drop, take, length, Some, slice_get}
use Rattle.mx_line.specs.declared.processes.Process.{Process as LineState}
use Rattle.mx_script.specs.Sessions.{Outline}
use Rattle.mx_script.specs.declared.lines.Line.{Line}
use Rattle.mx_sdw.specs.declared.denials.Denial.{Denial}
use Rattle.mx_transcript.specs.Denials.{denial_of}
use Rattle.mx_transcript.specs.Parts.{last_line}
use Rattle.mx_transcript.specs.Scripts.{first_line, lines_of}
use Rattle.mx_transcript.specs.Transcripts.{Step}

-- The number of the line at work, or of the next one. Where a part is cut, `first` rises by the number of lines left out, so
-- that it is the number of the first line only as long as none are.
abbrev pub number_in : LineState → ℕ
number_in state = state.first + length state.recording.steps

-- how many lines of its script were left out
abbrev pub left_out : Outline → ℕ → LineState → ℕ
left_out x p state = state.first - first_line x p

-- the place in the script of the line at work, or of the next one, counted from 0
abbrev pub place_in : Outline → ℕ → LineState → ℕ
place_in x p state = left_out x p state + length state.recording.steps

-- the lines that are left: that at work, or the next one, and all behind it
abbrev pub left_of : Outline → ℕ → LineState → List (ℕ × Line)
left_of x p state = drop (place_in x p state) (lines_of x p)

-- the lines that its part is to have: without those that were left out before the last
abbrev pub plan_of : Outline → ℕ → LineState → List (ℕ × Line)
plan_of x p state = take (length (lines_of x p) - suc (left_out x p state)) (lines_of x p) ++ last_line (lines_of x p)

-- All lines between one that was denied and the last of the script were left out.
pub record IsCutBehind (x : Outline) (p : ℕ) (state : LineState) (denial : ℕ × Denial) : Type 0 where
  pub place : ℕ
  pub step : Step
  pub at : slice_get state.recording.steps place ≡ Some step
  pub denied : denial_of step ≡ Some denial
  pub more : suc place < length (lines_of x p)
  pub left_out : state.first ≡ first_line x p + (length (lines_of x p) - suc (suc place))

-- no line was left out
abbrev pub IsUncut : Outline → ℕ → LineState → Type 0
IsUncut x p state = state.first ≡ first_line x p

-- no line was left out, or those behind a denied one
abbrev pub IsPlanned : Outline → ℕ → LineState → Type 0
IsPlanned x p state = IsUncut x p state ⊎ ((denial : ℕ × Denial) × IsCutBehind x p state denial)

-- nothing but how many lines are left out differs, and no fewer are
pub record MayBeCut (old new : LineState) : Type 0 where
  pub more : ℕ
  pub is : new ≡ record old { first = old.first + more }
