-- What the lines of a script come to, one after another: all of them, or those of a part that is cut after a denied line.
use Rattle.std.specs.Prelude.{◌≡◌, ◌⊎◌, ℕ, suc, ◌-◌, ◌<◌, List, [], ◌∷◌, ◌++◌, take, drop, length, IsSome, Some, slice_get}
use Rattle.mx_upcall.specs.Control.{Control}
use Rattle.mx_script.specs.declared.lines.Line.{Line}
use Rattle.mx_transcript.specs.Denials.{denial_of}
use Rattle.mx_transcript.specs.Lines.{IsLine}
use Rattle.mx_transcript.specs.Settings.{Setting}
use Rattle.mx_transcript.specs.Transcripts.{Step}

-- These lines came to these steps, in order, each once, with the registers and return gates passed on from line to line;
-- these lines are left, and these are the registers and gates now.
abbrev pub AreDone : Setting → Control → List (ℕ × Line) → List Step → List (ℕ × Line) → Control → Type 0
AreDone setting before lines [] left now = (left ≡ lines) × (now ≡ before)
AreDone setting before [] (step ∷ steps) left now = ⊥
AreDone setting before (line ∷ lines) (step ∷ steps) left now =
    (step.0 ≡ line.0) × (after : Control) × IsLine setting before line.1 step.1 step.2 after
    × AreDone setting after lines steps left now

-- the last of some lines: of a script's, its `logout`
abbrev pub last_line : List (ℕ × Line) → List (ℕ × Line)
last_line lines = drop (length lines - 1) lines

-- A part is cut after a line that was denied: these are the lines up to that one, and then the last.
pub record IsCut (lines : List (ℕ × Line)) (steps : List Step) (ran : List (ℕ × Line)) : Type 0 where
  pub place : ℕ
  pub step : Step
  pub at : slice_get steps place ≡ Some step
  pub denied : IsSome (denial_of step)
  pub more : suc place < length lines
  pub is : ran ≡ take (suc place) lines ++ last_line lines

-- the lines that a part has: all of its script, or those of a part that was cut
abbrev pub AreLinesOf : List (ℕ × Line) → List Step → List (ℕ × Line) → Type 0
AreLinesOf lines steps ran = (ran ≡ lines) ⊎ IsCut lines steps ran

-- a part of these lines: those that it has came to these steps, and none is left
pub record AreLines (setting : Setting) (before : Control) (lines : List (ℕ × Line)) (steps : List Step)
    (after : Control) : Type 0 where
  pub ran : List (ℕ × Line)
  pub are : AreLinesOf lines steps ran
  pub done : AreDone setting before ran steps [] after
