-- Helpers: how a line ends by what it asks for.
use Rattle.std.specs.Prelude.{◌≡◌, ℕ, ◌+◌, Bool, true, false, List, Option, Some, None, slice_get}
use Rattle.mx_line.specs.declared.asking.End.{End}
use Rattle.mx_script.specs.declared.lines.Line.{Line}
use Rattle.mx_transcript.specs.Lines.{IsEnd, IsLine}
use Rattle.mx_transcript.specs.Next.{Next, Asks, Calls, Ends, Fills, Nowhere}
use Rattle.mx_transcript.specs.Settings.{Setting}
use Rattle.mx_transcript.specs.Transcripts.{Step}
use Rattle.mx_transcript.specs.declared.transcripts.Event2.{Event2}
use Rattle.mx_transcript.specs.declared.transcripts.Result2.{Result2}
use Rattle.mx_upcall.specs.Changes.{changed}
use Rattle.mx_upcall.specs.Control.{Control}
use Rattle.mx_upcall.specs.Soundness.{IsPackableControl}

-- a call is asked for
abbrev pub IsCall : Next → Type 0
IsCall (Asks r) = ⊥
IsCall (Fills r) = ⊥
IsCall (Calls ring request) = Unit {0}
IsCall (Ends ends after) = ⊥
IsCall Nowhere = ⊥

-- a line that asks for this ends so, and not otherwise
pub record IsOnlyEnd (setting : Setting) (g : Control) (next : Next) (end : End) : Type 0 where
  pub is : IsEnd setting g next end.ends (changed g end.after)
  pub only : (ends : Result2) (after : Control) → IsEnd setting g next ends after → ends ≡ end.ends

-- or it does not end
pub record HasNoEnd (setting : Setting) (g : Control) (next : Next) : Type 0 where
  pub never : (ends : Result2) (after : Control) → IsEnd setting g next ends after → ⊥

abbrev pub HasEnd : Setting → Control → Next → Option End → Type 0
HasEnd setting g next None = HasNoEnd setting g next
HasEnd setting g next (Some end) = IsOnlyEnd setting g next end

-- a line is right, and these registers and gates are after it
pub record IsRightLine (setting : Setting) (g : Control) (l : Line) (events : List Event2) (ends : Result2) (after : Control)
    : Type 0 where
  pub line : IsLine setting g l events ends after
  pub packable : IsPackableControl after

-- it is wrong
pub record IsWrongLine (setting : Setting) (g : Control) (l : Line) (events : List Event2) (ends : Result2) : Type 0 where
  pub never : (after : Control) → IsLine setting g l events ends after → ⊥

abbrev pub IsJudgedLine : Setting → Control → Line → List Event2 → Result2 → Control → Bool → Type 0
IsJudgedLine setting g l events ends after true = IsRightLine setting g l events ends after
IsJudgedLine setting g l events ends after false = IsWrongLine setting g l events ends

-- a step is right at its place in a script
pub record IsRightStep (setting : Setting) (g : Control) (first : ℕ) (script : List Line) (place : ℕ) (step : Step)
    (after : Control) : Type 0 where
  pub line : Line
  pub at : slice_get script place ≡ Some line
  pub number : step.0 ≡ first + place
  pub right : IsRightLine setting g line step.1 step.2 after

-- it is wrong there
pub record IsWrongStep (setting : Setting) (g : Control) (first : ℕ) (script : List Line) (place : ℕ) (step : Step)
    : Type 0 where
  pub never : (line : Line) (after : Control) → slice_get script place ≡ Some line → step.0 ≡ first + place
      → IsLine setting g line step.1 step.2 after → ⊥

abbrev pub IsJudgedStep : Setting → Control → ℕ → List Line → ℕ → Step → Control → Bool → Type 0
IsJudgedStep setting g first script place step after true = IsRightStep setting g first script place step after
IsJudgedStep setting g first script place step after false = IsWrongStep setting g first script place step
