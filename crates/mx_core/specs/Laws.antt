-- The laws: the opening world is good, and each kind of step keeps that. Then every list of enabled steps does.
use Rattle.std.specs.Prelude.{◌≡◌, ◌⊎◌, ℕ, ◌≤◌, IsTrue, List}
use Rattle.mx_sdw.specs.Descriptors.{Descriptor}
use Rattle.mx_core.specs.Acknowledging.{CanConnect, after_connect, CanLook, after_look, CanAcknowledge, after_acknowledge, CanAnswer, after_answer}
use Rattle.mx_core.specs.Append.{CanAppend, after_append}
use Rattle.mx_core.specs.Causes.{IsCause, HasCause}
use Rattle.mx_core.specs.Cells.{CanLoadCell, after_load_cell, CanStoreCell, after_store_cell}
use Rattle.mx_core.specs.Clearing.{CanClear, after_clear}
use Rattle.mx_core.specs.Entering.{CanEnter, after_enter, CanLoadConnect, after_load_connect, CanLeave, after_leave}
use Rattle.mx_core.specs.Invariant.{Good}
use Rattle.mx_core.specs.Loading.{CanLoadDesc, after_load_desc, CanRecall, after_recall}
use Rattle.mx_core.specs.Notes.{CanSplit, after_split, CanJoin, after_join, CanReport, after_report}
use Rattle.mx_core.specs.Opening.{CanOpen, opening}
use Rattle.mx_core.specs.Pages.{covers, use_at}
use Rattle.mx_core.specs.Sentences.{Sentences}
use Rattle.mx_core.specs.Steps.{Can, after, CanAll, after_all}
use Rattle.mx_core.specs.Striking.{CanStrike, after_strike, CanSettle, after_settle}
use Rattle.mx_core.specs.Words.{Asked}
use Rattle.mx_core.specs.World.{World}
use Rattle.mx_core.specs.declared.changes.Change.{Change}
use Rattle.mx_core.specs.declared.changes.Run.{Run}
use Rattle.mx_core.specs.declared.steps.Cause.{Cause}
use Rattle.mx_core.specs.declared.steps.Step.{Step}

abbrev pub OpeningLaw : Type 0
OpeningLaw = (processes numbers start : ℕ) (table : ℕ → ℕ → Descriptor) → CanOpen processes numbers start table
    → Good (opening processes numbers start table)

abbrev pub AppendLaw : Type 0
AppendLaw = (w : World) (p : ℕ) (changes : List Change) (given : List Run) → Good w → CanAppend w p changes given
    → Good (after_append w p changes given)

abbrev pub StrikeLaw : Type 0
StrikeLaw = (w : World) (p n : ℕ) → Good w → CanStrike w p n → Good (after_strike w p n)

abbrev pub ConnectLaw : Type 0
ConnectLaw = (w : World) (p : ℕ) → Good w → CanConnect w p → Good (after_connect w p)

abbrev pub LookLaw : Type 0
LookLaw = (w : World) (p : ℕ) → Good w → CanLook w p → Good (after_look w p)

abbrev pub AcknowledgeLaw : Type 0
AcknowledgeLaw = (w : World) (p : ℕ) → Good w → CanAcknowledge w p → Good (after_acknowledge w p)

abbrev pub AnswerLaw : Type 0
AnswerLaw = (w : World) → Good w → CanAnswer w → Good (after_answer w)

abbrev pub SettleLaw : Type 0
SettleLaw = (w : World) (p n : ℕ) → Good w → CanSettle w p n → Good (after_settle w p n)

abbrev pub ClearLaw : Type 0
ClearLaw = (w : World) (cell : ℕ) → Good w → CanClear w cell → Good (after_clear w cell)

abbrev pub EnterLaw : Type 0
EnterLaw = (w : World) (p : ℕ) → Good w → CanEnter w p → Good (after_enter w p)

abbrev pub LoadConnectLaw : Type 0
LoadConnectLaw = (w : World) (p : ℕ) → Good w → CanLoadConnect w p → Good (after_load_connect w p)

abbrev pub LoadDescLaw : Type 0
LoadDescLaw = (w : World) (p n : ℕ) (a : Asked) → Good w → CanLoadDesc w p → Good (after_load_desc w p n a)

abbrev pub RecallLaw : Type 0
RecallLaw = (w : World) (p n : ℕ) (a : Asked) → Good w → CanRecall w p n → Good (after_recall w p n a)

abbrev pub LoadCellLaw : Type 0
LoadCellLaw = (w : World) (p : ℕ) → Good w → CanLoadCell w p → Good (after_load_cell w p)

abbrev pub StoreCellLaw : Type 0
StoreCellLaw = (w : World) (p value : ℕ) → Good w → CanStoreCell w p value → Good (after_store_cell w p value)

abbrev pub LeaveLaw : Type 0
LeaveLaw = (w : World) (p : ℕ) → Good w → CanLeave w p → Good (after_leave w p)

abbrev pub SplitLaw : Type 0
SplitLaw = (w : World) → Good w → CanSplit w → Good (after_split w)

abbrev pub JoinLaw : Type 0
JoinLaw = (w : World) (p i : ℕ) → Good w → CanJoin w p i → Good (after_join w p i)

abbrev pub ReportLaw : Type 0
ReportLaw = (w : World) (p n : ℕ) → Good w → CanReport w p n → Good (after_report w p n)

-- each kind of step
abbrev pub StepLaw : Type 0
StepLaw = (w : World) (step : Step) → Good w → Can w step → Good (after w step)

-- and so every list of steps
abbrev pub RunLaw : Type 0
RunLaw = (w : World) (steps : List Step) → Good w → CanAll w steps → Good (after_all w steps)

-- where a pair's descriptor covers a page and is the same from one point to another, the page has the same use at both
abbrev pub UseLaw : Type 0
UseLaw = (w : World) (p n page q q' : ℕ) → Good w → w.start ≤ q → q ≤ q' → q' ≤ w.length
    → IsTrue (covers (w.table q p n) page)
    → ((r : ℕ) → q ≤ r → r ≤ q' → w.table r p n ≡ w.table q p n)
    → use_at w.start w.given page q ≡ use_at w.start w.given page q'

-- the invariant holds after every list of enabled steps from an opening world
abbrev pub HistoryLaw : Type 0
HistoryLaw = (processes numbers start : ℕ) (table : ℕ → ℕ → Descriptor) (steps : List Step)
    → CanOpen processes numbers start table
    → CanAll (opening processes numbers start table) steps
    → Good (after_all (opening processes numbers start table) steps)

-- a step that has a cause is not enabled
abbrev pub CauseLaw : Type 0
CauseLaw = (w : World) (step : Step) (why : Cause) → IsCause w step why → Can w step → ⊥

-- what a good world says of the end of the history
abbrev pub SentencesLaw : Type 0
SentencesLaw = (w : World) → Good w → Sentences w

-- a step of a good world is enabled, or has a cause
abbrev pub DecidedLaw : Type 0
DecidedLaw = (w : World) (step : Step) → Good w → Can w step ⊎ HasCause w step
