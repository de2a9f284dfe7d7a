-- A process with a line at work whose lines are right unless a write that a reply asked for failed: what it keeps at each
-- step, and when its last line ends.
use Rattle.std.specs.Prelude.{◌≡◌, ℕ, suc, ◌+◌, ◌<◌, ◌≤◌, List, [], ◌∷◌, ◌++◌, take, length, Some, slice_get}
use Rattle.mx_sdw.specs.Descriptors.{Descriptor}
use Rattle.mx_upcall.specs.Control.{Control}
use Rattle.mx_state.specs.declared.journal.Entry as journaled
use Rattle.mx_script.specs.Sessions.{Outline, limit_of}
use Rattle.mx_script.specs.declared.lines.Line.{Line}
use Rattle.mx_core.specs.declared.elements.Element.{Element}
use Rattle.mx_core.specs.declared.elements.Event.TheVariants.{Seen, Missing}
use Rattle.mx_core.specs.declared.elements.Outcome.TheVariants.{Read, Denied}
use Rattle.mx_sdw.specs.declared.denials.Denial.{Denial}
use Rattle.mx_transcript.specs.declared.transcripts.Event2.TheVariants.{Core, Entry}
use Rattle.mx_transcript.specs.declared.transcripts.Result2.{Result2}
use Rattle.mx_transcript.specs.declared.transcripts.Result2.TheVariants.{HistoryFull}
use Rattle.mx_transcript.specs.Courses.{Course, Attempt, Answer, Judged, seen_in}
use Rattle.mx_transcript.specs.Elements.{IsJudged}
use Rattle.mx_transcript.specs.Filling.{due}
use Rattle.mx_transcript.specs.Legal.{IsLegal, setup_entries}
use Rattle.mx_transcript.specs.Lines.{IsEnd}
use Rattle.mx_transcript.specs.Misses.{IsChanged}
use Rattle.mx_transcript.specs.Next.{Reference, Asks, Fills, Calls}
use Rattle.mx_transcript.specs.Openings.{opening_control}
use Rattle.mx_transcript.specs.Parts.{AreLinesOf, last_line}
use Rattle.mx_transcript.specs.Scripts.{lines_of}
use Rattle.mx_transcript.specs.Standing.{PromisesLines, own_setting}
use Rattle.mx_transcript.specs.Transcripts.{Step, part, events_of}
use Rattle.mx_ties.specs.AtWork.{AtWork, asks, all_events, since, gone_on, done_with, next_line, cut_to}
use Rattle.mx_ties.specs.Closed.{IsClosed, followed}
use Rattle.mx_ties.specs.Ran.{HasRun, IsSetUp}
use Rattle.mx_ties.specs.SoFar.{AreTied, IsFullKept, PromisesPart}
use Rattle.mx_ties.specs.Spoilt.{IsMade, IsSpoilt, IsAnswering}
use Rattle.mx_ties.specs.Views.{Referred, Missed, Marked, View, judged_in}

-- no write that a reply asked for has failed so far
abbrev pub IsUnspoilt : List journaled.Entry → ℕ → AtWork → View → Type 0
IsUnspoilt setup p w v = IsSpoilt (length setup) p (all_events w) v.history v.trace → ⊥

-- what is true of a process at work
pub record IsWorking (x : Outline) (setup : List journaled.Entry) (p : ℕ) (w : AtWork) (v : View)
    (told : ℕ → ℕ) : Type 0 where
  pub lines : IsUnspoilt setup p w v → PromisesPart x (followed setup v.history) v.floor
      (judged_in v.trace) p w.ran w.steps w.number w.line w.left w.now w.events w.course
  pub answering : IsUnspoilt setup p w v
      → IsAnswering (length setup) p (all_events w) v.history v.trace w.course
  pub tied : AreTied x setup p (all_events w) v told
  pub full : IsFullKept (limit_of x) v.floor w.steps w.events

-- what is true of a process that has run: as `HasRun`, but for its lines
pub record HasWorked (x : Outline) (setup : List journaled.Entry) (p : ℕ) (steps : List Step) (v : View) : Type 0 where
  pub lines : (IsSpoilt (length setup) p (events_of steps) v.history v.trace → ⊥)
      → (after : Control) × PromisesLines x (followed setup v.history) v.floor (judged_in v.trace) p steps after
  pub told : ℕ → ℕ
  pub tied : AreTied x setup p (events_of steps) v told
  pub full : IsFullKept (limit_of x) v.floor steps []

-- where no write failed, it has run
abbrev pub WorkedLaw : Type 0
WorkedLaw = (x : Outline) (setup : List journaled.Entry) (p : ℕ) (steps : List Step) (v : View)
    → (IsSpoilt (length setup) p (events_of steps) v.history v.trace → ⊥)
    → HasWorked x setup p steps v → HasRun x setup p steps v

-- the start, before the first line
abbrev pub BeginWorkLaw : Type 0
BeginWorkLaw = (x : Outline) (setup : List journaled.Entry) (p number : ℕ) (line : Line) (left : List (ℕ × Line))
    (floor : ℕ) (told : ℕ → ℕ)
    → lines_of x p ≡ (number, line) ∷ left → setup_entries x ≤ floor
    → IsWorking x setup p (record {
      ran = lines_of x p;
      steps = [];
      number = number;
      line = line;
      left = left;
      now = opening_control x p;
      events = [];
      course = Attempt [];
    }) (record { trace = []; history = []; floor = floor; amount = 0 }) told

-- an element of the attempt, from the floor on; the floor rises to what was read
abbrev pub SeenWorkLaw : Type 0
SeenWorkLaw = (x : Outline) (setup : List journaled.Entry) (p : ℕ) (w : AtWork) (v : View) (told : ℕ → ℕ)
    (asked : Reference) (j : Judged) (floor : ℕ)
    → (IsUnspoilt setup p w v → (asks w ≡ Asks asked) × IsJudged asked j.desc j.element)
    → v.floor ≤ j.element.point → j.element.point ≤ floor
    → ((value writer stamp : ℕ) → j.element.outcome ≡ Read value writer stamp → stamp ≤ floor)
    → IsWorking x setup p w v told
    → IsWorking x setup p (gone_on w (Core (Seen j.element)) (Attempt (seen_in w.course ++ j ∷ [])))
    (record v { trace = v.trace ++ Referred j ∷ []; floor = floor }) told

-- a write that a reply asks for, granted, from the floor on
abbrev pub FilledWorkLaw : Type 0
FilledWorkLaw = (x : Outline) (setup : List journaled.Entry) (p : ℕ) (w : AtWork) (entry : journaled.Entry)
    (filled : List Judged) (v : View) (told : ℕ → ℕ) (asked : Reference) (j : Judged) (floor : ℕ)
    → (IsUnspoilt setup p (since w entry filled) v → (asks (since w entry filled) ≡ Fills asked)
    × (due entry filled ≡ Some asked) × IsMade asked j)
    → v.floor ≤ j.element.point → j.element.point ≤ floor
    → ((value writer stamp : ℕ) → j.element.outcome ≡ Read value writer stamp → stamp ≤ floor)
    → IsWorking x setup p (since w entry filled) v told
    → IsWorking x setup p (gone_on w (Core (Seen j.element)) (Answer entry (filled ++ j ∷ [])))
    (record v { trace = v.trace ++ Referred j ∷ []; floor = floor }) told

-- Such a write, denied: from then on nothing is promised of lines, wherever they go.
abbrev pub DeniedFillLaw : Type 0
DeniedFillLaw = (x : Outline) (setup : List journaled.Entry) (p : ℕ) (w : AtWork) (entry : journaled.Entry)
    (filled : List Judged) (v : View) (told : ℕ → ℕ) (asked : Reference) (j : Judged) (denial : Denial) (floor : ℕ)
    (after : Course)
    → (IsUnspoilt setup p (since w entry filled) v → (due entry filled ≡ Some asked)
    × IsJudged asked j.desc j.element)
    → j.element.outcome ≡ Denied denial → v.floor ≤ j.element.point → j.element.point ≤ floor
    → IsWorking x setup p (since w entry filled) v told
    → IsWorking x setup p (gone_on w (Core (Seen j.element)) after)
    (record v { trace = v.trace ++ Referred j ∷ []; floor = floor }) told

-- or missed
abbrev pub MissedFillLaw : Type 0
MissedFillLaw = (x : Outline) (setup : List journaled.Entry) (p : ℕ) (w : AtWork) (entry : journaled.Entry)
    (filled : List Judged) (v : View) (told told' : ℕ → ℕ) (asked : Reference) (by floor : ℕ) (more : List Marked)
    (after : Course)
    → (IsUnspoilt setup p (since w entry filled) v → due entry filled ≡ Some asked)
    → told asked.segno < by → by ≤ floor → v.floor ≤ floor → by ≤ told' asked.segno → ((n : ℕ) → told n ≤ told' n)
    → IsWorking x setup p (since w entry filled) v told
    → IsWorking x setup p (gone_on w (Core (Missing asked.segno by)) after)
    (record v { trace = v.trace ++ Missed asked.segno by ∷ []; history = v.history ++ more; floor = floor }) told'

-- a reference missed, above what the process was told, and what it is told then
abbrev pub MissedWorkLaw : Type 0
MissedWorkLaw = (x : Outline) (setup : List journaled.Entry) (p : ℕ) (w : AtWork) (v : View) (told told' : ℕ → ℕ)
    (asked : Reference) (segno by floor : ℕ) (more : List Marked)
    → (IsUnspoilt setup p w v → asks w ≡ Asks asked)
    → told segno < by → by ≤ floor → v.floor ≤ floor → by ≤ told' segno → ((n : ℕ) → told n ≤ told' n)
    → IsWorking x setup p w v told
    → IsWorking x setup p (gone_on w (Core (Missing segno by)) (Attempt []))
    (record v { trace = v.trace ++ Missed segno by ∷ []; history = v.history ++ more; floor = floor }) told'

-- an own entry above the floor
abbrev pub EnteredWorkLaw : Type 0
EnteredWorkLaw = (x : Outline) (setup : List journaled.Entry) (p : ℕ) (w : AtWork) (v : View) (told told' : ℕ → ℕ)
    (more : List Marked) (marked : Marked) (place floor : ℕ)
    → (IsUnspoilt setup p w v → asks w ≡ Calls marked.entry.ring marked.entry.request)
    → slice_get (v.history ++ more) place ≡ Some marked → marked.entry.process ≡ p → marked.mark ≡ length v.trace
    → v.floor < length setup + suc place → length setup + suc place ≤ floor → ((n : ℕ) → told n ≤ told' n)
    → ((segno : ℕ) → IsChanged x (followed setup (v.history ++ more)) p segno (length setup + suc place)
    → length setup + suc place ≤ told' segno)
    → IsWorking x setup p w v told
    → IsWorking x setup p (gone_on w (Entry (length setup + suc place)) (Answer marked.entry []))
    (record v { history = v.history ++ more; floor = floor; amount = suc v.amount }) told'

-- more was told, and nothing happened: where the journal was full, or a word was settled without a miss
abbrev pub ToldWorkLaw : Type 0
ToldWorkLaw = (x : Outline) (setup : List journaled.Entry) (p : ℕ) (w : AtWork) (v : View) (told told' : ℕ → ℕ)
    (more : List Marked) (floor : ℕ)
    → v.floor ≤ floor → ((n : ℕ) → told n ≤ told' n)
    → IsWorking x setup p w v told
    → IsWorking x setup p w (record v { history = v.history ++ more; floor = floor }) told'

-- the line ends: so it does whatever descriptors agree; where it found the journal full, the floor has reached the limit
pub record IsEnding (x : Outline) (setup : List journaled.Entry) (p : ℕ) (w : AtWork) (v : View) (ends : Result2)
    (after : Control) : Type 0 where
  pub end : IsUnspoilt setup p w v → (d : Element → Descriptor)
      → IsEnd (own_setting x (followed setup v.history) v.floor p d) w.now (asks w) ends after
  pub reached : ends ≡ HistoryFull → limit_of x ≤ v.floor

-- and the next one begins
abbrev pub EndedWorkLaw : Type 0
EndedWorkLaw = (x : Outline) (setup : List journaled.Entry) (p : ℕ) (w : AtWork) (number : ℕ) (line : Line)
    (left : List (ℕ × Line)) (v : View) (told : ℕ → ℕ) (ends : Result2) (after : Control)
    → w.left ≡ (number, line) ∷ left → IsEnding x setup p w v ends after
    → IsWorking x setup p w v told
    → IsWorking x setup p (next_line w ends after number line left) v told

-- or, before it begins, the part is cut: the last line of the script begins in its place
abbrev pub CutWorkLaw : Type 0
CutWorkLaw = (x : Outline) (setup : List journaled.Entry) (p : ℕ) (w : AtWork) (number : ℕ) (line : Line) (v : View)
    (told : ℕ → ℕ)
    → w.ran ≡ lines_of x p → w.events ≡ [] → w.course ≡ Attempt [] → last_line (lines_of x p) ≡ (number, line) ∷ []
    → IsWorking x setup p w v told
    → IsWorking x setup p (cut_to w (take (length w.steps) (lines_of x p) ++ last_line (lines_of x p)) number line) v told

-- or it was the last of the lines that a part may have
abbrev pub LastWorkLaw : Type 0
LastWorkLaw = (x : Outline) (setup : List journaled.Entry) (p : ℕ) (w : AtWork) (v : View) (told : ℕ → ℕ)
    (ends : Result2) (after : Control)
    → w.left ≡ [] → AreLinesOf (lines_of x p) (done_with w ends) w.ran → IsEnding x setup p w v ends after
    → IsWorking x setup p w v told → HasWorked x setup p (done_with w ends) v

-- no lines at all
abbrev pub IdleWorkLaw : Type 0
IdleWorkLaw = (x : Outline) (setup : List journaled.Entry) (p floor : ℕ) → lines_of x p ≡ [] → setup_entries x ≤ floor
    → HasWorked x setup p [] (record { trace = []; history = []; floor = floor; amount = 0 })

-- Where the office is closed and all processes have worked, no write that a reply asked for has failed.
abbrev pub UnspoiltLaw : Type 0
UnspoiltLaw = (x : Outline) (setup : List journaled.Entry) (history : List Marked) (transcripts : List (List Step))
    (views : ℕ → View)
    → length transcripts ≡ 1 + length x.principals
    → IsClosed x setup history views
    → IsSetUp x setup (part transcripts 0)
    → ((p : ℕ) → 1 ≤ p → p ≤ length x.principals → HasWorked x setup p (part transcripts p) (views p))
    → (p : ℕ) → 1 ≤ p → p ≤ length x.principals
    → IsSpoilt (length setup) p (events_of (part transcripts p)) (views p).history (views p).trace → ⊥

-- So the run is legal.
abbrev pub WorkedRunLaw : Type 0
WorkedRunLaw = (x : Outline) (setup : List journaled.Entry) (history : List Marked) (transcripts : List (List Step))
    (views : ℕ → View)
    → length transcripts ≡ 1 + length x.principals
    → IsClosed x setup history views
    → IsSetUp x setup (part transcripts 0)
    → ((p : ℕ) → 1 ≤ p → p ≤ length x.principals → HasWorked x setup p (part transcripts p) (views p))
    → IsLegal x (followed setup history) transcripts
