-- A process with a line at work keeps its ties at each step, and has run when its last line ends.
use Rattle.std.specs.Prelude.{◌≡◌, ℕ, suc, ◌+◌, ◌<◌, ◌≤◌, List, [], ◌∷◌, ◌++◌, length, Some, slice_get}
use Rattle.mx_sdw.specs.Descriptors.{Descriptor}
use Rattle.mx_upcall.specs.Control.{Control}
use Rattle.mx_state.specs.declared.journal.Entry as journaled
use Rattle.mx_script.specs.Sessions.{Outline}
use Rattle.mx_script.specs.declared.lines.Line.{Line}
use Rattle.mx_core.specs.declared.elements.Element.{Element}
use Rattle.mx_core.specs.declared.elements.Event.TheVariants.{Seen, Missing}
use Rattle.mx_core.specs.declared.elements.Outcome.TheVariants.{Read, Written}
use Rattle.mx_transcript.specs.declared.transcripts.Event2.{Event2}
use Rattle.mx_transcript.specs.declared.transcripts.Event2.TheVariants.{Core, Entry}
use Rattle.mx_transcript.specs.declared.transcripts.Result2.{Result2}
use Rattle.mx_transcript.specs.Asking.{next}
use Rattle.mx_transcript.specs.Courses.{Course, Attempt, Answer, Judged, seen_in}
use Rattle.mx_transcript.specs.Elements.{IsJudged}
use Rattle.mx_transcript.specs.Legal.{setup_entries}
use Rattle.mx_transcript.specs.Lines.{IsEnd}
use Rattle.mx_transcript.specs.Misses.{IsChanged}
use Rattle.mx_transcript.specs.Next.{Reference, Asks, Fills, Calls}
use Rattle.mx_transcript.specs.Openings.{opening_control}
use Rattle.mx_transcript.specs.Parts.{AreLinesOf}
use Rattle.mx_transcript.specs.Scripts.{lines_of}
use Rattle.mx_transcript.specs.Standing.{own_setting}
use Rattle.mx_transcript.specs.Transcripts.{Step}
use Rattle.mx_ties.specs.Closed.{followed}
use Rattle.mx_ties.specs.Ran.{HasRun}
use Rattle.mx_ties.specs.Views.{Referred, Missed, Marked, View}
use Rattle.mx_ties.specs.SoFar.{HasRunSoFar}

-- an element of the attempt, from the floor on; the floor rises to what was read
abbrev pub SeenStepLaw : Type 0
SeenStepLaw = (x : Outline) (setup : List journaled.Entry) (p : ℕ) (ran : List (ℕ × Line)) (steps : List Step) (number : ℕ) (line : Line)
    (left : List (ℕ × Line)) (now : Control) (events : List Event2) (course : Course) (v : View) (told : ℕ → ℕ)
    (asked : Reference) (j : Judged) (floor : ℕ)
    → next now line course ≡ Asks asked → IsJudged asked j.desc j.element
    → v.floor ≤ j.element.point → j.element.point ≤ floor
    → ((value writer stamp : ℕ) → j.element.outcome ≡ Read value writer stamp → stamp ≤ floor)
    → HasRunSoFar x setup p ran steps number line left now events course v told
    → HasRunSoFar x setup p ran steps number line left now (events ++ Core (Seen j.element) ∷ [])
    (Attempt (seen_in course ++ j ∷ []))
    (record v { trace = v.trace ++ Referred j ∷ []; floor = floor }) told

-- a write that a reply asks for, granted, from the floor on
abbrev pub FillStepLaw : Type 0
FillStepLaw = (x : Outline) (setup : List journaled.Entry) (p : ℕ) (ran : List (ℕ × Line)) (steps : List Step) (number : ℕ) (line : Line)
    (left : List (ℕ × Line)) (now : Control) (events : List Event2) (entry : journaled.Entry) (filled : List Judged)
    (v : View) (told : ℕ → ℕ) (asked : Reference) (j : Judged) (value floor : ℕ)
    → next now line (Answer entry filled) ≡ Fills asked → IsJudged asked j.desc j.element
    → j.element.outcome ≡ Written value
    → v.floor ≤ j.element.point → j.element.point ≤ floor
    → HasRunSoFar x setup p ran steps number line left now events (Answer entry filled) v told
    → HasRunSoFar x setup p ran steps number line left now (events ++ Core (Seen j.element) ∷ [])
    (Answer entry (filled ++ j ∷ []))
    (record v { trace = v.trace ++ Referred j ∷ []; floor = floor }) told

-- a miss above what the process was told, and what it is told then
abbrev pub MissStepLaw : Type 0
MissStepLaw = (x : Outline) (setup : List journaled.Entry) (p : ℕ) (ran : List (ℕ × Line)) (steps : List Step) (number : ℕ) (line : Line)
    (left : List (ℕ × Line)) (now : Control) (events : List Event2) (course : Course) (v : View)
    (told told' : ℕ → ℕ) (asked : Reference) (segno by floor : ℕ) (more : List Marked)
    → next now line course ≡ Asks asked
    → told segno < by → by ≤ floor → v.floor ≤ floor → by ≤ told' segno → ((n : ℕ) → told n ≤ told' n)
    → HasRunSoFar x setup p ran steps number line left now events course v told
    → HasRunSoFar x setup p ran steps number line left now (events ++ Core (Missing segno by) ∷ []) (Attempt [])
    (record v { trace = v.trace ++ Missed segno by ∷ []; history = v.history ++ more; floor = floor }) told'

-- an own entry above the floor
abbrev pub EntryStepLaw : Type 0
EntryStepLaw = (x : Outline) (setup : List journaled.Entry) (p : ℕ) (ran : List (ℕ × Line)) (steps : List Step) (number : ℕ) (line : Line)
    (left : List (ℕ × Line)) (now : Control) (events : List Event2) (course : Course) (v : View)
    (told told' : ℕ → ℕ) (more : List Marked) (marked : Marked) (place floor : ℕ)
    → next now line course ≡ Calls marked.entry.ring marked.entry.request
    → slice_get (v.history ++ more) place ≡ Some marked → marked.entry.process ≡ p → marked.mark ≡ length v.trace
    → v.floor < length setup + suc place → length setup + suc place ≤ floor → ((n : ℕ) → told n ≤ told' n)
    → ((segno : ℕ) → IsChanged x (followed setup (v.history ++ more)) p segno (length setup + suc place)
    → length setup + suc place ≤ told' segno)
    → HasRunSoFar x setup p ran steps number line left now events course v told
    → HasRunSoFar x setup p ran steps number line left now (events ++ Entry (length setup + suc place) ∷ [])
    (Answer marked.entry [])
    (record v { history = v.history ++ more; floor = floor; amount = suc v.amount }) told'

-- the line ends, and the next one begins
abbrev pub LineStepLaw : Type 0
LineStepLaw = (x : Outline) (setup : List journaled.Entry) (p : ℕ) (ran : List (ℕ × Line)) (steps : List Step) (number number' : ℕ)
    (line line' : Line) (left : List (ℕ × Line)) (now after : Control) (events : List Event2) (course : Course)
    (ends : Result2) (v : View) (told : ℕ → ℕ)
    → ((d : Element → Descriptor) → IsEnd (own_setting x (followed setup v.history) v.floor p d) now
    (next now line course) ends after)
    → HasRunSoFar x setup p ran steps number line ((number', line') ∷ left) now events course v told
    → HasRunSoFar x setup p ran (steps ++ (number, events, ends) ∷ []) number' line' left after [] (Attempt []) v told

-- the last of the lines that a part may have ends
abbrev pub LastLineLaw : Type 0
LastLineLaw = (x : Outline) (setup : List journaled.Entry) (p : ℕ) (ran : List (ℕ × Line)) (steps : List Step) (number : ℕ) (line : Line)
    (now after : Control) (events : List Event2) (course : Course) (ends : Result2) (v : View) (told : ℕ → ℕ)
    → ((d : Element → Descriptor) → IsEnd (own_setting x (followed setup v.history) v.floor p d) now
    (next now line course) ends after)
    → AreLinesOf (lines_of x p) (steps ++ (number, events, ends) ∷ []) ran
    → HasRunSoFar x setup p ran steps number line [] now events course v told
    → HasRun x setup p (steps ++ (number, events, ends) ∷ []) v

-- the start, before the first line
abbrev pub FirstLineLaw : Type 0
FirstLineLaw = (x : Outline) (setup : List journaled.Entry) (p number : ℕ) (line : Line) (left : List (ℕ × Line))
    (floor : ℕ) (told : ℕ → ℕ)
    → lines_of x p ≡ (number, line) ∷ left → setup_entries x ≤ floor
    → HasRunSoFar x setup p (lines_of x p) [] number line left (opening_control x p) [] (Attempt [])
    (record { trace = []; history = []; floor = floor; amount = 0 }) told

-- no lines at all
abbrev pub NoLineLaw : Type 0
NoLineLaw = (x : Outline) (setup : List journaled.Entry) (p floor : ℕ) → lines_of x p ≡ []
    → HasRun x setup p [] (record { trace = []; history = []; floor = floor; amount = 0 })
