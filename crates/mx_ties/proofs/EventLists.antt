-- Events of a transcript, the trace that they are tied to, and their deeds.
use Rattle.std.proofs.Common.{◌≡◌, ℕ, zero, suc, List, [], ◌∷◌, ◌++◌, map, refl, ap, ◌∙◌, subst, Option, Some, None}
use Rattle.std.specs.List.{slice_get}
use Rattle.mx_transcript.specs.Courses.{Judged}
use Rattle.mx_core.specs.declared.elements.Element.{Element}
use Rattle.mx_core.specs.declared.elements.Event.{Event}
use Rattle.mx_core.specs.declared.elements.Event.TheVariants.{Seen, Missing}
use Rattle.mx_core.specs.declared.elements.Outcome.{Outcome}
use Rattle.mx_core.specs.declared.elements.Outcome.TheVariants as outcome
use Rattle.mx_transcript.specs.declared.transcripts.Event2.{Event2}
use Rattle.mx_transcript.specs.declared.transcripts.Event2.TheVariants.{Core, Entry}
use Rattle.mx_ties.specs.Acts.{acts, one_more, acts_before}
use Rattle.mx_reads.specs.Deeds.{CellUse, Deed, Enters, Stores, Loads, Refers, Misses}
use Rattle.mx_transcript.specs.References.{reference, cell_by, deed_by}
use Rattle.mx_transcript.specs.Transcripts.{Step, events_of, entries_named}
use Rattle.mx_ties.specs.Uses.{renamed, same_use}
use Rattle.mx_ties.specs.Views.{Kept, Referred, Missed, event_of, deed_kept, judged_in, cores, cores_before}

-- a reference is an act, and no entry or miss
acts_reference : (cell : Option CellUse) (came : Outcome) (point : ℕ) (done : List Deed)
    → acts (reference cell came point ∷ done) ≡ reference cell came point ∷ acts done
acts_reference None (outcome.Read value writer stamp) point done = refl
acts_reference None (outcome.Written value) point done = refl
acts_reference None (outcome.Entered ring) point done = refl
acts_reference None (outcome.Denied denial) point done = refl
acts_reference (Some at) (outcome.Read value writer stamp) point done = refl
acts_reference (Some at) (outcome.Written value) point done = refl
acts_reference (Some at) (outcome.Entered ring) point done = refl
acts_reference (Some at) (outcome.Denied denial) point done = refl

more_reference : (cell : Option CellUse) (came : Outcome) (point n : ℕ) → one_more (reference cell came point) n ≡ suc n
more_reference None (outcome.Read value writer stamp) point n = refl
more_reference None (outcome.Written value) point n = refl
more_reference None (outcome.Entered ring) point n = refl
more_reference None (outcome.Denied denial) point n = refl
more_reference (Some at) (outcome.Read value writer stamp) point n = refl
more_reference (Some at) (outcome.Written value) point n = refl
more_reference (Some at) (outcome.Entered ring) point n = refl
more_reference (Some at) (outcome.Denied denial) point n = refl

reference_no_entry : (cell : Option CellUse) (came : Outcome) (point number : ℕ)
    → Some (reference cell came point) ≡ Some (Enters number) → ⊥
reference_no_entry None (outcome.Read value writer stamp) point number h = cc
reference_no_entry None (outcome.Written value) point number h = cc
reference_no_entry None (outcome.Entered ring) point number h = cc
reference_no_entry None (outcome.Denied denial) point number h = cc
reference_no_entry (Some at) (outcome.Read value writer stamp) point number h = cc
reference_no_entry (Some at) (outcome.Written value) point number h = cc
reference_no_entry (Some at) (outcome.Entered ring) point number h = cc
reference_no_entry (Some at) (outcome.Denied denial) point number h = cc

reference_no_miss : (cell : Option CellUse) (came : Outcome) (point segno by : ℕ)
    → Some (reference cell came point) ≡ Some (Misses segno by) → ⊥
reference_no_miss None (outcome.Read value writer stamp) point segno by h = cc
reference_no_miss None (outcome.Written value) point segno by h = cc
reference_no_miss None (outcome.Entered ring) point segno by h = cc
reference_no_miss None (outcome.Denied denial) point segno by h = cc
reference_no_miss (Some at) (outcome.Read value writer stamp) point segno by h = cc
reference_no_miss (Some at) (outcome.Written value) point segno by h = cc
reference_no_miss (Some at) (outcome.Entered ring) point segno by h = cc
reference_no_miss (Some at) (outcome.Denied denial) point segno by h = cc

-- the cells are those of the descriptors that the trace keeps, in their uses
abbrev pub HasCells : (ℕ → ℕ → CellUse) → (Element → Option CellUse) → List Kept → Type 0
HasCells use_of cell trace = (i : ℕ) (j : Judged) → slice_get trace i ≡ Some (Referred j)
    → cell j.element
    ≡ cell_by (λ at. use_of at j.element.point) j.desc j.element.kind j.element.ring j.element.word

cells_rest : (use_of : ℕ → ℕ → CellUse) (cell : Element → Option CellUse) (kept : Kept) (trace : List Kept)
    → HasCells use_of cell (kept ∷ trace) → HasCells use_of cell trace
cells_rest use_of cell kept trace cells i j h = cells (suc i) j h

pub acts_kept : (use_of : ℕ → ℕ → CellUse) (cell : Element → Option CellUse) (events : List Event2) (trace : List Kept)
    → cores events ≡ map event_of trace → HasCells use_of cell trace
    → acts (map (deed_by cell) events) ≡ map (deed_kept use_of) trace
acts_kept use_of cell [] [] h cells = refl
acts_kept use_of cell [] (kept ∷ trace) h cells = cc
acts_kept use_of cell (Entry number ∷ events) trace h cells = acts_kept use_of cell events trace h cells
acts_kept use_of cell (Core (Seen e) ∷ events) [] h cells = cc
acts_kept use_of cell (Core (Seen e) ∷ events) (Missed segno by ∷ trace) h cells = cc
acts_kept use_of cell (Core (Seen e) ∷ events) (Referred j ∷ trace) h cells =
    let same : e ≡ j.element = cc in
    let rest : cores events ≡ map event_of trace = cc in
    let here = cells 0 j refl in
    let more = acts_kept use_of cell events trace rest (cells_rest use_of cell (Referred j) trace cells) in
    acts_reference (cell e) e.outcome e.point (map (deed_by cell) events)
    ∙ ap (λ (a : Element). reference (cell a) a.outcome a.point ∷ acts (map (deed_by cell) events)) same
    ∙ ap (λ (o : Option CellUse). reference o j.element.outcome j.element.point ∷ acts (map (deed_by cell) events)) here
    ∙ ap (λ (l : List Deed). deed_kept use_of (Referred j) ∷ l) more
acts_kept use_of cell (Core (Missing segno by) ∷ events) [] h cells = cc
acts_kept use_of cell (Core (Missing segno by) ∷ events) (Referred j ∷ trace) h cells = cc
acts_kept use_of cell (Core (Missing segno by) ∷ events) (Missed segno' by' ∷ trace) h cells =
    let segnos : segno ≡ segno' = cc in
    let bys : by ≡ by' = cc in
    let rest : cores events ≡ map event_of trace = cc in
    let more = acts_kept use_of cell events trace rest (cells_rest use_of cell (Missed segno' by') trace cells) in
    ap (λ (n : ℕ). Misses n by ∷ acts (map (deed_by cell) events)) segnos
    ∙ ap (λ (n : ℕ). Misses segno' n ∷ acts (map (deed_by cell) events)) bys
    ∙ ap (λ (l : List Deed). Misses segno' by' ∷ l) more

-- deeds whose cells are named as they were
renamed_one : (d : Deed) → renamed same_use d ≡ d
renamed_one (Enters number) = refl
renamed_one (Stores cell value point) = refl
renamed_one (Loads cell value writer stamp point) = refl
renamed_one (Refers point) = refl
renamed_one (Misses segno by) = refl

pub renamed_same : (done : List Deed) → map (renamed same_use) done ≡ done
renamed_same [] = refl
renamed_same (d ∷ done) = λ i. renamed_one d i ∷ renamed_same done i

-- the elements of a trace stand in it
pub judged_back : (trace : List Kept) (place : ℕ) (j : Judged) → slice_get (judged_in trace) place ≡ Some j
    → (i : ℕ) × (slice_get trace i ≡ Some (Referred j))
judged_back [] place j h = absurd cc
judged_back (Missed segno by ∷ trace) place j h = let k = judged_back trace place j h in (suc k.0, k.1)
judged_back (Referred first ∷ trace) zero j h = (0, ap (λ (o : Option Judged). referred o) h)
  where
    referred : Option Judged → Option Kept
    referred None = None
    referred (Some k) = Some (Referred k)
judged_back (Referred first ∷ trace) (suc place) j h = let k = judged_back trace place j h in (suc k.0, k.1)

pub before_same : (cell : Element → Option CellUse) (events : List Event2) (place : ℕ)
    → acts_before (map (deed_by cell) events) place ≡ cores_before events place
before_same cell [] place = refl
before_same cell (Entry number ∷ events) zero = refl
before_same cell (Core event ∷ events) zero = refl
before_same cell (Entry number ∷ events) (suc place) = before_same cell events place
before_same cell (Core (Seen e) ∷ events) (suc place) =
    more_reference (cell e) e.outcome e.point (acts_before (map (deed_by cell) events) place)
    ∙ ap suc (before_same cell events place)
before_same cell (Core (Missing segno by) ∷ events) (suc place) = ap suc (before_same cell events place)

-- entries and misses among the deeds are those among the events
pub entry_back : (cell : Element → Option CellUse) (events : List Event2) (place number : ℕ)
    → slice_get (map (deed_by cell) events) place ≡ Some (Enters number) → slice_get events place ≡ Some (Entry number)
entry_back cell [] place number h = cc
entry_back cell (Entry n ∷ events) zero number h = let e : n ≡ number = cc in ap (λ (m : ℕ). Some (Entry m)) e
entry_back cell (Core (Seen e) ∷ events) zero number h = absurd (reference_no_entry (cell e) e.outcome e.point number h)
entry_back cell (Core (Missing segno by) ∷ events) zero number h = cc
entry_back cell (Entry n ∷ events) (suc place) number h = entry_back cell events place number h
entry_back cell (Core event ∷ events) (suc place) number h = entry_back cell events place number h

pub entry_forth : (cell : Element → Option CellUse) (events : List Event2) (place number : ℕ)
    → slice_get events place ≡ Some (Entry number) → slice_get (map (deed_by cell) events) place ≡ Some (Enters number)
entry_forth cell [] place number h = cc
entry_forth cell (event ∷ events) zero number h = let e : event ≡ Entry number = cc in ap
    (λ (v : Event2). Some (deed_by cell v)) e
entry_forth cell (event ∷ events) (suc place) number h = entry_forth cell events place number h

pub miss_back : (cell : Element → Option CellUse) (events : List Event2) (place segno by : ℕ)
    → slice_get (map (deed_by cell) events) place ≡ Some (Misses segno by)
    → slice_get events place ≡ Some (Core (Missing segno by))
miss_back cell [] place segno by h = cc
miss_back cell (Entry n ∷ events) zero segno by h = cc
miss_back cell (Core (Seen e) ∷ events) zero segno by h = absurd
    (reference_no_miss (cell e) e.outcome e.point segno by h)
miss_back cell (Core (Missing s b) ∷ events) zero segno by h =
    let es : s ≡ segno = cc in
    let eb : b ≡ by = cc in
    ap (λ (n : ℕ). Some (Core (Missing n b))) es ∙ ap (λ (n : ℕ). Some (Core (Missing segno n))) eb
miss_back cell (Entry n ∷ events) (suc place) segno by h = miss_back cell events place segno by h
miss_back cell (Core event ∷ events) (suc place) segno by h = miss_back cell events place segno by h

-- an event of a transcript that is no entry stands in the trace
pub record IsKept (trace : List Kept) (event : Event) : Type 0 where
  pub i : ℕ
  pub kept : Kept
  pub at : slice_get trace i ≡ Some kept
  pub is : event_of kept ≡ event

core_at : (events : List Event2) (place : ℕ) (event : Event) → slice_get events place ≡ Some (Core event)
    → slice_get (cores events) (cores_before events place) ≡ Some event
core_at [] place event h = cc
core_at (Entry number ∷ events) zero event h = cc
core_at (Core other ∷ events) zero event h = let e : other ≡ event = cc in ap Some e
core_at (Entry number ∷ events) (suc place) event h = core_at events place event h
core_at (Core other ∷ events) (suc place) event h = core_at events place event h

kept_at : (trace : List Kept) (i : ℕ) (event : Event) → slice_get (map event_of trace) i ≡ Some event
    → IsKept trace event
kept_at [] i event h = cc
kept_at (kept ∷ trace) zero event h = record { i = 0; kept = kept; at = refl; is = cc }
kept_at (kept ∷ trace)
    (suc i) event h = let k = kept_at trace i event h in record { i = suc k.i; kept = k.kept; at = k.at; is = k.is }

pub kept_event : (events : List Event2) (trace : List Kept) → cores events ≡ map event_of trace
    → (place : ℕ) (event : Event) → slice_get events place ≡ Some (Core event) → IsKept trace event
kept_event events trace e place event h =
    kept_at trace (cores_before events place) event
    (subst (λ (l : List Event). slice_get l (cores_before events place) ≡ Some event) e (core_at events place event h))

missed_of : (trace : List Kept) (segno by i : ℕ) (kept : Kept) → slice_get trace i ≡ Some kept
    → event_of kept ≡ Missing segno by
    → slice_get trace i ≡ Some (Missed segno by)
missed_of trace segno by i (Referred j) at is = cc
missed_of trace segno by i (Missed s b) at is =
    let es : s ≡ segno = cc in
    let eb : b ≡ by = cc in
    at ∙ ap (λ (n : ℕ). Some (Missed n b)) es ∙ ap (λ (n : ℕ). Some (Missed segno n)) eb

pub missed : (trace : List Kept) (segno by : ℕ) (k : IsKept trace (Missing segno by))
    → slice_get trace k.i ≡ Some (Missed segno by)
missed trace segno by k = missed_of trace segno by k.i k.kept k.at k.is

-- entries that are named stand among the events
pub record IsEntryAt (events : List Event2) (number : ℕ) : Type 0 where
  pub place : ℕ
  pub at : slice_get events place ≡ Some (Entry number)

pub named_at : (events : List Event2) (i number : ℕ) → slice_get (entries_named events) i ≡ Some number
    → IsEntryAt events number
named_at [] i number h = cc
named_at (Entry n ∷ events) zero number h = let e : n ≡ number = cc in record {
  place = 0;
  at = ap
      (λ (m : ℕ). Some (Entry m)) e;
}
named_at (Entry n ∷ events)
    (suc i) number h = let k = named_at events i number h in record { place = suc k.place; at = k.at }
named_at (Core event ∷ events) i number h =
    let k = named_at events i number h in record { place = suc k.place; at = k.at }

-- a line's entries are among those of its transcript
entry_in_front : (a b : List Event2) (number : ℕ) → IsEntryAt a number → IsEntryAt (a ++ b) number
entry_in_front a b number k = record { place = k.place; at = front a k.place k.at }
  where
    front : (a : List Event2) (i : ℕ) → slice_get a i ≡ Some (Entry number) → slice_get (a ++ b) i ≡ Some (Entry number)
    front [] i h = cc
    front (v ∷ a) zero h = h
    front (v ∷ a) (suc i) h = front a i h

entry_behind : (a b : List Event2) (number : ℕ) → IsEntryAt b number → IsEntryAt (a ++ b) number
entry_behind [] b number k = k
entry_behind (v ∷ a) b number k = let l = entry_behind a b number k in record { place = suc l.place; at = l.at }

pub line_entry : (steps : List Step) (place : ℕ) (step : Step) (number : ℕ) → slice_get steps place ≡ Some step
    → IsEntryAt step.1 number → IsEntryAt (events_of steps) number
line_entry [] place step number h k = cc
line_entry (s ∷ steps) zero step number h k =
    let e : step ≡ s = cc in
    entry_in_front s.1 (events_of steps) number (subst (λ (t : Step). IsEntryAt t.1 number) e k)
line_entry (s ∷ steps) (suc place) step number h k = entry_behind s.1 (events_of steps) number
    (line_entry steps place step number h k)

-- where nothing is kept, every event is an entry
pub no_core : (events : List Event2) → cores events ≡ [] → (place : ℕ) (event : Event)
    → slice_get events place ≡ Some (Core event) → ⊥
no_core events e place event h = nothing
    (subst (λ (l : List Event). slice_get l (cores_before events place) ≡ Some event) e
    (core_at events place event h))
  where
    nothing : None ≡ Some event → ⊥
    nothing h = cc
