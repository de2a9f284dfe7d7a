-- The summary of a run: how long its journal is, how many loads and stores were granted, how many references were
-- denied, and the sum of the values that were stored.
use Rattle.std.specs.Prelude.{ℕ, Bool, true, false, ◌&&◌, not, List, [], ◌∷◌, ◌++◌, length, codes}
use Rattle.std.specs.Fmt.{decimal}
use Rattle.std.specs.List.{count_by, flat_map, sum_by}
use Rattle.mx_core.specs.declared.elements.Element.{Element}
use Rattle.mx_core.specs.declared.elements.Event.TheVariants.{Seen, Missing}
use Rattle.mx_core.specs.declared.elements.Kind.{Kind}
use Rattle.mx_core.specs.declared.elements.Kind.TheVariants as kind
use Rattle.mx_core.specs.declared.elements.Outcome.{Outcome}
use Rattle.mx_core.specs.declared.elements.Outcome.TheVariants as outcome
use Rattle.mx_transcript.specs.declared.transcripts.Event2.{Event2}
use Rattle.mx_transcript.specs.declared.transcripts.Event2.TheVariants.{Core, Entry}
use Rattle.mx_transcript.specs.Transcripts.{Step, events_of}
use Rattle.mx_state.specs.declared.journal.Entry as journaled

-- the references among events, in order
abbrev pub references_among : List Event2 → List Element
references_among [] = []
references_among (Core (Seen element) ∷ events) = element ∷ references_among events
references_among (Core (Missing segno by) ∷ events) = references_among events
references_among (Entry number ∷ events) = references_among events

-- the references of all processes
abbrev pub references_of : List (List Step) → List Element
references_of transcripts = flat_map (λ steps. references_among (events_of steps)) transcripts

abbrev pub is_denial : Outcome → Bool
is_denial (outcome.Denied denial) = true
is_denial _ = false

abbrev pub is_access : Kind → Bool
is_access kind.Read = true
is_access kind.Write = true
is_access _ = false

-- a reference that was denied
abbrev pub is_denied : Element → Bool
is_denied element = is_denial element.outcome

-- a load or a store that was granted
abbrev pub is_granted : Element → Bool
is_granted element = is_access element.kind && not (is_denied element)

-- the value that a granted store wrote
abbrev pub value_in : Outcome → ℕ
value_in (outcome.Written value) = value
value_in _ = 0

abbrev pub value_written : Element → ℕ
value_written element = value_in element.outcome

-- a label, a number and a newline
abbrev pub labelled : List ℕ → ℕ → List ℕ
labelled label number = label ++ decimal number ++ codes "\n"

-- the summary of references, with the number of the drill and of the journal's entries
abbrev pub summary_of : ℕ → ℕ → List Element → List ℕ
summary_of number entries references =
    labelled (codes "drill ") number ++ labelled (codes "entries ") entries
    ++ labelled (codes "granted ") (count_by is_granted references)
    ++ labelled (codes "denied ") (count_by is_denied references)
    ++ labelled (codes "written ") (sum_by value_written references) ++ codes "end\n"

abbrev pub summary_text : ℕ → List journaled.Entry → List (List Step) → List ℕ
summary_text number journal transcripts = summary_of number (length journal) (references_of transcripts)
