-- Transcripts as lists: the part of a process, its events in order, and the entries of the journal that it names.
use Rattle.std.specs.Prelude.{ℕ, zero, suc, ◌+◌, ◌==◌, List, [], ◌∷◌, ◌++◌, if◌then◌else◌}
use Rattle.mx_state.specs.declared.journal.Entry as journaled
use Rattle.mx_transcript.specs.declared.transcripts.Event2.{Event2}
use Rattle.mx_transcript.specs.declared.transcripts.Event2.TheVariants.{Core, Entry}
use Rattle.mx_transcript.specs.declared.transcripts.Result2.{Result2}

-- a line of a transcript: its number, its events, its result
abbrev pub Step : Type 0
Step = ℕ × List Event2 × Result2

-- the transcript of process p, empty where there is none
abbrev pub part : List (List Step) → ℕ → List Step
part [] p = []
part (steps ∷ parts) zero = steps
part (steps ∷ parts) (suc p) = part parts p

-- the events of a transcript in order
abbrev pub events_of : List Step → List Event2
events_of [] = []
events_of (step ∷ steps) = step.1 ++ events_of steps

-- the numbers of the journal entries that events name, in order
abbrev pub entries_named : List Event2 → List ℕ
entries_named [] = []
entries_named (Entry number ∷ events) = number ∷ entries_named events
entries_named (Core event ∷ events) = entries_named events

-- the numbers of a process's entries in a journal whose first entry has this number
abbrev pub numbers_from : ℕ → ℕ → List journaled.Entry → List ℕ
numbers_from first p [] = []
numbers_from first p (entry ∷ entries) =
    if entry.process == p then first ∷ numbers_from (first + 1) p entries else numbers_from (first + 1) p entries

-- the numbers of a process's entries in a journal, counted from 1
abbrev pub numbers_of : ℕ → List journaled.Entry → List ℕ
numbers_of p journal = numbers_from 1 p journal
