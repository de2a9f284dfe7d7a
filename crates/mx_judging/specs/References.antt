-- The references of a run, each with the process that made it, and that those which were judged are these, each once and those of
-- a process in its order.
use Rattle.std.specs.Prelude.{◌≡◌, ℕ, ◌+◌, ◌≤◌, ◌==◌, Bool, List, [], ◌∷◌, ◌++◌, map, drop, filter, IsPermutation}
use Rattle.mx_core.specs.declared.elements.Element.{Element}
use Rattle.mx_core.specs.declared.elements.Event.TheVariants.{Seen, Missing}
use Rattle.mx_transcript.specs.Transcripts.{Step, events_of, part}
use Rattle.mx_transcript.specs.declared.transcripts.Event2.{Event2}
use Rattle.mx_transcript.specs.declared.transcripts.Event2.TheVariants.{Core, Entry}
use Rattle.mx_judging.specs.declared.replays.Judged.{Judged}

-- the references among events, in order
abbrev pub references_among : List Event2 → List Element
references_among [] = []
references_among (Core (Seen element) ∷ events) = element ∷ references_among events
references_among (Core (Missing segno by) ∷ events) = references_among events
references_among (Entry number ∷ events) = references_among events

-- those of process p among its events, each with the process
abbrev pub own_references : ℕ → List Event2 → List (ℕ × Element)
own_references p events = map (λ (element : Element). (p, element)) (references_among events)

-- those of the processes from p on, which have these transcripts
abbrev pub references_from : ℕ → List (List Step) → List (ℕ × Element)
references_from p [] = []
references_from p (steps ∷ parts) = own_references p (events_of steps) ++ references_from (p + 1) parts

-- the references of a run: those of its processes, counted from 1. The first transcript is that of the setup, which makes
-- requests alone.
abbrev pub references_in : List (List Step) → List (ℕ × Element)
references_in transcripts = references_from 1 (drop 1 transcripts)

-- what was judged: the reference of a process
abbrev pub reference_of : Judged → ℕ × Element
reference_of j = (j.process, j.element)

-- whether it is one of process p
abbrev pub is_of : ℕ → ℕ × Element → Bool
is_of p reference = reference.0 == p

-- those that were judged are the references of the run
pub record AreReferences (transcripts : List (List Step)) (judged : List Judged) : Type 0 where
  -- each once, and no other
  pub each_once : IsPermutation (references_in transcripts) (map reference_of judged)
  -- those of a process in its order
  pub in_order : (p : ℕ) → 1 ≤ p → filter (is_of p) (map reference_of judged) ≡ own_references p (events_of (part transcripts p))

-- it is a reference of one of so many processes
pub record IsOfProcess (processes : ℕ) (reference : ℕ × Element) : Type 0 where
  pub some : 1 ≤ reference.0
  pub most : reference.0 ≤ processes
