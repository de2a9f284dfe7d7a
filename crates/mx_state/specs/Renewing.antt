-- Helpers that only private contracts cite: descriptors held before a request and renewed after it.
use Rattle.std.specs.Prelude.{ℕ, ◌+◌, List, [], ◌∷◌, Option, Some, None, if◌then◌else◌}
use Rattle.mx_core.specs.declared.changes.Change.{Change}
use Rattle.mx_hier.specs.Branches.{Hierarchy}
use Rattle.mx_sdw.specs.Descriptors.{Descriptor}
use Rattle.mx_sdw.specs.Same.{same_desc}
use Rattle.mx_kst.specs.Lots.{number_of}
use Rattle.mx_state.specs.declared.states.ProcessState.{ProcessState}
use Rattle.mx_state.specs.Changes.{change}
use Rattle.mx_state.specs.Table.{descriptor_in}

-- the descriptor under the segment's number, where a process knows it
abbrev pub held_by : Hierarchy → List ProcessState → ℕ → Option ℕ → List Change → List Change
held_by h all p None later = later
held_by h all p (Some segno) later = change p segno (descriptor_in h all p segno) ∷ later

-- those of these processes out of all, the first of which is process p
abbrev pub held_from : Hierarchy → List ProcessState → ℕ → List ProcessState → ℕ → List Change
held_from h all p [] uid = []
held_from h all p (process ∷ processes) uid =
    held_by h all p (number_of process.known.lots uid) (held_from h all (p + 1) processes uid)

-- those of a process's number and of the next, which may be its linkage section's
abbrev pub held_two : Hierarchy → List ProcessState → ℕ → ℕ → List Change
held_two h all p segno =
    change p segno (descriptor_in h all p segno) ∷ change p (segno + 1) (descriptor_in h all p (segno + 1)) ∷ []

-- those that are no longer what was held, as they are now
abbrev pub renewed_as : Change → Descriptor → List Change → List Change
renewed_as held desc later = if same_desc held.desc desc then later else change held.process held.segno desc ∷ later

abbrev pub renewed : Hierarchy → List ProcessState → List Change → List Change
renewed h all [] = []
renewed h all (held ∷ later) =
    renewed_as held (descriptor_in h all held.process held.segno) (renewed h all later)
