-- What is counted so far, and what is still to be counted.
use Rattle.std.specs.Prelude.{◌≡◌, ◌+◌, List, ◌++◌}
use Rattle.std.specs.List.{count_by, sum_by}
use Rattle.mx_core.specs.declared.elements.Element.{Element}
use Rattle.mx_transcript.specs.Transcripts.{Step, events_of}
use Rattle.mx_drill.specs.Summaries.{is_granted, is_denied, value_written, references_among}
use Rattle.mx_drill.specs.declared.summaries.Counts.{Counts}

-- with these references more, the counts become those
pub record Counted (before : Counts) (references : List Element) (after : Counts) : Type 0 where
  pub granted : after.granted ≡ before.granted + count_by is_granted references
  pub denied : after.denied ≡ before.denied + count_by is_denied references
  pub written : after.written ≡ before.written + sum_by value_written references

-- these are the counts of the references
pub record AreCounts (references : List Element) (counts : Counts) : Type 0 where
  pub granted : counts.granted ≡ count_by is_granted references
  pub denied : counts.denied ≡ count_by is_denied references
  pub written : counts.written ≡ sum_by value_written references

-- of the lines of a process, some were counted, and these are left
pub record HasCounted (before : Counts) (whole rest : List Step) (after : Counts) : Type 0 where
  pub done : List Step
  pub parts : done ++ rest ≡ whole
  pub counted : Counted before (references_among (events_of done)) after
