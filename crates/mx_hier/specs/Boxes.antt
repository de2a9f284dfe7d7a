-- Helpers: a directory and a segment on the heap end as what is last written there.
use Rattle.std.specs.Borrow.{Lends, MutBor, Fml}
use Rattle.mx_hier.specs.declared.branches.Directory.{Directory}
use Rattle.mx_hier.specs.declared.branches.Segment.{Segment}
use Rattle.mx_hier.specs.contracts.branches.Directory.{the_row as directory_row}
use Rattle.mx_hier.specs.contracts.branches.Segment.{the_row as segment_row}
use Rattle.mx_hier.specs.contracts.boxes.BoxedDirectory.{the_row as boxed_directory_row}
use Rattle.mx_hier.specs.contracts.boxes.BoxedSegment.{the_row as boxed_segment_row}

abbrev pub LendsDirectory : MutBor Directory → MutBor Directory → Fml
LendsDirectory boxed directory = Lends boxed_directory_row directory_row boxed directory (λ last. last)

abbrev pub LendsSegment : MutBor Segment → MutBor Segment → Fml
LendsSegment boxed segment = Lends boxed_segment_row segment_row boxed segment (λ last. last)
