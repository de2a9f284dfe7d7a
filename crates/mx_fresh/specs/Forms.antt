-- Helpers: what an entry is, as the program has it.
use Rattle.mx_hier.specs.declared.branches.Node.{Node}
use Rattle.mx_hier.specs.declared.branches.Node.TheVariants.{Directory as IsDirectory, Segment as IsSegment, Link as IsLink}
use Rattle.mx_fresh.specs.declared.branches.Form.{Form}
use Rattle.mx_fresh.specs.declared.branches.Form.TheVariants.{Directory as DirectoryForm, Segment as SegmentForm, Link as LinkForm}

abbrev pub node_of : Form → Node
node_of (DirectoryForm directory) = IsDirectory directory
node_of (SegmentForm segment) = IsSegment segment
node_of (LinkForm target) = IsLink target
