-- The access of a process at a point: its descriptor, computed afresh from the first so many entries of the journal.
use Rattle.std.specs.Prelude.{ℕ, List, take}
use Rattle.mx_sdw.specs.Descriptors.{Descriptor}
use Rattle.mx_transcript.specs.Opened.{opening_of}
use Rattle.mx_state.specs.History.{replay}
use Rattle.mx_state.specs.Table.{descriptor}
use Rattle.mx_state.specs.declared.journal.Entry as journaled
use Rattle.mx_script.specs.Sessions.{Outline}
use Rattle.mx_core.specs.declared.elements.Element.{Element}

abbrev pub descriptor_at : Outline → List journaled.Entry → ℕ → ℕ → ℕ → Descriptor
descriptor_at session journal point p segno = descriptor (replay (opening_of session) (take point journal)) p segno

-- of an element, at its printed point
abbrev pub descriptor_of : Outline → List journaled.Entry → ℕ → Element → Descriptor
descriptor_of session journal p element = descriptor_at session journal element.point p element.segno
