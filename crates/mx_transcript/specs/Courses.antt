-- How far a line has come: in its present attempt, or since its last call.
use Rattle.std.specs.Prelude.{List, []}
use Rattle.mx_sdw.specs.Descriptors.{Descriptor}
use Rattle.mx_core.specs.declared.elements.Element.{Element}
use Rattle.mx_state.specs.declared.journal.Entry as journaled

-- an element, and the descriptor on which it was judged
pub record Judged : Type 0 where
  pub element : Element
  pub desc : Descriptor

-- An attempt, and what it has seen so far; or the entry of a call, and the writes made since that its reply asks for. It
-- is what happened, and no state of a machine.
pub data Course : Type 0 where
  Attempt : (seen : List Judged) → Course
  Answer : (entry : journaled.Entry) (filled : List Judged) → Course

-- what the present attempt has seen: after an answer a new one begins
abbrev pub seen_in : Course → List Judged
seen_in (Attempt seen) = seen
seen_in (Answer entry filled) = []
