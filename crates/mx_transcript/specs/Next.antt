-- What a line can ask for.
use Rattle.std.specs.Prelude.{ℕ, Option, Some, None}
use Rattle.mx_sdw.specs.declared.operations.Op.{Op}
use Rattle.mx_sdw.specs.declared.operations.Op.TheVariants.{Write}
use Rattle.mx_ptr.specs.Pointers.{PointerParts}
use Rattle.mx_upcall.specs.Control.{Control}
use Rattle.mx_request.specs.declared.requests.Request.{Request}
use Rattle.mx_transcript.specs.declared.transcripts.Result2.{Result2}

-- a reference: an operation on a word, at a ring; a write has the value that it stores
pub record Reference : Type 0 where
  pub op : Op
  pub segno : ℕ
  pub word : ℕ
  pub ring : ℕ
  pub stores : Option ℕ

-- What comes next in a line: a reference; a write that the supervisor's reply asks for; a call of the supervisor, in a
-- ring; or the line's end, with its result, and the registers and return gates after it. Nowhere: after what no line does, nothing comes.
pub data Next : Type 0 where
  Asks : (reference : Reference) → Next
  Fills : (reference : Reference) → Next
  Calls : (ring : ℕ) (request : Request) → Next
  Ends : (result : Result2) (after : Control) → Next
  Nowhere : Next

-- an operation at the place of a pointer, at its ring
abbrev pub at_place : Op → PointerParts → Reference
at_place op p = record { op = op; segno = p.segno; word = p.word; ring = p.ring; stores = None }

-- a write of a value there
abbrev pub storing : ℕ → PointerParts → Reference
storing value p = record { op = Write; segno = p.segno; word = p.word; ring = p.ring; stores = Some value }
