-- What an element must be: its outcome is the judging rule's on the descriptor judged.
use Rattle.std.specs.Prelude.{◌≡◌, ℕ, true, false, Bool, ◌||◌, Option, Some, None, Result, Ok, Err}
use Rattle.mx_sdw.specs.declared.denials.Denial.{Denial}
use Rattle.mx_sdw.specs.declared.descriptors.Cell.{Cell}
use Rattle.mx_sdw.specs.declared.operations.Op.{Op}
use Rattle.mx_sdw.specs.declared.operations.Op.TheVariants as op
use Rattle.mx_sdw.specs.Descriptors.{Descriptor}
use Rattle.mx_sdw.specs.Judging.{judgement, cell_of, ring_after}
use Rattle.mx_sdw.specs.Operations.{reads, fetches, writes, transfers}
use Rattle.mx_core.specs.Words.{Asked}
use Rattle.mx_core.specs.declared.elements.Kind.{Kind}
use Rattle.mx_core.specs.declared.elements.Kind.TheVariants as kind
use Rattle.mx_core.specs.declared.elements.Outcome.{Outcome}
use Rattle.mx_core.specs.declared.elements.Outcome.TheVariants as outcome

abbrev pub kind_of : Op → Kind
kind_of op.Read = kind.Read
kind_of op.Indirect = kind.Ind
kind_of op.Write = kind.Write
kind_of op.Fetch = kind.Fetch
kind_of (op.Call current same upward) = kind.Call
kind_of op.Return = kind.Return

-- the operations that read the cell
abbrev pub loads : Op → Bool
loads op = reads op || fetches op

abbrev pub IsGranted : Descriptor → Asked → Type 0
IsGranted d a = judgement d a.op a.ring a.word ≡ Ok (cell_of d a.word)

-- a read has read, a write has written, and a call or return goes on in the rule's ring, each where it is granted; what
-- is denied has the rule's denial
abbrev pub Agrees : Descriptor → Asked → Outcome → Type 0
Agrees d a (outcome.Read value writer stamp) = IsGranted d a × (loads a.op ≡ true)
Agrees d a (outcome.Written value) = IsGranted d a × (writes a.op ≡ true)
Agrees d a (outcome.Entered ring) = IsGranted d a × (transfers a.op ≡ true) × (ring ≡ ring_after d a.op a.ring)
Agrees d a (outcome.Denied denial) = judgement d a.op a.ring a.word ≡ Err denial

-- what needs no cell step: a denial, a granted call and a granted return
abbrev pub at_once_by : Descriptor → Asked → Bool → Result Cell Denial → Option Outcome
at_once_by d a through (Err denial) = Some (outcome.Denied denial)
at_once_by d a true (Ok cell) = Some (outcome.Entered (ring_after d a.op a.ring))
at_once_by d a false (Ok cell) = None

abbrev pub at_once : Descriptor → Asked → Option Outcome
at_once d a = at_once_by d a (transfers a.op) (judgement d a.op a.ring a.word)

-- the stamp that an element read, if it read one
abbrev pub stamp_read : Outcome → ℕ
stamp_read (outcome.Read value writer stamp) = stamp
stamp_read _ = 0
