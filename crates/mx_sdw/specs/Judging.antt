-- The judging rule: an operation is denied with the first denial whose condition holds, and else granted. The brackets
-- and gates are Schroeder and Saltzer's, the rule of classes is that of the Multics Administrators' Manual. This model's
-- own choices are the order of the denials, that a call within the running segment needs no gate word, and that only a
-- call from below the first bracket raises the ring, where such calls are on.
use Rattle.std.specs.Prelude.{ℕ, ◌+◌, ◌*◌, min, nat_le, nat_lt, Bool, false, not, ◌&&◌, ◌||◌, if◌then◌else◌, find, Option, Some, None, Result, Ok, Err}
use Rattle.mx_sdw.specs.declared.descriptors.Cell.{Cell}
use Rattle.mx_sdw.specs.declared.denials.Denial.{Denial}
use Rattle.mx_sdw.specs.declared.denials.Denial.TheVariants.{UnknownSegment, NoSegment, OutOfBounds, AimRead, AimWrite, NotReadable, ReadBracket, NotWritable, WriteBracket, NotExecutable, ExecuteBracket, CallBracket, UpwardCall, Gate, RaisedRing, BadReturn, NotPointer, IndirectLimit}
use Rattle.mx_sdw.specs.declared.operations.Op.{Op}
use Rattle.mx_sdw.specs.declared.operations.Op.TheVariants.{Call}
use Rattle.mx_sdw.specs.Denials.{judging_order}
use Rattle.mx_sdw.specs.Descriptors.{Descriptor, is_unknown, is_gone, is_equal, is_neither}
use Rattle.mx_sdw.specs.Operations.{reads, writes, executes, fetches, calls, returns_to, is_within, is_upward, raises_to}

-- the ring in which a call or return goes on: a call from above the second bracket enters at that bracket, and one from
-- below the first bracket at the first
abbrev pub ring_after : Descriptor → Op → ℕ → ℕ
ring_after descriptor (Call current same upward) ring =
    if nat_lt ring descriptor.brackets.r1 then descriptor.brackets.r1 else min ring descriptor.brackets.r2
ring_after descriptor _ ring = ring

-- the condition of each denial by itself, given those before it
abbrev pub applies : Denial → Descriptor → Op → ℕ → ℕ → Bool
applies UnknownSegment descriptor op ring word = is_unknown descriptor.kind
applies NoSegment descriptor op ring word = is_gone descriptor.kind
applies OutOfBounds descriptor op ring word = nat_le descriptor.bound word
applies AimRead descriptor op ring word = not (writes op) && is_neither descriptor.aim
applies AimWrite descriptor op ring word = writes op && not (is_equal descriptor.aim)
applies NotReadable descriptor op ring word = reads op && not descriptor.r
applies ReadBracket descriptor op ring word = reads op && nat_lt descriptor.brackets.r2 ring
applies NotWritable descriptor op ring word = writes op && not descriptor.w
applies WriteBracket descriptor op ring word = writes op && nat_lt descriptor.brackets.r1 ring
applies NotExecutable descriptor op ring word = executes op && not descriptor.e
applies ExecuteBracket descriptor op ring word = fetches op && (nat_lt ring descriptor.brackets.r1 || nat_lt descriptor.brackets.r2 ring)
applies CallBracket descriptor op ring word = calls op && nat_lt descriptor.brackets.r3 ring
applies UpwardCall descriptor op ring word = calls op && nat_lt ring descriptor.brackets.r1 && not (is_upward op)
applies Gate descriptor op ring word =
    calls op && nat_le descriptor.gate word
    && (nat_lt ring descriptor.brackets.r1 || nat_lt descriptor.brackets.r2 ring || not (is_within op))
applies RaisedRing descriptor op ring word = nat_le descriptor.brackets.r1 ring && raises_to op (ring_after descriptor op ring)
applies BadReturn descriptor op ring word = returns_to op && (nat_lt ring descriptor.brackets.r1 || nat_lt descriptor.brackets.r2 ring)
applies NotPointer descriptor op ring word = false
applies IndirectLimit descriptor op ring word = false

-- the cell of a word: pages have 64 words
abbrev pub cell_of : Descriptor → ℕ → Cell
cell_of descriptor word = record { 0 = 64 * descriptor.page + word }

-- granted with the cell, unless a denial was found
abbrev pub granted_unless : Option Denial → Cell → Result Cell Denial
granted_unless None cell = Ok cell
granted_unless (Some denial) cell = Err denial

-- what the judging rule answers for a descriptor, an operation, a ring and a word
unfoldable pub judgement : Descriptor → Op → ℕ → ℕ → Result Cell Denial
judgement descriptor op ring word =
    granted_unless (find (λ denial. applies denial descriptor op ring word) judging_order) (cell_of descriptor word)
