-- What an upward call and a return through a gate make of the registers, after Schroeder and Saltzer. The target's ring
-- is the effective ring.
use Rattle.std.specs.Prelude.{◌≡◌, ℕ, ◌≤◌, nat_eq, true, length, map, slice_get, slice_index_or, slice_set, Some, option_map, Result}
use Rattle.mx_sdw.specs.declared.descriptors.Cell.{Cell}
use Rattle.mx_sdw.specs.declared.denials.Denial.{Denial}
use Rattle.mx_sdw.specs.declared.operations.Op.{Op}
use Rattle.mx_sdw.specs.declared.operations.Op.TheVariants.{Call}
use Rattle.mx_sdw.specs.Descriptors.{Descriptor}
use Rattle.mx_sdw.specs.Judging.{judgement}
use Rattle.mx_ptr.specs.Pointers.{PointerParts}
use Rattle.mx_call.specs.Registers.{Registers, going_on, stack_base, raised_to}
use Rattle.mx_upcall.specs.Gates.{ReturnGate}

-- a call of a target from these registers, where upward calls are on
abbrev pub calling_up : Registers → PointerParts → Op
calling_up registers target = Call registers.ring (nat_eq target.segno registers.procedure.segno) true

-- what the judging rule says of it
abbrev pub upward_judgement : Registers → PointerParts → Descriptor → Result Cell Denial
upward_judgement registers target descriptor = judgement descriptor (calling_up registers target) target.ring target.word

-- the way back in the ring to which an upward call goes: the lower ring is in the gate alone
abbrev pub way_back_in : ℕ → Registers → PointerParts
way_back_in ring registers = record registers.procedure { ring = ring }

-- the gate that an upward call leaves
pub record IsLeft (before : Registers) (descriptor : Descriptor) (gate : ReturnGate) : Type 0 where
  pub lower : gate.lower ≡ before.ring
  pub upper : gate.upper ≡ descriptor.brackets.r1
  pub procedure : gate.procedure ≡ before.procedure
  pub stack : slice_get before.pr 0 ≡ Some gate.pr0

-- the registers before and after a granted upward call, and the gate that it leaves: the process goes on at the target,
-- in the first bracket, with that ring's stack in pointer register 0 and the way back in pointer register 7, and no
-- pointer register stays below that ring
pub record IsUpcalled (before : Registers) (target : PointerParts) (descriptor : Descriptor) (gate : ReturnGate) (after : Registers) : Type 0 where
  pub left : IsLeft before descriptor gate
  pub current : after.ring ≡ descriptor.brackets.r1
  pub procedure : after.procedure ≡ going_on target after.ring
  pub stack : slice_get after.pr 0 ≡ Some (stack_base after.ring)
  pub back : slice_get after.pr 7 ≡ Some (way_back_in after.ring before)
  pub others : (number : ℕ) → 1 ≤ number → number ≤ 6 → slice_get after.pr number ≡ option_map (raised_to after.ring) (slice_get before.pr number)
  pub count : length after.pr ≡ length before.pr
  pub accumulator : after.a ≡ before.a

-- and a granted return through a gate: the process goes on where the caller was, in its ring and with its stack
pub record IsDownreturned (before : Registers) (gate : ReturnGate) (after : Registers) : Type 0 where
  pub current : after.ring ≡ gate.lower
  pub procedure : after.procedure ≡ gate.procedure
  pub stack : slice_get after.pr 0 ≡ Some gate.pr0
  pub others : (number : ℕ) → 1 ≤ number → slice_get after.pr number ≡ slice_get before.pr number
  pub count : length after.pr ≡ length before.pr
  pub accumulator : after.a ≡ before.a

-- the gate, as a function of the registers before the call: there are eight pointer registers
abbrev pub gate_left : Registers → Descriptor → ReturnGate
gate_left registers descriptor =
    record { lower = registers.ring; upper = descriptor.brackets.r1; procedure = registers.procedure; pr0 = slice_index_or registers.pr 0 registers.procedure }

-- the registers after an upward call
abbrev pub upcalled : Registers → PointerParts → Descriptor → Registers
upcalled registers target descriptor =
    let ring : ℕ = descriptor.brackets.r1 in
    record registers {
      ring = ring;
      procedure = going_on target ring;
      pr = slice_set (slice_set (map (raised_to ring) registers.pr) 0 (stack_base ring)) 7 (way_back_in ring registers);
    }

-- and after a return through a gate
abbrev pub downreturned : Registers → ReturnGate → Registers
downreturned registers gate =
    record registers { ring = gate.lower; procedure = gate.procedure; pr = slice_set registers.pr 0 gate.pr0 }
