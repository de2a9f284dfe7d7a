-- What a call and a return make of the registers, after Schroeder and Saltzer. This model's own choice is that a call
-- itself leaves the way back in pointer register 7. The target's ring is the effective ring.
use Rattle.std.specs.Prelude.{◌≡◌, ℕ, ◌<◌, ◌≤◌, min, nat_eq, false, length, map, slice_get, slice_set, Some, Result}
use Rattle.mx_sdw.specs.declared.descriptors.Cell.{Cell}
use Rattle.mx_sdw.specs.declared.denials.Denial.{Denial}
use Rattle.mx_sdw.specs.declared.operations.Op.{Op}
use Rattle.mx_sdw.specs.declared.operations.Op.TheVariants.{Call, Return}
use Rattle.mx_sdw.specs.Descriptors.{Descriptor}
use Rattle.mx_sdw.specs.Judging.{judgement}
use Rattle.mx_ptr.specs.Pointers.{PointerParts}
use Rattle.mx_call.specs.Registers.{Registers, going_on, stack_base, way_back, raised_to}

-- a call of a target from these registers, which may stay within the segment that runs; upward calls are off
abbrev pub calling : Registers → PointerParts → Op
calling registers target = Call registers.ring (nat_eq target.segno registers.procedure.segno) false

-- what the judging rule says of the call
abbrev pub call_judgement : Registers → PointerParts → Descriptor → Result Cell Denial
call_judgement registers target descriptor = judgement descriptor (calling registers target) target.ring target.word

-- what it says of a return to a target
abbrev pub return_judgement : PointerParts → Descriptor → Result Cell Denial
return_judgement target descriptor = judgement descriptor Return target.ring target.word

-- the registers before and after a granted call: the process goes on at the target, in the smaller of the effective
-- ring and the second bracket, with that ring's stack in pointer register 0 and the way back in pointer register 7
pub record IsCalled (before : Registers) (target : PointerParts) (descriptor : Descriptor) (after : Registers) : Type 0 where
  pub current : after.ring ≡ min target.ring descriptor.brackets.r2
  pub procedure : after.procedure ≡ going_on target after.ring
  pub stack : slice_get after.pr 0 ≡ Some (stack_base after.ring)
  pub back : slice_get after.pr 7 ≡ Some (way_back before)
  pub others : (number : ℕ) → 1 ≤ number → number ≤ 6 → slice_get after.pr number ≡ slice_get before.pr number
  pub count : length after.pr ≡ length before.pr
  pub accumulator : after.a ≡ before.a

-- and a granted return: the process goes on at the target, in the effective ring, and no pointer register stays below
-- it
pub record IsReturned (before : Registers) (target : PointerParts) (after : Registers) : Type 0 where
  pub current : after.ring ≡ target.ring
  pub procedure : after.procedure ≡ going_on target after.ring
  pub pointers : after.pr ≡ map (raised_to after.ring) before.pr
  pub accumulator : after.a ≡ before.a

-- the registers after a granted call, as a function of those before
abbrev pub called : Registers → PointerParts → Descriptor → Registers
called registers target descriptor =
    let ring : ℕ = min target.ring descriptor.brackets.r2 in
    record registers {
      ring = ring;
      procedure = going_on target ring;
      pr = slice_set (slice_set registers.pr 0 (stack_base ring)) 7 (way_back registers);
    }

-- and after a granted return
abbrev pub returned : Registers → PointerParts → Registers
returned registers target =
    record registers { ring = target.ring; procedure = going_on target target.ring; pr = map (raised_to target.ring) registers.pr }

-- a target that is entered through a gate: one of the first words, from above the second bracket up to the third
pub record IsGate (target : PointerParts) (descriptor : Descriptor) : Type 0 where
  pub word : target.word < descriptor.gate
  pub above : descriptor.brackets.r2 < target.ring
  pub within : target.ring ≤ descriptor.brackets.r3
