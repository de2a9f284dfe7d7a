-- Lines that fetch, call and return: right ones, and wrong ones that are one change away from them, which the line rule
-- refuses. Numbers are decimal.
use Rattle.std.specs.Prelude.{ℕ, nat_eq, true, false, if◌then◌else◌, [], ◌∷◌}
use Rattle.mx_sdw.specs.Descriptors.{Descriptor, segment_desc}
use Rattle.mx_sdw.specs.declared.denials.Denial.{Denial}
use Rattle.mx_sdw.specs.declared.denials.Denial.TheVariants as denial
use Rattle.mx_ptr.specs.Pointers.{PointerParts}
use Rattle.mx_call.specs.Registers.{Registers}
use Rattle.mx_upcall.specs.Control.{Control, ungated}
use Rattle.mx_core.specs.declared.elements.Element.{Element}
use Rattle.mx_core.specs.declared.elements.Event.TheVariants.{Seen}
use Rattle.mx_core.specs.declared.elements.Kind.TheVariants as kind
use Rattle.mx_core.specs.declared.elements.Outcome.{Outcome}
use Rattle.mx_core.specs.declared.elements.Outcome.TheVariants as outcome
use Rattle.mx_script.specs.declared.lines.Base.TheVariants.{Segment, Register}
use Rattle.mx_script.specs.declared.lines.Line.{Line}
use Rattle.mx_script.specs.declared.lines.Line.TheVariants as line
use Rattle.mx_transcript.specs.declared.transcripts.Event2.TheVariants.{Core}
use Rattle.mx_transcript.specs.declared.transcripts.Result2.{Result2}
use Rattle.mx_transcript.specs.declared.transcripts.Result2.TheVariants as result
use Rattle.mx_transcript.specs.Lines.{IsLine}
use Rattle.mx_transcript.specs.PointerLines.{pointer}
use Rattle.mx_transcript.specs.Settings.{Setting}

-- segment 9 has two gates, which ring 5 and below may call, and runs in rings 1 to 3; segment 8 and all others run in
-- ring 4 alone and have no gate
abbrev pub access : ℕ → Descriptor
access segno =
    if nat_eq segno 9 then segment_desc (record { r1 = 1; r2 = 3; r3 = 5 }) true true false 2 9 64
    else segment_desc (record { r1 = 4; r2 = 4; r3 = 4 }) true true false 0 8 64

abbrev pub setting : Setting
setting = record { process = 1; journal = []; full = false; descriptor = λ e. access e.segno }

-- the registers of a process that runs in segment 8, in ring 4; register 2 points to the gate 9|1
abbrev pub outside : Registers
outside = record {
  ring = 4;
  procedure = pointer 4 8 0;
  pr = pointer 4 4 0 ∷ pointer 4 4 0 ∷ pointer 4 9 1 ∷ pointer 4 4 0 ∷ pointer 4 4 0 ∷ pointer 4 4 0 ∷ pointer 4 4 0
      ∷ pointer 4 4 0 ∷ [];
  a = 5;
}

-- and after it called that gate: it runs in segment 9, in ring 3, with that ring's stack and the way back
abbrev pub inside : Registers
inside = record {
  ring = 3;
  procedure = pointer 3 9 1;
  pr = pointer 3 3 0 ∷ pointer 4 4 0 ∷ pointer 4 9 1 ∷ pointer 4 4 0 ∷ pointer 4 4 0 ∷ pointer 4 4 0 ∷ pointer 4 4 0
      ∷ pointer 4 8 0 ∷ [];
  a = 5;
}

-- and after it returned: no register is below ring 4
abbrev pub back : Registers
back = record {
  ring = 4;
  procedure = pointer 4 8 0;
  pr = pointer 4 3 0 ∷ pointer 4 4 0 ∷ pointer 4 9 1 ∷ pointer 4 4 0 ∷ pointer 4 4 0 ∷ pointer 4 4 0 ∷ pointer 4 4 0
      ∷ pointer 4 8 0 ∷ [];
  a = 5;
}

-- and after a call within segment 8
abbrev pub onward : Registers
onward = record {
  ring = 4;
  procedure = pointer 4 8 7;
  pr = pointer 4 4 0 ∷ pointer 4 4 0 ∷ pointer 4 9 1 ∷ pointer 4 4 0 ∷ pointer 4 4 0 ∷ pointer 4 4 0 ∷ pointer 4 4 0
      ∷ pointer 4 8 0 ∷ [];
  a = 5;
}

-- the same registers in another ring
abbrev pub in_ring : ℕ → Registers
in_ring ring = record outside { ring = ring }

-- `call S|W`, and `call` and `return` by a register
abbrev pub call : ℕ → ℕ → Line
call segno word = line.Call (record { base = Segment segno; word = word; indirect = false })

abbrev pub call_by : ℕ → Line
call_by n = line.Call (record { base = Register n; word = 0; indirect = false })

abbrev pub return_by : ℕ → Line
return_by n = line.Return (record { base = Register n; word = 0; indirect = false })

-- what a call and a return print
abbrev pub a_call : ℕ → ℕ → ℕ → Outcome → Element
a_call ring segno word came =
    record { kind = kind.Call; segno = segno; word = word; ring = ring; point = 0; outcome = came }

abbrev pub a_return : ℕ → ℕ → ℕ → Outcome → Element
a_return ring segno word came =
    record { kind = kind.Return; segno = segno; word = word; ring = ring; point = 0; outcome = came }

abbrev pub a_fetch : Element
a_fetch = record { kind = kind.Fetch; segno = 8; word = 0; ring = 4; point = 0; outcome = outcome.Read 7 0 0 }

-- a line that makes this reference alone and ends so
abbrev pub IsOne : Registers → Line → Element → Result2 → Registers → Type 0
IsOne before l e ends after = IsLine setting (ungated before) l (Core (Seen e) ∷ []) ends (ungated after)

-- a call or a return that is denied: the registers stay
abbrev pub IsDenied : Registers → Line → (Outcome → Element) → Denial → Type 0
IsDenied g l e why = IsOne g l (e (outcome.Denied why)) (result.Denied why) g

pub record RightTransfers : Type 0 where
  -- the word at the procedure pointer
  pub fetched : IsOne outside line.Fetch a_fetch result.Done outside
  -- through a gate, by its address and by a register, and back
  pub gate : IsOne outside (call 9 1) (a_call 4 9 1 (outcome.Entered 3)) (result.Moved 3 (pointer 3 9 1)) inside
  pub by_register : IsOne outside (call_by 2) (a_call 4 9 1 (outcome.Entered 3)) (result.Moved 3 (pointer 3 9 1)) inside
  pub back : IsOne inside (return_by 7) (a_return 4 8 0 (outcome.Entered 4)) (result.Moved 4 (pointer 4 8 0)) back
  -- within a segment, at a word that is no gate
  pub within : IsOne outside (call 8 7) (a_call 4 8 7 (outcome.Entered 4)) (result.Moved 4 (pointer 4 8 7)) onward
  -- each denial of rings and gates
  pub no_gate : IsDenied outside (call 9 2) (a_call 4 9 2) denial.Gate
  pub too_high : IsDenied (in_ring 6) (call 9 1) (a_call 6 9 1) denial.CallBracket
  pub upward : IsDenied inside (call 8 0) (a_call 3 8 0) denial.UpwardCall
  pub raised : IsDenied (in_ring 2) (call_by 2) (a_call 4 9 1) denial.RaisedRing
  pub bad_return : IsDenied outside (return_by 2) (a_return 4 9 1) denial.BadReturn

-- no such line
abbrev pub Never : Registers → Line → Element → Result2 → Type 0
Never before l e ends = (after : Control) → IsLine setting (ungated before) l (Core (Seen e) ∷ []) ends after → ⊥

pub record WrongTransfers : Type 0 where
  -- a call enters in the effective ring, or in the first bracket
  pub effective : Never outside (call 9 1) (a_call 4 9 1 (outcome.Entered 4)) (result.Moved 4 (pointer 4 9 1))
  pub first : Never outside (call 9 1) (a_call 4 9 1 (outcome.Entered 1)) (result.Moved 1 (pointer 1 9 1))
  -- at a word that is no gate, from above the third bracket, from below the first, or into a higher ring
  pub any_word : Never outside (call 9 2) (a_call 4 9 2 (outcome.Entered 3)) (result.Moved 3 (pointer 3 9 2))
  pub from_outside : Never (in_ring 6) (call 9 1) (a_call 6 9 1 (outcome.Entered 3)) (result.Moved 3 (pointer 3 9 1))
  pub upward : Never inside (call 8 0) (a_call 3 8 0 (outcome.Entered 4)) (result.Moved 4 (pointer 4 8 0))
  pub raised : Never (in_ring 2) (call_by 2) (a_call 4 9 1 (outcome.Entered 3)) (result.Moved 3 (pointer 3 9 1))
  -- a call by a register in the current ring
  pub ring_left_out : Never (in_ring 2) (call_by 2) (a_call 2 9 1 (outcome.Entered 2)) (result.Moved 2 (pointer 2 9 1))
  -- within the segment a gate is asked for
  pub gate_within : Never outside (call 8 7) (a_call 4 8 7 (outcome.Denied denial.Gate)) (result.Denied denial.Gate)
  -- a return into a lower ring; one that keeps the ring; one printed as a call
  pub lower : Never outside (return_by 2) (a_return 4 9 1 (outcome.Entered 3)) (result.Moved 3 (pointer 3 9 1))
  pub kept : Never inside (return_by 7) (a_return 4 8 0 (outcome.Entered 3)) (result.Moved 3 (pointer 3 8 0))
  pub other_kind : Never inside (return_by 7) (a_call 4 8 0 (outcome.Entered 4)) (result.Moved 4 (pointer 4 8 0))
  -- a result with another ring or another place than those entered
  pub other_ring : Never outside (call 9 1) (a_call 4 9 1 (outcome.Entered 3)) (result.Moved 4 (pointer 4 9 1))
  pub other_place : Never outside (call 9 1) (a_call 4 9 1 (outcome.Entered 3)) (result.Moved 3 (pointer 3 8 0))
  -- a fetch elsewhere, in another ring, or into A
  pub elsewhere : Never outside line.Fetch (record a_fetch { word = 1 }) result.Done
  pub in_another_ring : Never outside line.Fetch (record a_fetch { ring = 5 }) result.Done
  pub into_a : Never outside line.Fetch a_fetch (result.A 7)

-- the granted call and the granted return do not leave these registers
abbrev pub NotCalled : Registers → Type 0
NotCalled after =
    IsOne outside (call 9 1) (a_call 4 9 1 (outcome.Entered 3)) (result.Moved 3 (pointer 3 9 1)) after → ⊥

abbrev pub NotReturned : Registers → Type 0
NotReturned after =
    IsOne inside (return_by 7) (a_return 4 8 0 (outcome.Entered 4)) (result.Moved 4 (pointer 4 8 0)) after → ⊥

-- the registers after the call, with these in place of the stack and the way back
abbrev pub inside_with : PointerParts → PointerParts → Registers
inside_with stack way = record inside {
  pr = stack ∷ pointer 4 4 0 ∷ pointer 4 9 1 ∷ pointer 4 4 0 ∷ pointer 4 4 0 ∷ pointer 4 4 0 ∷ pointer 4 4 0 ∷ way ∷ [];
}

pub record WrongRegisters : Type 0 where
  -- the stack of the old ring; the way back in the new ring; no way back; another accumulator
  pub old_stack : NotCalled (inside_with (pointer 4 4 0) (pointer 4 8 0))
  pub new_ring : NotCalled (inside_with (pointer 3 3 0) (pointer 3 8 0))
  pub no_way_back : NotCalled (inside_with (pointer 3 3 0) (pointer 4 4 0))
  pub other_a : NotCalled (record inside { a = 6 })
  -- a register stays below the ring after a return; all are lowered to it; the ring stays
  pub unraised : NotReturned (record back { pr = inside.pr })
  pub another_stack : NotReturned (record back { pr = outside.pr })
  pub ring_kept : NotReturned (record back { ring = 3 })
