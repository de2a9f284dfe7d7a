-- Lines that call upward and return through return gates: right ones, and wrong ones that are one change away from them,
-- which the line rule refuses. Numbers are decimal.
use Rattle.std.specs.Prelude.{ℕ, zero, suc, nat_eq, true, false, if◌then◌else◌, List, [], ◌∷◌}
use Rattle.mx_sdw.specs.Descriptors.{Descriptor, segment_desc}
use Rattle.mx_sdw.specs.declared.denials.Denial.{Denial}
use Rattle.mx_sdw.specs.declared.denials.Denial.TheVariants as denial
use Rattle.mx_ptr.specs.Pointers.{PointerParts}
use Rattle.mx_call.specs.Registers.{Registers}
use Rattle.mx_upcall.specs.Control.{Control, ungated}
use Rattle.mx_upcall.specs.Gates.{ReturnGate}
use Rattle.mx_core.specs.declared.elements.Element.{Element}
use Rattle.mx_core.specs.declared.elements.Event.TheVariants.{Seen}
use Rattle.mx_core.specs.declared.elements.Outcome.{Outcome}
use Rattle.mx_core.specs.declared.elements.Outcome.TheVariants as outcome
use Rattle.mx_script.specs.declared.lines.Base.TheVariants.{Segment}
use Rattle.mx_script.specs.declared.lines.Line.{Line}
use Rattle.mx_script.specs.declared.lines.Line.TheVariants as line
use Rattle.mx_transcript.specs.declared.transcripts.Event2.TheVariants.{Core}
use Rattle.mx_transcript.specs.declared.transcripts.Result2.{Result2}
use Rattle.mx_transcript.specs.declared.transcripts.Result2.TheVariants as result
use Rattle.mx_transcript.specs.CallLines.{call, return_by, a_call, a_return}
use Rattle.mx_transcript.specs.Lines.{IsLine}
use Rattle.mx_transcript.specs.PointerLines.{pointer}
use Rattle.mx_transcript.specs.Settings.{Setting}

-- segment 11 has two gates and runs in rings 5 and 6; segment 10 and all others run in ring 4 alone and have no gate;
-- segment 12 may not be executed any more
abbrev pub access : ℕ → Descriptor
access segno =
    if nat_eq segno 11 then segment_desc (record { r1 = 5; r2 = 6; r3 = 6 }) true true false 2 11 64
    else segment_desc (record { r1 = 4; r2 = 4; r3 = 4 }) true (if nat_eq segno 12 then false else true) false 0 10 64

abbrev pub setting : Setting
setting = record { process = 1; journal = []; full = false; descriptor = λ e. access e.segno }

-- a process with these registers and these return gates, of which it may have sixteen
abbrev pub with_gates : Registers → List ReturnGate → Control
with_gates registers gates = record { registers = registers; gates = record { most = 16; gates = gates } }

-- a process runs in segment 10, in ring 4
abbrev pub below : Registers
below = record {
  ring = 4;
  procedure = pointer 4 10 0;
  pr = pointer 4 4 0 ∷ pointer 4 10 3 ∷ pointer 6 9 2 ∷ pointer 4 4 0 ∷ pointer 4 4 0 ∷ pointer 4 4 0 ∷ pointer 4 4 0
      ∷ pointer 4 8 0 ∷ [];
  a = 7;
}

-- or in segment 11, below its first bracket
abbrev pub inside : Registers
inside = record below { procedure = pointer 4 11 0 }

-- after it called 11|1 upward: it runs there, in ring 5, with these in pointer registers 0 and 7, and no other register
-- is below ring 5
abbrev pub above_with : PointerParts → PointerParts → Registers
above_with stack way = record {
  ring = 5;
  procedure = pointer 5 11 1;
  pr = stack ∷ pointer 5 10 3 ∷ pointer 6 9 2 ∷ pointer 5 4 0 ∷ pointer 5 4 0 ∷ pointer 5 4 0 ∷ pointer 5 4 0 ∷ way ∷ [];
  a = 7;
}

-- that ring's stack and the way back
abbrev pub above : Registers
above = above_with (pointer 5 5 0) (pointer 5 10 0)

-- after it returned: its place, its ring and its stack are those before the call
abbrev pub back : Registers
back = record (above_with (pointer 4 4 0) (pointer 5 10 0)) { ring = 4; procedure = pointer 4 10 0 }

-- after a call within segment 11, and after the return from it
abbrev pub onward : Registers
onward = record (above_with (pointer 5 5 0) (pointer 5 11 1)) { procedure = pointer 5 11 7 }

abbrev pub onward_back : Registers
onward_back = above_with (pointer 5 5 0) (pointer 5 11 1)

-- the gate that the upward call leaves; one to another word; and one to the segment that may not be executed
abbrev pub gate : ReturnGate
gate = record { lower = 4; upper = 5; procedure = pointer 4 10 0; pr0 = pointer 4 4 0 }

abbrev pub other : ReturnGate
other = record gate { procedure = pointer 4 9 2 }

abbrev pub closed : ReturnGate
closed = record gate { procedure = pointer 4 12 0 }

-- so many gates
abbrev pub many : ℕ → List ReturnGate
many zero = []
many (suc n) = other ∷ many n

abbrev pub return : ℕ → ℕ → Line
return segno word = line.Return (record { base = Segment segno; word = word; indirect = false })

-- a line that makes this reference alone and ends so
abbrev pub IsOne : Control → Line → Element → Result2 → Control → Type 0
IsOne before l e ends after = IsLine setting before l (Core (Seen e) ∷ []) ends after

-- a call or a return that is denied: the registers and the gates stay
abbrev pub IsDenied : Control → Line → (Outcome → Element) → Denial → Type 0
IsDenied c l e why = IsOne c l (e (outcome.Denied why)) (result.Denied why) c

-- from these gates the upward call leaves this; and the return through the top one
abbrev pub LeavesUp : List ReturnGate → Control → Type 0
LeavesUp gates after =
    IsOne (with_gates below gates) (call 11 1) (a_call 4 11 1 (outcome.Entered 5)) (result.Moved 5 (pointer 5 11 1)) after

abbrev pub LeavesDown : List ReturnGate → Control → Type 0
LeavesDown gates after =
    IsOne (with_gates above gates) (return_by 7) (a_return 4 10 0 (outcome.Entered 4)) (result.Moved 4 (pointer 4 10 0)) after

-- the call within segment 11, and the return from it, under a return gate
abbrev pub LeavesOnward : Control → Type 0
LeavesOnward after =
    IsOne (with_gates above (gate ∷ [])) (call 11 7) (a_call 5 11 7 (outcome.Entered 5)) (result.Moved 5 (pointer 5 11 7))
    after

abbrev pub LeavesBack : Control → Type 0
LeavesBack after =
    IsOne (with_gates onward (gate ∷ [])) (return_by 7) (a_return 5 11 1 (outcome.Entered 5))
    (result.Moved 5 (pointer 5 11 1)) after

-- the return through the gate to the segment that may not be executed
abbrev pub LeavesClosed : Control → Type 0
LeavesClosed after =
    IsOne (with_gates above (closed ∷ [])) (return 12 0) (a_return 4 12 0 (outcome.Denied denial.NotExecutable))
    (result.Denied denial.NotExecutable) after

pub record RightUpward : Type 0 where
  -- upward: the gate is left on top of those that stand, up to the sixteenth
  pub up : LeavesUp [] (with_gates above (gate ∷ []))
  pub over : LeavesUp (other ∷ []) (with_gates above (gate ∷ other ∷ []))
  pub sixteenth : LeavesUp (many 15) (with_gates above (gate ∷ many 15))
  -- and back through it: it is asked in the ring of the caller, and the gate goes
  pub down : LeavesDown (gate ∷ []) (with_gates back [])
  pub down_over : LeavesDown (gate ∷ other ∷ []) (with_gates back (other ∷ []))
  -- an ordinary call and an ordinary return leave the gates
  pub within : LeavesOnward (with_gates onward (gate ∷ []))
  pub within_back : LeavesBack (with_gates onward_back (gate ∷ []))
  -- so does a return through a gate that is denied
  pub denied : LeavesClosed (with_gates above (closed ∷ []))
  -- each gate serves once
  pub spent : IsDenied (with_gates back []) (return_by 7) (a_return 5 10 0) denial.BadReturn
  -- where sixteen stand, or none may, the call is denied
  pub full : IsDenied (with_gates below (many 16)) (call 11 1) (a_call 4 11 1) denial.UpwardCall
  pub off : IsDenied (ungated below) (call 11 1) (a_call 4 11 1) denial.UpwardCall
  -- at a word that is no gate of the segment, also within it
  pub no_gate : IsDenied (with_gates below []) (call 11 2) (a_call 4 11 2) denial.Gate
  pub own_segment : IsDenied (with_gates inside []) (call 11 2) (a_call 4 11 2) denial.Gate

-- no such line
abbrev pub Never : Control → Line → Element → Result2 → Type 0
Never before l e ends = (after : Control) → IsOne before l e ends after → ⊥

pub record WrongUpward : Type 0 where
  -- a call enters in the effective ring, or in the second bracket
  pub effective : Never (with_gates below []) (call 11 1) (a_call 4 11 1 (outcome.Entered 4)) (result.Moved 4 (pointer 4 11 1))
  pub second : Never (with_gates below []) (call 11 1) (a_call 4 11 1 (outcome.Entered 6)) (result.Moved 6 (pointer 6 11 1))
  -- at a word that is no gate, also within the segment
  pub no_gate : Never (with_gates below []) (call 11 2) (a_call 4 11 2 (outcome.Entered 5)) (result.Moved 5 (pointer 5 11 2))
  pub own_segment : Never (with_gates inside []) (call 11 2)
      (a_call 4 11 2 (outcome.Entered 5)) (result.Moved 5 (pointer 5 11 2))
  -- a seventeenth gate; one where none may stand; a denial where one may
  pub seventeenth : Never (with_gates below (many 16)) (call 11 1) (a_call 4 11 1 (outcome.Entered 5))
      (result.Moved 5 (pointer 5 11 1))
  pub off : Never (ungated below) (call 11 1) (a_call 4 11 1 (outcome.Entered 5)) (result.Moved 5 (pointer 5 11 1))
  pub denied : Never (with_gates below (many 15)) (call 11 1) (a_call 4 11 1 (outcome.Denied denial.UpwardCall))
      (result.Denied denial.UpwardCall)
  -- a return in the effective ring, granted or denied; one printed as a call
  pub raised : Never (with_gates above (gate ∷ [])) (return_by 7) (a_return 5 10 0 (outcome.Entered 4))
      (result.Moved 4 (pointer 4 10 0))
  pub raised_denied : Never (with_gates above (gate ∷ [])) (return_by 7) (a_return 5 10 0 (outcome.Denied denial.BadReturn))
      (result.Denied denial.BadReturn)
  pub other_kind : Never (with_gates above (gate ∷ [])) (return_by 7) (a_call 4 10 0 (outcome.Entered 4))
      (result.Moved 4 (pointer 4 10 0))
  -- through no gate; one below the top; one that leads back from another ring, or to another word or segment
  pub none : Never (with_gates above []) (return_by 7) (a_return 4 10 0 (outcome.Entered 4)) (result.Moved 4 (pointer 4 10 0))
  pub below_top : Never (with_gates above (other ∷ gate ∷ [])) (return_by 7) (a_return 4 10 0 (outcome.Entered 4))
      (result.Moved 4 (pointer 4 10 0))
  pub other_ring : Never (with_gates above (record gate { upper = 6 } ∷ [])) (return_by 7) (a_return 4 10 0 (outcome.Entered 4))
      (result.Moved 4 (pointer 4 10 0))
  pub other_word : Never (with_gates above (gate ∷ [])) (return_by 1) (a_return 4 10 3 (outcome.Entered 4))
      (result.Moved 4 (pointer 4 10 3))
  pub other_segment : Never (with_gates above (gate ∷ [])) (return 9 0) (a_return 4 9 0 (outcome.Entered 4))
      (result.Moved 4 (pointer 4 9 0))
  -- a result with another ring or another place than those of the caller
  pub ring_kept : Never (with_gates above (gate ∷ [])) (return_by 7) (a_return 4 10 0 (outcome.Entered 4))
      (result.Moved 5 (pointer 4 10 0))
  pub other_place : Never (with_gates above (gate ∷ [])) (return_by 7) (a_return 4 10 0 (outcome.Entered 4))
      (result.Moved 4 (pointer 4 9 2))

-- the granted and denied lines do not leave these registers and gates
pub record WrongLeft : Type 0 where
  -- after the upward call: no gate; one below those that stand; one that leads elsewhere, from the caller's ring, into the
  -- new ring, or with the new stack
  pub not_pushed : LeavesUp [] (with_gates above []) → ⊥
  pub pushed_below : LeavesUp (other ∷ []) (with_gates above (other ∷ gate ∷ [])) → ⊥
  pub elsewhere : LeavesUp [] (with_gates above (other ∷ [])) → ⊥
  pub from_below : LeavesUp [] (with_gates above (record gate { upper = 4 } ∷ [])) → ⊥
  pub into_above : LeavesUp [] (with_gates above (record gate { lower = 5 } ∷ [])) → ⊥
  pub new_stack : LeavesUp [] (with_gates above (record gate { pr0 = pointer 5 5 0 } ∷ [])) → ⊥
  -- the way back in the caller's ring; the caller's stack; the registers not raised
  pub old_ring : LeavesUp [] (with_gates (above_with (pointer 5 5 0) (pointer 4 10 0)) (gate ∷ [])) → ⊥
  pub old_stack : LeavesUp [] (with_gates (above_with (pointer 4 4 0) (pointer 5 10 0)) (gate ∷ [])) → ⊥
  pub unraised : LeavesUp []
      (with_gates (record above {
        pr = pointer 5 5 0 ∷ pointer 4 10 3 ∷ pointer 6 9 2 ∷ pointer 4 4 0 ∷ pointer 4 4 0 ∷ pointer 4 4 0 ∷ pointer 4 4 0
            ∷ pointer 5 10 0 ∷ [];
      }) (gate ∷ [])) → ⊥
  -- after the return: the gate still there; those below it gone too; the stack of the ring that was left
  pub not_popped : LeavesDown (gate ∷ []) (with_gates back (gate ∷ [])) → ⊥
  pub all_popped : LeavesDown (gate ∷ other ∷ []) (with_gates back []) → ⊥
  pub stack_kept : LeavesDown (gate ∷ []) (with_gates (record back { pr = above.pr }) []) → ⊥
  -- a gate left by an ordinary call, or taken away by an ordinary or a denied return
  pub called_pushed : LeavesOnward (with_gates onward (other ∷ gate ∷ [])) → ⊥
  pub returned_popped : LeavesBack (with_gates onward_back []) → ⊥
  pub denied_popped : LeavesClosed (with_gates above []) → ⊥
