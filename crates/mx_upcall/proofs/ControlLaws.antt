-- Calls and returns leave registers and return gates sound, whichever way they go.
use Rattle.std.proofs.Common.{◌≡◌, ◌<◌, ◌≤◌, List, [], ◌∷◌, length, drop, Some, refl, subst, arith}
use Rattle.std.specs.List.{All}
use Rattle.std.proofs.lemmas.Bool.{le-ltb}
use Rattle.std.proofs.lemmas.List.Elements.{All-cons, All-head, All-drop}
use Rattle.mx_sdw.specs.Descriptors.{Descriptor}
use Rattle.mx_sdw.specs.Judging.{judgement}
use Rattle.mx_ptr.specs.Pointers.{PointerParts}
use Rattle.mx_call.specs.Registers.{Registers, IsSound}
use Rattle.mx_call.specs.Transfers.{call_judgement}
use Rattle.mx_upcall.specs.Control.{Control, calling, way_down}
use Rattle.mx_upcall.specs.Gates.{ReturnGate, pushed, popped}
use Rattle.mx_upcall.specs.Soundness.{IsSoundGate, AreSoundGates}
use Rattle.mx_upcall.specs.Upcalls.{gate_left, upcalled, downreturned}
use Rattle.mx_upcall.proofs.GateLaws.{only_the_top_one}
use Rattle.mx_upcall.proofs.UpcallLaws.{exactly_upcalled, upcalled_stays_sound, exactly_downreturned, downreturned_stays_sound}

-- a call from the first bracket or above is judged alike whether it may go upward or not
pub call_alike : (c : Control) (target : PointerParts) (d : Descriptor) → d.brackets.r1 ≤ target.ring
    → judgement d (calling c target) target.ring target.word ≡ call_judgement c.registers target d
unfolding judgement
call_alike c target d h = rw (le-ltb target.ring d.brackets.r1 h)

-- the gate that an upward call leaves
pub left_sound : (g : Registers) (target : PointerParts) (d : Descriptor) → IsSound g → g.ring ≤ target.ring
    → target.ring < d.brackets.r1 → IsSoundGate (gate_left g d)
left_sound g target d s effective up =
    let some : 0 < length g.pr = (let eight = s.eight in omega arith) in
    record {
      falls = omega arith;
      above = s.above 0 g.procedure some;
      plain = s.plain 0 g.procedure some;
      procedure = s.procedure;
    }

-- after an upward call
pub upcalled_sound : (g : Registers) (target : PointerParts) (d : Descriptor) → IsSound g → IsSound (upcalled g target d)
upcalled_sound g target d s =
    upcalled_stays_sound g (upcalled g target d) target d (gate_left g d) s
    ((exactly_upcalled g (upcalled g target d) target d (gate_left g d) s.eight).1 (refl, refl))

pub pushed_sound : (c : Control) (gate : ReturnGate) → AreSoundGates c.gates → IsSoundGate gate
    → AreSoundGates (pushed c.gates gate)
pushed_sound c gate are is = All-cons IsSoundGate gate c.gates.gates is are

-- the gate through which a return goes is the top one
pub top_way : (c : Control) (target : PointerParts) (gate : ReturnGate) → way_down c target ≡ Some gate
    → c.gates.gates ≡ gate ∷ (popped c.gates).gates
top_way c target gate e =
    let is = (only_the_top_one c.gates c.registers.ring target gate).0 e in top_of c.gates.gates gate is.below is.top
  where
    top_of : (gates : List ReturnGate) (gate : ReturnGate) (below : List ReturnGate) → gates ≡ gate ∷ below
        → gates ≡ gate ∷ drop 1 gates
    top_of [] gate below h = cc
    top_of (top ∷ rest) gate below h = cc

-- after a return through it
pub downreturned_sound : (c : Control) (target : PointerParts) (gate : ReturnGate) → IsSound c.registers
    → AreSoundGates c.gates → way_down c target ≡ Some gate
    → IsSound (downreturned c.registers gate) × AreSoundGates (popped c.gates)
downreturned_sound c target gate s are e =
    let is = (only_the_top_one c.gates c.registers.ring target gate).0 e in
    let here : IsSoundGate gate =
    All-head IsSoundGate gate (popped c.gates).gates
    (subst (λ (gates : List ReturnGate). All IsSoundGate gates) (top_way c target gate e) are) in (
      downreturned_stays_sound c.registers (downreturned c.registers gate) gate s here is.from
          ((exactly_downreturned c.registers (downreturned c.registers gate) gate s.eight).1 refl),
      All-drop IsSoundGate 1 c.gates.gates are,
    )
