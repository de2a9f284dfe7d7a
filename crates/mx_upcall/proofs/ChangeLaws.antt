-- What calls and returns make of registers and gates together, and that all of it can be stored.
use Rattle.std.proofs.Common.{◌≡◌, ◌⊎◌, inl, inr, ℕ, suc, ◌<◌, ◌≤◌, Bool, true, false, List, [], ◌∷◌, length, drop, if◌then◌else◌, slice_index_or, Option, Some, None, Result, Ok, Err, IsOk, refl, sym, ◌∙◌, ap, subst, rules, arith}
use Rattle.std.proofs.lemmas.Bool.{le-ltb, lt-ltb}
use Rattle.std.proofs.lemmas.List.Elements.{All-head, All-drop}
use Rattle.std.specs.List.{All}
use Rattle.std.specs.Prelude.{nat_eq}
use Rattle.mx_sdw.proofs.JudgingLaws.{granted_is_allowed}
use Rattle.mx_sdw.specs.Granting.{CanEnter, CanGoUp}
use Rattle.mx_sdw.specs.declared.denials.Denial.{Denial}
use Rattle.mx_sdw.specs.declared.descriptors.Cell.{Cell}
use Rattle.mx_sdw.specs.Descriptors.{Descriptor}
use Rattle.mx_sdw.specs.Judging.{judgement}
use Rattle.mx_sdw.specs.declared.operations.Op.TheVariants.{Call}
use Rattle.mx_ptr.specs.Pointers.{PointerParts, IsPackable}
use Rattle.mx_call.specs.Registers.{Registers, ArePackable}
use Rattle.mx_call.specs.Transfers.{call_judgement, called, returned, IsCalled, IsReturned}
use Rattle.mx_call.proofs.RegisterLaws.{exactly_called, one_return, called_packable, returned_stays_packable}
use Rattle.mx_upcall.proofs.ControlLaws.{top_way}
use Rattle.mx_upcall.proofs.UpcallLaws.{exactly_upcalled, exactly_downreturned, packable_upcalled, packable_downreturned}
use Rattle.mx_upcall.specs.Changes.{keeping, changed}
use Rattle.mx_upcall.specs.Control.{Control, with_registers, calling, after_call, way_down, after_return_through, after_return}
use Rattle.mx_upcall.specs.Gates.{ReturnGate, ReturnGates, has_room, pushed, popped, usable, leads_back}
use Rattle.mx_upcall.specs.Soundness.{IsPackableGate, ArePackableGates, IsPackableControl}
use Rattle.mx_upcall.specs.Upcalls.{upward_judgement, gate_left, upcalled, IsUpcalled, IsDownreturned}
use Rattle.mx_upcall.specs.declared.controls.GateStep.TheVariants.{Kept, Left, Used}

-- a call from below the first bracket is granted only where it may go upward
closed : (d : Descriptor) (current : ℕ) (same : Bool) (ring word : ℕ) → ring < d.brackets.r1
    → IsOk (judgement d (Call current same false) ring word) → ⊥
closed d current same ring word low ok = by_ruling (judgement d (Call current same false) ring word) refl ok
  where
    by_way : CanEnter d ring word current same ⊎ CanGoUp d ring word false → ⊥
    by_way (inl enters) = (let above = enters.above in omega arith)
    by_way (inr up) = cc (up.on)

    by_ruling : (ruled : Result Cell Denial) → judgement d (Call current same false) ring word ≡ ruled → IsOk ruled → ⊥
    by_ruling (Ok cell) e granted = by_way (granted_is_allowed d (Call current same false) ring word cell e).access.way
    by_ruling (Err denial) e granted = absurd (cc)

pub granted_up : (c : Control) (target : PointerParts) (d : Descriptor) → target.ring < d.brackets.r1
    → IsOk (judgement d (calling c target) target.ring target.word)
    → (has_room c.gates ≡ true) × IsOk (upward_judgement c.registers target d)
granted_up c target d low ok = by_room (has_room c.gates) ok
  where
    by_room : (room : Bool) → IsOk (judgement d (Call c.registers.ring (nat_eq target.segno c.registers.procedure.segno) room) target.ring target.word)
        → (room ≡ true) × IsOk (upward_judgement c.registers target d)
    by_room true granted = (refl, granted)
    by_room false granted =
        absurd (closed d c.registers.ring (nat_eq target.segno c.registers.procedure.segno) target.ring target.word low granted)

-- what they make of registers and gates
pub left_behind : (c : Control) (target : PointerParts) (d : Descriptor) (registers : Registers) (gate : ReturnGate)
    → target.ring < d.brackets.r1 → length c.registers.pr ≡ 8 → IsUpcalled c.registers target d gate registers
    → changed c (record { registers = registers; gates = Left gate }) ≡ after_call c target d
left_behind c target d registers gate low eight is =
    let so = (exactly_upcalled c.registers registers target d gate eight).0 is in
    ap (λ (r : Registers). changed c (record { registers = r; gates = Left gate })) so.1
    ∙ ap (λ (g : ReturnGate). changed c (record { registers = upcalled c.registers target d; gates = Left g })) so.0
    ∙ ap (λ (below : Bool). if below
    then record { registers = upcalled c.registers target d; gates = pushed c.gates (gate_left c.registers d) }
    else with_registers c (called c.registers target d)) (sym (lt-ltb target.ring d.brackets.r1 low))

pub kept_down : (c : Control) (target : PointerParts) (d : Descriptor) (registers : Registers) → d.brackets.r1 ≤ target.ring
    → length c.registers.pr ≡ 8 → IsCalled c.registers target d registers
    → changed c (record { registers = registers; gates = Kept }) ≡ after_call c target d
kept_down c target d registers high eight is =
    ap (λ (r : Registers). changed c (record { registers = r; gates = Kept })) ((exactly_called c.registers registers target d eight).0 is)
    ∙ ap (λ (below : Bool). if below
    then record { registers = upcalled c.registers target d; gates = pushed c.gates (gate_left c.registers d) }
    else with_registers c (called c.registers target d)) (sym (le-ltb target.ring d.brackets.r1 high))

pub used_up : (c : Control) (target : PointerParts) (registers : Registers) (gate : ReturnGate) → way_down c target ≡ Some gate
    → length c.registers.pr ≡ 8 → IsDownreturned c.registers gate registers
    → changed c (record { registers = registers; gates = Used }) ≡ after_return c target
used_up c target registers gate way eight is =
    ap (λ (r : Registers). changed c (record { registers = r; gates = Used })) ((exactly_downreturned c.registers registers gate eight).0 is)
    ∙ ap (λ (way : Option ReturnGate). after_return_through way c target) (sym way)

pub kept_up : (c : Control) (target : PointerParts) (registers : Registers) → way_down c target ≡ None
    → IsReturned c.registers target registers
    → changed c (record { registers = registers; gates = Kept }) ≡ after_return c target
kept_up c target registers way is =
    ap (λ (r : Registers). changed c (record { registers = r; gates = Kept })) (one_return c.registers registers target is)
    ∙ ap (λ (way : Option ReturnGate). after_return_through way c target) (sym way)

-- where the registers stay as they are, so does all
pub kept_all : (c : Control) (registers : Registers) → registers ≡ c.registers → c ≡ changed c (keeping registers)
kept_all c registers e = same_control c (changed c (keeping registers)) (sym e) refl
  where
    same_control : (a b : Control) → a.registers ≡ b.registers → a.gates ≡ b.gates → a ≡ b
    same_control a b registers gates = search rules

-- all of it can be stored
first_packable : (pr : List PointerParts) (p : PointerParts) → All IsPackable pr → IsPackable p → IsPackable (slice_index_or pr 0 p)
first_packable [] p all is = is
first_packable (x ∷ pr) p all is = all 0 p (omega arith)

left_packable : (g : Registers) (d : Descriptor) → ArePackable g → IsPackableGate (gate_left g d)
left_packable g d is =
    record { ring = is.ring; procedure = is.procedure; pr0 = first_packable g.pr g.procedure is.pr is.procedure }

pushed_packable : (gates : ReturnGates) (gate : ReturnGate) → ArePackableGates gates → IsPackableGate gate → ArePackableGates (pushed gates gate)
pushed_packable gates gate all is = search rules

popped_packable : (gates : ReturnGates) → ArePackableGates gates → ArePackableGates (popped gates)
popped_packable gates all = All-drop IsPackableGate 1 gates.gates all

pub call_packable : (c : Control) (target : PointerParts) (d : Descriptor) → IsPackableControl c → IsPackable target → d.brackets.r1 ≤ 7
    → IsPackableControl (after_call c target d)
call_packable c target d is at low = by_test _
  where
    by_test : (below : Bool) → IsPackableControl (if below
        then record { registers = upcalled c.registers target d; gates = pushed c.gates (gate_left c.registers d) }
        else with_registers c (called c.registers target d))
    by_test true = record {
      registers = packable_upcalled c.registers target d is.registers at low;
      gates = pushed_packable c.gates (gate_left c.registers d) is.gates (left_packable c.registers d is.registers);
    }
    by_test false = record { registers = called_packable c.registers target d is.registers at; gates = is.gates }

top_packable : (c : Control) (target : PointerParts) (gate : ReturnGate) → ArePackableGates c.gates → way_down c target ≡ Some gate
    → IsPackableGate gate
top_packable c target gate all way =
    All-head IsPackableGate gate (popped c.gates).gates
    (subst (λ (gates : List ReturnGate). All IsPackableGate gates) (top_way c target gate way) all)

pub return_packable : (c : Control) (target : PointerParts) → IsPackableControl c → IsPackable target
    → IsPackableControl (after_return c target)
return_packable c target is at = by_way (way_down c target) refl
  where
    by_way : (way : Option ReturnGate) → way_down c target ≡ way → IsPackableControl (after_return_through way c target)
    by_way (Some gate) e = record {
      registers = packable_downreturned c.registers gate is.registers (top_packable c target gate is.gates e);
      gates = popped_packable c.gates is.gates;
    }
    by_way None e = record {
      registers = returned_stays_packable c.registers (returned c.registers target) target is.registers at
          (record { current = refl; procedure = refl; pointers = refl; accumulator = refl });
      gates = is.gates;
    }
