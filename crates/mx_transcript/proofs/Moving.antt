-- What a line's own reference makes of the registers and return gates: a granted call and a granted return move, and the
-- others stay.
use Rattle.std.proofs.Common.{◌≡◌, ◌⊎◌, inl, inr, ℕ, ◌<◌, ◌≤◌, min, nat_eq, if◌then◌else◌, refl, ap, sym, ◌∙◌, subst, Bool, Ok, Err, Result, IsOk, List, ◌∷◌, drop, Option, Some, None, arith}
use Rattle.std.proofs.lemmas.Bool.{cases_lt, lt-ltb, le-ltb}
use Rattle.mx_sdw.specs.Descriptors.{Descriptor}
use Rattle.mx_sdw.specs.Judging.{judgement, ring_after}
use Rattle.mx_sdw.specs.declared.denials.Denial.{Denial}
use Rattle.mx_sdw.specs.declared.descriptors.Cell.{Cell}
use Rattle.mx_sdw.specs.declared.operations.Op.TheVariants as op
use Rattle.mx_ptr.specs.Pointers.{PointerParts}
use Rattle.mx_call.specs.Registers.{IsSound}
use Rattle.mx_call.specs.Transfers.{call_judgement, called, returned, IsCalled, IsReturned}
use Rattle.mx_call.proofs.RegisterLaws.{exactly_called, called_stays_sound, returned_stays_sound, through_a_gate, goes_on_in}
use Rattle.mx_upcall.specs.Control.{Control, with_registers, calling, after_call, way_down, returning_through, after_return_through}
use Rattle.mx_upcall.specs.Gates.{ReturnGate, has_room, pushed, popped}
use Rattle.mx_upcall.specs.Upcalls.{gate_left, upcalled, downreturned}
use Rattle.mx_upcall.proofs.ControlLaws.{call_alike, left_sound, upcalled_sound, pushed_sound, top_way, downreturned_sound}
use Rattle.mx_core.specs.declared.elements.Kind.TheVariants as kind
use Rattle.mx_core.specs.declared.elements.Outcome.{Outcome}
use Rattle.mx_core.specs.declared.elements.Outcome.TheVariants as outcome
use Rattle.mx_script.specs.declared.lines.Line.{Line}
use Rattle.mx_script.specs.declared.lines.Line.TheVariants.{Lda, Sta, Spri, Fetch, Call, Return}
use Rattle.mx_transcript.specs.declared.transcripts.Result2.{Result2}
use Rattle.mx_transcript.specs.declared.transcripts.Result2.TheVariants as result
use Rattle.mx_transcript.specs.Courses.{Judged}
use Rattle.mx_transcript.specs.Elements.{IsJudged, Agrees}
use Rattle.mx_transcript.specs.Falls.{printed_ring}
use Rattle.mx_transcript.specs.Next.{Reference, Asks, Ends, at_place}
use Rattle.mx_transcript.specs.Rings.{IsSoundControl}
use Rattle.mx_transcript.specs.Targets.{at_target, after_target, moved}
use Rattle.mx_transcript.proofs.Ends.{IsEnded, done_ends, denied_ends, accumulated, same_end}

-- a call at a gate, as the attempt saw it
pub record IsGateSeen (j : Judged) (ring : ℕ) : Type 0 where
  pub kind : j.element.kind ≡ kind.Call
  pub granted : j.element.outcome ≡ outcome.Entered ring
  pub gate : j.element.word < j.desc.gate
  pub above : j.desc.brackets.r2 < j.element.ring
  pub within : j.element.ring ≤ j.desc.brackets.r3
  pub into : ring ≡ j.desc.brackets.r2

-- a return through the top return gate, as the attempt saw it
pub record IsWaySeen (before after : Control) (j : Judged) : Type 0 where
  pub gate : ReturnGate
  pub others : List ReturnGate
  pub top : before.gates.gates ≡ gate ∷ others
  pub popped : after.gates.gates ≡ others
  pub into : after.registers.ring ≡ gate.lower
  pub kind : j.element.kind ≡ kind.Return
  pub granted : j.element.outcome ≡ outcome.Entered gate.lower

-- how the ring fell, as the attempt saw it
abbrev pub IsFallSeen : Control → Judged → Control → Type 0
IsFallSeen g j now = IsGateSeen j now.registers.ring ⊎ IsWaySeen g now j

-- what an end makes of sound registers and gates: they stay sound, its result prints their ring, and a fall came by this
pub record IsMoved (g : Control) (ends : Result2) (now : Control) (fall : Type 0) : Type 0 where
  pub sound : IsSoundControl now
  pub printed : printed_ring g.registers.ring ends ≡ now.registers.ring
  pub gated : now.registers.ring < g.registers.ring → fall

pub stays : (g : Control) (ends : Result2) (now : Control) (fall : Type 0) → IsSoundControl g → IsEnded g ends now
    → IsMoved g ends now fall
stays g ends now fall sound is = record {
  sound = is.sound sound;
  printed = is.printed ∙ sym is.ring;
  gated = λ falls. let same = is.ring in absurd (omega arith);
}

-- the process goes on so
goes_on : (g after now : Control) (ends : Result2) (j : Judged) → moved after ≡ Ends ends now → IsSoundControl after
    → (after.registers.ring < g.registers.ring → IsFallSeen g j after) → IsMoved g ends now (IsFallSeen g j now)
goes_on g after now ends j e sound fell =
    let same : after ≡ now = cc in
    let result : result.Moved after.registers.ring after.registers.procedure ≡ ends = cc in
    subst (λ (n : Control). IsMoved g ends n (IsFallSeen g j n)) same (record {
      sound = sound;
      printed = subst (λ (r : Result2). printed_ring g.registers.ring r ≡ after.registers.ring) result refl;
      gated = fell;
    })

-- what was granted
ok_of : (r : Reference) (entered ring : ℕ) (ruled : Result Cell Denial) → Agrees r entered ruled (outcome.Entered ring)
    → IsOk ruled
ok_of r entered ring (Ok cell) a = refl
ok_of r entered ring (Err denial) a = absurd cc

entered_so : (current : ℕ) (same upward : Bool) (target : PointerParts) (entered ring : ℕ) (ruled : Result Cell Denial)
    → Agrees (at_place (op.Call current same upward) target) entered ruled (outcome.Entered ring) → ring ≡ entered
entered_so current same upward target entered ring (Ok cell) a = a
entered_so current same upward target entered ring (Err denial) a = absurd cc

returned_so : (target : PointerParts) (entered ring : ℕ) (ruled : Result Cell Denial)
    → Agrees (at_place op.Return target) entered ruled (outcome.Entered ring) → ring ≡ entered
returned_so target entered ring (Ok cell) a = a
returned_so target entered ring (Err denial) a = absurd cc

-- a granted call from the first bracket or above
plain_called : (g : Control) (target : PointerParts) (j : Judged) (ring : ℕ) → IsSound g.registers
    → g.registers.ring ≤ target.ring → j.desc.brackets.r1 ≤ target.ring
    → IsJudged (at_place (calling g target) target) j.desc j.element → j.element.outcome ≡ outcome.Entered ring
    → IsSound (called g.registers target j.desc)
    × ((called g.registers target j.desc).ring < g.registers.ring
    → IsGateSeen j (called g.registers target j.desc).ring)
plain_called g target j ring sound high from right came =
    let agrees : Agrees (at_place (calling g target) target) (ring_after j.desc (calling g target) target.ring)
    (judgement j.desc (calling g target) target.ring target.word) (outcome.Entered ring) =
    subst (λ (c : Outcome). Agrees (at_place (calling g target) target) (ring_after j.desc (calling g target) target.ring)
    (judgement j.desc (calling g target) target.ring target.word) c) came right.outcome in
    let ok : IsOk (call_judgement g.registers target j.desc) =
    subst (λ (r : Result Cell Denial). IsOk r) (call_alike g target j.desc from)
    (ok_of (at_place (calling g target) target) _ ring _ agrees) in
    let into : ring ≡ min target.ring j.desc.brackets.r2 =
    entered_so g.registers.ring (nat_eq target.segno g.registers.procedure.segno) (has_room g.gates) target _ ring _
    agrees
    ∙ goes_on_in g.registers target j.desc ok in
    let is : IsCalled g.registers target j.desc (called g.registers target j.desc) =
    (exactly_called g.registers (called g.registers target j.desc) target j.desc sound.eight).1 refl in (
      called_stays_sound g.registers (called g.registers target j.desc) target j.desc sound ok is,
      λ falls.
          let gate = through_a_gate g.registers (called g.registers target j.desc) target j.desc ok is high falls in
          record {
            kind = right.kind;
            granted = came ∙ ap (λ (r : ℕ). outcome.Entered r) into;
            gate = rw right.word gate.0.word;
            above = rw right.ring gate.0.above;
            within = rw right.ring gate.0.within;
            into = gate.1;
          },
    )

-- the registers and gates after an upward call
abbrev upward : Control → PointerParts → Descriptor → Control
upward g target d =
    record { registers = upcalled g.registers target d; gates = pushed g.gates (gate_left g.registers d) }

after_a_call : (g : Control) (target : PointerParts) (j : Judged) (ring : ℕ) (ends : Result2) (now : Control)
    → IsSoundControl g → g.registers.ring ≤ target.ring
    → IsJudged (at_place (calling g target) target) j.desc j.element → j.element.outcome ≡ outcome.Entered ring
    → moved (after_call g target j.desc) ≡ Ends ends now → IsMoved g ends now (IsFallSeen g j now)
after_a_call g target j ring ends now sound high right came e =
    elim (cases_lt target.ring j.desc.brackets.r1) [
      | inl below ↦
          let there : moved (upward g target j.desc) ≡ Ends ends now =
          sym (ap (λ (b : Bool). moved (if b then upward g target j.desc else
          with_registers g (called g.registers target j.desc))) (lt-ltb target.ring j.desc.brackets.r1 below)) ∙ e in
          goes_on g (upward g target j.desc) now ends j there
          (record {
            registers = upcalled_sound g.registers target j.desc sound.registers;
            gates = pushed_sound g (gate_left g.registers j.desc) sound.gates
                (left_sound g.registers target j.desc sound.registers high below);
          })
          (λ falls. absurd (omega arith))
      | inr from ↦
          let there : moved (with_registers g (called g.registers target j.desc)) ≡ Ends ends now =
          sym (ap (λ (b : Bool). moved (if b then upward g target j.desc else
          with_registers g (called g.registers target j.desc))) (le-ltb target.ring j.desc.brackets.r1 from)) ∙ e in
          let is = plain_called g target j ring sound.registers high from right came in
          goes_on g (with_registers g (called g.registers target j.desc)) now ends j there
          (record { registers = is.0; gates = sound.gates }) (λ falls. inl (is.1 falls))
    ]

-- the registers and gates after a return through a gate
abbrev downward : Control → ReturnGate → Control
downward g gate = record { registers = downreturned g.registers gate; gates = popped g.gates }

after_a_return : (g : Control) (target : PointerParts) (way : Option ReturnGate) (j : Judged) (ring : ℕ)
    (ends : Result2) (now : Control) → way_down g target ≡ way → IsSoundControl g → g.registers.ring ≤ target.ring
    → IsJudged (at_place op.Return (returning_through way target)) j.desc j.element
    → j.element.outcome ≡ outcome.Entered ring → moved (after_return_through way g target) ≡ Ends ends now
    → IsMoved g ends now (IsFallSeen g j now)
after_a_return g target None j ring ends now way sound high right came e =
    let is : IsReturned g.registers target (returned g.registers target) = record {
      current = refl;
      procedure = refl;
      pointers = refl;
      accumulator = refl;
    } in
    goes_on g (with_registers g (returned g.registers target)) now ends j e
    (record {
      registers = returned_stays_sound g.registers (returned g.registers target) target sound.registers is;
      gates = sound.gates;
    })
    (λ falls. absurd (omega arith))
after_a_return g target (Some gate) j ring ends now way sound high right came e =
    let is = downreturned_sound g target gate sound.registers sound.gates way in
    let into : ring ≡ gate.lower =
    returned_so (record target { ring = gate.lower }) gate.lower ring
    (judgement j.desc op.Return gate.lower target.word)
    (subst (λ (c : Outcome). Agrees (at_place op.Return (record target { ring = gate.lower })) gate.lower
    (judgement j.desc op.Return gate.lower target.word) c) came right.outcome) in
    goes_on g (downward g gate) now ends j e (record { registers = is.0; gates = is.1 })
    (λ falls. inr (record {
      gate = gate;
      others = drop 1 g.gates.gates;
      top = top_way g target gate way;
      popped = refl;
      into = refl;
      kind = right.kind;
      granted = came ∙ ap (λ (r : ℕ). outcome.Entered r) into;
    }))

-- the line's own reference was made at the target
pub after_own : (g : Control) (line : Line) (target : PointerParts) (j : Judged) (r : Reference) (came : Outcome)
    (ends : Result2) (now : Control) → IsSoundControl g → g.registers.ring ≤ target.ring
    → at_target g line target ≡ Asks r → IsJudged r j.desc j.element → j.element.outcome ≡ came
    → after_target g line target j.desc came ≡ Ends ends now → IsMoved g ends now (IsFallSeen g j now)
after_own g line target j r (outcome.Denied denial) ends now sound high asks right came e =
    stays g ends now _ sound (same_end g g now (result.Denied denial) ends (denied_ends g denial) e)
after_own g (Lda o) target j r (outcome.Read value writer stamp) ends now sound high asks right came e =
    stays g ends now _ sound (same_end g (with_registers g (record g.registers { a = value })) now (result.A value) ends
    (accumulated g value (result.A value) refl (λ e. cc)) e)
after_own g Fetch target j r (outcome.Read value writer stamp) ends now sound high asks right came e =
    stays g ends now _ sound (same_end g g now result.Done ends (done_ends g) e)
after_own g (Sta o) target j r (outcome.Written value) ends now sound high asks right came e =
    stays g ends now _ sound (same_end g g now result.Done ends (done_ends g) e)
after_own g (Spri n o) target j r (outcome.Written value) ends now sound high asks right came e =
    stays g ends now _ sound (same_end g g now result.Done ends (done_ends g) e)
after_own g (Call o) target j r (outcome.Entered ring) ends now sound high asks right came e =
    let same : at_place (calling g target) target ≡ r = cc in
    after_a_call g target j ring ends now sound high
    (subst (λ (a : Reference). IsJudged a j.desc j.element) (sym same) right) came e
after_own g (Return o) target j r (outcome.Entered ring) ends now sound high asks right came e =
    let same : at_place op.Return (returning_through (way_down g target) target) ≡ r = cc in
    after_a_return g target (way_down g target) j ring ends now refl sound high
    (subst (λ (a : Reference). IsJudged a j.desc j.element) (sym same) right) came e
after_own _ _ _ _ _ _ _ _ _ _ _ _ _ e = absurd cc
