-- The lines that fetch, call and return are right, by computation, and each wrong one is refused.
use Rattle.std.proofs.Common.{◌≡◌, ℕ, false, true, [], ◌∷◌, refl, ap, Some, arith}
use Rattle.std.specs.List.{slice_get}
use Rattle.mx_sdw.specs.Judging.{judgement}
use Rattle.mx_sdw.specs.declared.denials.Denial.TheVariants as denial
use Rattle.mx_sdw.specs.declared.operations.Op.TheVariants as op
use Rattle.mx_ptr.specs.Pointers.{PointerParts}
use Rattle.mx_call.specs.Registers.{Registers}
use Rattle.mx_upcall.specs.Control.{Control, ungated}
use Rattle.mx_core.specs.declared.elements.Element.{Element}
use Rattle.mx_core.specs.declared.elements.Event.TheVariants.{Seen}
use Rattle.mx_core.specs.declared.elements.Kind.TheVariants as kind
use Rattle.mx_core.specs.declared.elements.Outcome.TheVariants as outcome
use Rattle.mx_script.specs.declared.lines.Line.{Line}
use Rattle.mx_script.specs.declared.lines.Line.TheVariants as line
use Rattle.mx_transcript.specs.declared.transcripts.Event2.TheVariants.{Core}
use Rattle.mx_transcript.specs.declared.transcripts.Result2.{Result2}
use Rattle.mx_transcript.specs.declared.transcripts.Result2.TheVariants as result
use Rattle.mx_transcript.specs.Asking.{next}
use Rattle.mx_transcript.specs.Courses.{Attempt}
use Rattle.mx_transcript.specs.Elements.{IsJudged}
use Rattle.mx_transcript.specs.Lines.{IsEnd, IsLine}
use Rattle.mx_transcript.specs.Next.{Reference, Asks, at_place}
use Rattle.mx_transcript.specs.PointerLines.{pointer}
use Rattle.mx_transcript.specs.Settings.{judged}
use Rattle.mx_transcript.proofs.EventByEvent as event
use Rattle.mx_transcript.specs.CallLines.{setting, access, outside, inside, back, onward, in_ring, call, call_by, return_by, a_call, a_return, a_fetch, IsOne, inside_with, RightTransfers, WrongTransfers, WrongRegisters}

-- a line of one reference
one : (g : Registers) (l : Line) (r : Reference) (e : Element) (ends : Result2) (after : Registers)
    → next (ungated g) l (Attempt []) ≡ Asks r → IsJudged r (access e.segno) e
    → IsEnd setting (ungated g) (next (ungated g) l (Attempt (judged setting e ∷ []))) ends (ungated after)
    → IsOne g l e ends after
one g l r e ends after asks right end = event.one setting (ungated g) l r e ends (ungated after) asks right end

-- the reference that it makes is the one asked for, and it ends as it does after that
peel : (g : Registers) (l : Line) (r : Reference) (e : Element) (ends : Result2) (after : Control)
    → next (ungated g) l (Attempt []) ≡ Asks r → IsLine setting (ungated g) l (Core (Seen e) ∷ []) ends after
    → IsJudged r (access e.segno) e
    × IsEnd setting (ungated g) (next (ungated g) l (Attempt (judged setting e ∷ []))) ends after
peel g l r e ends after asks is = event.peel_one setting (ungated g) l r e ends after asks is

-- a call from a ring at the place of a pointer, of another segment than the one that runs; and a return
abbrev asks_call : ℕ → ℕ → ℕ → ℕ → Reference
asks_call current ring segno word = at_place (op.Call current false false) (pointer ring segno word)

abbrev asks_within : Reference
asks_within = at_place (op.Call 4 true false) (pointer 4 8 7)

abbrev asks_return : ℕ → ℕ → ℕ → Reference
asks_return ring segno word = at_place op.Return (pointer ring segno word)

abbrev asks_fetch : Reference
asks_fetch = at_place op.Fetch (pointer 4 8 0)

pub right_transfers : RightTransfers
unfolding judgement
right_transfers = record {
  fetched = one outside line.Fetch asks_fetch a_fetch result.Done outside refl
      (record { kind = refl; segno = refl; word = refl; ring = refl; outcome = omega arith }) (refl, refl);
  gate = one outside (call 9 1) (asks_call 4 4 9 1) (a_call 4 9 1 (outcome.Entered 3)) _ inside refl
      (record { kind = refl; segno = refl; word = refl; ring = refl; outcome = refl }) (refl, refl);
  by_register = one outside (call_by 2) (asks_call 4 4 9 1) (a_call 4 9 1 (outcome.Entered 3)) _ inside refl
      (record { kind = refl; segno = refl; word = refl; ring = refl; outcome = refl }) (refl, refl);
  back = one inside (return_by 7) (asks_return 4 8 0) (a_return 4 8 0 (outcome.Entered 4)) _ back refl
      (record { kind = refl; segno = refl; word = refl; ring = refl; outcome = refl }) (refl, refl);
  within = one outside (call 8 7) asks_within (a_call 4 8 7 (outcome.Entered 4)) _ onward refl
      (record { kind = refl; segno = refl; word = refl; ring = refl; outcome = refl }) (refl, refl);
  no_gate = one outside (call 9 2) (asks_call 4 4 9 2) (a_call 4 9 2 (outcome.Denied denial.Gate)) _ outside refl
      (record { kind = refl; segno = refl; word = refl; ring = refl; outcome = refl }) (refl, refl);
  too_high = one (in_ring 6) (call 9 1) (asks_call 6 6 9 1) (a_call 6 9 1 (outcome.Denied denial.CallBracket)) _
      (in_ring 6) refl (record { kind = refl; segno = refl; word = refl; ring = refl; outcome = refl }) (refl, refl);
  upward = one inside (call 8 0) (asks_call 3 3 8 0) (a_call 3 8 0 (outcome.Denied denial.UpwardCall)) _ inside refl
      (record { kind = refl; segno = refl; word = refl; ring = refl; outcome = refl }) (refl, refl);
  raised = one (in_ring 2) (call_by 2) (asks_call 2 4 9 1) (a_call 4 9 1 (outcome.Denied denial.RaisedRing)) _
      (in_ring 2) refl (record { kind = refl; segno = refl; word = refl; ring = refl; outcome = refl }) (refl, refl);
  bad_return = one outside (return_by 2) (asks_return 4 9 1) (a_return 4 9 1 (outcome.Denied denial.BadReturn)) _
      outside refl (record { kind = refl; segno = refl; word = refl; ring = refl; outcome = refl }) (refl, refl);
}

same_moved : (a b : ℕ) (p q : PointerParts) → result.Moved a p ≡ result.Moved b q → (a ≡ b) × (p ≡ q)
same_moved a b p q e = (cc, cc)

same_segno : (p q : PointerParts) → p ≡ q → p.segno ≡ q.segno
same_segno p q e = ap (λ (x : PointerParts). x.segno) e

pub wrong_transfers : WrongTransfers
unfolding judgement
wrong_transfers = record {
  effective = λ after is.
      let w : 4 ≡ 3 = (peel outside (call 9 1) (asks_call 4 4 9 1) _ _ after refl is).0.outcome in omega arith;
  first = λ after is.
      let w : 1 ≡ 3 = (peel outside (call 9 1) (asks_call 4 4 9 1) _ _ after refl is).0.outcome in omega arith;
  any_word = λ after is.
      let w : outcome.Entered 3 ≡ outcome.Denied denial.Gate =
      (peel outside (call 9 2) (asks_call 4 4 9 2) _ _ after refl is).0.outcome in cc;
  from_outside = λ after is.
      let w : outcome.Entered 3 ≡ outcome.Denied denial.CallBracket =
      (peel (in_ring 6) (call 9 1) (asks_call 6 6 9 1) _ _ after refl is).0.outcome in cc;
  upward = λ after is.
      let w : outcome.Entered 4 ≡ outcome.Denied denial.UpwardCall =
      (peel inside (call 8 0) (asks_call 3 3 8 0) _ _ after refl is).0.outcome in cc;
  raised = λ after is.
      let w : outcome.Entered 3 ≡ outcome.Denied denial.RaisedRing =
      (peel (in_ring 2) (call_by 2) (asks_call 2 4 9 1) _ _ after refl is).0.outcome in cc;
  ring_left_out = λ after is.
      let w : 2 ≡ 4 = (peel (in_ring 2) (call_by 2) (asks_call 2 4 9 1) _ _ after refl is).0.ring in omega arith;
  gate_within = λ after is. (peel outside (call 8 7) asks_within _ _ after refl is).0.outcome;
  lower = λ after is.
      let w : outcome.Entered 3 ≡ outcome.Denied denial.BadReturn =
      (peel outside (return_by 2) (asks_return 4 9 1) _ _ after refl is).0.outcome in cc;
  kept = λ after is.
      let w : 3 ≡ 4 = (peel inside (return_by 7) (asks_return 4 8 0) _ _ after refl is).0.outcome in omega arith;
  other_kind = λ after is.
      let w : kind.Call ≡ kind.Return = (peel inside (return_by 7) (asks_return 4 8 0) _ _ after refl is).0.kind in cc;
  other_ring = λ after is.
      let w : result.Moved 4 (pointer 4 9 1) ≡ result.Moved 3 (pointer 3 9 1) =
      (peel outside (call 9 1) (asks_call 4 4 9 1) _ _ after refl is).1.0 in
      let z : 4 ≡ 3 = (same_moved 4 3 (pointer 4 9 1) (pointer 3 9 1) w).0 in omega arith;
  other_place = λ after is.
      let w : result.Moved 3 (pointer 3 8 0) ≡ result.Moved 3 (pointer 3 9 1) =
      (peel outside (call 9 1) (asks_call 4 4 9 1) _ _ after refl is).1.0 in
      let z : 8 ≡ 9 = same_segno (pointer 3 8 0) (pointer 3 9 1) (same_moved 3 3 (pointer 3 8 0) (pointer 3 9 1) w).1 in
      omega arith;
  elsewhere = λ after is.
      let w : 1 ≡ 0 = (peel outside line.Fetch asks_fetch _ _ after refl is).0.word in omega arith;
  in_another_ring = λ after is.
      let w : 5 ≡ 4 = (peel outside line.Fetch asks_fetch _ _ after refl is).0.ring in omega arith;
  into_a = λ after is.
      let w : result.A 7 ≡ result.Done = (peel outside line.Fetch asks_fetch _ _ after refl is).1.0 in cc;
}

-- pointer registers that are alike, by their rings and by their segment numbers
same_some : (p q : PointerParts) → Some p ≡ Some q → (p.ring ≡ q.ring) × (p.segno ≡ q.segno)
same_some p q e =
    let same : p ≡ q = cc in (ap (λ (x : PointerParts). x.ring) same, ap (λ (x : PointerParts). x.segno) same)

same_register : (n : ℕ) (g h : Registers) → g ≡ h → slice_get g.pr n ≡ slice_get h.pr n
same_register n g h e = ap (λ (x : Registers). slice_get x.pr n) e

same_control : (g h : Registers) → ungated g ≡ ungated h → g ≡ h
same_control g h e = ap (λ (c : Control). c.registers) e

pub wrong_registers : WrongRegisters
wrong_registers = record {
  old_stack = λ is.
      let w : inside_with (pointer 4 4 0) (pointer 4 8 0) ≡ inside =
      same_control _ _ (peel outside (call 9 1) (asks_call 4 4 9 1) _ _ _ refl is).1.1 in
      let z : 4 ≡ 3 = (same_some (pointer 4 4 0) (pointer 3 3 0)
      (same_register 0 (inside_with (pointer 4 4 0) (pointer 4 8 0)) inside w)).0 in omega arith;
  new_ring = λ is.
      let w : inside_with (pointer 3 3 0) (pointer 3 8 0) ≡ inside =
      same_control _ _ (peel outside (call 9 1) (asks_call 4 4 9 1) _ _ _ refl is).1.1 in
      let z : 3 ≡ 4 = (same_some (pointer 3 8 0) (pointer 4 8 0)
      (same_register 7 (inside_with (pointer 3 3 0) (pointer 3 8 0)) inside w)).0 in omega arith;
  no_way_back = λ is.
      let w : inside_with (pointer 3 3 0) (pointer 4 4 0) ≡ inside =
      same_control _ _ (peel outside (call 9 1) (asks_call 4 4 9 1) _ _ _ refl is).1.1 in
      let z : 4 ≡ 8 = (same_some (pointer 4 4 0) (pointer 4 8 0)
      (same_register 7 (inside_with (pointer 3 3 0) (pointer 4 4 0)) inside w)).1 in omega arith;
  other_a = λ is.
      let w : record inside { a = 6 } ≡ inside =
      same_control _ _ (peel outside (call 9 1) (asks_call 4 4 9 1) _ _ _ refl is).1.1 in
      let z : 6 ≡ 5 = ap (λ (g : Registers). g.a) w in omega arith;
  unraised = λ is.
      let w : record back { pr = inside.pr } ≡ back =
      same_control _ _ (peel inside (return_by 7) (asks_return 4 8 0) _ _ _ refl is).1.1 in
      let z : 3 ≡ 4 = (same_some (pointer 3 3 0) (pointer 4 3 0)
      (same_register 0 (record back { pr = inside.pr }) back w)).0 in omega arith;
  another_stack = λ is.
      let w : record back { pr = outside.pr } ≡ back =
      same_control _ _ (peel inside (return_by 7) (asks_return 4 8 0) _ _ _ refl is).1.1 in
      let z : 4 ≡ 3 = (same_some (pointer 4 4 0) (pointer 4 3 0)
      (same_register 0 (record back { pr = outside.pr }) back w)).1 in omega arith;
  ring_kept = λ is.
      let w : record back { ring = 3 } ≡ back =
      same_control _ _ (peel inside (return_by 7) (asks_return 4 8 0) _ _ _ refl is).1.1 in
      let z : 3 ≡ 4 = ap (λ (g : Registers). g.ring) w in omega arith;
}
