-- The lines that call upward and return through gates are right, by computation, and each wrong one is refused.
use Rattle.std.proofs.Common.{◌≡◌, ℕ, Bool, false, true, List, [], ◌∷◌, length, refl, ap, Some, arith}
use Rattle.std.specs.List.{slice_get}
use Rattle.mx_sdw.specs.Judging.{judgement}
use Rattle.mx_sdw.specs.declared.denials.Denial.TheVariants as denial
use Rattle.mx_sdw.specs.declared.operations.Op.TheVariants as op
use Rattle.mx_ptr.specs.Pointers.{PointerParts}
use Rattle.mx_upcall.specs.Control.{Control, ungated}
use Rattle.mx_upcall.specs.Gates.{ReturnGate}
use Rattle.mx_core.specs.declared.elements.Element.{Element}
use Rattle.mx_core.specs.declared.elements.Kind.TheVariants as kind
use Rattle.mx_core.specs.declared.elements.Outcome.TheVariants as outcome
use Rattle.mx_script.specs.declared.lines.Line.{Line}
use Rattle.mx_transcript.specs.declared.transcripts.Result2.{Result2}
use Rattle.mx_transcript.specs.declared.transcripts.Result2.TheVariants as result
use Rattle.mx_transcript.specs.Asking.{next}
use Rattle.mx_transcript.specs.CallLines.{call, return_by, a_call, a_return}
use Rattle.mx_transcript.specs.Courses.{Attempt}
use Rattle.mx_transcript.specs.Elements.{IsJudged}
use Rattle.mx_transcript.specs.Lines.{IsEnd}
use Rattle.mx_transcript.specs.Next.{Reference, Asks, at_place}
use Rattle.mx_transcript.specs.PointerLines.{pointer}
use Rattle.mx_transcript.specs.Settings.{judged}
use Rattle.mx_transcript.specs.UpwardLines.{setting, access, with_gates, below, inside, above, back, onward, onward_back, gate, other, closed, many, return, IsOne, LeavesUp, LeavesDown, LeavesOnward, LeavesBack, LeavesClosed, RightUpward, WrongUpward, WrongLeft}
use Rattle.mx_transcript.proofs.EventByEvent as event

-- a line of one reference
one : (c : Control) (l : Line) (r : Reference) (e : Element) (ends : Result2) (after : Control)
    → next c l (Attempt []) ≡ Asks r → IsJudged r (access e.segno) e
    → IsEnd setting c (next c l (Attempt (judged setting e ∷ []))) ends after → IsOne c l e ends after
one c l r e ends after asks right end = event.one setting c l r e ends after asks right end

-- the reference that it makes is the one asked for, and it ends as it does after that
peel : (c : Control) (l : Line) (r : Reference) (e : Element) (ends : Result2) (after : Control)
    → next c l (Attempt []) ≡ Asks r → IsOne c l e ends after
    → IsJudged r (access e.segno) e × IsEnd setting c (next c l (Attempt (judged setting e ∷ []))) ends after
peel c l r e ends after asks is = event.peel_one setting c l r e ends after asks is

-- a call of segment 11 from a ring: whether it is within the segment, and may go upward; and a return, in a ring
abbrev asks_call : ℕ → Bool → Bool → ℕ → Reference
asks_call ring same upward word = at_place (op.Call ring same upward) (pointer ring 11 word)

abbrev asks_return : ℕ → ℕ → ℕ → Reference
asks_return ring segno word = at_place op.Return (pointer ring segno word)

pub right_upward : RightUpward
unfolding judgement
right_upward = record {
  up = one (with_gates below []) (call 11 1) (asks_call 4 false true 1) (a_call 4 11 1 (outcome.Entered 5)) _ (with_gates above (gate ∷ [])) refl
      (record { kind = refl; segno = refl; word = refl; ring = refl; outcome = refl }) (refl, refl);
  over = one (with_gates below (other ∷ [])) (call 11 1) (asks_call 4 false true 1) (a_call 4 11 1 (outcome.Entered 5)) _ (with_gates above (gate ∷ other ∷ [])) refl
      (record { kind = refl; segno = refl; word = refl; ring = refl; outcome = refl }) (refl, refl);
  sixteenth = one (with_gates below (many 15)) (call 11 1) (asks_call 4 false true 1) (a_call 4 11 1 (outcome.Entered 5)) _ (with_gates above (gate ∷ many 15)) refl
      (record { kind = refl; segno = refl; word = refl; ring = refl; outcome = refl }) (refl, refl);
  down = one (with_gates above (gate ∷ [])) (return_by 7) (asks_return 4 10 0) (a_return 4 10 0 (outcome.Entered 4)) _ (with_gates back []) refl
      (record { kind = refl; segno = refl; word = refl; ring = refl; outcome = refl }) (refl, refl);
  down_over = one (with_gates above (gate ∷ other ∷ [])) (return_by 7) (asks_return 4 10 0) (a_return 4 10 0 (outcome.Entered 4)) _ (with_gates back (other ∷ [])) refl
      (record { kind = refl; segno = refl; word = refl; ring = refl; outcome = refl }) (refl, refl);
  within = one (with_gates above (gate ∷ [])) (call 11 7) (asks_call 5 true true 7) (a_call 5 11 7 (outcome.Entered 5)) _ (with_gates onward (gate ∷ [])) refl
      (record { kind = refl; segno = refl; word = refl; ring = refl; outcome = refl }) (refl, refl);
  within_back = one (with_gates onward (gate ∷ [])) (return_by 7) (asks_return 5 11 1) (a_return 5 11 1 (outcome.Entered 5)) _ (with_gates onward_back (gate ∷ [])) refl
      (record { kind = refl; segno = refl; word = refl; ring = refl; outcome = refl }) (refl, refl);
  denied = one (with_gates above (closed ∷ [])) (return 12 0) (asks_return 4 12 0) (a_return 4 12 0 (outcome.Denied denial.NotExecutable)) _ (with_gates above (closed ∷ [])) refl
      (record { kind = refl; segno = refl; word = refl; ring = refl; outcome = refl }) (refl, refl);
  spent = one (with_gates back []) (return_by 7) (asks_return 5 10 0) (a_return 5 10 0 (outcome.Denied denial.BadReturn)) _ (with_gates back []) refl
      (record { kind = refl; segno = refl; word = refl; ring = refl; outcome = refl }) (refl, refl);
  full = one (with_gates below (many 16)) (call 11 1) (asks_call 4 false false 1) (a_call 4 11 1 (outcome.Denied denial.UpwardCall)) _ (with_gates below (many 16)) refl
      (record { kind = refl; segno = refl; word = refl; ring = refl; outcome = refl }) (refl, refl);
  off = one (ungated below) (call 11 1) (asks_call 4 false false 1) (a_call 4 11 1 (outcome.Denied denial.UpwardCall)) _ (ungated below) refl
      (record { kind = refl; segno = refl; word = refl; ring = refl; outcome = refl }) (refl, refl);
  no_gate = one (with_gates below []) (call 11 2) (asks_call 4 false true 2) (a_call 4 11 2 (outcome.Denied denial.Gate)) _ (with_gates below []) refl
      (record { kind = refl; segno = refl; word = refl; ring = refl; outcome = refl }) (refl, refl);
  own_segment = one (with_gates inside []) (call 11 2) (asks_call 4 true true 2) (a_call 4 11 2 (outcome.Denied denial.Gate)) _ (with_gates inside []) refl
      (record { kind = refl; segno = refl; word = refl; ring = refl; outcome = refl }) (refl, refl);
}

same_moved : (a b : ℕ) (p q : PointerParts) → result.Moved a p ≡ result.Moved b q → (a ≡ b) × (p ≡ q)
same_moved a b p q e = (cc, cc)

-- the top gates of two that are alike, and their pointer registers
same_top : (c d : Control) (g h : ReturnGate) → c ≡ d → slice_get c.gates.gates 0 ≡ Some g
    → slice_get d.gates.gates 0 ≡ Some h → g ≡ h
same_top c d g h same left right =
    let here : slice_get c.gates.gates 0 ≡ slice_get d.gates.gates 0 =
    ap (λ (x : Control). slice_get x.gates.gates 0) same in cc

same_register : (n : ℕ) (c d : Control) (p q : PointerParts) → c ≡ d → slice_get c.registers.pr n ≡ Some p
    → slice_get d.registers.pr n ≡ Some q → p ≡ q
same_register n c d p q same left right =
    let here : slice_get c.registers.pr n ≡ slice_get d.registers.pr n =
    ap (λ (x : Control). slice_get x.registers.pr n) same in cc

same_count : (c d : Control) → c ≡ d → length c.gates.gates ≡ length d.gates.gates
same_count c d same = ap (λ (x : Control). length x.gates.gates) same

pub wrong_upward : WrongUpward
unfolding judgement
wrong_upward = record {
  effective = λ after is.
      let w : 4 ≡ 5 =
      (peel (with_gates below []) (call 11 1) (asks_call 4 false true 1) _ _ after refl is).0.outcome in omega arith;
  second = λ after is.
      let w : 6 ≡ 5 =
      (peel (with_gates below []) (call 11 1) (asks_call 4 false true 1) _ _ after refl is).0.outcome in omega arith;
  no_gate = λ after is.
      let w : outcome.Entered 5 ≡ outcome.Denied denial.Gate =
      (peel (with_gates below []) (call 11 2) (asks_call 4 false true 2) _ _ after refl is).0.outcome in cc;
  own_segment = λ after is.
      let w : outcome.Entered 5 ≡ outcome.Denied denial.Gate =
      (peel (with_gates inside []) (call 11 2) (asks_call 4 true true 2) _ _ after refl is).0.outcome in cc;
  seventeenth = λ after is.
      let w : outcome.Entered 5 ≡ outcome.Denied denial.UpwardCall =
      (peel (with_gates below (many 16)) (call 11 1) (asks_call 4 false false 1) _ _ after refl is).0.outcome in cc;
  off = λ after is.
      let w : outcome.Entered 5 ≡ outcome.Denied denial.UpwardCall =
      (peel (ungated below) (call 11 1) (asks_call 4 false false 1) _ _ after refl is).0.outcome in cc;
  denied = λ after is. (peel (with_gates below (many 15)) (call 11 1) (asks_call 4 false true 1) _ _ after refl is).0.outcome;
  raised = λ after is.
      let w : 5 ≡ 4 =
      (peel (with_gates above (gate ∷ [])) (return_by 7) (asks_return 4 10 0) _ _ after refl is).0.ring in omega arith;
  raised_denied = λ after is.
      let w : 5 ≡ 4 =
      (peel (with_gates above (gate ∷ [])) (return_by 7) (asks_return 4 10 0) _ _ after refl is).0.ring in omega arith;
  other_kind = λ after is.
      let w : kind.Call ≡ kind.Return =
      (peel (with_gates above (gate ∷ [])) (return_by 7) (asks_return 4 10 0) _ _ after refl is).0.kind in cc;
  none = λ after is.
      let w : 4 ≡ 5 =
      (peel (with_gates above []) (return_by 7) (asks_return 5 10 0) _ _ after refl is).0.ring in omega arith;
  below_top = λ after is.
      let w : 4 ≡ 5 =
      (peel (with_gates above (other ∷ gate ∷ [])) (return_by 7) (asks_return 5 10 0) _ _ after refl is).0.ring in omega arith;
  other_ring = λ after is.
      let w : 4 ≡ 5 =
      (peel (with_gates above (record gate { upper = 6 } ∷ [])) (return_by 7) (asks_return 5 10 0) _ _ after refl is).0.ring in omega arith;
  other_word = λ after is.
      let w : 4 ≡ 5 =
      (peel (with_gates above (gate ∷ [])) (return_by 1) (asks_return 5 10 3) _ _ after refl is).0.ring in omega arith;
  other_segment = λ after is.
      let w : 4 ≡ 5 =
      (peel (with_gates above (gate ∷ [])) (return 9 0) (asks_return 5 9 0) _ _ after refl is).0.ring in omega arith;
  ring_kept = λ after is.
      let w : result.Moved 5 (pointer 4 10 0) ≡ result.Moved 4 (pointer 4 10 0) =
      (peel (with_gates above (gate ∷ [])) (return_by 7) (asks_return 4 10 0) _ _ after refl is).1.0 in
      let z : 5 ≡ 4 = (same_moved 5 4 (pointer 4 10 0) (pointer 4 10 0) w).0 in omega arith;
  other_place = λ after is.
      let w : result.Moved 4 (pointer 4 9 2) ≡ result.Moved 4 (pointer 4 10 0) =
      (peel (with_gates above (gate ∷ [])) (return_by 7) (asks_return 4 10 0) _ _ after refl is).1.0 in
      let z : 9 ≡ 10 = ap (λ (p : PointerParts). p.segno) (same_moved 4 4 (pointer 4 9 2) (pointer 4 10 0) w).1 in
      omega arith;
}

-- what each line leaves
left_up : (gates : List ReturnGate) (after : Control) → LeavesUp gates after → next (with_gates below gates) (call 11 1) (Attempt []) ≡ Asks (asks_call 4 false true 1) → after ≡ with_gates above (gate ∷ gates)
unfolding judgement
left_up gates after is asks = (peel (with_gates below gates) (call 11 1) (asks_call 4 false true 1) _ _ after asks is).1.1

left_down : (gates : List ReturnGate) (after : Control) → LeavesDown (gate ∷ gates) after → after ≡ with_gates back gates
unfolding judgement
left_down gates after is = (peel (with_gates above (gate ∷ gates)) (return_by 7) (asks_return 4 10 0) _ _ after refl is).1.1

left_onward : (after : Control) → LeavesOnward after → after ≡ with_gates onward (gate ∷ [])
unfolding judgement
left_onward after is = (peel (with_gates above (gate ∷ [])) (call 11 7) (asks_call 5 true true 7) _ _ after refl is).1.1

left_back : (after : Control) → LeavesBack after → after ≡ with_gates onward_back (gate ∷ [])
unfolding judgement
left_back after is = (peel (with_gates onward (gate ∷ [])) (return_by 7) (asks_return 5 11 1) _ _ after refl is).1.1

left_closed : (after : Control) → LeavesClosed after → after ≡ with_gates above (closed ∷ [])
unfolding judgement
left_closed after is = (peel (with_gates above (closed ∷ [])) (return 12 0) (asks_return 4 12 0) _ _ after refl is).1.1

pub wrong_left : WrongLeft
wrong_left = record {
  not_pushed = λ is. let w : 0 ≡ 1 = same_count _ _ (left_up ([]) _ is refl) in omega arith;
  pushed_below = λ is.
      let w : other ≡ gate = same_top _ _ (other) (gate) (left_up (other ∷ []) _ is refl) refl refl in
      let z : 2 ≡ 0 = ap (λ (g : ReturnGate). g.procedure.word) w in omega arith;
  elsewhere = λ is.
      let w : other ≡ gate = same_top _ _ (other) (gate) (left_up ([]) _ is refl) refl refl in
      let z : 2 ≡ 0 = ap (λ (g : ReturnGate). g.procedure.word) w in omega arith;
  from_below = λ is.
      let w : record gate { upper = 4 } ≡ gate = same_top _ _ (record gate { upper = 4 }) (gate) (left_up ([]) _ is refl) refl refl in
      let z : 4 ≡ 5 = ap (λ (g : ReturnGate). g.upper) w in omega arith;
  into_above = λ is.
      let w : record gate { lower = 5 } ≡ gate = same_top _ _ (record gate { lower = 5 }) (gate) (left_up ([]) _ is refl) refl refl in
      let z : 5 ≡ 4 = ap (λ (g : ReturnGate). g.lower) w in omega arith;
  new_stack = λ is.
      let w : record gate { pr0 = pointer 5 5 0 } ≡ gate = same_top _ _ (record gate { pr0 = pointer 5 5 0 }) (gate) (left_up ([]) _ is refl) refl refl in
      let z : 5 ≡ 4 = ap (λ (g : ReturnGate). g.pr0.ring) w in omega arith;
  old_ring = λ is.
      let w : pointer 4 10 0 ≡ pointer 5 10 0 = same_register 7 _ _ (pointer 4 10 0) (pointer 5 10 0) (left_up ([]) _ is refl) refl refl in
      let z : 4 ≡ 5 = ap (λ (p : PointerParts). p.ring) w in omega arith;
  old_stack = λ is.
      let w : pointer 4 4 0 ≡ pointer 5 5 0 = same_register 0 _ _ (pointer 4 4 0) (pointer 5 5 0) (left_up ([]) _ is refl) refl refl in
      let z : 4 ≡ 5 = ap (λ (p : PointerParts). p.ring) w in omega arith;
  unraised = λ is.
      let w : pointer 4 10 3 ≡ pointer 5 10 3 = same_register 1 _ _ (pointer 4 10 3) (pointer 5 10 3) (left_up ([]) _ is refl) refl refl in
      let z : 4 ≡ 5 = ap (λ (p : PointerParts). p.ring) w in omega arith;
  not_popped = λ is. let w : 1 ≡ 0 = same_count _ _ (left_down [] _ is) in omega arith;
  all_popped = λ is. let w : 0 ≡ 1 = same_count _ _ (left_down (other ∷ []) _ is) in omega arith;
  stack_kept = λ is.
      let w : pointer 5 5 0 ≡ pointer 4 4 0 = same_register 0 _ _ (pointer 5 5 0) (pointer 4 4 0) (left_down [] _ is) refl refl in
      let z : 5 ≡ 4 = ap (λ (p : PointerParts). p.ring) w in omega arith;
  called_pushed = λ is. let w : 2 ≡ 1 = same_count _ _ (left_onward _ is) in omega arith;
  returned_popped = λ is. let w : 0 ≡ 1 = same_count _ _ (left_back _ is) in omega arith;
  denied_popped = λ is. let w : 0 ≡ 1 = same_count _ _ (left_closed _ is) in omega arith;
}
