-- What an upward call and a return through its gate make of the registers.
use Rattle.std.proofs.Common.{◌≡◌, ℕ, zero, suc, ◌≤◌, ◌↔◌, false, List, [], ◌∷◌, length, map, slice_get, slice_set, slice_index_or, Some, refl, sym, subst, arith, rules}
use Rattle.std.proofs.Math.Nat.{le_refl, le_trans}
use Rattle.std.proofs.lemmas.Bool.{le-ltb}
use Rattle.std.proofs.lemmas.List.{length-map}
use Rattle.std.proofs.lemmas.List.Elements.{All-set, All-map}
use Rattle.std.proofs.lemmas.Option.{slice_get-map}
use Rattle.std.specs.Prelude.{option_map}
use Rattle.mx_sdw.specs.Descriptors.{Descriptor}
use Rattle.mx_sdw.specs.Judging.{judgement}
use Rattle.mx_ptr.specs.Pointers.{PointerParts, IsPackable}
use Rattle.mx_call.specs.Registers.{Registers, ArePackable, IsSound, going_on, stack_base, raised_to}
use Rattle.mx_call.specs.Transfers.{call_judgement}
use Rattle.mx_call.proofs.RegisterLaws.{same, eight_called, first_set, last_set, others_kept, not_below, base_packable, going_on_packable, raised_packable}
use Rattle.mx_upcall.specs.Gates.{ReturnGate}
use Rattle.mx_upcall.specs.Soundness.{IsSoundGate, IsPackableGate}
use Rattle.mx_upcall.specs.Upcalls.{upward_judgement, way_back_in, gate_left, upcalled, downreturned, IsLeft, IsUpcalled, IsDownreturned}

pub judged_alike : (g : Registers) (target : PointerParts) (d : Descriptor) → d.brackets.r1 ≤ target.ring
    → upward_judgement g target d ≡ call_judgement g target d
unfolding judgement
judged_alike g target d h = rw (le-ltb target.ring d.brackets.r1 h)

chain : {X : Type 0} {x y z : X} → x ≡ y → y ≡ z → x ≡ z
chain e f = cc

-- the gate of a call
same_gate : (g h : ReturnGate) → g.lower ≡ h.lower → g.upper ≡ h.upper → g.procedure ≡ h.procedure → g.pr0 ≡ h.pr0 → g ≡ h
same_gate g h lower upper procedure pr0 = search rules

first_of : (xs : List PointerParts) (p d : PointerParts) → slice_get xs 0 ≡ Some p → p ≡ slice_index_or xs 0 d
first_of [] p d e = cc
first_of (x ∷ xs) p d e = cc

there_is_a_first : (xs : List PointerParts) (d : PointerParts) → length xs ≡ 8 → slice_get xs 0 ≡ Some (slice_index_or xs 0 d)
there_is_a_first [] d e = absurd (omega (arith, e))
there_is_a_first (x ∷ xs) d e = refl

one_gate : (before : Registers) (d : Descriptor) (gate : ReturnGate) → IsLeft before d gate → gate ≡ gate_left before d
one_gate before d gate l =
    same_gate gate (gate_left before d) l.lower l.upper l.procedure (first_of before.pr gate.pr0 before.procedure l.stack)

a_gate : (before : Registers) (d : Descriptor) → length before.pr ≡ 8 → IsLeft before d (gate_left before d)
a_gate before d e =
    record { lower = refl; upper = refl; procedure = refl; stack = there_is_a_first before.pr before.procedure e }

-- the registers after a call
module _ (before : Registers) (target : PointerParts) (d : Descriptor) (eight : length before.pr ≡ 8) where
  raised : List PointerParts
  raised = map (raised_to d.brackets.r1) before.pr

  eight_raised : length raised ≡ 8
  unfolding raised
  eight_raised = chain (length-map before.pr (raised_to d.brackets.r1)) eight

  one_upcall : (gate : ReturnGate) (after : Registers) → IsUpcalled before target d gate after → after ≡ upcalled before target d
  unfolding raised
  one_upcall gate after u =
      let ring : ℕ = d.brackets.r1 in
      let p : after.procedure ≡ going_on target ring = subst (λ (r : ℕ). after.procedure ≡ going_on target r) u.current u.procedure in
      let stack : slice_get after.pr 0 ≡ Some (stack_base ring) = subst (λ (r : ℕ). slice_get after.pr 0 ≡ Some (stack_base r)) u.current u.stack in
      let back : slice_get after.pr 7 ≡ Some (way_back_in ring before) =
      subst (λ (r : ℕ). slice_get after.pr 7 ≡ Some (way_back_in r before)) u.current u.back in
      let others : (n : ℕ) → 1 ≤ n → n ≤ 6 → slice_get after.pr n ≡ slice_get raised n =
      λ n low high. chain (subst (λ (r : ℕ). slice_get after.pr n ≡ option_map (raised_to r) (slice_get before.pr n)) u.current (u.others n low high))
      (sym (slice_get-map (raised_to ring) before.pr n)) in
      same after (upcalled before target d) u.current p
      (eight_called raised after.pr (stack_base ring) (way_back_in ring before) eight_raised
      (chain u.count (sym (length-map before.pr (raised_to ring)))) stack back others) u.accumulator

  an_upcall : IsUpcalled before target d (gate_left before d) (upcalled before target d)
  unfolding raised
  an_upcall =
      let ring : ℕ = d.brackets.r1 in
      record {
        left = a_gate before d eight;
        current = refl;
        procedure = refl;
        stack = first_set raised (stack_base ring) (way_back_in ring before) eight_raised;
        back = last_set raised (stack_base ring) (way_back_in ring before) eight_raised;
        others = λ n low high. chain (others_kept raised (stack_base ring) (way_back_in ring before) eight_raised n low high)
            (slice_get-map (raised_to ring) before.pr n);
        count = search (rules, length-map);
        accumulator = refl;
      }

pub exactly_upcalled : (before after : Registers) (target : PointerParts) (d : Descriptor) (gate : ReturnGate) → length before.pr ≡ 8
    → IsUpcalled before target d gate after ↔ ((gate ≡ gate_left before d) × (after ≡ upcalled before target d))
exactly_upcalled before after target d gate eight = (there, back)
  where
    there : IsUpcalled before target d gate after → (gate ≡ gate_left before d) × (after ≡ upcalled before target d)
    there u = (one_gate before d gate u.left, one_upcall before target d eight gate after u)

    back : (gate ≡ gate_left before d) × (after ≡ upcalled before target d) → IsUpcalled before target d gate after
    back e =
        subst (λ (g : ReturnGate). IsUpcalled before target d g after) (sym e.0)
        (subst (IsUpcalled before target d (gate_left before d)) (sym e.1) (an_upcall before target d eight))

-- the registers after a return through a gate
eight_brought : (xs ys : List PointerParts) (stack : PointerParts) → length xs ≡ 8 → length ys ≡ length xs
    → slice_get ys 0 ≡ Some stack → ((n : ℕ) → 1 ≤ n → slice_get ys n ≡ slice_get xs n) → ys ≡ slice_set xs 0 stack
eight_brought (x0 ∷ x1 ∷ x2 ∷ x3 ∷ x4 ∷ x5 ∷ x6 ∷ x7 ∷ []) (y0 ∷ y1 ∷ y2 ∷ y3 ∷ y4 ∷ y5 ∷ y6 ∷ y7 ∷ []) stack e f first others =
    let o1 : Some y1 ≡ Some x1 = others 1 (search rules) in
    let o2 : Some y2 ≡ Some x2 = others 2 (search rules) in
    let o3 : Some y3 ≡ Some x3 = others 3 (search rules) in
    let o4 : Some y4 ≡ Some x4 = others 4 (search rules) in
    let o5 : Some y5 ≡ Some x5 = others 5 (search rules) in
    let o6 : Some y6 ≡ Some x6 = others 6 (search rules) in
    let o7 : Some y7 ≡ Some x7 = others 7 (search rules) in
    cc
eight_brought xs ys stack e f first others = search rules

one_downreturn : (before after : Registers) (gate : ReturnGate) → length before.pr ≡ 8 → IsDownreturned before gate after
    → after ≡ downreturned before gate
one_downreturn before after gate eight r =
    same after (downreturned before gate) r.current r.procedure
    (eight_brought before.pr after.pr gate.pr0 eight r.count r.stack r.others) r.accumulator

first_brought : (xs : List PointerParts) (stack : PointerParts) → length xs ≡ 8 → slice_get (slice_set xs 0 stack) 0 ≡ Some stack
first_brought [] stack e = absurd (omega (arith, e))
first_brought (x ∷ xs) stack e = refl

others_brought : (xs : List PointerParts) (stack : PointerParts) (n : ℕ) → 1 ≤ n → slice_get (slice_set xs 0 stack) n ≡ slice_get xs n
others_brought xs stack zero some = absurd (omega (arith, some))
others_brought [] stack (suc n) some = refl
others_brought (x ∷ xs) stack (suc n) some = refl

a_downreturn : (before : Registers) (gate : ReturnGate) → length before.pr ≡ 8 → IsDownreturned before gate (downreturned before gate)
a_downreturn before gate eight = record {
  current = refl;
  procedure = refl;
  stack = first_brought before.pr gate.pr0 eight;
  others = others_brought before.pr gate.pr0;
  count = search rules;
  accumulator = refl;
}

pub exactly_downreturned : (before after : Registers) (gate : ReturnGate) → length before.pr ≡ 8
    → IsDownreturned before gate after ↔ (after ≡ downreturned before gate)
exactly_downreturned before after gate eight =
    (one_downreturn before after gate eight, λ e. subst (IsDownreturned before gate) (sym e) (a_downreturn before gate eight))

-- what stays true of the registers
sound_upcalled : (before : Registers) (target : PointerParts) (d : Descriptor) → IsSound before → IsSound (upcalled before target d)
sound_upcalled before target d s =
    let ring : ℕ = d.brackets.r1 in
    let raised : List PointerParts = map (raised_to ring) before.pr in
    let first : List PointerParts = slice_set raised 0 (stack_base ring) in
    record {
      eight = let e = s.eight in search (rules, length-map);
      above = All-set (λ p. ring ≤ p.ring) first 7 (way_back_in ring before) (le_refl ring)
          (All-set (λ p. ring ≤ p.ring) raised 0 (stack_base ring) (le_refl ring)
          (All-map (λ p. ring ≤ p.ring) (raised_to ring) before.pr (λ k d i. not_below ring _)));
      plain = All-set (λ p. p.further ≡ false) first 7 (way_back_in ring before) s.procedure
          (All-set (λ p. p.further ≡ false) raised 0 (stack_base ring) refl
          (All-map (λ p. p.further ≡ false) (raised_to ring) before.pr s.plain));
      procedure = refl;
    }

pub upcalled_stays_sound : (before after : Registers) (target : PointerParts) (d : Descriptor) (gate : ReturnGate)
    → IsSound before → IsUpcalled before target d gate after → IsSound after
upcalled_stays_sound before after target d gate s u =
    subst IsSound (sym (one_upcall before target d s.eight gate after u)) (sound_upcalled before target d s)

pub downreturned_stays_sound : (before after : Registers) (gate : ReturnGate) → IsSound before → IsSoundGate gate
    → gate.upper ≡ before.ring → IsDownreturned before gate after → IsSound after
downreturned_stays_sound before after gate s g up r =
    let below : gate.lower ≤ before.ring = (let falls = g.falls in omega arith) in
    let back : IsSound (downreturned before gate) = record {
      eight = (let e = s.eight in search rules);
      above = All-set (λ p. gate.lower ≤ p.ring) before.pr 0 gate.pr0 g.above (λ k d i. le_trans below (s.above k d i));
      plain = All-set (λ p. p.further ≡ false) before.pr 0 gate.pr0 g.plain s.plain;
      procedure = g.procedure;
    } in
    subst IsSound (sym (one_downreturn before after gate s.eight r)) back

pub packable_upcalled : (before : Registers) (target : PointerParts) (d : Descriptor) → ArePackable before → IsPackable target
    → d.brackets.r1 ≤ 7 → ArePackable (upcalled before target d)
packable_upcalled before target d a h low =
    let ring : ℕ = d.brackets.r1 in
    let raised : List PointerParts = map (raised_to ring) before.pr in
    record {
      ring = low;
      procedure = going_on_packable target ring h low;
      pr = All-set IsPackable (slice_set raised 0 (stack_base ring)) 7 (way_back_in ring before)
          (record { ring = low; segno = a.procedure.segno; word = a.procedure.word })
          (All-set IsPackable raised 0 (stack_base ring) (base_packable ring low)
          (All-map IsPackable (raised_to ring) before.pr (λ k d i. raised_packable ring _ low (a.pr k d i))));
    }

pub upcalled_stays_packable : (before after : Registers) (target : PointerParts) (d : Descriptor) (gate : ReturnGate)
    → length before.pr ≡ 8 → ArePackable before → IsPackable target → d.brackets.r1 ≤ 7 → IsUpcalled before target d gate after
    → ArePackable after
upcalled_stays_packable before after target d gate eight a h low u =
    subst ArePackable (sym (one_upcall before target d eight gate after u)) (packable_upcalled before target d a h low)

pub packable_downreturned : (before : Registers) (gate : ReturnGate) → ArePackable before → IsPackableGate gate
    → ArePackable (downreturned before gate)
packable_downreturned before gate a g =
    record { ring = g.ring; procedure = g.procedure; pr = All-set IsPackable before.pr 0 gate.pr0 g.pr0 a.pr }

pub downreturned_stays_packable : (before after : Registers) (gate : ReturnGate) → length before.pr ≡ 8 → ArePackable before
    → IsPackableGate gate → IsDownreturned before gate after → ArePackable after
downreturned_stays_packable before after gate eight a g r =
    subst ArePackable (sym (one_downreturn before after gate eight r)) (packable_downreturned before gate a g)
