-- What a granted call and a granted return make of the registers.
use Rattle.std.proofs.Common.{◌≡◌, ℕ, ◌<◌, ◌≤◌, ◌⊎◌, inl, inr, ◌↔◌, min, max, nat_eq, Bool, false, if◌then◌else◌, List, [], ◌∷◌, length, map, slice_get, slice_set, Some, Ok, Err, IsOk, refl, sym, ap, subst, arith, rules}
use Rattle.std.proofs.Math.Nat.{le_refl, le_trans}
use Rattle.std.proofs.lemmas.Bool.{le-ltb}
use Rattle.std.proofs.lemmas.List.{get_or-set_other, length-map}
use Rattle.std.proofs.lemmas.Option.{slice_get-get_or}
use Rattle.std.proofs.lemmas.List.Elements.{All-set, All-map}
use Rattle.std.specs.Prelude.{Result}
use Rattle.std.specs.List.{All}
use Rattle.mx_sdw.specs.declared.descriptors.Cell.{Cell}
use Rattle.mx_sdw.specs.declared.denials.Denial.{Denial}
use Rattle.mx_sdw.specs.declared.operations.Op.{Op}
use Rattle.mx_sdw.specs.Descriptors.{Descriptor}
use Rattle.mx_sdw.specs.Granting.{CanCall, CanEnter, CanGoUp, IsGranted}
use Rattle.mx_sdw.specs.Judging.{judgement, ring_after}
use Rattle.mx_sdw.proofs.JudgingLaws.{granted_is_allowed}
use Rattle.mx_ptr.specs.Pointers.{PointerParts, IsPackable}
use Rattle.mx_call.specs.Loading.{loaded}
use Rattle.mx_call.specs.Registers.{Registers, ArePackable, IsSound, going_on, stack_base, way_back, raised_to}
use Rattle.mx_call.specs.Transfers.{calling, call_judgement, called, returned, IsCalled, IsReturned, IsGate}

allowed : (d : Descriptor) (op : Op) (ring word : ℕ) (r : Result Cell Denial) → judgement d op ring word ≡ r → IsOk r → IsGranted d op ring word
allowed d op ring word (Ok cell) e h = granted_is_allowed d op ring word cell e
allowed d op ring word (Err denial) e h = cc

pub granted : (before : Registers) (target : PointerParts) (d : Descriptor) → IsOk (call_judgement before target d)
    → IsGranted d (calling before target) target.ring target.word
granted before target d h = allowed d (calling before target) target.ring target.word (call_judgement before target d) refl h

-- where upward calls are off, a granted call enters from within the brackets
entered : (d : Descriptor) (ring word current : ℕ) (same : Bool) → CanCall d ring word current same false → CanEnter d ring word current same
entered d ring word current same access = by_way access.way
  where
    by_way : CanEnter d ring word current same ⊎ CanGoUp d ring word false → CanEnter d ring word current same
    by_way (inl enters) = enters
    by_way (inr up) = cc (up.on)

entering : (before : Registers) (target : PointerParts) (d : Descriptor) → IsOk (call_judgement before target d)
    → CanEnter d target.ring target.word before.ring (nat_eq target.segno before.procedure.segno)
entering before target d h = entered d target.ring target.word before.ring _ (granted before target d h).access

pub goes_on_in : (before : Registers) (target : PointerParts) (d : Descriptor) → IsOk (call_judgement before target d)
    → ring_after d (calling before target) target.ring ≡ min target.ring d.brackets.r2
goes_on_in before target d h =
    let above = (entering before target d h).above in
    ap (λ (low : Bool). if low then d.brackets.r1 else min target.ring d.brackets.r2) (le-ltb target.ring d.brackets.r1 above)

pub never_raised : (before after : Registers) (target : PointerParts) (d : Descriptor)
    → IsOk (call_judgement before target d) → IsCalled before target d after → after.ring ≤ before.ring
never_raised before after target d h c =
    let g = entering before target d h in
    rw c.current g.no_higher

fell : (target bracket before after : ℕ) → after ≡ min target bracket → before ≤ target → after < before → (bracket < target) × (after ≡ bracket)
fell target bracket before after c effective falls = search rules

by_word : {P Q : Type 0} (target bracket : ℕ) → P ⊎ ((target ≤ bracket) × Q) → bracket < target → P
by_word target bracket entry above = search rules

pub through_a_gate : (before after : Registers) (target : PointerParts) (d : Descriptor)
    → IsOk (call_judgement before target d) → IsCalled before target d after
    → before.ring ≤ target.ring → after.ring < before.ring → IsGate target d × (after.ring ≡ d.brackets.r2)
through_a_gate before after target d h c effective falls =
    let g = entering before target d h in
    let f = fell target.ring d.brackets.r2 before.ring after.ring c.current effective falls in
    (record { word = by_word target.ring d.brackets.r2 g.entry f.0; above = f.0; within = (granted before target d h).access.within }, f.1)

-- the pointer registers of a call, where there are eight
pub eight_called : (xs ys : List PointerParts) (stack back : PointerParts) → length xs ≡ 8 → length ys ≡ length xs
    → slice_get ys 0 ≡ Some stack → slice_get ys 7 ≡ Some back → ((n : ℕ) → 1 ≤ n → n ≤ 6 → slice_get ys n ≡ slice_get xs n)
    → ys ≡ slice_set (slice_set xs 0 stack) 7 back
eight_called (x0 ∷ x1 ∷ x2 ∷ x3 ∷ x4 ∷ x5 ∷ x6 ∷ x7 ∷ []) (y0 ∷ y1 ∷ y2 ∷ y3 ∷ y4 ∷ y5 ∷ y6 ∷ y7 ∷ []) stack back e f first last others =
    let o1 : Some y1 ≡ Some x1 = others 1 (search rules) (search rules) in
    let o2 : Some y2 ≡ Some x2 = others 2 (search rules) (search rules) in
    let o3 : Some y3 ≡ Some x3 = others 3 (search rules) (search rules) in
    let o4 : Some y4 ≡ Some x4 = others 4 (search rules) (search rules) in
    let o5 : Some y5 ≡ Some x5 = others 5 (search rules) (search rules) in
    let o6 : Some y6 ≡ Some x6 = others 6 (search rules) (search rules) in
    cc
eight_called xs ys stack back e f first last others = search rules

pub same : (g h : Registers) → g.ring ≡ h.ring → g.procedure ≡ h.procedure → g.pr ≡ h.pr → g.a ≡ h.a → g ≡ h
same g h ring procedure pr a = search rules

one_call : (before after : Registers) (target : PointerParts) (d : Descriptor) → length before.pr ≡ 8
    → IsCalled before target d after → after ≡ called before target d
one_call before after target d e c =
    let ring : ℕ = min target.ring d.brackets.r2 in
    let p : after.procedure ≡ going_on target ring = subst (λ (r : ℕ). after.procedure ≡ going_on target r) c.current c.procedure in
    let stack : slice_get after.pr 0 ≡ Some (stack_base ring) = subst (λ (r : ℕ). slice_get after.pr 0 ≡ Some (stack_base r)) c.current c.stack in
    same after (called before target d) c.current p
    (eight_called before.pr after.pr (stack_base ring) (way_back before) e c.count stack c.back c.others) c.accumulator

chain : {X : Type 0} {x y z : X} → x ≡ y → y ≡ z → x ≡ z
chain e f = cc

-- the first, the last and the other registers of a call
pub first_set : (xs : List PointerParts) (stack back : PointerParts) → length xs ≡ 8 → slice_get (slice_set (slice_set xs 0 stack) 7 back) 0 ≡ Some stack
first_set (x0 ∷ x1 ∷ x2 ∷ x3 ∷ x4 ∷ x5 ∷ x6 ∷ x7 ∷ []) stack back e = refl
first_set xs stack back e = search rules

pub last_set : (xs : List PointerParts) (stack back : PointerParts) → length xs ≡ 8 → slice_get (slice_set (slice_set xs 0 stack) 7 back) 7 ≡ Some back
last_set (x0 ∷ x1 ∷ x2 ∷ x3 ∷ x4 ∷ x5 ∷ x6 ∷ x7 ∷ []) stack back e = refl
last_set xs stack back e = search rules

pub others_kept : (xs : List PointerParts) (stack back : PointerParts) → length xs ≡ 8 → (n : ℕ) → 1 ≤ n → n ≤ 6
    → slice_get (slice_set (slice_set xs 0 stack) 7 back) n ≡ slice_get xs n
others_kept xs stack back e n low high =
    chain (slice_get-get_or (slice_set (slice_set xs 0 stack) 7 back) n stack (search rules))
    (chain (ap (λ x. Some x) (chain (get_or-set_other (slice_set xs 0 stack) 7 n back stack (search rules)) (get_or-set_other xs 0 n stack stack (search rules))))
    (sym (slice_get-get_or xs n stack (search rules))))

a_call : (before : Registers) (target : PointerParts) (d : Descriptor) → length before.pr ≡ 8 → IsCalled before target d (called before target d)
a_call before target d e =
    let stack : PointerParts = stack_base (min target.ring d.brackets.r2) in
    record {
      current = refl;
      procedure = refl;
      stack = first_set before.pr stack (way_back before) e;
      back = last_set before.pr stack (way_back before) e;
      others = others_kept before.pr stack (way_back before) e;
      count = search rules;
      accumulator = refl;
    }

pub exactly_called : (before after : Registers) (target : PointerParts) (d : Descriptor) → length before.pr ≡ 8
    → IsCalled before target d after ↔ (after ≡ called before target d)
exactly_called before after target d e =
    (one_call before after target d e, λ same. subst (IsCalled before target d) (sym same) (a_call before target d e))

pub one_return : (before after : Registers) (target : PointerParts) → IsReturned before target after
    → after ≡ returned before target
one_return before after target r =
    same after (returned before target) r.current (chain r.procedure (ap (going_on target) r.current))
    (chain r.pointers (ap (λ n. map (raised_to n) before.pr) r.current)) r.accumulator

pub not_below : (a b : ℕ) → a ≤ max a b
not_below a b = search rules

pub all_above : (ring lower : ℕ) (xs : List PointerParts) → ring ≤ lower → All (λ p. lower ≤ p.ring) xs → All (λ p. ring ≤ p.ring) xs
all_above ring lower xs h above = λ k d i. le_trans h (above k d i)

sound_called : (before : Registers) (target : PointerParts) (d : Descriptor) → IsSound before
    → (called before target d).ring ≤ before.ring → IsSound (called before target d)
sound_called before target d s falls =
    let ring : ℕ = min target.ring d.brackets.r2 in
    let first : List PointerParts = slice_set before.pr 0 (stack_base ring) in
    record {
      eight = search rules;
      above = All-set (λ p. ring ≤ p.ring) first 7 (way_back before) falls
          (All-set (λ p. ring ≤ p.ring) before.pr 0 (stack_base ring) (le_refl ring) (all_above ring before.ring before.pr falls s.above));
      plain = All-set (λ p. p.further ≡ false) first 7 (way_back before) s.procedure
          (All-set (λ p. p.further ≡ false) before.pr 0 (stack_base ring) refl s.plain);
      procedure = refl;
    }

pub called_stays_sound : (before after : Registers) (target : PointerParts) (d : Descriptor) → IsSound before
    → IsOk (call_judgement before target d) → IsCalled before target d after → IsSound after
called_stays_sound before after target d s h c =
    let falls = never_raised before after target d h c in
    subst IsSound (sym (one_call before after target d s.eight c)) (sound_called before target d s (subst (λ ring. ring ≤ before.ring) c.current falls))

pub returned_stays_sound : (before after : Registers) (target : PointerParts) → IsSound before
    → IsReturned before target after → IsSound after
returned_stays_sound before after target s r = record {
  eight = rw r.pointers (chain (length-map before.pr (raised_to after.ring)) s.eight);
  above = rw r.pointers (All-map (λ p. after.ring ≤ p.ring) (raised_to after.ring) before.pr (λ k d i. not_below after.ring _));
  plain = rw r.pointers (All-map (λ p. p.further ≡ false) (raised_to after.ring) before.pr s.plain);
  procedure = rw r.procedure refl;
}

pub loaded_stays_sound : (before : Registers) (n : ℕ) (target : PointerParts) → IsSound before
    → before.ring ≤ target.ring → target.further ≡ false → IsSound (loaded before n target)
loaded_stays_sound before n target s above plain = record {
  eight = search rules;
  above = All-set (λ p. before.ring ≤ p.ring) before.pr n target above s.above;
  plain = All-set (λ p. p.further ≡ false) before.pr n target plain s.plain;
  procedure = s.procedure;
}

pub loaded_stays_packable : (before : Registers) (n : ℕ) (target : PointerParts) → ArePackable before → IsPackable target
    → ArePackable (loaded before n target)
loaded_stays_packable before n target s h = record {
  ring = s.ring;
  procedure = s.procedure;
  pr = All-set IsPackable before.pr n target h s.pr;
}

-- the pointers that a transfer puts into the registers
pub base_packable : (ring : ℕ) → ring ≤ 7 → IsPackable (stack_base ring)
base_packable ring h = record { ring = h; segno = omega arith; word = omega arith }

pub going_on_packable : (target : PointerParts) (ring : ℕ) → IsPackable target → ring ≤ 7 → IsPackable (going_on target ring)
going_on_packable target ring h low = record { ring = low; segno = h.segno; word = h.word }

way_back_packable : (g : Registers) → ArePackable g → IsPackable (way_back g)
way_back_packable g a = record { ring = a.ring; segno = a.procedure.segno; word = a.procedure.word }

pub raised_packable : (ring : ℕ) (p : PointerParts) → ring ≤ 7 → IsPackable p → IsPackable (raised_to ring p)
raised_packable ring p low h = record { ring = let high = h.ring in omega arith; segno = h.segno; word = h.word }

pub called_packable : (before : Registers) (target : PointerParts) (d : Descriptor) → ArePackable before → IsPackable target
    → ArePackable (called before target d)
called_packable before target d s h =
    let ring : ℕ = min target.ring d.brackets.r2 in
    let low : ring ≤ 7 = (let high = h.ring in omega arith) in
    record {
      ring = low;
      procedure = going_on_packable target ring h low;
      pr = All-set IsPackable (slice_set before.pr 0 (stack_base ring)) 7 (way_back before) (way_back_packable before s)
          (All-set IsPackable before.pr 0 (stack_base ring) (base_packable ring low) s.pr);
    }

pub called_stays_packable : (before after : Registers) (target : PointerParts) (d : Descriptor) → length before.pr ≡ 8
    → ArePackable before → IsPackable target → IsCalled before target d after → ArePackable after
called_stays_packable before after target d eight s h c =
    subst ArePackable (sym (one_call before after target d eight c)) (called_packable before target d s h)

pub returned_stays_packable : (before after : Registers) (target : PointerParts) → ArePackable before → IsPackable target
    → IsReturned before target after → ArePackable after
returned_stays_packable before after target s h r =
    let low : after.ring ≤ 7 = rw r.current h.ring in
    record {
      ring = low;
      procedure = rw r.procedure (going_on_packable target after.ring h low);
      pr = rw r.pointers (All-map IsPackable (raised_to after.ring) before.pr (λ k d i. raised_packable after.ring _ low (s.pr k d i)));
    }
