-- Where one slot is replaced, the others keep what they kept.
use Rattle.std.proofs.Common.{◌≡◌, ◌≢◌, ◌⊎◌, inl, inr, ℕ, zero, suc, ◌+◌, ◌*◌, ◌≤◌, List, [], ◌∷◌, length, Option, Some, refl, sym, ap, ◌∙◌, subst, arith}
use Rattle.std.specs.Prelude.{slice_set}
use Rattle.std.specs.List.{slice_get}
use Rattle.std.proofs.lemmas.Bool.{cases_eq}
use Rattle.mx_core.specs.Put.{put}
use Rattle.mx_core.proofs.Puts.{put_here, put_else}
use Rattle.mx_rule.specs.Parts.{DescriptorAt}
use Rattle.mx_rule.specs.declared.layout.Layout.{Layout}
use Rattle.mx_rule.proofs.PartLaws.{numbers_apart}
use Rattle.mx_sdw.specs.Descriptors.{Descriptor}
use Rattle.mx_desc.specs.Slots.{IsPair, IsSlot, ShowsSlots, slot_number}
use Rattle.mx_desc.specs.declared.slots.Slot.{Slot}

-- what stands in a list with one item replaced
set_found : {A : Type 0} (xs : List A) (i j : ℕ) (x y : A) → slice_get (slice_set xs i x) j ≡ Some y
    → ((j ≡ i) × (y ≡ x)) ⊎ ((j ≢ i) × (slice_get xs j ≡ Some y))
set_found [] i j x y h = cc
set_found (z ∷ xs) zero zero x y h = inl (refl, cc)
set_found (z ∷ xs) zero (suc j) x y h = inr (λ e. absurd (omega arith), h)
set_found (z ∷ xs) (suc i) zero x y h = inr (λ e. absurd (omega arith), h)
set_found (z ∷ xs) (suc i) (suc j) x y h = elim (set_found xs i j x y h) [
  | inl a ↦ inl (ap suc a.0, a.1)
  | inr b ↦ inr (λ e. b.0 (omega arith), b.1)
]

set_length : {A : Type 0} (xs : List A) (i : ℕ) (x : A) → length (slice_set xs i x) ≡ length xs
set_length [] i x = refl
set_length (z ∷ xs) zero x = refl
set_length (z ∷ xs) (suc i) x = ap (λ (k : ℕ). suc k) (set_length xs i x)

same_part : (p n q m : ℕ) → DescriptorAt p n ≡ DescriptorAt q m → (p ≡ q) × (n ≡ m)
same_part p n q m e = (cc, cc)

-- each pair has a slot of its own
slot_once : (y : Layout) (p n q m : ℕ) → y.processes ≤ 15 → IsPair y p n → IsPair y q m
    → slot_number y p n ≡ slot_number y q m → (p ≡ q) × (n ≡ m)
slot_once y p n q m few a b e =
    same_part p n q m (numbers_apart y y.processes y.numbers
    (record { few = few; processes_is = refl; numbers_is = refl }) (DescriptorAt p n) (DescriptorAt q m)
    (a.low, a.high, a.number) (b.low, b.high, b.number) (ap (λ (k : ℕ). 2 + 2 * y.processes + k) e))

-- other pairs have what they had
abbrev pub IsElsewhere : {A : Type 0} → ℕ → ℕ → (ℕ → ℕ → A) → (ℕ → ℕ → A) → Type 0
IsElsewhere p n f g = (q m : ℕ) → (q ≢ p) ⊎ (m ≢ n) → g q m ≡ f q m

pub put_elsewhere : {A : Type 0} (f : ℕ → ℕ → A) (p n : ℕ) (x : A) → IsElsewhere p n f (put f p (put (f p) n x))
put_elsewhere {A = A} f p n x q m (inl ne) = ap (λ (g : ℕ → A). g m) (put_else f p (put (f p) n x) q ne)
put_elsewhere {A = A} f p n x q m (inr ne) = elim (cases_eq q p) [
  | inr apart ↦ ap (λ (g : ℕ → A). g m) (put_else f p (put (f p) n x) q apart)
  | inl same ↦ ap (λ (g : ℕ → A). g m) (ap (put f p (put (f p) n x)) same ∙ put_here f p (put (f p) n x))
      ∙ put_else (f p) n x m ne ∙ ap (λ (r : ℕ). f r m) (sym same)
]

pub put_at : {A : Type 0} (f : ℕ → ℕ → A) (p n : ℕ) (x : A) → put f p (put (f p) n x) p n ≡ x
put_at {A = A} f p n x = ap (λ (g : ℕ → A). g n) (put_here f p (put (f p) n x)) ∙ put_here (f p) n x

module _ (y : Layout) (few : y.processes ≤ 15) (table table' : ℕ → ℕ → Descriptor) (fault fault' : ℕ → ℕ → Option ℕ)
    (slots : List Slot) (p n : ℕ) (s : Slot) (pair : IsPair y p n) (shows : ShowsSlots y table fault slots)
    (here : IsSlot (table' p n) (fault' p n) s) (tables : IsElsewhere p n table table')
    (faults : IsElsewhere p n fault fault') where
  apart : (q m : ℕ) → ((q ≡ p) × (m ≡ n) → ⊥) → (q ≢ p) ⊎ (m ≢ n)
  apart q m h = elim (cases_eq q p) [
    | inr ne ↦ inl ne
    | inl e ↦ inr (λ f. h (e, f))
  ]

  one : (q m : ℕ) (t : Slot) → IsPair y q m
      → slice_get (slice_set slots (slot_number y p n) s) (slot_number y q m) ≡ Some t → IsSlot (table' q m) (fault' q m) t
  one q m t other at = elim (set_found slots (slot_number y p n) (slot_number y q m) s t at) [
    | inl a ↦
        let same = slot_once y q m p n few other pair a.0 in
        subst (λ (z : ℕ × ℕ × Slot). IsSlot (table' z.0 z.1) (fault' z.0 z.1) z.2)
        (λ i. (sym same.0 i, sym same.1 i, sym a.1 i)) here
    | inr b ↦
        let far = apart q m (λ e. b.0 (λ i. slot_number y (e.0 i) (e.1 i))) in
        subst (λ (z : Descriptor × Option ℕ). IsSlot z.0 z.1 t) (λ i. (sym (tables q m far) i, sym (faults q m far) i))
        (shows.each q m t other b.1)
  ]

  pub one_put : ShowsSlots y table' fault' (slice_set slots (slot_number y p n) s)
  one_put = record { count = set_length slots (slot_number y p n) s ∙ shows.count; each = one }
