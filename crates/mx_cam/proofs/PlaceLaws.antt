-- What the places recall of a number, and what they hold after a put.
use Rattle.std.proofs.Common.{◌≡◌, ◌⊎◌, inl, inr, ℕ, zero, suc, ◌+◌, ◌%◌, ◌<◌, ◌≤◌, nat_le, List, [], ◌∷◌, ◌++◌, length, take, drop, Some, None, refl, sym, ap, ◌∙◌, subst, slice_get, arith, length-append}
use Rattle.std.specs.Prelude.{slice_index_or, slice_set}
use Rattle.std.specs.List.{Contains}
use Rattle.std.proofs.lemmas.Bool.Decides.{nat_tests}
use Rattle.std.proofs.lemmas.List.{append-nil, append_assoc, drop_all, get_or-take, take-append-drop, take_all}
use Rattle.std.proofs.lemmas.List.Elements.{Contains-append_cases, Contains-append_left, Contains-append_right}
use Rattle.std.proofs.lemmas.Option.{get_or_from_slice_get, slice_get-get_or, slice_get_within}
use Rattle.mx_core.specs.AssociativeMemory.{HasNotBefore, IsAssociative, at_most_sixteen, recalled, remembered, replaced, without_first}
use Rattle.mx_core.specs.declared.words.Triple.{Triple}
use Rattle.mx_core.proofs.Memories.{remembered_associative}
use Rattle.mx_core.proofs.Puts.{pick_true, pick_false}
use Rattle.mx_cam.specs.Turns.{IsRing, in_turn}
use Rattle.mx_cam.proofs.Recalling.{has_not, recalled_none, recalled_once, replaced_none}

first_so_many : {A : Type 0} (xs : List A) (k : ℕ) → k ≤ length xs → length (take k xs) ≡ k
first_so_many xs zero le = refl
first_so_many [] (suc k) le = absurd (omega arith)
first_so_many (z ∷ xs) (suc k) le = ap (λ (n : ℕ). suc n) (first_so_many xs k (omega arith))

-- writing just after the first so many
set_after : {A : Type 0} (xs : List A) (k : ℕ) (x : A) → k < length xs
    → take (suc k) (slice_set xs k x) ≡ take k xs ++ x ∷ []
set_after [] k x under = absurd (omega arith)
set_after (z ∷ xs) zero x under = refl
set_after (z ∷ xs) (suc k) x under = ap (λ l. z ∷ l) (set_after xs k x (omega arith))

-- what stands after a place that is written
past_set : {A : Type 0} (xs : List A) (k : ℕ) (x : A) → drop (suc k) (slice_set xs k x) ≡ drop (suc k) xs
past_set [] k x = refl
past_set (z ∷ xs) zero x = refl
past_set (z ∷ xs) (suc k) x = past_set xs k x

set_length : {A : Type 0} (xs : List A) (i : ℕ) (x : A) → length (slice_set xs i x) ≡ length xs
set_length [] i x = refl
set_length (z ∷ xs) zero x = refl
set_length (z ∷ xs) (suc i) x = ap (λ (k : ℕ). suc k) (set_length xs i x)

-- the first of what stands from a place on
one_less : (xs ys : List Triple) (k : ℕ) → k < length xs → without_first (drop k xs ++ ys) ≡ drop (suc k) xs ++ ys
one_less [] ys k under = absurd (omega arith)
one_less (z ∷ xs) ys zero under = refl
one_less (z ∷ xs) ys (suc k) under = one_less xs ys k (omega arith)

few_enough : (xs : List Triple) → length xs ≤ 16 → at_most_sixteen xs ≡ xs
few_enough xs le = pick_true (nat_le (length xs) 16) xs (without_first xs) (grind (arith, nat_tests))

one_many : (xs : List Triple) → 16 < length xs → at_most_sixteen xs ≡ without_first xs
one_many xs gt = pick_false (nat_le (length xs) 16) xs (without_first xs) (grind (arith, nat_tests))

swapped : {A : Type 0} (xs ys : List A) (x : A) → Contains (xs ++ ys) x → Contains (ys ++ xs) x
swapped xs ys x c = elim (Contains-append_cases xs ys x c) [
  | inl left ↦ Contains-append_right ys xs x left
  | inr right ↦ Contains-append_left ys xs x right
]

-- the whole ring, from the place of the first on, and what of it is taken
turned_length : {A : Type 0} (xs : List A) (k : ℕ) → length (drop k xs ++ take k xs) ≡ length xs
turned_length xs k = length-append (drop k xs) (take k xs)
    ∙ (let a = length-append (take k xs) (drop k xs) in
    let b = ap (λ (l : List _). length l) (take-append-drop k xs) in omega arith)

from_zero : {A : Type 0} (len : ℕ) (xs : List A) → in_turn len 0 xs ≡ take len xs
from_zero len xs = ap (λ (l : List _). take len l) (append-nil xs)

all_in_turn : {A : Type 0} (len first : ℕ) (xs : List A) → length xs ≤ len
    → in_turn len first xs ≡ drop first xs ++ take first xs
all_in_turn len first xs le =
    take_all len (drop first xs ++ take first xs) (let a = turned_length xs first in omega arith)

-- to begin at the end is to begin at the start
all_round : {A : Type 0} (len k : ℕ) (xs : List A) → length xs ≡ k → in_turn len k xs ≡ in_turn len 0 xs
all_round len k xs e = ap (λ (l : List _). take len l)
    ((λ i. drop_all k xs (omega arith) i ++ take_all k xs (omega arith) i) ∙ sym (append-nil xs))

either : (len : ℕ) → (len < 16) ⊎ (16 ≤ len)
either len = search arith

-- the place after a place of the ring
inside : (first : ℕ) → first ≤ 15 → ((first + 1) % 16 ≡ suc first) ⊎ (((first + 1) % 16 ≡ 0) × (16 ≡ suc first))
inside first within = search arith

module _ (triples memory : List Triple) (len first : ℕ) (few : len ≤ 16) (sixteen : length triples ≡ 16)
    (within : first ≤ 15) (ring : IsRing len first triples) (is : in_turn len first triples ≡ memory) where
  young : len < 16 → take len triples ≡ memory
  young room = sym (from_zero len triples) ∙ ap (λ (k : ℕ). in_turn len k triples) (sym (ring.whole room)) ∙ is

  full : 16 ≤ len → drop first triples ++ take first triples ≡ memory
  full le = sym (all_in_turn len first triples (omega arith)) ∙ is

  split : 16 ≤ len → take first triples ++ drop first triples ≡ take len triples
  split le = take-append-drop first triples ∙ sym (take_all len triples (omega arith))

  there : (u : Triple) → Contains (take len triples) u → Contains memory u
  there u c = elim (either len) [
    | inl room ↦ subst (λ (l : List Triple). Contains l u) (young room) c
    | inr le ↦ subst (λ (l : List Triple). Contains l u) (full le)
        (swapped (take first triples) (drop first triples) u
        (subst (λ (l : List Triple). Contains l u) (sym (split le)) c))
  ]

  here : (u : Triple) → Contains memory u → Contains (take len triples) u
  here u c = elim (either len) [
    | inl room ↦ subst (λ (l : List Triple). Contains l u) (sym (young room)) c
    | inr le ↦ subst (λ (l : List Triple). Contains l u) (split le)
        (swapped (drop first triples) (take first triples) u
        (subst (λ (l : List Triple). Contains l u) (sym (full le)) c))
  ]

  once : IsAssociative memory
  once = subst IsAssociative is ring.associative

  pub recalls : (n place : ℕ) (u other : Triple) → place < len → slice_get triples place ≡ Some u → u.segno ≡ n
      → Some (slice_index_or triples place other) ≡ recalled n memory
  recalls n place u other under at number =
      let c = there u (
        place,
        let a = first_so_many triples len (omega arith) in omega arith,
        get_or-take len triples place u under ∙ get_or_from_slice_get triples place u u at,
      ) in
      ap Some (get_or_from_slice_get triples place u other at)
      ∙ sym (recalled_once n memory c.0 u once (slice_get-get_or memory c.0 u c.1 ∙ ap Some c.2) number)

  pub misses : (n : ℕ) → HasNotBefore n triples len → None ≡ recalled n memory
  misses n before = sym (recalled_none n memory (λ j u under at.
      let c = here u (j, slice_get_within memory j u at, get_or_from_slice_get memory j u u at) in
      let low : c.0 < len = let a = first_so_many triples len (omega arith) in let b = c.1 in omega arith in
      before c.0 u low (slice_get-get_or triples c.0 u (omega arith)
      ∙ ap Some (sym (get_or-take len triples c.0 u low) ∙ c.2))))

  size : length memory ≡ len
  size = ap (λ (l : List Triple). length l) (sym is)
      ∙ first_so_many (drop first triples ++ take first triples) len
      (let a = turned_length triples first in omega arith)

  last : (u : Triple) → recalled u.segno memory ≡ None → memory ++ u ∷ [] ≡ replaced u memory
  last u none = replaced_none u memory (has_not u.segno memory none)

  last_length : (u : Triple) → recalled u.segno memory ≡ None → length (replaced u memory) ≡ suc len
  last_length u none =
      let a = ap (λ (l : List Triple). length l) (last u none) in
      let b = length-append memory (u ∷ []) in
      let s = size in
      omega arith

  pub adds : (u : Triple) → recalled u.segno memory ≡ None → len < 16
      → in_turn (len + 1) first (slice_set triples len u) ≡ remembered u memory
  adds u none room =
      (λ i. in_turn (one_more len i) (ring.whole room i) (slice_set triples len u))
      ∙ from_zero (suc len) (slice_set triples len u) ∙ set_after triples len u (omega arith)
      ∙ ap (λ (l : List Triple). l ++ u ∷ []) (young room) ∙ last u none
      ∙ sym (few_enough (replaced u memory) (let a = last_length u none in omega arith))
    where
      one_more : (n : ℕ) → n + 1 ≡ suc n
      one_more n = omega arith

  pub pushes : (u : Triple) → recalled u.segno memory ≡ None → 16 ≤ len
      → in_turn len ((first + 1) % 16) (slice_set triples first u) ≡ remembered u memory
  pushes u none le =
      next ∙ all_in_turn len (suc first) (slice_set triples first u) (let a = wide in omega arith)
      ∙ (λ i. past_set triples first u i ++ set_after triples first u (omega arith) i)
      ∙ sym (one_less triples (take first triples ++ u ∷ []) first (omega arith))
      ∙ ap without_first (sym (append_assoc (drop first triples) (take first triples) (u ∷ []))
      ∙ ap (λ (l : List Triple). l ++ u ∷ []) (full le) ∙ last u none)
      ∙ sym (one_many (replaced u memory) (let a = last_length u none in omega arith))
    where
      wide : length (slice_set triples first u) ≡ 16
      wide = set_length triples first u ∙ sixteen

      next : in_turn len ((first + 1) % 16) (slice_set triples first u)
          ≡ in_turn len (suc first) (slice_set triples first u)
      next = elim (inside first within) [
        | inl e ↦ ap (λ (k : ℕ). in_turn len k (slice_set triples first u)) e
        | inr e ↦ ap (λ (k : ℕ). in_turn len k (slice_set triples first u)) e.0
            ∙ sym (all_round len (suc first) (slice_set triples first u) (wide ∙ e.1))
      ]

  pub adds_ring : (u : Triple) → recalled u.segno memory ≡ None → len < 16
      → IsRing (len + 1) first (slice_set triples len u)
  adds_ring u none room = record {
    whole = λ again. ring.whole room;
    associative = subst IsAssociative (sym (adds u none room)) (remembered_associative u memory once);
  }

  pub pushes_ring : (u : Triple) → recalled u.segno memory ≡ None → 16 ≤ len
      → IsRing len ((first + 1) % 16) (slice_set triples first u)
  pushes_ring u none le = record {
    whole = λ room. absurd (omega arith);
    associative = subst IsAssociative (sym (pushes u none le)) (remembered_associative u memory once);
  }
