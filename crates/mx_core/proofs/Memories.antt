-- The associative memory: what a put leaves, and what a recall finds.
use Rattle.std.proofs.Common.{◌≡◌, ◌⊎◌, inl, inr, ℕ, zero, suc, ◌+◌, ◌≤◌, Bool, true, false, cond, List, [], ◌∷◌, length, refl, ap, sym, ◌∙◌, Some, None, arith}
use Rattle.std.specs.Prelude.{nat_le, ◌==◌}
use Rattle.std.specs.List.{slice_get}
use Rattle.std.proofs.lemmas.Bool.{leb-true, eqb-true, eqb-false}
use Rattle.mx_core.specs.AssociativeMemory.{recalled, replaced, without_first, remembered, IsAssociative}
use Rattle.mx_core.specs.Keeping.{IsIn}
use Rattle.mx_core.specs.Words.{Triple}
use Rattle.mx_core.proofs.JudgingAccess.{renews}
use Rattle.mx_core.proofs.Puts.{pick_all}

later : (u v : Triple) (memory : List Triple) → IsIn u memory → IsIn u (v ∷ memory)
later u v memory k = record { i = suc k.i; at = k.at }

replaced_renews : (u : Triple) (memory : List Triple) → renews u memory (replaced u memory)
replaced_renews u [] zero v h = inl cc
replaced_renews u [] (suc i) v h = cc
replaced_renews u (x ∷ rest) i v h =
    pick_all (λ (m : List Triple). (j : ℕ) → slice_get m j ≡ Some v → (v ≡ u) ⊎ IsIn v (x ∷ rest))
    (x.segno == u.segno) (u ∷ rest) (x ∷ replaced u rest) (λ e. here)
    (λ e. there (λ j k. replaced_renews u rest j v k)) i h
  where
    here : (j : ℕ) → slice_get (u ∷ rest) j ≡ Some v → (v ≡ u) ⊎ IsIn v (x ∷ rest)
    here zero k = inl cc
    here (suc j) k = inr (record { i = suc j; at = k })

    there : ((j : ℕ) → slice_get (replaced u rest) j ≡ Some v → (v ≡ u) ⊎ IsIn v rest) → (j : ℕ)
        → slice_get (x ∷ replaced u rest) j ≡ Some v
        → (v ≡ u) ⊎ IsIn v (x ∷ rest)
    there go zero k = inr (record { i = 0; at = k })
    there go (suc j) k = elim (go j k) [ inl e ↦ inl e | inr is ↦ inr (later v x rest is) ]

dropped : (memory : List Triple) (i : ℕ) (v : Triple) → slice_get (without_first memory) i ≡ Some v
    → slice_get memory (suc i) ≡ Some v
dropped [] i v h = cc
dropped (x ∷ rest) i v h = h

pub remembered_renews : (u : Triple) (memory : List Triple) → renews u memory (remembered u memory)
remembered_renews u memory i v h = pick_all (λ (m : List Triple). slice_get m i ≡ Some v → (v ≡ u) ⊎ IsIn v memory)
    (nat_le (length (replaced u memory)) 16) (replaced u memory) (without_first (replaced u memory))
    (λ e k. replaced_renews u memory i v k)
    (λ e k. replaced_renews u memory (suc i) v (dropped (replaced u memory) i v k)) h

replaced_length : (u : Triple) (memory : List Triple) → length (replaced u memory) ≤ length memory + 1
replaced_length u [] = omega arith
replaced_length u (x ∷ rest) = let below = replaced_length u rest in
    pick_all (λ (m : List Triple). length m ≤ length (x ∷ rest) + 1) (x.segno == u.segno) (u ∷ rest)
    (x ∷ replaced u rest) (λ e. omega arith) (λ e. omega arith)

without_length : (memory : List Triple) → length memory ≤ 17 → length (without_first memory) ≤ 16
without_length [] l = omega arith
without_length (x ∷ rest) l = omega arith

remembered_length : (u : Triple) (memory : List Triple) → length memory ≤ 16 → length (remembered u memory) ≤ 16
remembered_length u memory few = let more = replaced_length u memory in
    pick_all (λ (m : List Triple). length m ≤ 16) (nat_le (length (replaced u memory)) 16) (replaced u memory)
    (without_first (replaced u memory))
    (λ e. leb-true (length (replaced u memory)) 16 e) (λ e. without_length (replaced u memory) (omega arith))

pub recalled_in : (n : ℕ) (memory : List Triple) (u : Triple) → recalled n memory ≡ Some u → IsIn u memory
recalled_in n [] u h = cc
recalled_in n (x ∷ rest) u h = by_test (λ k. recalled_in n rest u k) (x.segno == n) h
  where
    by_test : (recalled n rest ≡ Some u → IsIn u rest) → (b : Bool) → cond b (Some x) (recalled n rest) ≡ Some u
        → IsIn u (x ∷ rest)
    by_test go true k = record { i = 0; at = k }
    by_test go false k = later u x rest (go k)

abbrev IsOnce : List Triple → Type 0
IsOnce memory =
    (i j : ℕ) (u v : Triple) → slice_get memory i ≡ Some u → slice_get memory j ≡ Some v → u.segno ≡ v.segno → i ≡ j

once_rest : (x : Triple) (rest : List Triple) → IsOnce (x ∷ rest) → IsOnce rest
once_rest x rest once i j u v a b e = let h = once (suc i) (suc j) u v a b e in omega arith

same_triple : (u v : Triple) → Some u ≡ Some v → u ≡ v
same_triple u v h = cc

-- in front of a memory, a triple whose number that has not
once_before : (x : Triple) (rest : List Triple)
    → ((j : ℕ) (v : Triple) → slice_get rest j ≡ Some v → x.segno ≡ v.segno → ⊥) → IsOnce rest → IsOnce (x ∷ rest)
once_before x rest other once zero zero u v a b e = refl
once_before x rest other once zero (suc j) u v a b e =
    absurd (other j v b (ap (λ (t : Triple). t.segno) (same_triple x u a) ∙ e))
once_before x rest other once (suc i) zero u v a b e =
    absurd (other i u a (ap (λ (t : Triple). t.segno) (same_triple x v b) ∙ sym e))
once_before x rest other once (suc i) (suc j) u v a b e = let h = once i j u v a b e in omega arith

replaced_once : (u : Triple) (memory : List Triple) → IsOnce memory → IsOnce (replaced u memory)
replaced_once u [] once = once_before u [] (λ j v b e. nothing v b) once
  where
    nothing : (v : Triple) → None ≡ Some v → ⊥
    nothing v h = cc
replaced_once u (x ∷ rest) once = let later_once = replaced_once u rest (once_rest x rest once) in
    pick_all IsOnce (x.segno == u.segno) (u ∷ rest) (x ∷ replaced u rest)
    (λ e. once_before u rest (λ j v b f. not_later j v b (eqb-true x.segno u.segno e ∙ f)) (once_rest x rest once))
    (λ e. once_before x (replaced u rest) (λ j v b f. elim (replaced_renews u rest j v b) [
      | inl is ↦ eqb-false x.segno u.segno e (f ∙ ap (λ (t : Triple). t.segno) is)
      | inr there ↦ not_later there.i v there.at f
    ]) later_once)
  where
    not_later : (j : ℕ) (v : Triple) → slice_get rest j ≡ Some v → x.segno ≡ v.segno → ⊥
    not_later j v b f = let h = once 0 (suc j) x v refl b f in absurd (omega arith)

without_once : (memory : List Triple) → IsOnce memory → IsOnce (without_first memory)
without_once memory once i j u v a b e =
    let h = once (suc i) (suc j) u v (dropped memory i u a) (dropped memory j v b) e in omega arith

pub remembered_associative : (u : Triple) (memory : List Triple) → IsAssociative memory
    → IsAssociative (remembered u memory)
remembered_associative u memory is = record {
  few = remembered_length u memory is.few;
  once = let more = replaced_once u memory is.once in
      pick_all IsOnce (nat_le (length (replaced u memory)) 16) (replaced u memory) (without_first (replaced u memory))
      (λ e. more) (λ e. without_once (replaced u memory) more);
}

pub empty_associative : IsAssociative []
empty_associative = record { few = omega arith; once = λ i j u v a b e. absurd (nothing u a) }
  where
    nothing : (v : Triple) → None ≡ Some v → ⊥
    nothing v h = cc
