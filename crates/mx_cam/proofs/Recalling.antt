-- What a memory has of a number, by the place of that number; and what a put leaves.
use Rattle.std.proofs.Common.{◌≡◌, ◌≢◌, ℕ, zero, suc, Bool, true, false, cond, List, [], ◌∷◌, ◌++◌, length, refl, ap, sym, ◌∙◌, subst, Some, None, arith, rules}
use Rattle.std.specs.Prelude.{◌==◌}
use Rattle.std.specs.List.{slice_get}
use Rattle.std.proofs.lemmas.Bool.{eqb-false}
use Rattle.mx_core.specs.AssociativeMemory.{recalled, replaced, HasNotBefore, HasNot, IsAssociative}
use Rattle.mx_core.specs.declared.words.Triple.{Triple}
use Rattle.mx_core.proofs.Puts.{pick_false}

one_later : (n : ℕ) (v : Triple) (memory : List Triple) (place : ℕ) → HasNotBefore n (v ∷ memory) (suc place)
    → HasNotBefore n memory place
one_later n v memory place before j u under at = before (suc j) u (omega arith) at

is_number : (v : Triple) (n : ℕ) → v.segno ≡ n → (v.segno == n) ≡ true
is_number v n e = search rules

is_other : (v : Triple) (n : ℕ) → v.segno ≢ n → (v.segno == n) ≡ false
is_other v n e = search rules

same_triple : (a b : Triple) → Some a ≡ Some b → a ≡ b
same_triple a b h = cc

recalled_at : (n : ℕ) (memory : List Triple) (place : ℕ) (t : Triple) → HasNotBefore n memory place
    → slice_get memory place ≡ Some t → t.segno ≡ n → recalled n memory ≡ Some t
recalled_at n [] place t before here is = cc
recalled_at n (v ∷ rest) zero t before here is =
    let e : v ≡ t = cc in
    subst (λ (b : Bool). cond b (Some v) (recalled n rest) ≡ Some t)
    (sym (is_number v n (ap (λ (x : Triple). x.segno) e ∙ is))) here
recalled_at n (v ∷ rest) (suc place) t before here is =
    subst (λ (b : Bool). cond b (Some v) (recalled n rest) ≡ Some t)
    (sym (is_other v n (before 0 v (omega arith) refl)))
    (recalled_at n rest place t (one_later n v rest place before) here is)

pub recalled_none : (n : ℕ) (memory : List Triple) → HasNot n memory → recalled n memory ≡ None
recalled_none n [] has = refl
recalled_none n (v ∷ rest) has =
    subst (λ (b : Bool). cond b (Some v) (recalled n rest) ≡ None) (sym (is_other v n (has 0 v (omega arith) refl)))
    (recalled_none n rest (one_later n v rest (length rest) has))

-- where no number stands twice
pub recalled_once : (n : ℕ) (memory : List Triple) (place : ℕ) (t : Triple) → IsAssociative memory
    → slice_get memory place ≡ Some t → t.segno ≡ n → recalled n memory ≡ Some t
recalled_once n memory place t associative here is =
    recalled_at n memory place t
    (λ j u under at same. (let e = associative.once j place u t at here (same ∙ sym is) in absurd (omega arith))) here is

-- what nothing is recalled of stands nowhere
pub has_not : (n : ℕ) (memory : List Triple) → recalled n memory ≡ None → HasNot n memory
has_not n [] none j u under at same = cc
has_not n (v ∷ rest) none j u under at same = by_test (has_not n rest) (v.segno == n) refl none j u under at same
  where
    by_test : (recalled n rest ≡ None → HasNot n rest) → (b : Bool) → (v.segno == n) ≡ b
        → cond b (Some v) (recalled n rest) ≡ None → HasNot n (v ∷ rest)
    by_test later true e h j u under at same = cc
    by_test later false e h zero u under at same =
        eqb-false v.segno n e (ap (λ (x : Triple). x.segno) (same_triple v u at) ∙ same)
    by_test later false e h (suc j) u under at same = later h j u (omega arith) at same

pub replaced_none : (u : Triple) (memory : List Triple) → HasNot u.segno memory → memory ++ u ∷ [] ≡ replaced u memory
replaced_none u [] has = refl
replaced_none u (v ∷ rest) has =
    ap (λ (l : List Triple). v ∷ l) (replaced_none u rest (one_later u.segno v rest (length rest) has))
    ∙ sym (pick_false (v.segno == u.segno) (u ∷ rest) (v ∷ replaced u rest)
    (is_other v u.segno (has 0 v (omega arith) refl)))
