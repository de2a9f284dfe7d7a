-- One value of a function replaced.
use Rattle.std.proofs.Common.{◌≡◌, ◌≢◌, inl, inr, ℕ, Bool, true, false, refl, sym, subst, rules}
use Rattle.std.specs.Prelude.{◌==◌}
use Rattle.std.proofs.lemmas.Bool.{cases_eq}
use Rattle.mx_core.specs.Put.{pick, put}

pub put_all : {A : Type 0} (P : ℕ → A → Type 0) (f : ℕ → A) (i : ℕ) (a : A) → P i a → ((j : ℕ) → j ≢ i → P j (f j))
    → (j : ℕ) → P j (put f i a j)
put_all P f i a here others j = elim (cases_eq j i) [
  | inl e ↦ go (j == i) (search rules) (subst (λ (k : ℕ). P k a) (sym e) here)
  | inr n ↦ go' (j == i) (search rules) (others j n)
]
  where
    go : (b : Bool) → b ≡ true → P j a → P j (pick b a (f j))
    go b e h = subst (λ (c : Bool). P j (pick c a (f j))) (sym e) h

    go' : (b : Bool) → b ≡ false → P j (f j) → P j (pick b a (f j))
    go' b e h = subst (λ (c : Bool). P j (pick c a (f j))) (sym e) h

pub put_here : {A : Type 0} (f : ℕ → A) (i : ℕ) (a : A) → put f i a i ≡ a
put_here f i a = put_all (λ j b. j ≡ i → b ≡ a) f i a (λ e. refl) (λ j n e. absurd (n e)) i refl

pub put_else : {A : Type 0} (f : ℕ → A) (i : ℕ) (a : A) (j : ℕ) → j ≢ i → put f i a j ≡ f j
put_else f i a j n = put_all (λ k b. k ≢ i → b ≡ f k) f i a (λ m. absurd (m refl)) (λ k m m'. refl) j n

pub put_both : {A B : Type 0} (P : ℕ → A → B → Type 0) (f : ℕ → A) (g : ℕ → B) (i : ℕ) (a : A) (b : B) → P i a b
    → ((j : ℕ) → j ≢ i → P j (f j) (g j)) → (j : ℕ) → P j (put f i a j) (put g i b j)
put_both P f g i a b here others j = elim (cases_eq j i) [
  | inl e ↦ go (j == i) (search rules) (subst (λ (k : ℕ). P k a b) (sym e) here)
  | inr n ↦ go' (j == i) (search rules) (others j n)
]
  where
    go : (c : Bool) → c ≡ true → P j a b → P j (pick c a (f j)) (pick c b (g j))
    go c e h = subst (λ (d : Bool). P j (pick d a (f j)) (pick d b (g j))) (sym e) h

    go' : (c : Bool) → c ≡ false → P j (f j) (g j) → P j (pick c a (f j)) (pick c b (g j))
    go' c e h = subst (λ (d : Bool). P j (pick d a (f j)) (pick d b (g j))) (sym e) h

-- one of two, by a test
pub pick_all : {A : Type 0} (P : A → Type 0) (b : Bool) (x y : A) → (b ≡ true → P x) → (b ≡ false → P y)
    → P (pick b x y)
pick_all P true x y h k = h refl
pick_all P false x y h k = k refl

pub pick_true : {A : Type 0} (b : Bool) (x y : A) → b ≡ true → pick b x y ≡ x
pick_true true x y e = refl
pick_true false x y e = cc

pub pick_false : {A : Type 0} (b : Bool) (x y : A) → b ≡ false → pick b x y ≡ y
pick_false true x y e = cc
pick_false false x y e = refl
