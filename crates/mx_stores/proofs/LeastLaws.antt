-- The least of numbers that may be none: reached exactly where one of them is.
use Rattle.std.proofs.Common.{◌≡◌, ◌⊎◌, inl, inr, ℕ, zero, suc, ◌<◌, ◌≤◌, min, Bool, true, false, if◌then◌else◌, Option, Some, None, refl, subst, arith}
use Rattle.std.proofs.lemmas.Bool.{cases_eq, cases_lt}
use Rattle.std.proofs.Math.Nat.{min-eq_left, min-le_left, min-le_right, min_comm}
use Rattle.mx_stores.specs.Least.{least, least_of, IsBy}

pub least_left : (a b : Option ℕ) (q : ℕ) → IsBy a q → IsBy (least a b) q
least_left None b q h = absurd h
least_left (Some a) None q h = h
least_left (Some a) (Some b) q h = let l : min a b ≤ a = min-le_left a b in omega arith

pub least_right : (a b : Option ℕ) (q : ℕ) → IsBy b q → IsBy (least a b) q
least_right None b q h = h
least_right (Some a) None q h = absurd h
least_right (Some a) (Some b) q h = let l : min a b ≤ b = min-le_right a b in omega arith

pub least_parts : (a b : Option ℕ) (q : ℕ) → IsBy (least a b) q → IsBy a q ⊎ IsBy b q
least_parts None b q h = inr h
least_parts (Some a) None q h = inl h
least_parts (Some a) (Some b) q h = elim (cases_lt b a) [
  | inl l ↦ inr (let e : min b a ≡ b = min-eq_left (omega arith) in let f : min a b ≡ min b a = min_comm a b in omega arith)
  | inr l ↦ inl (let e : min a b ≡ a = min-eq_left l in omega arith)
]

-- one of the processes' numbers is reached
pub record IsOneBy (of_process : ℕ → Option ℕ) (count q : ℕ) : Type 0 where
  pub process : ℕ
  pub below : process < count
  pub by : IsBy (of_process process) q

pub least_of_from : (f : ℕ → Option ℕ) (count n q : ℕ) → n < count → IsBy (f n) q → IsBy (least_of f count) q
least_of_from f zero n q l h = absurd (omega arith)
least_of_from f (suc count) n q l h = elim (cases_eq n count) [
  | inl e ↦ least_left (f count) (least_of f count) q (subst (λ (k : ℕ). IsBy (f k) q) e h)
  | inr other ↦ least_right (f count) (least_of f count) q (least_of_from f count n q (omega arith) h)
]

pub least_of_one : (f : ℕ → Option ℕ) (count q : ℕ) → IsBy (least_of f count) q → IsOneBy f count q
least_of_one f zero q h = absurd h
least_of_one f (suc count) q h = elim (least_parts (f count) (least_of f count) q h) [
  | inl a ↦ record { process = count; below = omega arith; by = a }
  | inr b ↦
      let one : IsOneBy f count q = least_of_one f count q b in
      let below = one.below in
      record { process = one.process; below = omega arith; by = one.by }
]

pub chosen : (b : Bool) (x y : Option ℕ) (q : ℕ) → IsBy (if b then x else y) q
    → ((b ≡ true) × IsBy x q) ⊎ ((b ≡ false) × IsBy y q)
chosen true x y q h = inl (refl, h)
chosen false x y q h = inr (refl, h)

pub choose_then : (b : Bool) (x y : Option ℕ) (q : ℕ) → b ≡ true → IsBy x q → IsBy (if b then x else y) q
choose_then true x y q e h = h
choose_then false x y q e h = absurd cc

pub choose_else : (b : Bool) (x y : Option ℕ) (q : ℕ) → b ≡ false → IsBy y q → IsBy (if b then x else y) q
choose_else true x y q e h = absurd cc
choose_else false x y q e h = h
