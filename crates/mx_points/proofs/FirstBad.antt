-- What holds of the first n, where what holds of n holds of fewer, holds up to the place at which it fails first, and not
-- beyond.
use Rattle.std.proofs.Common.{ℕ, suc, ◌<◌, ◌≤◌, arith}
use Rattle.mx_points.specs.Fronts.{IsBadAt}

module _ (holds : ℕ → Type 0) (fewer : (m n : ℕ) → m ≤ n → holds n → holds m) where
  pub good_to : (count n k : ℕ) → IsBadAt holds count n → k ≤ n → holds k
  good_to count n k first h = fewer k n h first.good

  pub bad_after : (count n k : ℕ) → IsBadAt holds count n → n < k → holds k → ⊥
  bad_after count n k first h good = first.bad (fewer (suc n) k (omega arith) good)

  -- there is one such place
  pub one_place : (count m n : ℕ) → IsBadAt holds count m → IsBadAt holds count n → (m < n → ⊥) × (n < m → ⊥)
  one_place count m n one other = (
    λ h. one.bad (fewer (suc m) n (omega arith) other.good),
    λ h. other.bad (fewer (suc n) m (omega arith) one.good),
  )
