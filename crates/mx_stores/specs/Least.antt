-- A number that may be none, which stands for one beyond all: from when on something holds.
use Rattle.std.specs.Prelude.{ℕ, zero, suc, ◌≤◌, nat_le, min, Bool, false, Option, Some, None}

abbrev pub least : Option ℕ → Option ℕ → Option ℕ
least None b = b
least (Some a) None = Some a
least (Some a) (Some b) = Some (min a b)

-- the least of those of the processes below a count
abbrev pub least_of : (ℕ → Option ℕ) → ℕ → Option ℕ
least_of of_process zero = None
least_of of_process (suc count) = least (of_process count) (least_of of_process count)

-- it is at most q
abbrev pub IsBy : Option ℕ → ℕ → Type 0
IsBy None q = ⊥
IsBy (Some number) q = number ≤ q

-- wherever the second is reached, the first is
abbrev pub IsNoLater : Option ℕ → Option ℕ → Type 0
IsNoLater a b = (q : ℕ) → IsBy b q → IsBy a q

abbrev pub is_by : Option ℕ → ℕ → Bool
is_by None q = false
is_by (Some number) q = nat_le number q
