-- The uids of branches ascend in the order of their making: no two branches have the same.
use Rattle.std.specs.Prelude.{ℕ, suc, ◌≤◌, List, [], ◌∷◌}
use Rattle.mx_hier.specs.declared.branches.Branch.{Branch}

-- each uid is at least the first of these two numbers and below the second, and they ascend
abbrev pub AreNumbered : ℕ → List Branch → ℕ → Type 0
AreNumbered low [] next = low ≤ next
AreNumbered low (branch ∷ branches) next = (low ≤ branch.uid) × AreNumbered (suc branch.uid) branches next
