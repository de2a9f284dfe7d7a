-- Numbers of entries by their processes, and what the ledger makes of them: each process names all of its entries.
use Rattle.std.specs.Prelude.{◌≡◌, ℕ, zero, suc, ◌+◌, ◌==◌, ◌≤◌, List, [], ◌∷◌, length, Some, slice_get, if◌then◌else◌}

-- the numbers of a process's entries, where the first entry has this number; the processes of all entries are given
-- in order
abbrev pub numbers_in : ℕ → ℕ → List ℕ → List ℕ
numbers_in first p [] = []
numbers_in first p (owner ∷ owners) =
    if owner == p then first ∷ numbers_in (first + 1) p owners else numbers_in (first + 1) p owners

-- numbers rise strictly, from at least this one on
abbrev pub IsRising : ℕ → List ℕ → Type 0
IsRising low [] = Unit {0}
IsRising low (number ∷ numbers) = (low ≤ number) × IsRising (number + 1) numbers

-- entry `number` is one of process p
pub record IsOwn (first p : ℕ) (owners : List ℕ) (number : ℕ) : Type 0 where
  pub place : ℕ
  pub is : number ≡ first + place
  pub owner : slice_get owners place ≡ Some p

abbrev pub AreOwn : ℕ → ℕ → List ℕ → List ℕ → Type 0
AreOwn first p owners [] = Unit {0}
AreOwn first p owners (number ∷ numbers) = IsOwn first p owners number × AreOwn first p owners numbers

-- the sum over processes 1 to so many
abbrev pub total : ℕ → (ℕ → ℕ) → ℕ
total zero f = 0
total (suc n) f = total n f + f (suc n)

-- each entry is one of processes 1 to so many
abbrev pub AreProcesses : ℕ → List ℕ → Type 0
AreProcesses count [] = Unit {0}
AreProcesses count (owner ∷ owners) = (1 ≤ owner) × (owner ≤ count) × AreProcesses count owners

-- Each process names rising numbers of its own entries; together they are as many as there are. Then each names all.
abbrev pub CountingLaw : Type 0
CountingLaw = (count first : ℕ) (owners : List ℕ) (named : ℕ → List ℕ) → AreProcesses count owners
    → ((p : ℕ) → IsRising first (named p)) → ((p : ℕ) → AreOwn first p owners (named p))
    → total count (λ p. length (named p)) ≡ length owners
    → (p : ℕ) → 1 ≤ p → p ≤ count → named p ≡ numbers_in first p owners
