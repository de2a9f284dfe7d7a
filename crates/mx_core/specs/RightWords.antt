-- What descriptor words may say (clauses 2 and 3, and the supervisor's part of 6). A column gives what the table has
-- for one pair after each number of entries.
use Rattle.std.specs.Prelude.{◌≡◌, ◌≢◌, ℕ, ◌+◌, ◌<◌, ◌≤◌}
use Rattle.mx_sdw.specs.Descriptors.{Descriptor}
use Rattle.mx_core.specs.Words.{DescriptorWord, Valid, Fault}

-- entry k changed the column
pub record IsAltered (h : ℕ → Descriptor) (k : ℕ) : Type 0 where
  pub before : ℕ
  pub next : k ≡ before + 1
  pub differs : h k ≢ h before

-- A word that is no fault says what the table has from its entry to the answered length; past the opening, its entry
-- changed the pair. The supervisor knows that it settled with this number.
pub record IsValid (start answered : ℕ) (h : ℕ → Descriptor) (told k : ℕ) (d : Descriptor) : Type 0 where
  pub low : start ≤ k
  pub high : k ≤ answered
  pub stands : (q : ℕ) → k ≤ q → q ≤ answered → h q ≡ d
  pub altered : start < k → IsAltered h k
  pub known : told ≡ k

-- A fault's entry changed the pair, and no answered entry did after it. The supervisor knows only a lower number.
pub record IsFault (start answered length : ℕ) (h : ℕ → Descriptor) (told k : ℕ) : Type 0 where
  pub low : start < k
  pub high : k ≤ length
  pub stands : (q : ℕ) → k ≤ q → q ≤ answered → h q ≡ h k
  pub altered : IsAltered h k
  pub known : told < k

abbrev pub IsWord : ℕ → ℕ → ℕ → (ℕ → Descriptor) → ℕ → DescriptorWord → Type 0
IsWord start answered length h told (Valid k d) = IsValid start answered h told k d
IsWord start answered length h told (Fault k) = IsFault start answered length h told k
