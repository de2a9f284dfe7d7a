-- The first deed at which the read rule fails.
use Rattle.std.specs.Prelude.{◌≡◌, ℕ, suc, ◌<◌, length}
use Rattle.mx_reads.specs.Deeds.{Deeds}
use Rattle.mx_stores.specs.Deciding.{AreRightTo}

-- All reads of the processes before this one are right, and so are this one's below the place, but not with the one there.
pub record IsBreach (done : Deeds) (process place : ℕ) : Type 0 where
  pub before : (earlier : ℕ) → earlier < process → AreRightTo done earlier (length (done earlier))
  pub within : place < length (done process)
  pub below : AreRightTo done process place
  pub breaks : AreRightTo done process (suc place) → ⊥

-- There is one breach at most.
abbrev pub OneBreachLaw : Type 0
OneBreachLaw = (done : Deeds) (p i q j : ℕ) → IsBreach done p i → IsBreach done q j → (p ≡ q) × (i ≡ j)
