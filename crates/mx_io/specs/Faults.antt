-- Counts of faults. A count never falls, and rises where a call answers a fault.
use Rattle.std.specs.Prelude.{◌≡◌, ◌⊎◌, ℕ, ◌+◌, ◌-◌, ◌^◌, ◌<◌, min}

-- the last number of a count that has 64 bits
abbrev pub last_count : ℕ
last_count = 2 ^ 64 - 1

-- one more, and the last number stays
abbrev pub one_more : ℕ → ℕ
one_more count = min (count + 1) last_count

-- the count rose, or it stands at its last number, where it can't rise
abbrev pub Rose : ℕ → ℕ → Type 0
Rose before now = (before < now) ⊎ (now ≡ last_count)
