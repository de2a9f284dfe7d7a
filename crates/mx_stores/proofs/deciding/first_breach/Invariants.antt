use Rattle.std.proofs.Common.{ℕ, ◌<◌, IsSome, length}
use Rattle.mx_stores.specs.Deciding.{choices}
use Rattle.mx_stores.specs.Parts.{deeds_of}
use Rattle.mx_stores.proofs.deciding.first_breach.Given as goal

-- all reads of the processes before are chosen
abbrev pub invariant-loop-p : goal.invariant-loop-p
invariant-loop-p l = (u : ℕ) → u < l.p → IsSome (choices (deeds_of l.parts) (length l.parts) u (length (deeds_of l.parts u)))
