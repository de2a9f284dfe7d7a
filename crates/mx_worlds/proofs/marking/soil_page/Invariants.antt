use Rattle.std.proofs.Common.{◌≡◌, ℕ, Bool}
use Rattle.std.specs.Prelude.{nat_le, nat_lt, ◌&&◌, not}
use Rattle.std.specs.Vec.{vec_len}
use Rattle.mx_core.specs.Lists.{Lists}
use Rattle.mx_worlds.proofs.marking.soil_page.Given as goal

abbrev pub invariant-loop-cell : goal.invariant-loop-cell
invariant-loop-cell l = ((f : ℕ → Bool) → Lists l.initial.clean.items f
    → Lists l.clean.items (λ c. f c && not (nat_le l.first c && nat_lt c l.cell)))
    × (vec_len l.clean ≡ vec_len l.initial.clean)
