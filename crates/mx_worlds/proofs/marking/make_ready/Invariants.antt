use Rattle.std.proofs.Common.{◌≡◌, ℕ, Bool}
use Rattle.std.specs.Prelude.{nat_lt, ◌&&◌, ◌||◌}
use Rattle.std.specs.Vec.{vec_len}
use Rattle.mx_core.specs.Pages.{gives}
use Rattle.mx_core.specs.Lists.{Lists}
use Rattle.mx_worlds.proofs.marking.make_ready.Given as goal

abbrev pub invariant-loop-page : goal.invariant-loop-page
invariant-loop-page l = ((f : ℕ → Bool) → Lists l.initial.ready.items f
    → Lists l.ready.items (λ p. (nat_lt p l.page && gives l.given p) || f p))
    × (vec_len l.ready ≡ vec_len l.initial.ready)
