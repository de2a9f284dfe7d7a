use Rattle.std.proofs.Common.{◌≡◌, ℕ, Bool}
use Rattle.std.specs.Prelude.{nat_lt, ◌&&◌, not}
use Rattle.std.specs.Vec.{vec_len}
use Rattle.mx_core.specs.Pages.{page_of, covered_anew}
use Rattle.mx_core.specs.Lists.{Lists}
use Rattle.mx_worlds.proofs.marking.soil.Given as goal

abbrev pub invariant-loop-page : goal.invariant-loop-page
invariant-loop-page l = ((f : ℕ → Bool) → Lists l.initial.clean.items f
    → Lists l.clean.items (λ c. f c && not (nat_lt (page_of c) l.page && covered_anew l.changes (page_of c))))
    × (vec_len l.clean ≡ vec_len l.initial.clean)
