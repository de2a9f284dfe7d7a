use Rattle.std.proofs.Common.{◌≡◌, ℕ, Bool}
use Rattle.std.specs.Prelude.{nat_lt, ◌&&◌, not}
use Rattle.std.specs.Vec.{vec_len}
use Rattle.mx_core.specs.Opening.{is_covered}
use Rattle.mx_core.specs.Pages.{page_of}
use Rattle.mx_core.specs.Lists.{Lists}
use Rattle.mx_worlds.specs.Tables.{table_of}
use Rattle.mx_worlds.proofs.tables.DescList.soil.Given as goal

abbrev pub invariant-loop-page : goal.invariant-loop-page
invariant-loop-page l = ((f : ℕ → Bool) → Lists l.initial.clean.items f
    → Lists l.clean.items (λ c. f c && not (nat_lt (page_of c) l.page
    && is_covered l.self.processes l.self.numbers (table_of l.self) (page_of c))))
    × (vec_len l.clean ≡ vec_len l.initial.clean)
