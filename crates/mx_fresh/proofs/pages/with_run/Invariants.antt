use Rattle.std.proofs.Common.{◌≡◌, map, cond}
use Rattle.std.specs.List.{range_with_len}
use Rattle.mx_pages.specs.Runs.{is_in_run, is_free}
use Rattle.mx_fresh.proofs.pages.with_run.Given as goal

abbrev pub invariant-loop-page : goal.invariant-loop-page
invariant-loop-page l =
    l.after.items ≡ map (λ page. cond (is_in_run l.n l.first page) l.value (is_free (record { free = l.free }) page)) (range_with_len 0 l.page)
