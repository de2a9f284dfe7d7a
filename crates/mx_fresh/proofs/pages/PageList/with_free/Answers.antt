use Rattle.std.proofs.Common.{length, cond, true, ap, ◌∙◌}
use Rattle.mx_pages.specs.Runs.{PageMap, is_free, is_in_run}
use Rattle.mx_pages.proofs.PageLaws.{length_by_page}
use Rattle.mx_fresh.proofs.pages.PageList.with_free.Goals as goal

pub invariant_of-result : goal.invariant_of-result
invariant_of-result c =
    ap (λ (pages : PageMap). length pages.free) c.in_ok-free.ensures
    ∙ length_by_page (λ page. cond (is_in_run c.args.n c.args.first page) true (is_free (record { free = c.as_slice.result.now }) page))
