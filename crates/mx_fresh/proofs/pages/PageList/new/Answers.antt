use Rattle.std.proofs.Common.{length, nat_le, ap, ◌∙◌}
use Rattle.mx_pages.specs.Runs.{PageMap}
use Rattle.mx_pages.proofs.PageLaws.{length_by_page}
use Rattle.mx_fresh.proofs.pages.PageList.new.Goals as goal

pub invariant_of-result : goal.invariant_of-result
invariant_of-result c = ap (λ (pages : PageMap). length pages.free) c.in_ok-free.ensures ∙ length_by_page (nat_le c.args.first)
