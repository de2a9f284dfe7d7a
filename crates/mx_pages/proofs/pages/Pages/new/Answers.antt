use Rattle.std.proofs.Common.{ap, nat_le, arith}
use Rattle.mx_pages.proofs.PageLaws.{by_page}
use Rattle.mx_pages.proofs.pages.Pages.new.Goals as goal

pub returns : goal.returns
returns c =
    ap (λ free. record { free = free }) (by_page (nat_le c.args.first) c.loop-page.is_free-items c.loop-page-test.array_long
    (λ page below. c.loop-page.invariant page (omega arith)))
