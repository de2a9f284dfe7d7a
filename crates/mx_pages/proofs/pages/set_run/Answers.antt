use Rattle.std.proofs.Common.{ap, arith}
use Rattle.mx_pages.proofs.ScanLaws.{set_whole}
use Rattle.mx_pages.proofs.pages.set_run.Goals as goal

pub returns : goal.returns
returns c =
    ap (λ free. record { free = free }) (set_whole c.args.value c.args.free.now c.loop-page.free c.args.first c.args.n c.loop-page.page (omega arith) (omega arith) c.requires.within c.loop-page.invariant)
