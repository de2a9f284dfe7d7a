use Rattle.mx_call.proofs.EightLaws.{mapped_eight}
use Rattle.mx_call.specs.Registers.{raised_to}
use Rattle.mx_call.proofs.transfers.all_raised_to.Goals as goal

pub returns : goal.returns
returns c =
    let m = mapped_eight (raised_to c.args.ring) c.args.pr.now c.index-pr-0.result c.index-pr-1.result c.index-pr-2.result c.index-pr-3.result c.index-pr-4.result c.index-pr-5.result c.index-pr-6.result c.index-pr-7.result c.type_inv.pr in
    cc
