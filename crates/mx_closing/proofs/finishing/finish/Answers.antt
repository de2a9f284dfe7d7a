use Rattle.std.proofs.Common.{length, ap, arith}
use Rattle.mx_closing.proofs.Returns.{finished}
use Rattle.mx_closing.proofs.finishing.finish.Goals as goal

pub returns : goal.returns
returns g c x setup =
    let all = c.requires.parts in
    let parts = c.retire_all.ensures.parts in
    let many = ap length c.into_items.ensures in
    let merged = c.retire_all.ensures.amount in
    let none = c.requires.rest in
    let whole = c.audit.ensures.whole (omega (arith, all, parts, many)) in
    let counted = c.requires.counted in
    finished x setup c.args.chief c.retire_all.new.chief c.into_items.result.items c.args.passes c.into_items.ensures
    c.retire_all.ensures.view c.requires.all (omega (arith, merged, none, whole, counted)) c.close.ensures
