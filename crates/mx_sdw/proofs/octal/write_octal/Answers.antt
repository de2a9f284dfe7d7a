use Rattle.std.proofs.Common.{arith, rules, refl, ◌-◌}
use Rattle.mx_sdw.proofs.OctalLaws.{first_written, last_written, none_spelled}
use Rattle.mx_sdw.proofs.octal.write_octal.Goals as goal

pub loop-left-init : goal.loop-left-init
loop-left-init c = record { has = none_spelled _ c.args.n refl c.ranges.n.fits; length = refl; start = omega arith }

pub loop-left-preserved : goal.loop-left-preserved
loop-left-preserved c =
    let i = c.loop-left.invariant in
    record {
      has = (last_written _ c.loop-left.digits c.loop-left.start c.loop-left.left i.has (omega arith) c.loop-left-test.true).1;
      length = search (rules, i.length);
      start = omega arith;
    }

pub returns-clause-ok : goal.returns-clause-ok
returns-clause-ok c =
    let i = c.loop-left.invariant in
    let whole = first_written _ c.loop-left.digits c.loop-left.start c.loop-left.left (22 - c.loop-left.start) i.has (omega arith) c.loop-left-test.false (omega arith) in
    search (rules, whole)
