use Rattle.std.proofs.Common.{None, Option, subst}
use Rattle.mx_process.proofs.StayLaws.{hurried_on, if_err, stayed_on}
use Rattle.mx_process.specs.Stays.{HasDoneNext, gone_out}
use Rattle.mx_process.specs.Turns.{inside}
use Rattle.mx_process.specs.declared.stays.Stayed.{Stayed}
use Rattle.mx_process.proofs.stays.do_lines.Goals as goal

pub returns-in_err-came-clause-err : goal.returns-in_err-came-clause-err
returns-in_err-came-clause-err g c =
    if_err _ c.from_residual.result (hurried_on g.B.Sitting.session g.B.Sitting.setup g.B.Attending.accounts c.args.script.now
    (gone_out (inside c.args.state.now c.args.pass.now)) (gone_out (inside c.loop.state c.loop.pass))
    (gone_out (inside c.do_next.new.state c.do_next.new.pass)) c.loop.invariant.hurried None None c.in_err-came.ensures.err)

pub returns-in-Some-clause-came : goal.returns-in-Some-clause-came
returns-in-Some-clause-came g c =
    let before = gone_out (inside c.loop.state c.loop.pass) in
    let after = gone_out (inside c.do_next.new.state c.do_next.new.pass) in
    stayed_on g.B.Sitting.session g.B.Sitting.setup g.B.Attending.accounts c.args.script.now
    (gone_out (inside c.args.state.now c.args.pass.now)) before
    after c.loop.invariant.hurried c.in-Some.came
    (subst (λ (came : Option Stayed). HasDoneNext g.B.Sitting.session g.B.Sitting.setup g.B.Attending.accounts c.args.script.now before came after)
    c.in-Some.is c.in_ok-came.ensures.came)

pub loop-preserved : goal.loop-preserved
loop-preserved g c =
    let before = gone_out (inside c.loop.state c.loop.pass) in
    let after = gone_out (inside c.do_next.new.state c.do_next.new.pass) in
    let next = subst
    (λ (came : Option Stayed). HasDoneNext g.B.Sitting.session g.B.Sitting.setup g.B.Attending.accounts c.args.script.now before came after)
    c.in_default.is c.in_ok-came.ensures.came in record {
      same = c.do_next.ensures.same;
      ready = c.do_next.ensures.ready;
      before = next.1;
      hurried = hurried_on g.B.Sitting.session g.B.Sitting.setup g.B.Attending.accounts c.args.script.now
          (gone_out (inside c.args.state.now c.args.pass.now)) before after c.loop.invariant.hurried None None next.0;
    }
