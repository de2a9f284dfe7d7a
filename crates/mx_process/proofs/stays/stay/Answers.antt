use Rattle.mx_process.proofs.StayLaws.{entered_whole}
use Rattle.mx_process.proofs.stays.stay.Goals as goal

pub do_lines-came-requires-clause-whole : goal.do_lines-came-requires-clause-whole
do_lines-came-requires-clause-whole g c =
    entered_whole g.B.Sitting.session g.B.Sitting.setup g.B.Attending.accounts c.args.script.now c.args.state.now c.enter.new.pass.view.cleared
    c.args.pass.now c.enter.new.pass c.enter.ensures.pass c.requires.whole
