use Rattle.std.proofs.Common.{Bor, ap, sym, ◌∙◌}
use Rattle.std.specs.Option.{option_map}
use Rattle.mx_script.specs.declared.lines.Line.{Line}
use Rattle.mx_process.proofs.StayLaws.{at_next, hurried_still, if_err, still_whole}
use Rattle.mx_process.specs.Stays.{gone_out}
use Rattle.mx_process.specs.Turns.{inside}
use Rattle.mx_process.proofs.stays.do_next.Goals as goal

pub returns-in_err-make_room-clause-err : goal.returns-in_err-make_room-clause-err
returns-in_err-make_room-clause-err g c =
    if_err _ c.from_residual.result (hurried_still g.B.Sitting.session g.B.Sitting.setup g.B.Attending.accounts c.args.script.now
    (gone_out (inside c.args.state.now c.args.pass.now)) (gone_out (inside c.make_room.new.state c.make_room.new.pass))
    c.make_room.ensures.still c.requires.whole c.requires.before)

pub do_line-requires-clause-whole : goal.do_line-requires-clause-whole
do_line-requires-clause-whole g c =
    still_whole g.B.Sitting.session g.B.Sitting.setup g.B.Attending.accounts c.args.script.now
    (gone_out (inside c.args.state.now c.args.pass.now))
    (gone_out (inside c.make_room.new.state c.make_room.new.pass)) c.make_room.ensures.still c.requires.whole

pub do_line-requires-clause-at : goal.do_line-requires-clause-at
do_line-requires-clause-at g c =
    at_next g.B.Sitting.session g.B.Sitting.setup g.B.Attending.accounts c.args.script.now
    (gone_out (inside c.args.state.now c.args.pass.now))
    (gone_out (inside c.make_room.new.state c.make_room.new.pass)) c.lines.result c.in-Some.line.now c.requires.whole
    c.make_room.ensures.still c.lines.ensures
    (sym c.line_at.ensures ∙ ap (option_map (λ (line : Bor Line). line.now)) c.in-Some.is)
