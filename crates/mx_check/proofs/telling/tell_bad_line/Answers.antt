use Rattle.std.proofs.Common.{◌++◌, codes}
use Rattle.std.specs.Fmt.{decimal}
use Rattle.mx_check.proofs.WritingLaws.{on_error, on_errors, part_before, part_behind}
use Rattle.mx_check.proofs.telling.tell_bad_line.Goals as goal

pub returns-in_err-write_numbered-clause-part : goal.returns-in_err-write_numbered-clause-part
returns-in_err-write_numbered-clause-part g c =
    on_error c.from_residual.result
    (part_before (g.K.Sink.out c.args.sink.now) (g.K.Sink.out c.write_numbered.new.sink) (codes "bad line " ++ decimal c.args.number)
    (codes "\n") c.in_err-write_numbered.ensures.part)

pub returns-clause-part : goal.returns-clause-part
returns-clause-part g c =
    on_errors c.write_all.result
    (part_behind (g.K.Sink.out c.args.sink.now) (g.K.Sink.out c.write_numbered.new.sink) (g.K.Sink.out c.write_all.new.sink)
    (codes "bad line " ++ decimal c.args.number) (codes "\n") c.in_ok-write_numbered.ensures.all)
    c.write_all.ensures.part
