use Rattle.std.proofs.Common.{codes}
use Rattle.std.proofs.lemmas.Result.{on_ok_weaker}
use Rattle.std.specs.Fmt.{decimal}
use Rattle.mx_show.proofs.LinesLaws.{put_end, put_last}
use Rattle.mx_show.proofs.lines.adding.add_line_left_out.Goals as goal

pub returns : goal.returns
returns c =
    on_ok_weaker c.extend_from_slice.result
    (λ last. put_end c.args.out.now.items (codes "line ") (decimal c.args.number)
    (codes " is left out: the process is logged out\n") _ _ c.in_ok-add_labelled.ensures last)
    (put_last c.extend_from_slice.result c.extend_from_slice.new.self.items c.add_labelled.new.out.items
    (codes " is left out: the process is logged out\n") c.extend_from_slice.ensures.items)
