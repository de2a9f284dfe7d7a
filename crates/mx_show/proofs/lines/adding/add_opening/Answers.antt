use Rattle.std.proofs.Common.{codes}
use Rattle.std.proofs.lemmas.Result.{on_ok_weaker}
use Rattle.std.specs.Fmt.{decimal}
use Rattle.mx_show.proofs.LinesLaws.{put_labels, put_last}
use Rattle.mx_show.proofs.lines.adding.add_opening.Goals as goal

pub returns : goal.returns
returns c =
    on_ok_weaker c.extend_from_slice.result
    (put_labels c.args.out.now.items (codes "processes: ") (decimal c.args.processes) (codes "; journal entries: ") (decimal c.args.entries)
    (codes "\n\nsetup: Initializer.SysDaemon.z in ring 0\n") _ _ _ c.in_ok-add_labelled.ensures c.in_ok-add_labelled-2.ensures)
    (put_last c.extend_from_slice.result c.extend_from_slice.new.self.items c.add_labelled-2.new.out.items
    (codes "\n\nsetup: Initializer.SysDaemon.z in ring 0\n") c.extend_from_slice.ensures.items)
