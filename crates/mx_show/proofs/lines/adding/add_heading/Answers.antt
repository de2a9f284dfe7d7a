use Rattle.std.proofs.Common.{codes, ◌++◌}
use Rattle.std.proofs.lemmas.Result.{on_ok_weaker}
use Rattle.std.specs.Fmt.{decimal}
use Rattle.mx_name.specs.Principals.{principal_text}
use Rattle.mx_show.specs.Lines.{authorization_text}
use Rattle.mx_show.proofs.LinesLaws.{put_both, put_label, put_last}
use Rattle.mx_show.proofs.lines.adding.add_heading.Goals as goal

pub returns : goal.returns
returns c =
    rw (← c.from.ensures) (on_ok_weaker c.extend_from_slice-2.result
    (λ last. put_label c.args.out.now.items (codes "\nprocess ") (decimal c.from.result) (codes ": ") (principal_text c.args.entrant.now.who)
    (authorization_text c.args.entrant.now.authorization ++ codes ", from ring 4\n") _ _ _ _
    c.in_ok-add_labelled.ensures c.in_ok-extend_from_slice.ensures.items c.in_ok-append_to.ensures.ok
    (put_both _ _ _ _ _ c.in_ok-add_authorization.ensures last))
    (put_last c.extend_from_slice-2.result c.extend_from_slice-2.new.self.items c.add_authorization.new.out.items (codes ", from ring 4\n") c.extend_from_slice-2.ensures.items))
