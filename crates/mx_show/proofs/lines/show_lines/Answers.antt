use Rattle.mx_show.proofs.LinesLaws.{lines_gained, sent_first}
use Rattle.mx_show.proofs.PartLaws.{below_first, first_part, part_of, setup_steps}
use Rattle.mx_show.proofs.lines.show_lines.Goals as goal

pub print_setup-requires-clause-numbers : goal.print_setup-requires-clause-numbers
print_setup-requires-clause-numbers g c =
    setup_steps c.args.session.now c.args.journal.now c.args.transcripts.now c.index-parts-0.result c.requires.legal
    (rw c.items-parts.ensures at c.index-parts-0.is)

pub print_processes-requires-clause-parts : goal.print_processes-requires-clause-parts
print_processes-requires-clause-parts g c =
    rw c.items-parts.ensures (part_of c.args.session.now c.args.journal.now c.args.transcripts.now c.requires.legal)

pub returns-clause-shown : goal.returns-clause-shown
returns-clause-shown g c =
    lines_gained c.args.session.now c.args.journal.now c.args.transcripts.now c.index-parts-0.result _ _ _ _ _ _ _ _
    c.new-out.ensures.items
    (rw (c.items-entrants.ensures, c.principals.ensures.value, c.items.ensures) at c.in_ok-add_opening.ensures)
    (first_part c.args.transcripts.now c.index-parts-0.result (below_first c.args.transcripts.now _ c.requires.legal.parts)
    (rw c.items-parts.ensures at c.index-parts-0.is))
    (sent_first _ _ _ _ _ _ _ _ _ c.in_ok-send_when_long.ensures.sent c.in_ok-print_setup.ensures.printed)
    (rw c.items-parts.ensures at c.in_ok-print_processes.ensures.printed)
    (rw c.deref.ensures.value at c.in_ok-write_all.ensures.all)
