use Rattle.mx_show.proofs.PrintingLaws.{story_gained}
use Rattle.mx_show.proofs.stories.show_story.Goals as goal

pub returns-clause-told : goal.returns-clause-told
returns-clause-told g c =
    story_gained c.args.session.now c.args.journal.now _ _ _ _ _ _ c.new-out.ensures.items
    (rw (c.items-entrants.ensures, c.principals.ensures.value, c.items-2.ensures) at c.in_ok-add_opening.ensures)
    c.in_ok-print_turns.ensures.printed (rw c.deref.ensures.value at c.in_ok-write_all.ensures.all)
