use Rattle.mx_judging.proofs.ReferenceLaws.{all_of, judged_all}
use Rattle.mx_judging.proofs.judging.judge_all.Goals as goal

pub judge_each-requires-clause-processes : goal.judge_each-requires-clause-processes
judge_each-requires-clause-processes c =
    rw (c.deref.ensures.value) (all_of _ c.items.result.now _ (rw (c.items.ensures) c.requires.parts) c.in_ok-references.ensures.all)

pub returns-clause-references : goal.returns-clause-references
returns-clause-references c =
    judged_all c.args.session.now c.args.journal.now c.args.transcripts.now c.requires c.in_ok-references.references.items _ _
    (rw c.items.ensures at c.in_ok-references.ensures.all) c.in_ok-references.ensures.sorted
    (rw c.items.ensures at c.in_ok-references.ensures.stable) c.in_ok-judged.ensures.items
    (rw c.deref.ensures.value at c.in_ok-changed.ensures.references)
