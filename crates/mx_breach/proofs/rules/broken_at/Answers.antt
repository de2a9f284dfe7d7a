use Rattle.std.proofs.Common.{◌∙◌}
use Rattle.mx_breach.proofs.RuleLaws.{is_broken_in}
use Rattle.mx_breach.proofs.rules.broken_at.Goals as goal

pub returns : goal.returns
returns c =
    is_broken_in c.args.run.now.session.now c.args.run.now.journal.now c.args.run.now.transcripts.now c.args.p c.args.place
    c.as_slice-lines.result.now c.args.failing.now c.requires (c.as_slice-lines.ensures.value ∙ c.requires.lines)
    c.in-Some.ensures.lookup.3.0 c.misnamed.result c.within-point.result c.at_place-undone.result c.at_place-naming.result
    c.within-miss.result c.within-read.result c.at_place-setup.result c.at_place-full.result
    c.within-point.ensures c.at_place-undone.ensures c.misnamed.ensures c.at_place-naming.ensures c.within-miss.ensures
    c.within-read.ensures c.at_place-setup.ensures c.at_place-full.ensures
    c.sooner-first.result c.sooner-second.result c.sooner-third.result c.sooner-fourth.result c.sooner-fifth.result
    c.sooner-sixth.result c.sooner.result
    c.sooner-first.ensures c.sooner-second.ensures c.sooner-third.ensures c.sooner-fourth.ensures c.sooner-fifth.ensures
    c.sooner-sixth.ensures c.sooner.ensures
