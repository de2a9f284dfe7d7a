use Rattle.mx_judging.proofs.ReferenceLaws.{judged_one}
use Rattle.mx_judging.proofs.ReplayLaws.{judged_more}
use Rattle.mx_judging.proofs.judging.add_judged.Goals as goal

pub returns-clause-accesses : goal.returns-clause-accesses
returns-clause-accesses c =
    judged_more c.extend_from_slice.result c.args.replay.now.session c.args.replay.now.journal c.args.judged.now.items c.extend_from_slice.new.self.items
    c.in_ok-access.access c.requires.judged c.in_ok-access.ensures.access c.extend_from_slice.ensures.items

pub returns-clause-reference : goal.returns-clause-reference
returns-clause-reference c =
    judged_one c.extend_from_slice.result c.args.judged.now.items c.extend_from_slice.new.self.items c.in_ok-access.access
    (c.args.process, c.args.element) c.in_ok-access.ensures.process c.in_ok-access.ensures.element c.extend_from_slice.ensures.items
