use Rattle.rule_tests.proofs.PassLaws.{taken_is_new}
use Rattle.office_tests.proofs.tests.inside.take_last.Goals as goal

pub returns-clause-last : goal.returns-clause-last
returns-clause-last g c = (taken_is_new c.args.passes.now.items c.pop.new.self.items c.pop.result c.pop.ensures.items
    c.requires).0

pub returns-clause-others : goal.returns-clause-others
returns-clause-others g c = (taken_is_new c.args.passes.now.items c.pop.new.self.items c.pop.result c.pop.ensures.items
    c.requires).1
