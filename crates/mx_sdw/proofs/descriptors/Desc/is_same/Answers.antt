use Rattle.mx_sdw.proofs.SameLaws.{desc_test, desc_tested}
use Rattle.mx_sdw.proofs.descriptors.Desc.is_same.Goals as goal

pub returns-clause-test : goal.returns-clause-test
returns-clause-test c = desc_test c.args.self.now c.args.other.now c.eq.result c.eq.ensures

pub returns-clause-same : goal.returns-clause-same
returns-clause-same c =
    desc_tested c.args.self.now c.args.other.now c.eq.result
    (desc_test c.args.self.now c.args.other.now c.eq.result c.eq.ensures)
