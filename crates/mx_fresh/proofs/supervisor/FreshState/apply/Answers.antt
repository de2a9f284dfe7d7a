use Rattle.mx_fresh.proofs.RunLaws.{gives, frees}
use Rattle.mx_fresh.proofs.supervisor.FreshState.apply.Goals as goal

pub returns-in-OfPath-clause-given : goal.returns-in-OfPath-clause-given
returns-in-OfPath-clause-given c = gives c.args.self.now c.serve_path.new.self c.serve_path.result c.serve_path.ensures.runs

pub returns-in-OfPath-clause-freed : goal.returns-in-OfPath-clause-freed
returns-in-OfPath-clause-freed c = frees c.args.self.now c.serve_path.new.self c.serve_path.result c.serve_path.ensures.runs

pub returns-in-OfProcess-clause-given : goal.returns-in-OfProcess-clause-given
returns-in-OfProcess-clause-given c = gives c.args.self.now c.serve_own.new.self c.serve_own.result c.serve_own.ensures.runs

pub returns-in-OfProcess-clause-freed : goal.returns-in-OfProcess-clause-freed
returns-in-OfProcess-clause-freed c = frees c.args.self.now c.serve_own.new.self c.serve_own.result c.serve_own.ensures.runs

pub returns-in-OfSupervisor-clause-given : goal.returns-in-OfSupervisor-clause-given
returns-in-OfSupervisor-clause-given c = gives c.args.self.now c.serve_own-in-OfSupervisor.new.self c.serve_own-in-OfSupervisor.result c.serve_own-in-OfSupervisor.ensures.runs

pub returns-in-OfSupervisor-clause-freed : goal.returns-in-OfSupervisor-clause-freed
returns-in-OfSupervisor-clause-freed c = frees c.args.self.now c.serve_own-in-OfSupervisor.new.self c.serve_own-in-OfSupervisor.result c.serve_own-in-OfSupervisor.ensures.runs
