use Rattle.std.proofs.Common.{◌≡◌, refl}
use Rattle.mx_request.specs.declared.requests.Request.TheVariants as ask
use Rattle.mx_state.specs.Plain.{answer}
use Rattle.mx_state.specs.Requests.{plain}
use Rattle.mx_fresh.specs.Told.{IsResolved, IsUndecided}
use Rattle.mx_fresh.proofs.AnswerLaws.{next_runs, on_error, said_answer, said_runs, said_error}
use Rattle.mx_fresh.proofs.supervisor.FreshState.serve_own.Goals as goal

pub returns-in-ChangeWdir-clause-answer : goal.returns-in-ChangeWdir-clause-answer
returns-in-ChangeWdir-clause-answer c =
    rw c.in-ChangeWdir.is (said_answer (λ given. plain c.args.self.now c.args.p c.args.ring (ask.ChangeWdir c.in-ChangeWdir.path) ≡ answer given c.change_wdir.new.self) c.change_wdir.result c.said.result c.said.ensures c.change_wdir.ensures.answer)

pub returns-in-ChangeWdir-clause-runs : goal.returns-in-ChangeWdir-clause-runs
returns-in-ChangeWdir-clause-runs c = said_runs c.args.self.now c.change_wdir.new.self c.change_wdir.result c.said.result c.said.ensures c.change_wdir.ensures.hierarchy

pub returns-in-ChangeWdir-clause-err : goal.returns-in-ChangeWdir-clause-err
returns-in-ChangeWdir-clause-err c = said_error (c.change_wdir.new.self ≡ c.args.self.now) c.change_wdir.result c.said.result c.said.ensures c.change_wdir.ensures.err

pub returns-in-ChangeWdir-clause-told : goal.returns-in-ChangeWdir-clause-told
returns-in-ChangeWdir-clause-told c =
    rw c.in-ChangeWdir.is (said_error (IsUndecided c.args.self.now c.args.p c.args.ring (ask.ChangeWdir c.in-ChangeWdir.path)) c.change_wdir.result c.said.result c.said.ensures c.change_wdir.ensures.told)

pub returns-in-SetRules-clause-answer : goal.returns-in-SetRules-clause-answer
returns-in-SetRules-clause-answer c =
    rw c.in-SetRules.is (said_answer (λ given. plain c.args.self.now c.args.p c.args.ring (ask.SetRules c.in-SetRules.rules) ≡ answer given c.set_rules.new.self) c.set_rules.result c.said-in-SetRules.result c.said-in-SetRules.ensures c.set_rules.ensures.answer)

pub returns-in-SetRules-clause-runs : goal.returns-in-SetRules-clause-runs
returns-in-SetRules-clause-runs c = said_runs c.args.self.now c.set_rules.new.self c.set_rules.result c.said-in-SetRules.result c.said-in-SetRules.ensures c.set_rules.ensures.hierarchy

pub returns-in-SetRules-clause-err : goal.returns-in-SetRules-clause-err
returns-in-SetRules-clause-err c = said_error (c.set_rules.new.self ≡ c.args.self.now) c.set_rules.result c.said-in-SetRules.result c.said-in-SetRules.ensures c.set_rules.ensures.err

pub returns-in-SetRules-clause-told : goal.returns-in-SetRules-clause-told
returns-in-SetRules-clause-told c =
    rw c.in-SetRules.is (on_error c.said-in-SetRules.result (IsResolved c.args.self.now c.args.p c.args.ring (ask.SetRules c.in-SetRules.rules)) (λ who is. refl))

pub returns-in-Wakeup-clause-answer : goal.returns-in-Wakeup-clause-answer
returns-in-Wakeup-clause-answer c =
    rw c.in-Wakeup.is (said_answer (λ given. plain c.args.self.now c.args.p c.args.ring (ask.Wakeup c.in-Wakeup.to c.in-Wakeup.word) ≡ answer given c.wakeup.new.self) c.wakeup.result c.said-in-Wakeup.result c.said-in-Wakeup.ensures c.wakeup.ensures.answer)

pub returns-in-Wakeup-clause-runs : goal.returns-in-Wakeup-clause-runs
returns-in-Wakeup-clause-runs c = said_runs c.args.self.now c.wakeup.new.self c.wakeup.result c.said-in-Wakeup.result c.said-in-Wakeup.ensures c.wakeup.ensures.hierarchy

pub returns-in-Wakeup-clause-err : goal.returns-in-Wakeup-clause-err
returns-in-Wakeup-clause-err c = said_error (c.wakeup.new.self ≡ c.args.self.now) c.wakeup.result c.said-in-Wakeup.result c.said-in-Wakeup.ensures c.wakeup.ensures.err

pub returns-in-Wakeup-clause-told : goal.returns-in-Wakeup-clause-told
returns-in-Wakeup-clause-told c =
    rw c.in-Wakeup.is (said_error (IsUndecided c.args.self.now c.args.p c.args.ring (ask.Wakeup c.in-Wakeup.to c.in-Wakeup.word)) c.wakeup.result c.said-in-Wakeup.result c.said-in-Wakeup.ensures c.wakeup.ensures.told)

pub returns-in-Initiate-clause-runs : goal.returns-in-Initiate-clause-runs
returns-in-Initiate-clause-runs c = next_runs c.args.self.now c.initiate.new.self c.initiate.result c.initiate.ensures.run

pub returns-in-Link-clause-runs : goal.returns-in-Link-clause-runs
returns-in-Link-clause-runs c = next_runs c.args.self.now c.link.new.self c.link.result c.link.ensures.run
