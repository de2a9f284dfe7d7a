use Rattle.std.proofs.Common.{◌≡◌, refl}
use Rattle.mx_request.specs.declared.requests.Request.TheVariants as ask
use Rattle.mx_state.specs.Plain.{answer}
use Rattle.mx_state.specs.Requests.{plain}
use Rattle.mx_fresh.specs.Told.{IsResolved}
use Rattle.mx_fresh.proofs.AnswerLaws.{said_answer, said_runs, said_error}
use Rattle.mx_fresh.proofs.supervisor.FreshState.serve_path.Goals as goal

pub returns-in-CreateDir-clause-answer : goal.returns-in-CreateDir-clause-answer
returns-in-CreateDir-clause-answer c = rw c.in-CreateDir.is (rw c.in-CreateDir.is at c.change.ensures.answer)

pub returns-in-CreateDir-clause-told : goal.returns-in-CreateDir-clause-told
returns-in-CreateDir-clause-told c = rw c.in-CreateDir.is (rw c.in-CreateDir.is at c.change.ensures.told)

pub returns-in-CreateSeg-clause-answer : goal.returns-in-CreateSeg-clause-answer
returns-in-CreateSeg-clause-answer c = rw c.in-CreateSeg.is (rw c.in-CreateSeg.is at c.change-in-CreateSeg.ensures.answer)

pub returns-in-CreateSeg-clause-told : goal.returns-in-CreateSeg-clause-told
returns-in-CreateSeg-clause-told c = rw c.in-CreateSeg.is (rw c.in-CreateSeg.is at c.change-in-CreateSeg.ensures.told)

pub returns-in-CreateObject-clause-answer : goal.returns-in-CreateObject-clause-answer
returns-in-CreateObject-clause-answer c = rw c.in-CreateObject.is (rw c.in-CreateObject.is at c.change-in-CreateObject.ensures.answer)

pub returns-in-CreateObject-clause-told : goal.returns-in-CreateObject-clause-told
returns-in-CreateObject-clause-told c = rw c.in-CreateObject.is (rw c.in-CreateObject.is at c.change-in-CreateObject.ensures.told)

pub returns-in-CreateLink-clause-answer : goal.returns-in-CreateLink-clause-answer
returns-in-CreateLink-clause-answer c = rw c.in-CreateLink.is (rw c.in-CreateLink.is at c.change-in-CreateLink.ensures.answer)

pub returns-in-CreateLink-clause-told : goal.returns-in-CreateLink-clause-told
returns-in-CreateLink-clause-told c = rw c.in-CreateLink.is (rw c.in-CreateLink.is at c.change-in-CreateLink.ensures.told)

pub returns-in-Rename-clause-answer : goal.returns-in-Rename-clause-answer
returns-in-Rename-clause-answer c = rw c.in-Rename.is (rw c.in-Rename.is at c.change-in-Rename.ensures.answer)

pub returns-in-Rename-clause-told : goal.returns-in-Rename-clause-told
returns-in-Rename-clause-told c = rw c.in-Rename.is (rw c.in-Rename.is at c.change-in-Rename.ensures.told)

pub returns-in-Delete-clause-answer : goal.returns-in-Delete-clause-answer
returns-in-Delete-clause-answer c = rw c.in-Delete.is (rw c.in-Delete.is at c.change-in-Delete.ensures.answer)

pub returns-in-Delete-clause-told : goal.returns-in-Delete-clause-told
returns-in-Delete-clause-told c = rw c.in-Delete.is (rw c.in-Delete.is at c.change-in-Delete.ensures.told)

pub returns-in-SetAcl-clause-answer : goal.returns-in-SetAcl-clause-answer
returns-in-SetAcl-clause-answer c = rw c.in-SetAcl.is (rw c.in-SetAcl.is at c.change-in-SetAcl.ensures.answer)

pub returns-in-SetAcl-clause-told : goal.returns-in-SetAcl-clause-told
returns-in-SetAcl-clause-told c = rw c.in-SetAcl.is (rw c.in-SetAcl.is at c.change-in-SetAcl.ensures.told)

pub returns-in-DelAcl-clause-answer : goal.returns-in-DelAcl-clause-answer
returns-in-DelAcl-clause-answer c = rw c.in-DelAcl.is (rw c.in-DelAcl.is at c.change-in-DelAcl.ensures.answer)

pub returns-in-DelAcl-clause-told : goal.returns-in-DelAcl-clause-told
returns-in-DelAcl-clause-told c = rw c.in-DelAcl.is (rw c.in-DelAcl.is at c.change-in-DelAcl.ensures.told)

pub returns-in-SetIacl-clause-answer : goal.returns-in-SetIacl-clause-answer
returns-in-SetIacl-clause-answer c = rw c.in-SetIacl.is (rw c.in-SetIacl.is at c.change-in-SetIacl.ensures.answer)

pub returns-in-SetIacl-clause-told : goal.returns-in-SetIacl-clause-told
returns-in-SetIacl-clause-told c = rw c.in-SetIacl.is (rw c.in-SetIacl.is at c.change-in-SetIacl.ensures.told)

pub returns-in-DelIacl-clause-answer : goal.returns-in-DelIacl-clause-answer
returns-in-DelIacl-clause-answer c = rw c.in-DelIacl.is (rw c.in-DelIacl.is at c.change-in-DelIacl.ensures.answer)

pub returns-in-DelIacl-clause-told : goal.returns-in-DelIacl-clause-told
returns-in-DelIacl-clause-told c = rw c.in-DelIacl.is (rw c.in-DelIacl.is at c.change-in-DelIacl.ensures.told)

pub returns-in-SetBrackets-clause-answer : goal.returns-in-SetBrackets-clause-answer
returns-in-SetBrackets-clause-answer c = rw c.in-SetBrackets.is (rw c.in-SetBrackets.is at c.change-in-SetBrackets.ensures.answer)

pub returns-in-SetBrackets-clause-told : goal.returns-in-SetBrackets-clause-told
returns-in-SetBrackets-clause-told c = rw c.in-SetBrackets.is (rw c.in-SetBrackets.is at c.change-in-SetBrackets.ensures.told)

pub returns-in-SetDirBrackets-clause-answer : goal.returns-in-SetDirBrackets-clause-answer
returns-in-SetDirBrackets-clause-answer c = rw c.in-SetDirBrackets.is (rw c.in-SetDirBrackets.is at c.change-in-SetDirBrackets.ensures.answer)

pub returns-in-SetDirBrackets-clause-told : goal.returns-in-SetDirBrackets-clause-told
returns-in-SetDirBrackets-clause-told c = rw c.in-SetDirBrackets.is (rw c.in-SetDirBrackets.is at c.change-in-SetDirBrackets.ensures.told)

pub returns-in-SetClass-clause-answer : goal.returns-in-SetClass-clause-answer
returns-in-SetClass-clause-answer c = rw c.in-SetClass.is (rw c.in-SetClass.is at c.change-in-SetClass.ensures.answer)

pub returns-in-SetClass-clause-told : goal.returns-in-SetClass-clause-told
returns-in-SetClass-clause-told c = rw c.in-SetClass.is (rw c.in-SetClass.is at c.change-in-SetClass.ensures.told)

pub returns-in-Status-clause-answer : goal.returns-in-Status-clause-answer
returns-in-Status-clause-answer c =
    let s = c.args.self.now in
    rw c.in-Status.is (said_answer (λ given. plain s c.args.p c.args.ring (ask.Status c.in-Status.path) ≡ answer given s) c.status.result c.said.result c.said.ensures c.status.ensures.answer)

pub returns-in-Status-clause-runs : goal.returns-in-Status-clause-runs
returns-in-Status-clause-runs c = said_runs c.args.self.now c.args.self.now c.status.result c.said.result c.said.ensures refl

pub returns-in-Status-clause-told : goal.returns-in-Status-clause-told
returns-in-Status-clause-told c =
    rw c.in-Status.is (said_error (IsResolved c.args.self.now c.args.p c.args.ring (ask.Status c.in-Status.path)) c.status.result c.said.result c.said.ensures c.status.ensures.told)

pub returns-in-List-clause-answer : goal.returns-in-List-clause-answer
returns-in-List-clause-answer c =
    let s = c.args.self.now in
    rw c.in-List.is (said_answer (λ given. plain s c.args.p c.args.ring (ask.List c.in-List.path) ≡ answer given s) c.list.result c.said-in-List.result c.said-in-List.ensures c.list.ensures.answer)

pub returns-in-List-clause-runs : goal.returns-in-List-clause-runs
returns-in-List-clause-runs c = said_runs c.args.self.now c.args.self.now c.list.result c.said-in-List.result c.said-in-List.ensures refl

pub returns-in-List-clause-told : goal.returns-in-List-clause-told
returns-in-List-clause-told c =
    rw c.in-List.is (said_error (IsResolved c.args.self.now c.args.p c.args.ring (ask.List c.in-List.path)) c.list.result c.said-in-List.result c.said-in-List.ensures c.list.ensures.told)
