use Rattle.mx_state.proofs.states.State.serve.Goals as goal

pub returns-in-CreateDir-clause-served : goal.returns-in-CreateDir-clause-served
returns-in-CreateDir-clause-served c = rw c.in-CreateDir.is (rw c.in-CreateDir.is at c.create.ensures.served)

pub returns-in-CreateSeg-clause-served : goal.returns-in-CreateSeg-clause-served
returns-in-CreateSeg-clause-served c = rw c.in-CreateSeg.is (rw c.in-CreateSeg.is at c.create-in-CreateSeg.ensures.served)

pub returns-in-CreateObject-clause-served : goal.returns-in-CreateObject-clause-served
returns-in-CreateObject-clause-served c = rw c.in-CreateObject.is (rw c.in-CreateObject.is at c.create-in-CreateObject.ensures.served)

pub returns-in-CreateLink-clause-served : goal.returns-in-CreateLink-clause-served
returns-in-CreateLink-clause-served c = rw c.in-CreateLink.is (rw c.in-CreateLink.is at c.create-in-CreateLink.ensures.served)

pub returns-in-Rename-clause-served : goal.returns-in-Rename-clause-served
returns-in-Rename-clause-served c = rw c.in-Rename.is (rw c.in-Rename.is at c.amend.ensures.served)

pub returns-in-Delete-clause-served : goal.returns-in-Delete-clause-served
returns-in-Delete-clause-served c = rw c.in-Delete.is (rw c.in-Delete.is at c.alter.ensures.served)

pub returns-in-SetAcl-clause-served : goal.returns-in-SetAcl-clause-served
returns-in-SetAcl-clause-served c = rw c.in-SetAcl.is (rw c.in-SetAcl.is at c.alter-in-SetAcl.ensures.served)

pub returns-in-DelAcl-clause-served : goal.returns-in-DelAcl-clause-served
returns-in-DelAcl-clause-served c = rw c.in-DelAcl.is (rw c.in-DelAcl.is at c.alter-in-DelAcl.ensures.served)

pub returns-in-SetBrackets-clause-served : goal.returns-in-SetBrackets-clause-served
returns-in-SetBrackets-clause-served c = rw c.in-SetBrackets.is (rw c.in-SetBrackets.is at c.alter-in-SetBrackets.ensures.served)

pub returns-in-SetDirBrackets-clause-served : goal.returns-in-SetDirBrackets-clause-served
returns-in-SetDirBrackets-clause-served c = rw c.in-SetDirBrackets.is (rw c.in-SetDirBrackets.is at c.amend-in-SetDirBrackets.ensures.served)

pub returns-in-SetIacl-clause-served : goal.returns-in-SetIacl-clause-served
returns-in-SetIacl-clause-served c = rw c.in-SetIacl.is (rw c.in-SetIacl.is at c.amend-in-SetIacl.ensures.served)

pub returns-in-DelIacl-clause-served : goal.returns-in-DelIacl-clause-served
returns-in-DelIacl-clause-served c = rw c.in-DelIacl.is (rw c.in-DelIacl.is at c.amend-in-DelIacl.ensures.served)

pub returns-in-SetClass-clause-served : goal.returns-in-SetClass-clause-served
returns-in-SetClass-clause-served c = rw c.in-SetClass.is (rw c.in-SetClass.is at c.alter-in-SetClass.ensures.served)
