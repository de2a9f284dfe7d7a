use Rattle.mx_fresh.proofs.serving.amend.Goals as goal

pub returns-in-Rename : goal.returns-in-Rename
returns-in-Rename c = rw c.in-Rename.is (record { answer = c.rename.ensures.answer })

pub returns-in-SetDirBrackets : goal.returns-in-SetDirBrackets
returns-in-SetDirBrackets c = rw c.in-SetDirBrackets.is (record { answer = c.set_dir_brackets.ensures.answer })

pub returns-in-SetIacl : goal.returns-in-SetIacl
returns-in-SetIacl c = rw c.in-SetIacl.is (record { answer = c.set_iacl.ensures.answer })

pub returns-in-DelIacl : goal.returns-in-DelIacl
returns-in-DelIacl c = rw c.in-DelIacl.is (record { answer = c.del_iacl.ensures.answer })
