use Rattle.mx_run.proofs.verdicts.session_of_text.Goals as goal

pub returns-clause-bad_line : goal.returns-clause-bad_line
returns-clause-bad_line c = λ n is. (rw c.deref.ensures.value at c.read_session-session.ensures.bad_line) n is
