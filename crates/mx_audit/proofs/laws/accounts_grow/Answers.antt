use Rattle.mx_audit.proofs.AccountLaws.{grown_none, grown_by, grown_on, grown_count}
use Rattle.mx_audit.proofs.laws.accounts_grow.Goals as goal

pub returns-clause-none : goal.returns-clause-none
returns-clause-none c = grown_none

pub returns-clause-lists : goal.returns-clause-lists
returns-clause-lists c = grown_by

pub returns-clause-on : goal.returns-clause-on
returns-clause-on c = grown_on

pub returns-clause-count : goal.returns-clause-count
returns-clause-count c = grown_count
