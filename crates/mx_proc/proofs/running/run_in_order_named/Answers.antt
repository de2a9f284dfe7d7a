use Rattle.std.proofs.Common.{◌∙◌, ap, map, subst, sym}
use Rattle.mx_audit.proofs.AccountLaws.{grown_none}
use Rattle.mx_audit.specs.Accounts.{HaveGrown}
use Rattle.mx_proc.proofs.running.run_in_order_named.Goals as goal

-- no process has done a line, and the auditors are where they were
pub returns-in_err-office-clause-grown : goal.returns-in_err-office-clause-grown
returns-in_err-office-clause-grown g c =
    subst (HaveGrown g.B.Attending.accounts) (sym (ap (map g.A.Auditor.account) c.in_err-office.ensures.err ∙ c.requires.accounts))
    (grown_none g.B.Attending.accounts)
