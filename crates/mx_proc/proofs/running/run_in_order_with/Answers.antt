use Rattle.std.proofs.Common.{map}
use Rattle.mx_audit.proofs.AccountLaws.{grown_none}
use Rattle.mx_proc.proofs.running.run_in_order_with.Goals as goal

-- nothing was begun, and the auditors are where they were
pub returns-in_err-prepared-clause-grown : goal.returns-in_err-prepared-clause-grown
returns-in_err-prepared-clause-grown g c = grown_none (map g.A.Auditor.account c.args.auditors.now.items)
