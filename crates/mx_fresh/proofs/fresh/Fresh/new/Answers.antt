use Rattle.std.proofs.Common.{sym, subst}
use Rattle.mx_state.specs.Pages.{ArePagesHeldOnce}
use Rattle.mx_fresh.proofs.HeldLaws.{opened_held}
use Rattle.mx_fresh.proofs.fresh.Fresh.new.Goals as goal

pub invariant_of-result : goal.invariant_of-result
invariant_of-result c = subst ArePagesHeldOnce (sym c.in_ok-state.ensures) (opened_held c.args.version c.args.entrants.now)
