use Rattle.std.proofs.Common.{subst}
use Rattle.mx_state.specs.Pages.{ArePagesHeldOnce}
use Rattle.mx_state.proofs.laws.pages_are_held_once.Goals as goal

pub returns : goal.returns
returns c = subst ArePagesHeldOnce c.state.view_is c.state.invariant.held_once
