use Rattle.std.proofs.Common.{subst}
use Rattle.mx_state.specs.Pages.{AreFreePagesBare}
use Rattle.mx_state.proofs.BareLaws.{free_bare}
use Rattle.mx_state.proofs.laws.free_pages_are_bare.Goals as goal

pub returns : goal.returns
returns c = subst AreFreePagesBare c.state.view_is (free_bare _ c.state.invariant.sound c.state.invariant.held_once)
