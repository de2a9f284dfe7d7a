use Rattle.mx_upcall.proofs.GateLaws.{only_the_top_one}
use Rattle.mx_upcall.proofs.laws.only_the_top_gate_is_usable.Goals as goal

pub returns : goal.returns
returns c = only_the_top_one
