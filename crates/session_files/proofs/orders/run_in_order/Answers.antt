use Rattle.std.proofs.Common.{arith}
use Rattle.session_files.proofs.RunLaws.{in_order_of}
use Rattle.session_files.proofs.orders.run_in_order.Goals as goal

pub returns-in-Ok : goal.returns-in-Ok
returns-in-Ok g c = in_order_of (λ printed. printed.items) c.args.session.now _ c.in_order.result (omega arith) c.in-Ok.ensures.found c.in_order.ensures
