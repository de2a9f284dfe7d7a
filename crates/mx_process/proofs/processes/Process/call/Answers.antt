use Rattle.mx_process.proofs.CallLaws.{calling_still}
use Rattle.mx_process.proofs.processes.Process.call.Goals as goal

pub enter-requires-clause-calls : goal.enter-requires-clause-calls
enter-requires-clause-calls g c =
    calling_still g.B.Sitting.session c.args.self.now c.reserve.new.self c.reserve.ensures.still c.args.ring c.args.request.now
    c.requires.calls
