use Rattle.mx_process.proofs.CallLaws.{block_still}
use Rattle.mx_process.proofs.processes.Process.block.Goals as goal

pub sleep-requires-clause-calls : goal.sleep-requires-clause-calls
sleep-requires-clause-calls g c =
    block_still g.B.Sitting.session c.args.self.now c.reserve.new.self c.reserve.ensures.still c.requires.calls
