use Rattle.std.proofs.Common.{◌≤◌, ◌+◌, take, length, length-take, arith}
use Rattle.std.proofs.lemmas.Result.{err_from_is_err_and}
use Rattle.mx_io.proofs.BytesLaws.{takes_within}
use Rattle.mx_io.proofs.reading.read_by_pieces.Goals as goal

-- what this read gave is taken, though it was not added
pub returns-in_err-extend_from_slice-in-Bytes-clause-err :
    goal.returns-in_err-extend_from_slice-in-Bytes-clause-err
returns-in_err-extend_from_slice-in-Bytes-clause-err g c =
    let p = err_from_is_err_and c.from_residual.result c.from_residual.ensures.1 in
    let counted = simp length-take at (c.in-Bytes.ensures.count.1) in
    let within : length c.loop-bytes.bytes.items + length (take c.in-Bytes.count c.read.new.buf) ≤ c.args.limit + 1 = rw length-take (omega (arith, c.loop-bytes.bytes.ok)) in
    rw p.1 (takes_within _ _ _ _ _ _ c.loop-bytes.invariant.takes c.in-Bytes.ensures.bytes within)
