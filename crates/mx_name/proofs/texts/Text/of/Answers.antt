use Rattle.std.proofs.Common.{length, replicate, drop}
use Rattle.std.proofs.Math.Seq.{take-append_seam}
use Rattle.mx_name.specs.Texts.{written}
use Rattle.mx_name.proofs.texts.Text.of.Goals as goal

pub invariant_of-result : goal.invariant_of-result
invariant_of-result g c = rw c.copy_from_slice.ensures.after (written g.row.MOST c.args.bytes.now c.requires.within)

pub returns : goal.returns
returns g c =
    rw c.copy_from_slice.ensures.after (take-append_seam c.args.bytes.now (drop (length c.args.bytes.now) (replicate g.row.MOST 0)))
