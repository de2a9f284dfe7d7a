use Rattle.std.proofs.Common.{◌≤◌, arith, length}
use Rattle.std.proofs.lemmas.Fmt.{length-decimal-le}
use Rattle.std.specs.Fmt.{decimal}
use Rattle.mx_text.proofs.printing.tails.put_long_decimal.Goals as goal

pub write_digits-requires : goal.write_digits-requires
write_digits-requires c =
    let few : length (decimal c.args.n) ≤ 20 = length-decimal-le 20 c.args.n (omega arith) (omega arith) c.ranges.n.fits in
    (omega (arith, few, c.requires.room), omega (arith, c.requires.within, c.told-bytes))

pub returns-clause-short : goal.returns-clause-short
returns-clause-short c =
    let few : length (decimal c.args.n) ≤ 20 = length-decimal-le 20 c.args.n (omega arith) (omega arith) c.ranges.n.fits in
    omega (arith, few, c.write_digits.ensures.start)
