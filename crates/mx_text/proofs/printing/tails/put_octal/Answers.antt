use Rattle.mx_text.proofs.TailLaws.{octal_short}
use Rattle.mx_text.proofs.printing.tails.put_octal.Goals as goal

pub returns-clause-short : goal.returns-clause-short
returns-clause-short c =
    octal_short c.args.n c.spell_octal.new.bytes c.args.bytes.now c.spell_octal.result c.args.end c.spell_octal.ensures.spelled
    c.spell_octal.array_long c.told-bytes c.requires.within c.ranges.n.fits
