use Rattle.std.proofs.Common.{rules}
use Rattle.mx_rule.proofs.CodeLaws.{in_range}
use Rattle.mx_rule.proofs.decoding.view_in.Goals as goal

pub segment_in-requires : goal.segment_in-requires
segment_in-requires c = in_range c.args.found (search rules) c.requires.fits
