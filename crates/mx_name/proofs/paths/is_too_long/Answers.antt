use Rattle.std.proofs.Common.{sym}
use Rattle.mx_name.proofs.PathLaws.{kept_within, too_long}
use Rattle.mx_name.proofs.paths.is_too_long.Goals as goal

pub names_length-requires : goal.names_length-requires
names_length-requires c = rw c.kept.ensures (kept_within c.args.base.now c.args.text.now c.requires.base)

pub returns : goal.returns
returns c =
    rw (c.names_length.ensures.value, c.kept.ensures, c.added_length.ensures.value) (sym (too_long c.args.base.now c.args.text.now))
