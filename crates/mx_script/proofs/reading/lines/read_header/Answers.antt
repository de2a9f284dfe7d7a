use Rattle.std.proofs.Common.{sym, ◌∙◌, arith}
use Rattle.mx_script.proofs.FieldLaws.{version_small}
use Rattle.mx_script.proofs.reading.lines.read_header.Goals as goal

pub overflow_cast-version : goal.overflow_cast-version
overflow_cast-version c =
    omega (arith, version_small c.args.text.now c.in_ok-version.version (sym c.read_decimal.ensures ∙ c.in_ok-version.was))
