use Rattle.std.proofs.Common.{not, nat_eq, get_or, refl, arith}
use Rattle.std.proofs.lemmas.Bool.{agree_below_at}
use Rattle.mx_name.specs.Names.{is_name_byte}
use Rattle.mx_name.specs.declared.names.TheConstants.{NAME_BYTES}
use Rattle.mx_name.proofs.names.is_name_byte.Goals as goal

pub returns : goal.returns
returns c = rw c.from.ensures (agree_below_at (λ b. not (nat_eq (get_or NAME_BYTES b 0) 44)) is_name_byte 256 c.args.byte refl (omega arith))
