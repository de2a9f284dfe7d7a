use Rattle.std.proofs.Common.{◌≡◌}
use Rattle.std.specs.Vec.{vec_len}
use Rattle.mx_worlds.proofs.TableLaws.{AreUnknown}
use Rattle.mx_worlds.proofs.tables.DescList.new.Given as goal

abbrev pub invariant-loop : goal.invariant-loop
invariant-loop l = (vec_len l.rows ≡ l.counter) × AreUnknown l.rows.items l.numbers
