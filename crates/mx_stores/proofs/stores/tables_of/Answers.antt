use Rattle.std.proofs.Common.{◌≡◌, ◌+◌, ◌<◌, ◌++◌, ◌∷◌, [], length, rules, arith}
use Rattle.mx_stores.specs.Tables.{IsTable}
use Rattle.mx_stores.proofs.Tables.{tables_grow}
use Rattle.mx_stores.proofs.stores.tables_of.Goals as goal

pub loop-part-preserved : goal.loop-part-preserved
loop-part-preserved c =
    let within : c.loop-part.part-index < length c.args.parts.now = search rules in
    let pushed : c.push.new.self.items ≡ c.loop-part.tables.items ++ c.in_ok-new.field-0 ∷ [] = search rules in
    let table : IsTable c.part-item.result c.in_ok-new.field-0 = search rules in
    let both = tables_grow c.args.parts.now c.loop-part.part-index (c.loop-part.part-index + 1) c.part-item.result
    c.in_ok-new.field-0 c.loop-part.tables.items c.push.new.self.items (omega arith) within c.part-item.is pushed table
    c.loop-part.invariant.long c.loop-part.invariant.each in
    record { long = both.0; each = both.1 }
