use Rattle.std.proofs.Common.{◌≡◌, ◌<◌, ◌++◌, ◌∷◌, [], List, Some, length, ap, sym, subst, ◌∙◌, rules}
use Rattle.std.specs.List.{slice_get}
use Rattle.std.proofs.lemmas.Option.{slice_get-get_or}
use Rattle.mx_stores.specs.declared.ends.Ends.{Ends}
use Rattle.mx_stores.specs.declared.stores.Table.{Table}
use Rattle.mx_stores.proofs.EndLaws.{AreFirstTables, longer, one_table_more}
use Rattle.mx_stores.proofs.ends.first_ends.Goals as goal

pub loop-storer-preserved : goal.loop-storer-preserved
loop-storer-preserved c =
    let within : c.loop-storer.storer < length c.args.tables.now = search rules in
    let at : slice_get c.args.tables.now c.loop-storer.storer ≡ Some c.index-tables-storer.result =
    slice_get-get_or c.args.tables.now c.loop-storer.storer c.index-tables-storer.result within
    ∙ ap (λ (t : Table). Some t) (sym c.index-tables-storer.is) in
    let pushed : c.push.new.self.items ≡ c.loop-storer.ends.items ++ c.in_ok-begin.field-0 ∷ [] = search rules in
    record {
      long = longer c.loop-storer.ends.items c.push.new.self.items c.in_ok-begin.field-0 c.loop-storer.storer pushed c.loop-storer.invariant.long;
      each = λ done tables. subst (λ (xs : List Ends). AreFirstTables done 0 c.args.tables.now xs) (sym pushed)
          (one_table_more done 0 c.args.tables.now c.loop-storer.storer c.index-tables-storer.result c.loop-storer.ends.items
          c.in_ok-begin.field-0 c.loop-storer.invariant.long at (c.in_ok-begin.ensures done c.loop-storer.storer (tables c.loop-storer.storer c.index-tables-storer.result at))
          (c.loop-storer.invariant.each done tables));
    }

pub returns : goal.returns
returns c = λ done tables.
    let long : length c.loop-storer.ends.items ≡ length c.args.tables.now = search rules in
    record { long = long; each = c.loop-storer.invariant.each done tables }
