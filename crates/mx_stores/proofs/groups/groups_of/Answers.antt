use Rattle.std.proofs.Common.{◌≡◌, ◌<◌, ◌++◌, ◌∷◌, [], Some, length, ap, sym, ◌∙◌, rules}
use Rattle.std.specs.List.{slice_get}
use Rattle.std.proofs.lemmas.Option.{slice_get-get_or}
use Rattle.mx_stores.specs.declared.stores.Table.{Table}
use Rattle.mx_stores.proofs.EndLaws.{longer}
use Rattle.mx_stores.proofs.Grouping.{one_groups_more}
use Rattle.mx_stores.proofs.groups.groups_of.Goals as goal

pub loop-storer-preserved : goal.loop-storer-preserved
loop-storer-preserved c =
    let within : c.loop-storer.storer < length c.args.tables.now = search rules in
    let at : slice_get c.args.tables.now c.loop-storer.storer ≡ Some c.index-tables-storer.result =
    slice_get-get_or c.args.tables.now c.loop-storer.storer c.index-tables-storer.result within
    ∙ ap (λ (t : Table). Some t) (sym c.index-tables-storer.is) in
    let pushed : c.push.new.self.items ≡ c.loop-storer.groups.items ++ c.in_ok-new.field-0 ∷ [] = search rules in
    record {
      long = longer c.loop-storer.groups.items c.push.new.self.items c.in_ok-new.field-0 c.loop-storer.storer pushed c.loop-storer.invariant.long;
      each = λ done tables. one_groups_more done c.args.tables.now c.loop-storer.storer c.index-tables-storer.result
          c.loop-storer.groups.items c.push.new.self.items c.in_ok-new.field-0 pushed c.loop-storer.invariant.long at
          (c.in_ok-new.ensures (done c.loop-storer.storer) (tables c.loop-storer.storer c.index-tables-storer.result at))
          (c.loop-storer.invariant.each done tables);
    }

pub returns : goal.returns
returns c = λ done tables.
    let long : length c.loop-storer.groups.items ≡ length c.args.tables.now = search rules in
    record { long = long; each = c.loop-storer.invariant.each done tables }
