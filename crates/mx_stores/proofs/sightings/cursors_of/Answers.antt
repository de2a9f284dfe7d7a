use Rattle.std.proofs.Common.{◌≡◌, ◌<◌, ◌++◌, ◌∷◌, [], Some, length, ap, sym, ◌∙◌, rules}
use Rattle.std.specs.List.{slice_get}
use Rattle.std.proofs.lemmas.Option.{slice_get-get_or}
use Rattle.mx_stores.specs.declared.groups.Groups.{Groups}
use Rattle.mx_stores.proofs.EndLaws.{longer}
use Rattle.mx_stores.proofs.Noting.{first_cursors, one_cursors_more}
use Rattle.mx_stores.proofs.sightings.cursors_of.Goals as goal

pub loop-storer-preserved : goal.loop-storer-preserved
loop-storer-preserved c =
    let within : c.loop-storer.storer < length c.args.groups.now = search rules in
    let at : slice_get c.args.groups.now c.loop-storer.storer ≡ Some c.index-groups-storer.result =
    slice_get-get_or c.args.groups.now c.loop-storer.storer c.index-groups-storer.result within
    ∙ ap (λ (t : Groups). Some t) (sym c.index-groups-storer.is) in
    let pushed : c.push.new.self.items ≡ c.loop-storer.cursors.items ++ c.in_ok-new.field-0 ∷ [] = search rules in
    record {
      long = longer c.loop-storer.cursors.items c.push.new.self.items c.in_ok-new.field-0 c.loop-storer.storer pushed c.loop-storer.invariant.long;
      each = one_cursors_more c.args.groups.now c.loop-storer.storer c.index-groups-storer.result
          c.loop-storer.cursors.items c.push.new.self.items c.in_ok-new.field-0 pushed c.loop-storer.invariant.long at
          c.in_ok-new.ensures c.loop-storer.invariant.each;
    }

pub returns-clause-long : goal.returns-clause-long
returns-clause-long c = search rules

pub returns-clause-each : goal.returns-clause-each
returns-clause-each c = λ done source p u table own are g cursors e.
    first_cursors done source p u table own cursors are (c.loop-storer.invariant.each u own cursors g e)
