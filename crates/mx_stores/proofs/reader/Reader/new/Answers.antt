use Rattle.std.proofs.Common.{◌≡◌, [], length, refl, sym, subst, rules}
use Rattle.mx_stores.specs.Groups.{AreGroups}
use Rattle.mx_stores.specs.SightedTables.{AreSightings}
use Rattle.mx_stores.specs.Deciding.{source_of}
use Rattle.mx_stores.proofs.reader.Reader.new.Goals as goal

pub returns-clause-reading : goal.returns-clause-reading
returns-clause-reading c = λ done rows.
    let groups : c.as_slice.result.now ≡ c.args.rows.now.groups.items = search rules in
    let long : length c.args.rows.now.cells.numbers.items ≡ c.len.result = search rules in
    record {
      chosen = [];
      long = refl;
      is = refl;
      sighted = subst (λ gs. AreSightings done (source_of []) c.args.rows.now.tables.items gs c.args.rows.now.cells.numbers.items c.args.process 0 c.in_ok-sightings.sightings)
          groups
          (c.in_ok-sightings.ensures done (source_of []) c.args.rows.now.tables.items c.args.rows.now.cells.numbers.items
          c.args.process (subst (λ gs. AreGroups c.args.rows.now.tables.items gs) (sym groups) rows.groups) long);
    }
