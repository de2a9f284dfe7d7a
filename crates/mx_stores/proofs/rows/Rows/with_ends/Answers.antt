use Rattle.std.proofs.Common.{List, length, ap, sym, subst, ◌∙◌}
use Rattle.std.specs.List.{slice_get}
use Rattle.mx_stores.specs.Groups.{AreFirsts, AreGroups}
use Rattle.mx_stores.specs.Tables.{AreTables}
use Rattle.mx_stores.specs.declared.groups.Groups.{Groups}
use Rattle.mx_stores.specs.declared.stores.Table.{Table}
use Rattle.mx_stores.proofs.Grouping.{all_cells}
use Rattle.mx_stores.proofs.rows.Rows.with_ends.Goals as goal

pub returns-clause-rows : goal.returns-clause-rows
returns-clause-rows c = λ done tables ends.
    let groups : AreGroups c.args.tables.items c.in_ok-groups.groups.items =
    subst (λ (ts : List Table). AreGroups ts c.in_ok-groups.groups.items) c.as_slice.ensures.value
    (c.in_ok-groups.ensures done (subst (λ (ts : List Table). AreTables done ts) (sym c.as_slice.ensures.value) tables)) in
    record {
      tables = tables;
      ends = ends;
      groups = groups;
      cells = all_cells c.args.tables.items c.in_ok-groups.groups.items c.in_ok-cells.cells.numbers.items
          c.in_ok-cells.ensures.rising groups
          (λ u k number own e f. c.in_ok-cells.ensures.whole u k number own
          (ap (λ (gs : List Groups). slice_get gs u) c.as_slice-2.ensures.value ∙ e) f);
      firsts = subst (λ (ts : List Table). AreFirsts done (length ts) c.in_ok-cells.cells.numbers.items c.in_ok-firsts.firsts.items)
          c.as_slice-3.ensures.value
          (c.in_ok-firsts.ensures done (subst (λ (ts : List Table). AreTables done ts) (sym c.as_slice-3.ensures.value) tables));
    }
