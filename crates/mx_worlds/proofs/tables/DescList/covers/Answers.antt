use Rattle.std.proofs.Common.{ℕ, List, sym, subst, rules}
use Rattle.mx_sdw.specs.Descriptors.{Descriptor}
use Rattle.mx_worlds.specs.Tables.{row_in, HasCover}
use Rattle.mx_worlds.proofs.Searching.{one_more, yes_by, not_by}
use Rattle.mx_worlds.proofs.TableLaws.{row_here, table_covers, table_bare}
use Rattle.mx_worlds.proofs.tables.DescList.covers.Goals as goal

pub returns-then-covers : goal.returns-then-covers
returns-then-covers c =
    let m = c.args.self.now in
    let e = row_here m.rows.items c.deref-row-items.result.now c.loop-row.row-index c.row-item.result
    (search rules) (search rules) c.row-item.is in
    sym (table_covers m.rows.items m.processes m.numbers c.args.page c.loop-row.row-index
    (search rules) m.numbers_of_each
    (search rules) (subst (λ (r : List Descriptor). HasCover r c.args.page) (sym e)
    (yes_by (HasCover c.row-item.result c.args.page) c.covers.result c.if-covers.true c.covers.ensures)))

pub loop-row-preserved : goal.loop-row-preserved
loop-row-preserved c i under =
    let m = c.args.self.now in
    let e = row_here m.rows.items c.deref-row-items.result.now c.loop-row.row-index c.row-item.result
    (search rules) (search rules) c.row-item.is in
    one_more (λ (k : ℕ). HasCover (row_in m.rows.items k) c.args.page → ⊥) c.loop-row.row-index c.loop-row.invariant
    (subst (λ (r : List Descriptor). HasCover r c.args.page → ⊥) (sym e)
    (not_by (HasCover c.row-item.result c.args.page) c.covers.result c.if-covers.false c.covers.ensures)) i under

pub returns : goal.returns
returns c =
    let m = c.args.self.now in
    sym (table_bare m.rows.items m.processes m.numbers c.args.page (λ i under. c.loop-row.invariant i (search rules)))
