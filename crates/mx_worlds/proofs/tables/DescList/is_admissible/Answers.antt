use Rattle.std.proofs.Common.{ℕ, suc, sym, subst, rules}
use Rattle.mx_worlds.specs.Tables.{row_in, AreAdmissible}
use Rattle.mx_worlds.proofs.Searching.{one_more, yes_by, not_by}
use Rattle.mx_worlds.proofs.TableLaws.{row_here, table_admissible}
use Rattle.mx_worlds.proofs.tables.DescList.is_admissible.Goals as goal

pub returns-then-not-is_admissible : goal.returns-then-not-is_admissible
returns-then-not-is_admissible c = λ all.
    let e = row_here c.args.self.now.rows.items c.deref-row-items.result.now c.loop-row.row-index c.row-item.result
    (search rules) (search rules) c.row-item.is in
    not_by (AreAdmissible c.row-item.result) c.is_admissible.result (search rules) c.is_admissible.ensures
    (subst AreAdmissible e (λ n. all (suc c.loop-row.row-index) n))

pub loop-row-preserved : goal.loop-row-preserved
loop-row-preserved c i under =
    let e = row_here c.args.self.now.rows.items c.deref-row-items.result.now c.loop-row.row-index c.row-item.result
    (search rules) (search rules) c.row-item.is in
    one_more (λ (k : ℕ). AreAdmissible (row_in c.args.self.now.rows.items k)) c.loop-row.row-index c.loop-row.invariant
    (subst AreAdmissible (sym e)
    (yes_by (AreAdmissible c.row-item.result) c.is_admissible.result (search rules) c.is_admissible.ensures)) i under

pub returns : goal.returns
returns c = table_admissible c.args.self.now.rows.items (λ i under. c.loop-row.invariant i (search rules))
