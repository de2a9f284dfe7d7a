use Rattle.std.proofs.Common.{◌≡◌, suc, ◌-◌, ◌<◌, List, length, sym, subst, arith, rules}
use Rattle.std.specs.Prelude.{slice_set}
use Rattle.mx_sdw.specs.Descriptors.{Descriptor}
use Rattle.mx_core.specs.Put.{put}
use Rattle.mx_worlds.specs.Tables.{table_in}
use Rattle.mx_worlds.proofs.Seating.{at_place}
use Rattle.mx_worlds.proofs.TableLaws.{table_put}
use Rattle.mx_worlds.proofs.tables.DescList.put.Goals as goal

pub returns-clause-table : goal.returns-clause-table
returns-clause-table c p n =
    let m = c.args.self.now in
    let i = c.from.result - 1 in
    let row = c.index_mut.result.now in
    let at = at_place m.rows.items i row (search rules) c.index_mut.ensures.value in
    let many = m.numbers_of_each i row at in
    let under : c.args.segno < length row = search rules in
    let is : c.args.process ≡ suc i =
    let e = c.from.ensures in let low = c.requires.low in omega arith in
    subst (λ (l : List Descriptor). table_in (slice_set m.rows.items i l) p n
    ≡ put (table_in m.rows.items) c.args.process
    (put (table_in m.rows.items c.args.process) c.args.segno c.args.desc) p n)
    (sym c.put.ensures) (table_put m.rows.items i c.args.process c.args.segno row c.args.desc is at under p n)
