use Rattle.std.proofs.Common.{◌≡◌, ℕ, ◌≤◌, Bool, true, false, length, rules}
use Rattle.std.specs.Prelude.{MatchBool}
use Rattle.mx_sdw.specs.Admissible.{IsAdmissible}
use Rattle.mx_worlds.specs.Tables.{table_of, MayOpen}
use Rattle.mx_worlds.specs.declared.tables.DescList.{DescList}
use Rattle.mx_worlds.proofs.TableLaws.{AreOf, table_opens}
use Rattle.mx_worlds.proofs.tables.DescList.may_open.Goals as goal

opens_by : (list : DescList) (processes start : ℕ) (b : Bool) → list.processes ≡ processes
    → length list.rows.items ≡ processes → AreOf list.rows.items list.numbers → 1 ≤ processes → processes ≤ 15
    → start ≤ 262143
    → MatchBool b ((p n : ℕ) → IsAdmissible (table_of list p n)) (((p n : ℕ) → IsAdmissible (table_of list p n)) → ⊥)
    → MatchBool b (MayOpen processes start list) (MayOpen processes start list → ⊥)
opens_by list processes start true same many of some most limit all = record {
  same = same;
  can = table_opens list.rows.items processes list.numbers start many of some most limit all;
}
opens_by list processes start false same many of some most limit not_all = λ may. not_all may.can.admissible

pub returns-then-processes-eq0 : goal.returns-then-processes-eq0
returns-then-processes-eq0 c = λ may.
    let some = may.can.some in
    let most = may.can.most in
    let limit = may.can.limit in search rules

pub returns-then-processes-self : goal.returns-then-processes-self
returns-then-processes-self c = λ may. let same = may.same in search rules

pub returns : goal.returns
returns c =
    let m = c.args.self.now in
    opens_by m c.args.processes c.args.start c.is_admissible.result (search rules) (search rules) m.numbers_of_each
    (search rules) (search rules) (search rules) c.is_admissible.ensures
