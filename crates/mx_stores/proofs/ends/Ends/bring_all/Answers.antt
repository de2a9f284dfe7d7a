use Rattle.std.proofs.Common.{◌≡◌, ◌+◌, ◌==◌, ◌<◌, ℕ, suc, true, false, List, Option, Some, length, ap, refl, sym, subst, ◌∙◌, rules, arith}
use Rattle.std.specs.List.{slice_get}
use Rattle.std.proofs.lemmas.Option.{slice_get-get_or, slice_get_read}
use Rattle.std.proofs.lemmas.List.{with_items_is}
use Rattle.mx_stores.specs.Ends.{AreEndsOf}
use Rattle.mx_stores.specs.declared.stores.Table.{Table}
use Rattle.mx_stores.proofs.EndLaws.{until_same}
use Rattle.mx_stores.proofs.SightedLaws.{some_same}
use Rattle.mx_stores.proofs.ends.Ends.bring_all.Goals as goal
use Rattle.mx_stores.proofs.ends.Ends.bring_all.Goals.{then-other-storer, else-other-storer}

pub loop-other-preserved : goal.loop-other-preserved
loop-other-preserved c = λ done table tables at first.
    let own_at : slice_get c.args.tables.now c.args.storer ≡ Some c.in-Some.table.now =
    slice_get_read c.args.tables.now (length c.args.tables.now) c.args.storer c.in-Some.table.now refl
    c.in-Some.ensures.lookup.3.0 c.in-Some.ensures.lookup.1 in
    let same_table : table ≡ c.in-Some.table.now = some_same table c.in-Some.table.now (sym at ∙ own_at) in
    let old : AreEndsOf done c.loop-other.other c.args.storer c.in-Some.table.now.stores.items c.loop-other.self.of.items =
    subst (λ (t : Table). AreEndsOf done c.loop-other.other c.args.storer t.stores.items c.loop-other.self.of.items) same_table
    (c.loop-other.invariant done table tables at first) in
    let within : c.loop-other.other < length c.args.tables.now = search rules in
    let next : suc c.loop-other.other ≡ c.loop-other.other + 1 = omega arith in
    subst (λ (t : Table). AreEndsOf done (c.loop-other.other + 1) c.args.storer t.stores.items c.if-other-storer.self.of.items) (sym same_table)
    (subst (λ (n : ℕ). AreEndsOf done n c.args.storer c.in-Some.table.now.stores.items c.if-other-storer.self.of.items) next
    (elim c.if-other-storer.branch [
      | then-other-storer w ↦
          let there : slice_get c.args.tables.now c.loop-other.other ≡ Some w.index-tables-other.result =
          slice_get-get_or c.args.tables.now c.loop-other.other w.index-tables-other.result within
          ∙ ap (λ (t : Table). Some t) (sym w.index-tables-other.is) in
          let other : (c.loop-other.other == c.args.storer) ≡ false = search rules in
          let lent : w.as_mut_slice.result.now ≡ c.loop-other.self.of.items = search rules in
          let long : length w.bring_in.new.ends ≡ c.loop-other.self.of.len = search rules in
          let given : c.if-other-storer.self.of.items ≡ w.bring_in.new.ends =
          ap (λ v. v.of.items) w.self-is ∙ with_items_is c.loop-other.self.of w.bring_in.new.ends long in
          subst (λ (xs : List (Option ℕ)). AreEndsOf done (suc c.loop-other.other) c.args.storer c.in-Some.table.now.stores.items xs) (sym given)
          (w.bring_in.ensures done c.args.storer c.loop-other.other other (tables c.args.storer c.in-Some.table.now own_at)
          (tables c.loop-other.other w.index-tables-other.result there)
          (subst (λ (xs : List (Option ℕ)). AreEndsOf done c.loop-other.other c.args.storer c.in-Some.table.now.stores.items xs) (sym lent) old))
      | else-other-storer w ↦
          let same : (c.loop-other.other == c.args.storer) ≡ true = search rules in
          subst (λ (xs : List (Option ℕ)). AreEndsOf done (suc c.loop-other.other) c.args.storer c.in-Some.table.now.stores.items xs)
          (sym (ap (λ v. v.of.items) w.self-is))
          (λ here s e. old here s e
          ∙ ap (λ (o : Option ℕ). Some o) (until_same done c.loop-other.other c.args.storer s.place s.cell same))
    ]))

pub returns : goal.returns
returns c = λ done table tables at first.
    let end : c.loop-other.other ≡ length c.args.tables.now = search rules in
    subst (λ (n : ℕ). AreEndsOf done n c.args.storer table.stores.items c.loop-other.self.of.items) end
    (c.loop-other.invariant done table tables at first)
