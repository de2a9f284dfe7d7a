use Rattle.std.proofs.Common.{◌≡◌, ℕ, List, true, false, ltb, rules, subst, sym}
use Rattle.std.specs.List.Sorted.{IsNonDecreasingBy, IsPartitionPoint}
use Rattle.std.proofs.lemmas.List.Sorted.{IsPartitionPoint-from_clause, IsPartitionedBy-ltb}
use Rattle.mx_stores.proofs.Tables.{level_from, reach_point, reaches_rise}
use Rattle.mx_stores.proofs.stores.Table.first_at.Goals as goal

pub returns : goal.returns
returns c = λ deeds table.
    let same : c.deref.result.now ≡ c.args.self.now.reaches.items = search rules in
    let rises : IsNonDecreasingBy (λ (s : ℕ). s) c.deref.result.now =
    subst (λ (xs : List ℕ). IsNonDecreasingBy (λ (s : ℕ). s) xs) (sym same) (reaches_rise _ _ _ table.reach) in
    let parted = IsPartitionedBy-ltb (λ (s : ℕ). s) c.deref.result.now c.args.level rises in
    let point = IsPartitionPoint-from_clause (λ (s : ℕ). ltb s c.args.level) c.deref.result.now _ c.partition_point.ensures.partitioned parted (λ a r q k. search rules) in
    level_from _ _ _ _ table.reach
    (reach_point _ _ _
    (subst (λ (xs : List ℕ). IsPartitionPoint (λ (s : ℕ). ltb s c.args.level ≡ true) (λ (s : ℕ). ltb s c.args.level ≡ false) xs c.partition_point.result) same point))
