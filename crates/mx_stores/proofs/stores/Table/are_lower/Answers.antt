use Rattle.std.proofs.Common.{◌≡◌, ◌-◌, ℕ, suc, List, Some, length, refl, subst, rules}
use Rattle.std.specs.List.{slice_get}
use Rattle.std.proofs.lemmas.Bool.{ltb-true}
use Rattle.std.proofs.lemmas.Option.{slice_get_read}
use Rattle.mx_stores.specs.Tables.{AreLower}
use Rattle.mx_stores.proofs.Tables.{all_lower, reaches_rise}
use Rattle.mx_stores.proofs.stores.Table.are_lower.Goals as goal

pub returns-in-Some : goal.returns-in-Some
returns-in-Some c = λ deeds table low.
    let same : c.deref.result.now ≡ c.args.self.now.reaches.items = search rules in
    let at : slice_get c.args.self.now.reaches.items (c.args.hint - 1) ≡ Some c.in-Some.reach.now =
    subst (λ (xs : List ℕ). slice_get xs (c.args.hint - 1) ≡ Some c.in-Some.reach.now) same
    (slice_get_read c.deref.result.now (length c.deref.result.now) (c.args.hint - 1) c.in-Some.reach.now refl
    c.in-Some.ensures.lookup.3.0 c.in-Some.ensures.lookup.1) in
    let next : suc (c.args.hint - 1) ≡ c.args.hint = search rules in
    subst (λ (n : ℕ). AreLower c.args.self.now.reaches.items c.args.level n) next
    (all_lower _ (reaches_rise _ _ _ table.reach) c.args.level (c.args.hint - 1) c.in-Some.reach.now at (ltb-true _ _ low))
