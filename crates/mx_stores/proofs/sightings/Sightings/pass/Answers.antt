use Rattle.std.proofs.Common.{◌≡◌, ◌+◌, ◌≤◌, max, Some, length, refl, sym, subst, ◌∙◌, rules, arith}
use Rattle.std.specs.List.{slice_get, slice_set}
use Rattle.std.proofs.lemmas.Option.{slice_get_within, get_or_from_slice_get}
use Rattle.mx_stores.specs.declared.sightings.Cursors.{Cursors}
use Rattle.mx_stores.proofs.sightings.Sightings.pass.Goals as goal

pub returns-then-storer-len-clause-cursors : goal.returns-then-storer-len-clause-cursors
returns-then-storer-len-clause-cursors c = λ small own old at group.
    let is : c.index_mut.result.now ≡ own =
    c.index_mut.ensures.value ∙ get_or_from_slice_get c.args.self.now.cursors.items c.args.storer own _ at in (
      c.pass.new.self,
      (
        refl,
        subst (λ (x : Cursors). c.pass.new.self.at.items ≡ slice_set x.at.items c.args.group (max (c.args.at + 1) old)) is
            (c.pass.ensures small old (subst (λ (x : Cursors). slice_get x.at.items c.args.group ≡ Some old) (sym is) group)),
      ),
    )

pub returns-else-storer-len-clause-cursors : goal.returns-else-storer-len-clause-cursors
returns-else-storer-len-clause-cursors c = λ small own old at group.
    let within = slice_get_within c.args.self.now.cursors.items c.args.storer own at in
    let out : length c.args.self.now.cursors.items ≤ c.args.storer = search rules in absurd (omega arith)
