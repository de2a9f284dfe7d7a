use Rattle.std.proofs.Common.{◌≡◌, inl, inr, ◌<◌, ◌≤◌, ℕ, List, Some, length, length-set, ap, refl, sym, subst, ◌∙◌, rules, arith}
use Rattle.std.specs.List.{slice_get, slice_set}
use Rattle.std.proofs.lemmas.Bool.{cases_eq}
use Rattle.std.proofs.lemmas.Option.{slice_get_read, slice_get_within}
use Rattle.mx_stores.specs.Ends.{AreEndsOf}
use Rattle.mx_stores.specs.declared.ends.Ends.{Ends}
use Rattle.mx_stores.proofs.EndLaws.{set_here, set_other}
use Rattle.mx_stores.proofs.SightedLaws.{some_same}
use Rattle.mx_stores.proofs.ends.bring_in_turn.Goals as goal

pub loop-storer-preserved : goal.loop-storer-preserved
loop-storer-preserved c =
    let within : c.loop-storer.storer < length c.loop-storer.ends = search rules in
    let there : slice_get c.loop-storer.ends c.loop-storer.storer ≡ Some c.index-ends-storer.result =
    slice_get_read c.loop-storer.ends (length c.loop-storer.ends) c.loop-storer.storer c.index-ends-storer.result refl within
    c.index-ends-storer.is in
    record {
      long = rw length-set c.loop-storer.invariant.long;
      each = λ done tables first u table own below at is. elim (cases_eq u c.loop-storer.storer) [
        | inl here ↦
            let at' : slice_get c.args.tables.now c.loop-storer.storer ≡ Some table =
            ap (slice_get c.args.tables.now) (sym here) ∙ at in
            let own_is : c.bring_all.new.self ≡ own = some_same c.bring_all.new.self own
            (sym (set_here c.loop-storer.ends c.loop-storer.storer c.bring_all.new.self within)
            ∙ ap (slice_get (slice_set c.loop-storer.ends c.loop-storer.storer c.bring_all.new.self)) (sym here) ∙ is) in
            let before : AreEndsOf done 0 c.loop-storer.storer table.stores.items c.index-ends-storer.result.of.items =
            first.each c.loop-storer.storer table c.index-ends-storer.result at'
            (sym (c.loop-storer.invariant.left c.loop-storer.storer (omega arith)) ∙ there) in
            subst (λ (i : ℕ). AreEndsOf done (length c.args.tables.now) i table.stores.items own.of.items) (sym here)
            (subst (λ (e : Ends). AreEndsOf done (length c.args.tables.now) c.loop-storer.storer table.stores.items e.of.items) own_is
            (c.bring_all.ensures done table tables at'
            (subst (λ (e : Ends). AreEndsOf done 0 c.loop-storer.storer table.stores.items e.of.items) c.index-ends-storer.is before)))
        | inr other ↦ c.loop-storer.invariant.each done tables first u table own (omega (arith, below, other)) at
            (sym (set_other c.loop-storer.ends c.loop-storer.storer u c.bring_all.new.self other) ∙ is)
      ];
      left = λ u behind.
          set_other c.loop-storer.ends c.loop-storer.storer u c.bring_all.new.self (λ same. absurd (omega (arith, same, behind)))
          ∙ c.loop-storer.invariant.left u (omega (arith, behind));
    }

pub returns : goal.returns
returns c = λ done tables first.
    let end : length c.args.ends.now ≤ c.loop-storer.storer = search rules in
    let long = c.loop-storer.invariant.long in
    record {
      long = long ∙ first.long;
      each = λ u table own at is.
          let within = slice_get_within c.loop-storer.ends u own is in
          c.loop-storer.invariant.each done tables first u table own (omega (arith, within, long, end)) at is;
    }
