use Rattle.std.proofs.Common.{◌≡◌, ◌-◌, ◌<◌, [], List, ℕ, suc, Some, drop, length, rules, subst, sym, ap, arith, ◌∙◌}
use Rattle.std.specs.List.{slice_get}
use Rattle.std.proofs.lemmas.Option.{slice_get-get_or}
use Rattle.mx_reads.specs.Deeds.{Deed}
use Rattle.mx_stores.specs.Least.{least}
use Rattle.mx_stores.specs.Since.{least_entry, since}
use Rattle.mx_stores.specs.Tables.{AreStores}
use Rattle.mx_stores.specs.declared.stores.Store.{Store}
use Rattle.mx_stores.proofs.Tables.{added, no_stores, none_left, one_entry_more, skipped}
use Rattle.mx_stores.proofs.stores.stores_among.Goals as goal
use Rattle.mx_stores.proofs.stores.stores_among.Goals.{in-Some+in_ok-push, in_default}

pub loop-place-init : goal.loop-place-init
loop-place-init c =
    let none : c.new-stores.result.items ≡ [] = search rules in record {
      within = omega arith;
      since = none_left c.args.deeds.now;
      stores = subst (λ (xs : List Store). AreStores c.args.deeds.now (length c.args.deeds.now) xs) (sym none)
          (no_stores c.args.deeds.now);
    }

pub loop-place-preserved : goal.loop-place-preserved
loop-place-preserved c =
    let next : c.loop-place.place ≡ suc (c.loop-place.place - 1) = search rules in
    let within : c.loop-place.place - 1 < length c.args.deeds.now = search rules in
    let at : slice_get c.args.deeds.now (c.loop-place.place - 1) ≡ Some c.index-deeds-place.result =
    slice_get-get_or c.args.deeds.now (c.loop-place.place - 1) c.index-deeds-place.result within
    ∙ ap (λ (d : Deed). Some d) (sym c.index-deeds-place.is) in
    let known : c.loop-place.since ≡ since c.args.deeds.now (c.loop-place.place - 1) =
    c.loop-place.invariant.since ∙ ap (λ (n : ℕ). least_entry (drop n c.args.deeds.now)) next in
    let stores : AreStores c.args.deeds.now (suc (c.loop-place.place - 1)) c.loop-place.stores.items =
    subst (λ (n : ℕ). AreStores c.args.deeds.now n c.loop-place.stores.items) next c.loop-place.invariant.stores in
    record {
      within = omega arith;
      since = c.least-since.ensures ∙ (λ i. least (c.entry.ensures i) (known i))
          ∙ one_entry_more c.args.deeds.now (c.loop-place.place - 1) c.index-deeds-place.result at;
      stores = elim c.match-store.branch [
        | in-Some+in_ok-push w ↦
            subst (λ (xs : List Store). AreStores c.args.deeds.now (c.loop-place.place - 1) xs)
            (sym (ap (λ v. v.items) w.stores-is ∙ w.in_ok-push.ensures.items))
            (added c.args.deeds.now (c.loop-place.place - 1) c.index-deeds-place.result c.loop-place.since w.in-Some.store
            c.loop-place.stores.items at known w.in-Some.ensures stores)
        | in_default w ↦
            subst (λ (xs : List Store). AreStores c.args.deeds.now (c.loop-place.place - 1) xs)
            (sym (ap (λ v. v.items) w.stores-is))
            (skipped c.args.deeds.now (c.loop-place.place - 1) c.index-deeds-place.result c.loop-place.stores.items at
            w.in_default.ensures stores)
      ];
    }
