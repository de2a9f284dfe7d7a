use Rattle.std.proofs.Common.{◌≡◌, ◌+◌, ◌<◌, Some, length, rules, ap, sym, arith, ◌∙◌}
use Rattle.std.specs.List.{slice_get}
use Rattle.std.proofs.lemmas.Option.{slice_get-get_or}
use Rattle.mx_stores.specs.declared.stores.Store.{Store}
use Rattle.mx_stores.proofs.Tables.{reached_next}
use Rattle.mx_stores.proofs.stores.reaches.Goals as goal

pub loop-store-preserved : goal.loop-store-preserved
loop-store-preserved c =
    let within : c.loop-store.store-index < length c.args.stores.now = search rules in
    let is : slice_get c.args.stores.now c.loop-store.store-index ≡ Some c.store-item.result =
    slice_get-get_or c.args.stores.now c.loop-store.store-index c.store-item.result within
    ∙ ap (λ (s : Store). Some s) (sym c.store-item.is) in
    let both = reached_next c.args.stores.now c.loop-store.store-index (c.loop-store.store-index + 1) c.loop-store.top
    c.max-top.result c.store-item.result c.loop-store.reaches.items c.push.new.self.items (omega arith) (search rules)
    (search rules) is c.loop-store.invariant.top c.loop-store.invariant.reaches in
    record { reaches = both.0; top = both.1 }
