use Rattle.std.proofs.Common.{◌≡◌, ◌≤◌, ◌<◌, Some, length, ap, sym, ◌∙◌, rules}
use Rattle.std.specs.List.{slice_get}
use Rattle.std.proofs.lemmas.Option.{slice_get-get_or}
use Rattle.mx_stores.specs.declared.stores.Store.{Store}
use Rattle.mx_stores.proofs.Finds.{above_from, none_above, not_above, not_above_next}
use Rattle.mx_stores.proofs.stores.Table.next.Goals as goal

pub loop-next-init : goal.loop-next-init
loop-next-init c = λ deeds table at. not_above deeds _ table.stores table.sorted c.args.here c.args.store.now at

pub returns-then-index-store : goal.returns-then-index-store
returns-then-index-store c = λ deeds table at.
    let within : c.loop-next.next < length c.args.self.now.stores.items = search rules in
    let is : slice_get c.args.self.now.stores.items c.loop-next.next ≡ Some c.index.result.now =
    slice_get-get_or c.args.self.now.stores.items c.loop-next.next c.index.result.now within
    ∙ ap (λ (s : Store). Some s) (sym c.index.ensures) in
    above_from deeds _ table.stores table.sorted c.args.store.now.order c.loop-next.next c.index.result.now is
    c.if-index-store.true (c.loop-next.invariant deeds table at)

pub loop-next-preserved : goal.loop-next-preserved
loop-next-preserved c = λ deeds table at.
    let within : c.loop-next.next < length c.args.self.now.stores.items = search rules in
    let is : slice_get c.args.self.now.stores.items c.loop-next.next ≡ Some c.index.result.now =
    slice_get-get_or c.args.self.now.stores.items c.loop-next.next c.index.result.now within
    ∙ ap (λ (s : Store). Some s) (sym c.index.ensures) in
    let most : c.index.result.now.order ≤ c.args.store.now.order = search rules in
    not_above_next deeds _ table.stores table.sorted c.args.store.now.order c.loop-next.next c.index.result.now is most
    (c.loop-next.invariant deeds table at)

pub returns : goal.returns
returns c = λ deeds table at.
    let end : length c.args.self.now.stores.items ≤ c.loop-next.next = search rules in
    let long : c.len.result ≡ length c.args.self.now.stores.items = search rules in
    none_above deeds _ table.stores table.sorted c.args.store.now.order c.loop-next.next c.len.result end long
    (c.loop-next.invariant deeds table at)
