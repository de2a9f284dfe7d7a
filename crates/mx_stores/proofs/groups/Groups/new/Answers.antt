use Rattle.std.proofs.Common.{◌≡◌, ◌<◌, ◌≤◌, Some, false, true, length, refl, ap, sym, ◌∙◌, rules}
use Rattle.std.specs.List.{slice_get}
use Rattle.std.proofs.lemmas.Option.{slice_get-get_or}
use Rattle.mx_stores.specs.declared.stores.Store.{Store}
use Rattle.mx_stores.proofs.Choosing.{matched, unmatched}
use Rattle.mx_stores.proofs.Grouping.{all_grouped, grouped_as, next_group, same_group}
use Rattle.mx_stores.proofs.groups.Groups.new.Goals as goal
use Rattle.mx_stores.proofs.groups.Groups.new.Goals.{then-not-is_last+in_ok-push+in_ok-push-2, else-not-is_last}

pub loop-here-preserved : goal.loop-here-preserved
loop-here-preserved c = λ deeds table.
    let within : c.loop-here.here < length c.args.table.now.stores.items = search rules in
    let is : slice_get c.args.table.now.stores.items c.loop-here.here ≡ Some c.index.result.now =
    slice_get-get_or c.args.table.now.stores.items c.loop-here.here c.index.result.now within
    ∙ ap (λ (s : Store). Some s) (sym c.index.ensures) in
    elim c.if-not-is_last.branch [
      | then-not-is_last+in_ok-push+in_ok-push-2 w ↦
          let not : c.is_last.result ≡ false = search rules in
          grouped_as _ _ _ _ _ _ _ _ (ap (λ v. v.items) w.numbers-is ∙ w.in_ok-push.ensures.items)
          (ap (λ v. v.items) w.begins-is ∙ w.in_ok-push-2.ensures.items) w.last-is
          (next_group deeds _ table.stores table.sorted c.loop-here.here c.number-number.result c.index.result.now
          c.loop-here.numbers.items c.loop-here.begins.items c.loop-here.last is c.number-number.ensures.number
          (unmatched c.is_last.result _ _ not c.is_last.ensures) (c.loop-here.invariant deeds table))
      | else-not-is_last w ↦
          let same : c.is_last.result ≡ true = search rules in
          grouped_as _ _ _ _ _ _ _ _ (ap (λ v. v.items) w.numbers-is) (ap (λ v. v.items) w.begins-is) w.last-is
          (same_group deeds _ table.stores table.sorted c.loop-here.here c.number-number.result c.index.result.now
          c.loop-here.numbers.items c.loop-here.begins.items c.loop-here.last is c.number-number.ensures.number
          (matched c.is_last.result _ _ same c.is_last.ensures) (c.loop-here.invariant deeds table))
    ]

pub returns : goal.returns
returns c = λ deeds table.
    let end : length c.args.table.now.stores.items ≤ c.loop-here.here = search rules in
    all_grouped _ _ _ _ _ _ end c.in_ok-cells.ensures refl (c.loop-here.invariant deeds table)
