use Rattle.std.proofs.Common.{suc, List, refl, sym, ◌∙◌, subst, rules}
use Rattle.mx_core.specs.Append.{with_changes}
use Rattle.mx_core.specs.declared.changes.Change.{Change}
use Rattle.mx_core.proofs.Lists.{split_up}
use Rattle.mx_desc.specs.Slots.{AreSlotted, ShowsSlots}
use Rattle.mx_desc.proofs.slots.+put_changes.Goals as goal

pub put_desc-requires-clause-pair : goal.put_desc-requires-clause-pair
put_desc-requires-clause-pair t c =
    let a = c.change-item.result in
    (subst (AreSlotted c.args.layout.now) (split_up c.args.changes.now a c.in-len1-up.len_at_least c.change-item.is)
    c.requires.each 0 a refl).0

pub put_desc-requires-clause-desc : goal.put_desc-requires-clause-desc
put_desc-requires-clause-desc t c =
    let a = c.change-item.result in
    (subst (AreSlotted c.args.layout.now) (split_up c.args.changes.now a c.in-len1-up.len_at_least c.change-item.is)
    c.requires.each 0 a refl).1

pub put_changes-requires : goal.put_changes-requires
put_changes-requires t c =
    let a = c.change-item.result in
    let each = subst (AreSlotted c.args.layout.now)
    (split_up c.args.changes.now a c.in-len1-up.len_at_least c.change-item.is) c.requires.each in
    (search rules, (search rules, ((λ i b at. each (suc i) b at), c.put_desc.ensures.count ∙ c.requires.count)))

pub returns-in-len1-up-clause-shown : goal.returns-in-len1-up-clause-shown
returns-in-len1-up-clause-shown t c table fault shows =
    let a = c.change-item.result in
    subst (λ (l : List Change). ShowsSlots c.args.layout.now (with_changes l table) fault c.put_changes.new.slots.items)
    (sym (split_up c.args.changes.now a c.in-len1-up.len_at_least c.change-item.is))
    (c.put_changes.ensures.shown _ fault (c.put_desc.ensures.shown table fault shows))
