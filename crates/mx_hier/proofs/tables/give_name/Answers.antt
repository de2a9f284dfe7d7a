use Rattle.std.proofs.Common.{[], ◌∷◌, ◌++◌, set, Some, refl, arith}
use Rattle.mx_hier.specs.Listed.{named, kept_for}
use Rattle.mx_hier.proofs.KeptLaws.{still_free, added, kept_as}
use Rattle.mx_hier.proofs.tables.give_name.Goals as goal

pub add_name-requires-clause-free : goal.add_name-requires-clause-free
add_name-requires-clause-free c =
    let branch = c.args.branch.now in
    still_free c.args.slots.now.items c.args.names.now.items c.widen.new.names.items branch.parent branch.name branch.name
    c.requires.kept c.widen.ensures.same refl c.requires.free

pub returns-clause-ok : goal.returns-clause-ok
returns-clause-ok c =
    let wide = c.widen.new.names.items in
    let branch = c.args.branch.now in
    let slots = c.args.slots.now.items ++ Some branch ∷ [] in
    kept_as slots slots c.add_name.new.names.items (set wide branch.parent (kept_for wide branch.parent ++ named branch ∷ []))
    refl c.in_ok-add_name.ensures.ok
    (added c.args.slots.now.items c.args.names.now.items wide branch c.requires.kept c.widen.ensures.same (omega (arith, c.in_ok-widen.ensures.ok, c.len.ensures)) c.requires.own c.requires.parent)
