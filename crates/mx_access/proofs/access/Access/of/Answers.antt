use Rattle.std.proofs.Common.{◌≡◌, ◌∷◌, List, Ok, Result, rules, subst}
use Rattle.std.specs.declared.alloc.AllocError.{AllocError}
use Rattle.mx_access.specs.AllRows.{IsOf}
use Rattle.mx_access.specs.declared.answers.Row.{Row}
use Rattle.mx_access.proofs.AllRowLaws.{row_made}
use Rattle.mx_access.proofs.access.Access.of.Goals as goal

pub loop-row-preserved : goal.loop-row-preserved
loop-row-preserved c =
    let here : c.loop-row.row-iterator.rest.items ≡ Ok c.in_ok-row.field-0 ∷ c.next.new.self.rest.items = search rules in
    row_made c.args.rows.items c.next.new.self.rest.items c.in_ok-row.field-0 c.loop-row.access c.push.new.self
    (subst (λ (left : List (Result Row AllocError)). IsOf c.args.rows.items left c.loop-row.access) here c.loop-row.invariant)
    c.in_ok-push.ensures.deeds c.in_ok-push.ensures.descriptors c.in_ok-push.ensures.changes
