use Rattle.mx_name.specs.Principals.{PlainPrincipal}
use Rattle.mx_name.proofs.TextOrder.{written_cmp}
use Rattle.mx_name.proofs.identifiers.AclId.components_cmp.Goals as goal

pub returns : goal.returns
returns c =
    let a : PlainPrincipal = record { person = c.self.inside.person; project = c.self.inside.project; tag = c.self.inside.tag } in
    let b : PlainPrincipal = record { person = c.other.inside.person; project = c.other.inside.project; tag = c.other.inside.tag } in
    rw (c.then-2.ensures, c.then.ensures, c.cmp.ensures, c.cmp-2.ensures, c.cmp-3.ensures, ← c.self.view_is, ← c.other.view_is)
    (written_cmp a b c.self.invariant c.other.invariant)
