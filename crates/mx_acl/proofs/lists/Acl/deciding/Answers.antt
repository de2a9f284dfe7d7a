use Rattle.mx_name.specs.Identifiers.{PlainAclId}
use Rattle.mx_acl.specs.declared.modes.Modes.{Modes}
use Rattle.mx_acl.specs.Access.{deciding}
use Rattle.mx_acl.specs.Deciding.{IsMatch, IsDeciding}
use Rattle.mx_acl.proofs.DecidingLaws.{found_decides, none_matches, seen_some, seen_none}
use Rattle.mx_acl.proofs.lists.Acl.deciding.Goals as goal

pub returns-clause-least : goal.returns-clause-least
returns-clause-least c =
    seen_some (λ pair. (pair.0.now, pair.1)) c.first.result (deciding c.args.who.now c.args.self.now.entries)
    (λ (f : PlainAclId × Modes). IsDeciding c.args.self.now c.args.who.now f.0 f.1) c.first.ensures.value
    (found_decides c.args.self.now c.args.who.now c.first.ensures.sorted)

pub returns-clause-none : goal.returns-clause-none
returns-clause-none c =
    seen_none (λ pair. (pair.0.now, pair.1)) c.first.result (deciding c.args.who.now c.args.self.now.entries)
    ((id : PlainAclId) (m : Modes) → IsMatch c.args.self.now c.args.who.now id m → ⊥) c.first.ensures.value
    (none_matches c.args.self.now c.args.who.now c.first.ensures.sorted)
