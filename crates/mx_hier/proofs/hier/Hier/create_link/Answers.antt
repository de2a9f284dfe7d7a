use Rattle.std.proofs.Common.{refl, sym}
use Rattle.mx_hier.specs.CreateLink.{create_link_at}
use Rattle.mx_hier.specs.Making.{place}
use Rattle.mx_hier.specs.Rules.{onward}
use Rattle.mx_hier.specs.Walks.{resolved}
use Rattle.mx_hier.specs.Who.{subject, caller}
use Rattle.mx_hier.proofs.MakingLaws.{resolved_then}
use Rattle.mx_hier.proofs.hier.Hier.create_link.Goals as goal

pub returns-in-Ok-clause-answer : goal.returns-in-Ok-clause-answer
returns-in-Ok-clause-answer c =
    let h = c.args.self.now in
    let who = c.args.who.now in
    resolved_then (resolved (caller who) c.args.path.now) c.in-Ok.route c.in-Ok.route
    (λ path. onward (resolved (caller who) c.args.target.now) (λ target. onward (place h (subject who) path) (λ at. create_link_at h (subject who) at target)))
    h c.link_along.result c.link_along.new.self (sym c.in-Ok.ensures) refl c.link_along.ensures
