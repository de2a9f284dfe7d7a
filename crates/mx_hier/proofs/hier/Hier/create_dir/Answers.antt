use Rattle.mx_hier.specs.declared.making.Place.{Place}
use Rattle.mx_hier.specs.CreateDirectory.{create_dir_at}
use Rattle.mx_hier.specs.Making.{place}
use Rattle.mx_hier.specs.Walks.{resolved}
use Rattle.mx_hier.specs.Who.{subject, caller}
use Rattle.mx_hier.proofs.MakingLaws.{placed_then, not_placed, told_first, told_alike}
use Rattle.mx_hier.proofs.hier.Hier.create_dir.Goals as goal

pub returns-in-Ok-clause-answer : goal.returns-in-Ok-clause-answer
returns-in-Ok-clause-answer c =
    let h = c.args.self.now in
    let who = c.args.who.now in
    placed_then (resolved (caller who) c.args.path.now) (λ path. place h (subject who) path) (λ at. create_dir_at h (subject who) at c.args.d1 c.args.d2)
    c.in-Ok.at h c.create_dir_at.result c.create_dir_at.new.self c.in-Ok.ensures.answer c.create_dir_at.ensures.answer

pub returns-in-Ok-clause-told : goal.returns-in-Ok-clause-told
returns-in-Ok-clause-told c =
    told_first (resolved (caller c.args.who.now) c.args.path.now) (λ path. place c.args.self.now (subject c.args.who.now) path) c.in-Ok.at
    c.create_dir_at.result c.in-Ok.ensures.answer

pub returns-in-Err-clause-answer : goal.returns-in-Err-clause-answer
returns-in-Err-clause-answer c =
    let h = c.args.self.now in
    let who = c.args.who.now in
    not_placed (Unit {0}) (resolved (caller who) c.args.path.now) (λ path. place h (subject who) path) (λ at. create_dir_at h (subject who) at c.args.d1 c.args.d2)
    h c.in-Err.error c.in-Err.ensures.answer

pub returns-in-Err-clause-told : goal.returns-in-Err-clause-told
returns-in-Err-clause-told c =
    told_alike Place (Unit {0}) (resolved (caller c.args.who.now) c.args.path.now) c.in-Err.error c.in-Err.ensures.told
