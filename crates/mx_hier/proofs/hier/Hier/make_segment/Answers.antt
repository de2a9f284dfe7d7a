use Rattle.std.specs.Option.{option_copied}
use Rattle.mx_pages.specs.declared.pages.PageRun.{PageRun}
use Rattle.mx_hier.specs.declared.making.Place.{Place}
use Rattle.mx_hier.specs.MakeSegment.{Wanted, make_segment_at}
use Rattle.mx_hier.specs.Making.{place}
use Rattle.mx_hier.specs.Walks.{resolved}
use Rattle.mx_hier.specs.Who.{subject, caller}
use Rattle.mx_hier.proofs.MakingLaws.{placed_then, not_placed, told_first, told_alike}
use Rattle.mx_hier.proofs.hier.Hier.make_segment.Goals as goal

pub returns-in-Ok-clause-answer : goal.returns-in-Ok-clause-answer
returns-in-Ok-clause-answer c =
    let h = c.args.self.now in
    let who = c.args.who.now in
    let wanted : Wanted = record { words = c.args.words; rings = c.args.rings.now; modes = c.args.modes; object = option_copied c.args.object } in
    placed_then (resolved (caller who) c.args.path.now) (λ path. place h (subject who) path) (λ at. make_segment_at h (subject who) at wanted)
    c.in-Ok.at h c.make_segment_at.result c.make_segment_at.new.self c.in-Ok.ensures.answer c.make_segment_at.ensures.answer

pub returns-in-Ok-clause-told : goal.returns-in-Ok-clause-told
returns-in-Ok-clause-told c =
    told_first (resolved (caller c.args.who.now) c.args.path.now) (λ path. place c.args.self.now (subject c.args.who.now) path) c.in-Ok.at
    c.make_segment_at.result c.in-Ok.ensures.answer

pub returns-in-Err-clause-answer : goal.returns-in-Err-clause-answer
returns-in-Err-clause-answer c =
    let h = c.args.self.now in
    let who = c.args.who.now in
    let wanted : Wanted = record { words = c.args.words; rings = c.args.rings.now; modes = c.args.modes; object = option_copied c.args.object } in
    not_placed PageRun (resolved (caller who) c.args.path.now) (λ path. place h (subject who) path) (λ at. make_segment_at h (subject who) at wanted)
    h c.in-Err.error c.in-Err.ensures.answer

pub returns-in-Err-clause-told : goal.returns-in-Err-clause-told
returns-in-Err-clause-told c =
    told_alike Place PageRun (resolved (caller c.args.who.now) c.args.path.now) c.in-Err.error c.in-Err.ensures.told
