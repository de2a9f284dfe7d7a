use Rattle.std.proofs.Common.{rules, ◌≡◌, length}
use Rattle.mx_transcript.proofs.RecordedLaws.{has_ended}
use Rattle.mx_transcript.proofs.transcripts.Recording.end_line.Goals as goal

pub invariant_of-self : goal.invariant_of-self
invariant_of-self c =
    let e : c.len-end.result ≡ length c.self.inside.events.items = search rules in
    (has_ended _ _ _ _ _ _ _ c.self.invariant e c.self.view_is c.put.ensures.items).0

pub returns-clause-steps : goal.returns-clause-steps
returns-clause-steps c =
    let e : c.len-end.result ≡ length c.self.inside.events.items = search rules in
    (has_ended _ _ _ _ _ _ _ c.self.invariant e c.self.view_is c.put.ensures.items).1

pub returns-clause-events : goal.returns-clause-events
returns-clause-events c =
    let e : c.len-end.result ≡ length c.self.inside.events.items = search rules in
    (has_ended _ _ _ _ _ _ _ c.self.invariant e c.self.view_is c.put.ensures.items).2
