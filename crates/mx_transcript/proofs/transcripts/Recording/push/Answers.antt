use Rattle.mx_transcript.proofs.RecordedLaws.{pushed}
use Rattle.mx_transcript.proofs.transcripts.Recording.push.Goals as goal

pub invariant_of-self : goal.invariant_of-self
invariant_of-self c = (pushed _ _ _ _ _ _ _ c.self.invariant c.self.view_is c.requires c.put.ensures.items).0

pub returns-clause-steps : goal.returns-clause-steps
returns-clause-steps c = (pushed _ _ _ _ _ _ _ c.self.invariant c.self.view_is c.requires c.put.ensures.items).1

pub returns-clause-events : goal.returns-clause-events
returns-clause-events c = (pushed _ _ _ _ _ _ _ c.self.invariant c.self.view_is c.requires c.put.ensures.items).2
