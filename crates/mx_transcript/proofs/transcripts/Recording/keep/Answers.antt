use Rattle.mx_transcript.proofs.RecordedLaws.{kept_with}
use Rattle.mx_transcript.proofs.transcripts.Recording.keep.Goals as goal

pub invariant_of-self : goal.invariant_of-self
invariant_of-self c = (kept_with _ _ _ _ _ _ _ c.self.invariant c.self.view_is c.requires c.put.ensures.items).0

pub returns-clause-steps : goal.returns-clause-steps
returns-clause-steps c = (kept_with _ _ _ _ _ _ _ c.self.invariant c.self.view_is c.requires c.put.ensures.items).1

pub returns-clause-events : goal.returns-clause-events
returns-clause-events c = (kept_with _ _ _ _ _ _ _ c.self.invariant c.self.view_is c.requires c.put.ensures.items).2
