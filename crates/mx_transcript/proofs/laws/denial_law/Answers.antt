use Rattle.mx_transcript.proofs.DenialLaws.{denials_append, few_denials, last_of}
use Rattle.mx_transcript.proofs.laws.denial_law.Goals as goal

pub returns-clause-in_order : goal.returns-clause-in_order
returns-clause-in_order c = denials_append

pub returns-clause-few : goal.returns-clause-few
returns-clause-few c = few_denials

pub returns-clause-last : goal.returns-clause-last
returns-clause-last c = last_of
