use Rattle.mx_transcript.proofs.GoingOn.{reference_law, fill_law, miss_law, call_law}
use Rattle.mx_transcript.proofs.laws.event_law.Goals as goal

pub returns-clause-reference : goal.returns-clause-reference
returns-clause-reference c = reference_law

pub returns-clause-fill : goal.returns-clause-fill
returns-clause-fill c = fill_law

pub returns-clause-miss : goal.returns-clause-miss
returns-clause-miss c = miss_law

pub returns-clause-call : goal.returns-clause-call
returns-clause-call c = call_law
