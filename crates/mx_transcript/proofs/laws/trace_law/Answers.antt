use Rattle.mx_transcript.proofs.Growing.{promise_law}
use Rattle.mx_transcript.proofs.TraceLaws.{trace_law, fill_trace_law}
use Rattle.mx_transcript.proofs.laws.trace_law.Goals as goal

pub returns-clause-element : goal.returns-clause-element
returns-clause-element c = trace_law

pub returns-clause-fill : goal.returns-clause-fill
returns-clause-fill c = fill_trace_law

pub returns-clause-promise : goal.returns-clause-promise
returns-clause-promise c = promise_law
