use Rattle.mx_transcript.proofs.WaitingLineLaws.{right_waits, wrong_waits, limit_lines}
use Rattle.mx_transcript.proofs.laws.a_wait_is_two_entries.Goals as goal

pub returns : goal.returns
returns c = record { right = right_waits; wrong = wrong_waits; numbers = limit_lines }
