use Rattle.mx_transcript.proofs.UpwardLineLaws.{right_upward, wrong_upward, wrong_left}
use Rattle.mx_transcript.proofs.laws.an_upward_call_leaves_a_gate.Goals as goal

pub returns : goal.returns
returns c = record { right = right_upward; wrong = wrong_upward; left = wrong_left }
