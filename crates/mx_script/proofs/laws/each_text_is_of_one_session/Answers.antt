use Rattle.mx_script.proofs.TextLaws.{one_session}
use Rattle.mx_script.proofs.laws.each_text_is_of_one_session.Goals as goal

pub returns : goal.returns
returns c = one_session
