use Rattle.mx_explain.proofs.StatusLaws.{text_of}
use Rattle.mx_explain.proofs.commands.drill_text.Goals as goal

pub returns : goal.returns
returns c = text_of _ _ _ c.in_ok-session.ensures c.session_text.ensures
