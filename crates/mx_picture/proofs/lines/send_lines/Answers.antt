use Rattle.mx_picture.proofs.PageLaws.{gains_more, gains_one}
use Rattle.mx_picture.proofs.lines.send_lines.Goals as goal

pub returns-clause-sent : goal.returns-clause-sent
returns-clause-sent g c = gains_more _ _ _ c.in_ok-send_parts.ensures.sent (gains_one _ _ _ c.in_ok-write_all.ensures.all)
