use Rattle.mx_picture.proofs.PageLaws.{gains_more, gains_one}
use Rattle.mx_picture.proofs.tables.send_course.Goals as goal

pub returns-clause-sent : goal.returns-clause-sent
returns-clause-sent g c = gains_more _ _ _ c.in_ok-send_entries.ensures.sent (gains_one _ _ _ c.in_ok-write_all.ensures.all)
