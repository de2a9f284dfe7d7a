use Rattle.mx_picture.proofs.PageLaws.{top_sent}
use Rattle.mx_picture.proofs.heads.send_top.Goals as goal

pub returns-clause-sent : goal.returns-clause-sent
returns-clause-sent g c = top_sent _ _ _ _ c.in_ok-write_all.ensures.all c.in_ok-write_all-2.ensures.all
