use Rattle.mx_picture.proofs.PageLaws.{bottom_sent, gains_more, gains_one}
use Rattle.mx_picture.proofs.heads.send_bottom.Goals as goal

pub returns-clause-sent : goal.returns-clause-sent
returns-clause-sent g c =
    bottom_sent _ _ _
    (gains_more _ _ _ (gains_one _ _ _ c.in_ok-write_all.ensures.all)
    (gains_more _ _ _ (gains_one _ _ _ c.in_ok-write_all-2.ensures.all) (gains_one _ _ _ c.in_ok-write_all-3.ensures.all)))
    c.in_ok-write_all-4.ensures.all
