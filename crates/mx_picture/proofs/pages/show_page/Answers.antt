use Rattle.mx_picture.proofs.PageLaws.{page_sent}
use Rattle.mx_picture.proofs.pages.show_page.Goals as goal

pub returns-clause-shown : goal.returns-clause-shown
returns-clause-shown g c =
    page_sent _ _ _ _ _ _ _ _ _ c.in_ok-send_top.ensures.sent c.in_ok-show_picture.ensures.drawn c.in_ok-send_lines.ensures.sent
    c.in_ok-send_table.ensures.sent c.in_ok-send_bottom.ensures.sent
