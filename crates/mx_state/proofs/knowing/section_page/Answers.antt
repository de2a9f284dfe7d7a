use Rattle.std.proofs.Common.{ap, sym, ◌∙◌}
use Rattle.mx_state.proofs.FreedLaws.{section_in, section_page_at}
use Rattle.mx_state.proofs.knowing.section_page.Goals as goal

pub returns : goal.returns
returns c =
    c.page_of_section.ensures ∙ ap (λ lot. section_in lot c.args.segno) c.lot-lot.ensures.value
    ∙ sym (section_page_at c.args.known.now c.args.segno c.lot-lot.ensures.sound)
