use Rattle.std.specs.Prelude.{codes}
use Rattle.mx_outcomes.proofs.TextLaws.{three_parts}
use Rattle.mx_outcomes.specs.OutcomesTexts.{count_text}
use Rattle.mx_outcomes.proofs.texts.add_too_many.Goals as goal

pub returns : goal.returns
returns c = three_parts c.args.out.now.items (codes "too many orders: ") (count_text c.args.orders) (codes "; at most 20000 are made\n") _ _ _
    c.in_ok-extend_from_slice.ensures.items c.in_ok-add_count.ensures c.in_ok-extend_from_slice-2.ensures.items
