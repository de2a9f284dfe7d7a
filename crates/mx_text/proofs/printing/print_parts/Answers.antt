use Rattle.std.proofs.Common.{rules}
use Rattle.mx_text.proofs.PrintingLaws.{on_err, part_next, part_cut_next, part_cut_here, sent_then, cut_then, cut_before}
use Rattle.mx_text.proofs.printing.print_parts.Goals as goal

pub returns-in_err-add_heading-clause-part : goal.returns-in_err-add_heading-clause-part
returns-in_err-add_heading-clause-part g c =
    on_err _ (part_cut_here _ _ _ _ _ _ _ _ c.loop-p.invariant.is_sent c.loop-p-test.true c.index-parts-p.is)

pub returns-in_err-send_when_long-clause-part : goal.returns-in_err-send_when_long-clause-part
returns-in_err-send_when_long-clause-part g c =
    on_err _ (part_cut_next _ _ _ _ _ _ _ _ _ _ c.loop-p.invariant.is_sent c.loop-p-test.true c.index-parts-p.is
    c.in_ok-add_heading.ensures (cut_before _ _ _ _ c.in_err-send_when_long.ensures.part))

pub returns-in_err-print_steps-clause-part : goal.returns-in_err-print_steps-clause-part
returns-in_err-print_steps-clause-part g c =
    on_err _ (part_cut_next _ _ _ _ _ _ _ _ _ _ c.loop-p.invariant.is_sent c.loop-p-test.true c.index-parts-p.is
    c.in_ok-add_heading.ensures (cut_then _ _ _ _ _ _ c.in_ok-send_when_long.ensures.sent c.in_err-print_steps.ensures.part))

pub loop-p-preserved : goal.loop-p-preserved
loop-p-preserved g c = record {
  is_sent = part_next _ _ _ _ _ _ _ _ _ _ _ c.loop-p.invariant.is_sent c.loop-p-test.true c.index-parts-p.is
      c.in_ok-add_heading.ensures
      (sent_then _ _ _ _ _ _ _ c.in_ok-send_when_long.ensures.sent c.in_ok-print_steps.ensures.sent);
  same = search rules;
  held = search rules;
}
