use Rattle.std.proofs.Common.{rules}
use Rattle.mx_text.proofs.PrintingLaws.{on_err, sent_next, cut_next, cut_here, entries_left}
use Rattle.mx_text.proofs.printing.print_entries.Goals as goal

pub returns-in_err-add_entry-clause-part : goal.returns-in_err-add_entry-clause-part
returns-in_err-add_entry-clause-part g c =
    on_err _ (cut_here _ _ _ _ _ _ _ c.loop-i.invariant.is_sent (entries_left _ _ _ _ c.loop-i-test.true c.index-entries-i.is))

pub returns-in_err-send_when_long-clause-part : goal.returns-in_err-send_when_long-clause-part
returns-in_err-send_when_long-clause-part g c =
    on_err _ (cut_next _ _ _ _ _ _ _ _ _ c.loop-i.invariant.is_sent (entries_left _ _ _ _ c.loop-i-test.true c.index-entries-i.is)
    c.in_ok-add_entry.ensures c.in_err-send_when_long.ensures.part)

pub loop-i-preserved : goal.loop-i-preserved
loop-i-preserved g c = record {
  is_sent = sent_next _ _ _ _ _ _ _ _ _ _ c.loop-i.invariant.is_sent (entries_left _ _ _ _ c.loop-i-test.true c.index-entries-i.is)
      c.in_ok-add_entry.ensures c.in_ok-send_when_long.ensures.sent;
  same = search rules;
  held = search rules;
}
