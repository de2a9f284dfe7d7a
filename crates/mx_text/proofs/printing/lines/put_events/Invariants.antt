use Rattle.std.proofs.Common.{◌≡◌, ◌≤◌, ◌+◌, ◌*◌, ◌++◌, drop, length}
use Rattle.mx_text.specs.RunText.{events_text}
use Rattle.mx_text.proofs.printing.lines.put_events.Given as goal

-- the events from a place on are put
abbrev pub invariant-loop-left : goal.invariant-loop-left
invariant-loop-left l = record {
  put : drop l.start l.bytes ≡ events_text (drop l.left l.events) ++ drop l.end l.initial.bytes;
  few : l.left ≤ length l.events;
  within : l.start ≤ l.end;
  short : l.end + 192 * l.left ≤ l.start + 192 * length l.events;
}

abbrev pub decreases-loop-left : goal.decreases-loop-left
decreases-loop-left l = l.left
