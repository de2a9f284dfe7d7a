use Rattle.std.proofs.Common.{◌≡◌, ◌≤◌, ◌+◌, ◌++◌, drop, length}
use Rattle.mx_text.proofs.printing.tails.put_letters.Given as goal

-- the letters from a place on are put
abbrev pub invariant-loop-left : goal.invariant-loop-left
invariant-loop-left g l = record {
  put : drop (l.start + l.left) l.bytes ≡ drop l.left l.letters ++ drop l.end l.initial.bytes;
  whole : length l.bytes ≡ 3072;
  few : l.left ≤ length l.letters;
  room : l.start + length l.letters ≡ l.end;
}

abbrev pub decreases-loop-left : goal.decreases-loop-left
decreases-loop-left g l = l.left
