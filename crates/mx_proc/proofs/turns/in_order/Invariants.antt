use Rattle.std.proofs.Common.{◌≡◌, vec_len, vec_capacity}
use Rattle.mx_proc.specs.Rows.{AreInPlace}
use Rattle.mx_proc.proofs.turns.in_order.Given as goal

-- each process is in its place
abbrev pub invariant-loop-number : goal.invariant-loop-number
invariant-loop-number g l = record {
  place : AreInPlace g.B.Attending.accounts l.row.items;
  len : vec_len l.row ≡ vec_len l.initial.row;
  capacity : vec_capacity l.row ≡ vec_capacity l.initial.row;
}
