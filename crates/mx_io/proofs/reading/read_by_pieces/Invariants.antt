use Rattle.std.proofs.Common.{◌≡◌, ℕ, ◌≤◌, ◌+◌, ◌-◌, vec_len}
use Rattle.mx_io.specs.Bytes.{Takes}
use Rattle.mx_io.proofs.reading.read_by_pieces.Given as goal

-- the bytes so far are taken, at most one more than the limit, and no read was a fault
pub record IsRead (taken : Type 0) (old new count most : ℕ) : Type 0 where
  pub takes : taken
  pub same : new ≡ old
  pub within : count ≤ most

abbrev pub invariant-loop-bytes : goal.invariant-loop-bytes
invariant-loop-bytes g l = IsRead
    (Takes (g.S.Source.left l.initial.source) (g.S.Source.left l.source) l.bytes.items)
    (g.S.Source.faults l.initial.source) (g.S.Source.faults l.source)
    (vec_len l.bytes) (l.limit + 1)

abbrev pub decreases-loop-bytes : goal.decreases-loop-bytes
decreases-loop-bytes g l = l.limit + 1 - vec_len l.bytes
