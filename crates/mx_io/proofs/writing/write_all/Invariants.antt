use Rattle.std.proofs.Common.{◌≡◌, length, ◌-◌, ℕ, ◌≤◌, take}
use Rattle.mx_io.specs.Bytes.{Appends}
use Rattle.mx_io.proofs.writing.write_all.Given as goal

-- the first bytes are written, and no write was a fault
pub record IsWritten (part : Type 0) (old new written many : ℕ) : Type 0 where
  pub appends : part
  pub same : new ≡ old
  pub within : written ≤ many

abbrev pub invariant-loop-written : goal.invariant-loop-written
invariant-loop-written g l = IsWritten
    (Appends (g.K.Sink.out l.initial.sink) (g.K.Sink.out l.sink) (take l.written l.bytes))
    (g.K.Sink.faults l.initial.sink) (g.K.Sink.faults l.sink)
    l.written (length l.bytes)

abbrev pub decreases-loop-written : goal.decreases-loop-written
decreases-loop-written g l = length l.bytes - l.written
