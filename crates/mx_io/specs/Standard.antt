-- A source or a sink over a reader or a writer of std.
use Rattle.std.specs.Prelude.{ℕ}

-- the reader or the writer, and the count of faults
pub record StdEnd (Inner : Type 0) : Type 0 where
  pub inner : Inner
  pub faults : ℕ
