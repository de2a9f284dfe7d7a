use Rattle.std.proofs.Common.{◌≡◌, ◌<◌, ℕ, false}
use Rattle.mx_pages.specs.Runs.{run_at}
use Rattle.mx_fresh.proofs.pages.run_given.Given as goal

-- no run begins so far
abbrev pub invariant-loop-first : goal.invariant-loop-first
invariant-loop-first l = (other : ℕ) → other < l.first → run_at (record { free = l.free }) l.n other ≡ false
