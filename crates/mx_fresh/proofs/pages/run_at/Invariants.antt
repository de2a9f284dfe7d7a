use Rattle.std.proofs.Common.{◌≡◌, ◌≤◌, ◌<◌, ℕ, true}
use Rattle.mx_pages.specs.Runs.{is_free}
use Rattle.mx_fresh.proofs.pages.run_at.Given as goal

-- the pages so far are free
abbrev pub invariant-loop-page : goal.invariant-loop-page
invariant-loop-page l = (other : ℕ) → l.first ≤ other → other < l.page → is_free (record { free = l.free }) other ≡ true
