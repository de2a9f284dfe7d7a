use Rattle.std.proofs.Common.{◌≡◌, ℕ, ◌<◌, get_or, nat_le, false}
use Rattle.mx_pages.proofs.pages.Pages.new.Given as goal

abbrev pub invariant-loop-page : goal.invariant-loop-page
invariant-loop-page l = (other : ℕ) → other < l.page → get_or l.is_free-items other false ≡ nat_le l.first other
