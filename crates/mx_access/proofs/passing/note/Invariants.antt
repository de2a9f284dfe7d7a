use Rattle.std.proofs.Common.{◌≡◌, ℕ, ◌<◌, ◌&&◌, cond, length, nat_le, nat_lt, slice_index_or}
use Rattle.mx_pages.specs.Runs.{page_count}
use Rattle.mx_access.proofs.passing.note.Given as goal

-- the pages from the first of the run on, and below this one, are noted
abbrev pub invariant-loop-page : goal.invariant-loop-page
invariant-loop-page l = record {
  long : length l.uses ≡ length l.fn.uses;
  each : (page : ℕ) → page < page_count
      → slice_index_or l.uses page 0 ≡ cond (nat_le l.first page && nat_lt page l.page) l.number (slice_index_or l.fn.uses page 0);
}
