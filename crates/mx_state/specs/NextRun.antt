-- Helpers that only private contracts cite: the run of pages that a request gives out, which is the next, and the run
-- that it frees, none of which was free.
use Rattle.std.specs.Prelude.{◌≡◌, ℕ, ◌<◌, false, Option, Some, None, Result, Ok, Err}
use Rattle.std.specs.Option.{option_map}
use Rattle.mx_pages.specs.Runs.{PageMap, IsPageRun, IsFree, IsInRun, page_count, pages_for, is_free, run_given, after_run, with_free}
use Rattle.mx_pages.specs.declared.pages.PageRun.{PageRun}
use Rattle.mx_hier.specs.Branches.{Hierarchy, segment_at}
use Rattle.mx_hier.specs.Linkage.{page_given}
use Rattle.mx_hier.specs.Sound.{HasPage}
use Rattle.mx_hier.specs.declared.branches.Segment.{Segment}
use Rattle.mx_hier.specs.declared.refusals.HierError.{HierError}
use Rattle.mx_kst.specs.Sections.{PlainSection}
use Rattle.mx_request.specs.declared.requests.Request.{Request}
use Rattle.mx_request.specs.declared.requests.Request.TheVariants as ask

-- the run was the next, and the pages are those after it was given out
pub record IsNextRun (before after : PageMap) (run : PageRun) : Type 0 where
  pub next : run_given before run.count ≡ Some run.first
  pub left : after ≡ after_run before run.count (Some run.first)
  pub is_run : IsPageRun run

-- the same of what may be no run: then the pages are as they were
abbrev pub IsNext : PageMap → PageMap → Option PageRun → Type 0
IsNext before after None = after ≡ before
IsNext before after (Some run) = IsNextRun before after run

-- one page
abbrev pub one_page : ℕ → PageRun
one_page page = record { first = page; count = 1 }

-- what is given out for a linkage section, if there is one
abbrev pub section_run : Hierarchy → Option PlainSection → Option PageRun
section_run h None = None
section_run h (Some section) = option_map one_page (page_given h)

-- no page of the run is free
pub record IsTaken (pages : PageMap) (run : PageRun) : Type 0 where
  pub is_run : IsPageRun run
  pub taken : (page : ℕ) → IsInRun run.count run.first page → IsFree pages page → ⊥

-- the run was taken, and the pages are those after it was freed
pub record IsFreedRun (before after : PageMap) (run : PageRun) : Type 0 where
  pub was : IsTaken before run
  pub left : after ≡ with_free before run.first run.count

-- the same of what may be no run: then the pages are as they were
abbrev pub IsFreed : PageMap → PageMap → Option PageRun → Type 0
IsFreed before after None = after ≡ before
IsFreed before after (Some run) = IsFreedRun before after run

-- the run on which a segment lies
abbrev pub run_of : Segment → PageRun
run_of segment = record { first = segment.page; count = pages_for segment.words }

-- what a request on the entry of a uid frees, unless it is refused: the pages of a segment that it deletes
abbrev pub freed_by : Hierarchy → ℕ → Request → Option PageRun
freed_by h uid (ask.Delete path) = option_map run_of (segment_at h uid)
freed_by h uid other = None

-- what a call freed that was to free this: nothing where it is refused, or memory is wanting
abbrev pub unless_refused : {A : Type 0} → Result A HierError → Option PageRun → Option PageRun
unless_refused (Ok value) run = run
unless_refused (Err error) run = None

-- a page that is not free, and on which no segment lies
pub record IsApart (h : Hierarchy) (page : ℕ) : Type 0 where
  pub within : page < page_count
  pub taken : is_free h.pages page ≡ false
  pub apart : (uid : ℕ) (segment : Segment) → segment_at h uid ≡ Some segment → HasPage segment page → ⊥
