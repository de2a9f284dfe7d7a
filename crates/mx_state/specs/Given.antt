-- Which pages of memory a request gave out, and which it freed: of each at most one run.
use Rattle.std.specs.Prelude.{◌≡◌, ℕ, ◌<◌, Bool, false, not, ◌&&◌, Option, Some, None, IfSome}
use Rattle.mx_pages.specs.Runs.{IsPageRun, page_count, is_free, is_in_run}
use Rattle.mx_pages.specs.declared.pages.PageRun.{PageRun}
use Rattle.mx_state.specs.Plain.{Plain}

-- a page is given out that was free before, and is not after
abbrev pub gives : Plain → Plain → ℕ → Bool
gives before after page = is_free before.hierarchy.pages page && not (is_free after.hierarchy.pages page)

-- and one is freed that was not free before, and is after
abbrev pub frees : Plain → Plain → ℕ → Bool
frees before after page = not (is_free before.hierarchy.pages page) && is_free after.hierarchy.pages page

-- whether a page is one of a run: where there is no run, none is
abbrev pub is_page_of : Option PageRun → ℕ → Bool
is_page_of None page = false
is_page_of (Some run) page = is_in_run run.count run.first page

-- a run of exactly the pages that are so, of one at least; and no run exactly where no page is so
pub record IsRunOf (is_so : ℕ → Bool) (run : Option PageRun) : Type 0 where
  pub some : IfSome run IsPageRun
  pub each : (page : ℕ) → page < page_count → is_page_of run page ≡ is_so page

-- exactly the pages that are given out
abbrev pub AreGiven : Plain → Plain → Option PageRun → Type 0
AreGiven before after run = IsRunOf (gives before after) run

-- exactly the pages that are freed
abbrev pub AreFreed : Plain → Plain → Option PageRun → Type 0
AreFreed before after run = IsRunOf (frees before after) run
