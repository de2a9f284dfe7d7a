-- Helpers: the runs of pages that a request gives out and frees.
use Rattle.std.specs.Prelude.{◌≡◌, ℕ, ◌<◌, nat_lt, not, ◌&&◌, true, Option, Some, None, if◌then◌else◌}
use Rattle.mx_hier.specs.Branches.{Hierarchy, segment_at}
use Rattle.mx_hier.specs.declared.branches.Segment.{Segment}
use Rattle.mx_pages.specs.Runs.{PageMap, IsPageRun, IsInRun, page_count, pages_for, is_free, with_free}
use Rattle.mx_pages.specs.declared.pages.PageRun.{PageRun}
use Rattle.mx_state.specs.Given.{AreGiven, AreFreed}
use Rattle.mx_state.specs.NextRun.{IsNext, one_page}
use Rattle.mx_state.specs.Plain.{Plain}
use Rattle.mx_fresh.specs.declared.answered.Answered.{Answered}
use Rattle.mx_fresh.specs.declared.answered.Runs.{Runs}

-- the run that a segment lies on
abbrev pub run_of : Segment → PageRun
run_of segment = record { first = segment.page; count = pages_for segment.words }

-- no page of the run is free
abbrev pub IsTaken : PageMap → PageRun → Type 0
IsTaken pages run = (page : ℕ) → page < page_count → IsInRun run.count run.first page → is_free pages page ≡ true → ⊥

-- no page of a segment is free
abbrev pub AreSegmentsTaken : Hierarchy → Type 0
AreSegmentsTaken h = (uid : ℕ) (segment : Segment) → segment_at h uid ≡ Some segment → IsTaken h.pages (run_of segment)

-- what becomes free with this page: it alone, where it is a page that is not free
abbrev pub page_freed : PageMap → ℕ → Option PageRun
page_freed pages page = if nat_lt page page_count && not (is_free pages page) then Some (one_page page) else None

-- the run was taken, and is free now
pub record IsFreedRun (before after : PageMap) (run : PageRun) : Type 0 where
  pub is_run : IsPageRun run
  pub taken : IsTaken before run
  pub left : after ≡ with_free before run.first run.count

-- what is given out is the run that was next, if one is, and nothing is freed; or nothing is given out, and a run is freed
abbrev pub AreMoved : PageMap → PageMap → Option PageRun → Option PageRun → Type 0
AreMoved before after given None = IsNext before after given
AreMoved before after None (Some run) = IsFreedRun before after run
AreMoved before after (Some next) (Some run) = ⊥

abbrev pub Moves : PageMap → PageMap → Runs → Type 0
Moves before after runs = AreMoved before after runs.given runs.freed

-- what is given out is the run that was next, if one is, and nothing is freed
pub record GivesNext (old new : Plain) (answered : Answered) : Type 0 where
  pub next : IsNext old.hierarchy.pages new.hierarchy.pages answered.given
  pub freed : answered.freed ≡ None

-- exactly what is given out and freed is told
pub record TellsRuns (old new : Plain) (answered : Answered) : Type 0 where
  pub given : AreGiven old new answered.given
  pub freed : AreFreed old new answered.freed
