-- Who holds a page of memory: stacks, segments and linkage sections. None is held twice, and no free one is held.
use Rattle.std.specs.Prelude.{◌≡◌, ℕ, ◌+◌, ◌*◌, ◌≤◌, ◌<◌, ◌==◌, nat_lt, Bool, true, false, IsTrue, List, length, sum_by, count_by, if◌then◌else◌}
use Rattle.mx_core.specs.Pages.{covers}
use Rattle.mx_sdw.specs.Admissible.{IsAdmissible}
use Rattle.mx_pages.specs.Runs.{page_count, pages_for, is_free, is_in_run}
use Rattle.mx_hier.specs.declared.branches.Branch.{Branch}
use Rattle.mx_hier.specs.declared.branches.Node.{Node}
use Rattle.mx_hier.specs.declared.branches.Node.TheVariants.{Directory as IsDirectory, Segment as IsSegment, Link as IsLink}
use Rattle.mx_kst.specs.declared.lots.Lot.{Lot}
use Rattle.mx_kst.specs.declared.lots.Lot.TheVariants.{Free, Stack, Branch as KnownBranch, Linkage}
use Rattle.mx_state.specs.declared.states.ProcessState.{ProcessState}
use Rattle.mx_state.specs.Plain.{Plain}
use Rattle.mx_state.specs.Table.{descriptor}

-- the stack of ring r of process p is page 8 * (p - 1) + r: the stacks are the first pages, eight for each process
abbrev pub stacks_at : List ProcessState → ℕ → ℕ
stacks_at processes page = if nat_lt page (8 * length processes) then 1 else 0

-- a segment lies on a run of pages
abbrev pub lies_on : ℕ → Node → Bool
lies_on page (IsSegment segment) = is_in_run (pages_for segment.words) segment.page page
lies_on page (IsDirectory directory) = false
lies_on page (IsLink target) = false

-- how many segments lie on the page: one that was deleted is no branch any more, and its pages are free
abbrev pub segments_at : List Branch → ℕ → ℕ
segments_at branches page = count_by (λ branch. lies_on page branch.node) branches

-- a linkage section is one page
abbrev pub is_section_on : ℕ → Lot → Bool
is_section_on page (Linkage of own brackets words) = own == page
is_section_on page Free = false
is_section_on page (Stack ring) = false
is_section_on page (KnownBranch uid) = false

-- how many linkage sections of all processes are on the page
abbrev pub sections_at : List ProcessState → ℕ → ℕ
sections_at processes page = sum_by (λ process. count_by (is_section_on page) process.known.lots) processes

abbrev pub holders : Plain → ℕ → ℕ
holders s page = stacks_at s.processes page + segments_at s.hierarchy.branches page + sections_at s.processes page

abbrev pub free_count : Plain → ℕ → ℕ
free_count s page = if is_free s.hierarchy.pages page then 1 else 0

-- a page is free or held, and never both, nor held twice
abbrev pub ArePagesHeldOnce : Plain → Type 0
ArePagesHeldOnce s = (page : ℕ) → page < page_count → free_count s page + holders s page ≤ 1

-- no descriptor that a table may hold covers a free page
abbrev pub AreFreePagesBare : Plain → Type 0
AreFreePagesBare s = (p n page : ℕ) → IsAdmissible (descriptor s p n) → page < page_count
    → is_free s.hierarchy.pages page ≡ true → IsTrue (covers (descriptor s p n) page) → ⊥
