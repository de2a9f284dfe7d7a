-- Which pages of memory are free, and which run of them is given out next.
use Rattle.std.specs.Prelude.{ℕ, ◌+◌, ◌/◌, ◌<◌, ◌≤◌, nat_le, nat_lt, Bool, true, false, ◌&&◌, if◌then◌else◌, List, map, slice_index_or, Option, Some, None, ◌≡◌, find}
use Rattle.std.specs.List.{list_all, range_with_len}
use Rattle.mx_pages.specs.declared.pages.PageRun.{PageRun}

-- memory is 1,024 pages of 64 words each, numbered from 0: this model's own choice
abbrev pub page_count : ℕ
page_count = 1024

-- all of them, in order
unfoldable pub every_page : List ℕ
every_page = range_with_len 0 page_count

-- how many pages so many words need
abbrev pub pages_for : ℕ → ℕ
pages_for words = (words + 63) / 64

-- which pages are free, by page
pub record PageMap : Type 0 where
  pub free : List Bool

abbrev pub is_free : PageMap → ℕ → Bool
is_free pages page = slice_index_or pages.free page false

abbrev pub IsFree : PageMap → ℕ → Type 0
IsFree pages page = is_free pages page ≡ true

-- each page from this one on is free, and no other
abbrev pub free_from : ℕ → PageMap
free_from first = record { free = map (nat_le first) every_page }

-- so many pages from this one on are free
abbrev pub IsFreeRun : PageMap → ℕ → ℕ → Type 0
IsFreeRun pages count page = (k : ℕ) → k < count → IsFree pages (page + k)

-- no free run of so many pages begins lower
pub record IsLowestRun (pages : PageMap) (count page : ℕ) : Type 0 where
  pub free : IsFreeRun pages count page
  pub lowest : (other : ℕ) → IsFreeRun pages count other → page ≤ other

-- the page lies in the run of `count` pages from `first` on
abbrev pub IsInRun : ℕ → ℕ → ℕ → Type 0
IsInRun count first page = (first ≤ page) × (page < first + count)

abbrev pub is_in_run : ℕ → ℕ → ℕ → Bool
is_in_run count first page = nat_le first page && nat_lt page (first + count)

-- the run of `count` pages from `first` on and that of `other_count` pages from `other` on share no page
abbrev pub AreApart : ℕ → ℕ → ℕ → ℕ → Type 0
AreApart count first other_count other = (page : ℕ) → IsInRun count first page → IsInRun other_count other page → ⊥

-- whether so many pages from this one on are free
abbrev pub run_at : PageMap → ℕ → ℕ → Bool
run_at pages count first = list_all (is_free pages) (range_with_len first count)

-- the first page of the run that is given out: the one place that says which run that is
abbrev pub run_given : PageMap → ℕ → Option ℕ
run_given pages count = find (run_at pages count) every_page

-- the pages with those of the run of `count` pages from `first` on free, or not free
abbrev pub with_run : Bool → PageMap → ℕ → ℕ → PageMap
with_run value pages first count =
    record { free = map (λ page. if is_in_run count first page then value else is_free pages page) every_page }

-- the pages after a run was given out, or refused
abbrev pub after_run : PageMap → ℕ → Option ℕ → PageMap
after_run pages count (Some first) = with_run false pages first count
after_run pages count None = pages

-- the pages after a run was freed
abbrev pub with_free : PageMap → ℕ → ℕ → PageMap
with_free pages first count = with_run true pages first count

-- a run of 1 to 16 pages, of those that there are
pub record IsPageRun (run : PageRun) : Type 0 where
  pub some : 1 ≤ run.count
  pub most : run.count ≤ 16
  pub within : run.first + run.count ≤ page_count
