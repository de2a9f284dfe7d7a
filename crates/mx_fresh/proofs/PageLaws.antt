-- A list that was made page by page.
use Rattle.std.proofs.Common.{ℕ, ◌≡◌, Bool, map, ap}
use Rattle.std.specs.List.{range_with_len}
use Rattle.mx_pages.specs.Runs.{every_page}

pub all_pages : (n : ℕ) → n ≡ 1024 → range_with_len 0 n ≡ every_page
unfolding every_page
all_pages n is = ap (range_with_len 0) is

pub made_by_page : (f : ℕ → Bool) (n : ℕ) → n ≡ 1024 → map f (range_with_len 0 n) ≡ map f every_page
made_by_page f n is = ap (map f) (all_pages n is)
