-- Helpers that only private contracts cite: bytes cut behind their first line `end`.
use Rattle.std.specs.Prelude.{◌≡◌, ℕ, ◌+◌, ◌≤◌, true, ◌⊎◌, List, [], ◌++◌, length, None, codes}
use Rattle.std.specs.List.{list_all}
use Rattle.mx_both.specs.Ends.{is_other}
use Rattle.mx_name.specs.Cuts.{cut_at}
use Rattle.mx_script.specs.SessionTexts.{lines_text}

-- the bytes are so many lines other than `end`, and this rest
pub record HasPassed (spelled rest : List ℕ) (number : ℕ) : Type 0 where
  pub lines : List (List ℕ)
  pub others : list_all is_other lines ≡ true
  pub parts : spelled ≡ lines_text lines ++ rest
  pub count : number ≡ length lines

-- the bytes are so many lines, the last of which alone is `end`
pub record IsEnded (spelled : List ℕ) (number : ℕ) : Type 0 where
  pub earlier : ℕ
  pub passed : HasPassed spelled (codes "end\n") earlier
  pub count : number ≡ earlier + 1

-- none of the bytes' lines is `end`
pub record HasNoEnd (spelled : List ℕ) (number : ℕ) : Type 0 where
  pub last : List ℕ
  pub passed : HasPassed spelled last number
  pub none : cut_at 10 last ≡ None

-- the bytes to the end of their first line `end`, which are so many lines, and the rest; or all of them where there is none
pub record IsCut (spelled front rest : List ℕ) (number : ℕ) : Type 0 where
  pub parts : spelled ≡ front ++ rest
  pub ends : IsEnded front number ⊎ (HasNoEnd front number × (rest ≡ []))
  pub few : number ≤ length front
