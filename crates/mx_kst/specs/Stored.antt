-- Helpers that only private contracts cite: names are stored with the numbers that they got, and stay stored after the
-- numbers' segments are gone. As no number is given twice, such a name never stands again.
use Rattle.std.specs.Prelude.{◌≡◌, ◌<◌, List, length, map, filter}
use Rattle.std.specs.List.{All}
use Rattle.mx_kst.specs.declared.lots.Lot.{Lot}
use Rattle.mx_kst.specs.Lots.{lot_of, is_branch}
use Rattle.mx_kst.specs.Names.{RingNames}

-- the names that stand, of those stored for a ring: those with the number of a segment
abbrev pub standing : List Lot → RingNames → RingNames
standing lots stored = filter (λ entry. is_branch (lot_of lots entry.1)) stored

-- each number stored for a ring has been given
abbrev pub AreGiven : List Lot → RingNames → Type 0
AreGiven lots stored = All (λ entry. entry.1 < length lots) stored

-- what is stored for a ring holds the names of it
pub record Holds (lots : List Lot) (stored names : RingNames) : Type 0 where
  pub standing : standing lots stored ≡ names
  pub given : AreGiven lots stored

-- and the same of all rings
pub record HoldAll (lots : List Lot) (stored names : List RingNames) : Type 0 where
  pub standing : map (standing lots) stored ≡ names
  pub given : All (AreGiven lots) stored
