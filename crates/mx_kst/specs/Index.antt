-- Helpers that only private contracts cite: a table by uid that knows the number of each segment.
use Rattle.std.specs.Prelude.{◌≡◌, ◌↔◌, ℕ, List, Option, Some}
use Rattle.mx_kst.specs.declared.lots.Lot.{Lot}
use Rattle.mx_kst.specs.declared.lots.Lot.TheVariants.{Branch}
use Rattle.mx_kst.specs.Lots.{lot_of}

-- what a look-up by uid gives is the number that stands for the segment
abbrev pub Indexes : (ℕ → Option ℕ) → List Lot → Type 0
Indexes by_uid lots = (uid n : ℕ) → (by_uid uid ≡ Some n) ↔ (lot_of lots n ≡ Branch uid)
