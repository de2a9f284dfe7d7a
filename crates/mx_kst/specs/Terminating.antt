-- A segment is no longer known: its number, its names in all rings and its linkage section are taken away.
use Rattle.std.specs.Prelude.{◌≡◌, ℕ, ◌==◌, not, ◌||◌, length, List, map, filter, Option, None, Some, if◌then◌else◌, slice_set}
use Rattle.mx_kst.specs.declared.lots.Lot.{Lot}
use Rattle.mx_kst.specs.declared.lots.Lot.TheVariants.{Free}
use Rattle.mx_kst.specs.Lots.{lot_of, is_branch, is_section_of}
use Rattle.mx_kst.specs.Names.{RingNames, named}
use Rattle.mx_kst.specs.KnownSegments.{KnownSegments}

-- a lot that is the number's linkage section becomes free
abbrev pub lot_without : ℕ → Lot → Lot
lot_without segno lot = if is_section_of segno lot then Free else lot

-- the lots without a number and its linkage section
abbrev pub lots_without : ℕ → List Lot → List Lot
lots_without segno lots = map (lot_without segno) (slice_set lots segno Free)

-- the names of a ring without those of a number
abbrev pub names_without : ℕ → RingNames → RingNames
names_without segno names = filter (λ entry. not (entry.1 == segno)) names

abbrev pub terminate : KnownSegments → ℕ → Option KnownSegments
terminate k segno =
    if is_branch (lot_of k.lots segno)
    then Some (record k { lots = lots_without segno k.lots; names = map (names_without segno) k.names })
    else None

-- the number that a name stands for, unless it is this one
abbrev pub other_than : ℕ → Option ℕ → Option ℕ
other_than segno None = None
other_than segno (Some number) = if number == segno then None else Some number

-- what is left of it in words of the numbers and names alone; all numbers given stay given, and the last number stays
pub record IsTerminated (before : KnownSegments) (segno : ℕ) (after : KnownSegments) : Type 0 where
  pub lots : (number : ℕ) → lot_of after.lots number
      ≡ (if number == segno || is_section_of segno (lot_of before.lots number) then Free else lot_of before.lots number)
  pub names : (ring : ℕ) (name : List ℕ) → named after.names ring name ≡ other_than segno (named before.names ring name)
  pub given : length after.lots ≡ length before.lots
  pub last : after.last ≡ before.last
