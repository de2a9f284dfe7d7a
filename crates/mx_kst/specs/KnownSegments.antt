-- What a process knows: its last number, what each number given so far stands for, and its reference names.
-- And what is true of it at every moment.
use Rattle.std.specs.Prelude.{◌≡◌, ℕ, ◌+◌, ◌≤◌, true, List, take, length, Some}
use Rattle.std.specs.List.{IsDistinct}
use Rattle.std.specs.Map.{keys_of}
use Rattle.mx_sdw.specs.Rings.{Bracketing}
use Rattle.mx_kst.specs.declared.lots.Lot.{Lot}
use Rattle.mx_kst.specs.declared.lots.Lot.TheVariants.{Branch, Linkage}
use Rattle.mx_kst.specs.Lots.{stacks, lot_of, is_branch}
use Rattle.mx_name.specs.Names.{same_name}
use Rattle.mx_kst.specs.Sections.{IsWithinPage}
use Rattle.mx_kst.specs.Names.{RingNames, no_names, names_in, named}

pub record KnownSegments : Type 0 where
  pub last : ℕ
  pub lots : List Lot
  pub names : List RingNames

-- at first it knows its stacks
abbrev pub at_first : ℕ → KnownSegments
at_first last = record { last = last; lots = stacks; names = no_names }

pub record IsSound (k : KnownSegments) : Type 0 where
  pub stacks_first : take 8 k.lots ≡ stacks
  -- no number beyond the last is given, and that is 255 at most
  pub within : length k.lots ≤ k.last + 1
  pub most : k.last ≤ 255
  pub rings : length k.names ≡ 8
  -- no segment has two numbers
  pub one_number : (number other uid : ℕ) → lot_of k.lots number ≡ Branch uid → lot_of k.lots other ≡ Branch uid → number ≡ other
  -- no name stands twice in a ring
  pub one_entry : (ring : ℕ) → IsDistinct same_name (keys_of (names_in k.names ring))
  -- each name stands for a segment that is known
  pub names_known : (ring segno : ℕ) (name : List ℕ) → named k.names ring name ≡ Some segno
      → is_branch (lot_of k.lots segno) ≡ true
  -- a linkage section has the number after that of its segment, which is known
  pub section_next : (number of page words : ℕ) (brackets : Bracketing) → lot_of k.lots number ≡ Linkage of page brackets words
      → (number ≡ of + 1) × (is_branch (lot_of k.lots of) ≡ true)
  -- and lies within a page
  pub section_within : (number of page words : ℕ) (brackets : Bracketing) → lot_of k.lots number ≡ Linkage of page brackets words
      → IsWithinPage page words
