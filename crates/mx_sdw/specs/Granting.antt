-- What the judging rule grants, as a table of the access that each operation needs, after Schroeder and Saltzer; by
-- classes there is no reading of what is above, and no writing of what is below.
use Rattle.std.specs.Prelude.{◌≡◌, ℕ, ◌<◌, ◌≤◌, ◌++◌, ◌⊎◌, min, Bool, true, false, List, ◌∷◌, not}
use Rattle.std.specs.List.{list_all}
use Rattle.mx_sdw.specs.declared.descriptors.DescKind.TheVariants.{Segment}
use Rattle.mx_sdw.specs.declared.denials.Denial.{Denial}
use Rattle.mx_sdw.specs.declared.operations.Op.{Op}
use Rattle.mx_sdw.specs.declared.operations.Op.TheVariants.{Read, Indirect, Write, Fetch, Call, Return}
use Rattle.mx_sdw.specs.Denials.{judging_order}
use Rattle.mx_sdw.specs.Descriptors.{Descriptor, is_equal, is_neither}
use Rattle.mx_sdw.specs.Judging.{applies}

-- readable, of a class that is dominated, and from no ring above the second bracket
pub record CanRead (d : Descriptor) (ring : ℕ) : Type 0 where
  pub dominated : is_neither d.aim ≡ false
  pub flag : d.r ≡ true
  pub within : ring ≤ d.brackets.r2

-- writable, of the authorization's own class, and from no ring above the first bracket
pub record CanWrite (d : Descriptor) (ring : ℕ) : Type 0 where
  pub equal : is_equal d.aim ≡ true
  pub flag : d.w ≡ true
  pub within : ring ≤ d.brackets.r1

-- executable, of a class that is dominated, and from a ring of the first two brackets
pub record CanExecute (d : Descriptor) (ring : ℕ) : Type 0 where
  pub dominated : is_neither d.aim ≡ false
  pub flag : d.e ≡ true
  pub above : d.brackets.r1 ≤ ring
  pub within : ring ≤ d.brackets.r2

-- from the first bracket on: at a gate word, or from a ring that executes the segment already
pub record CanEnter (d : Descriptor) (ring word current : ℕ) (same : Bool) : Type 0 where
  pub above : d.brackets.r1 ≤ ring
  pub entry : (word < d.gate) ⊎ ((ring ≤ d.brackets.r2) × (same ≡ true))
  pub no_higher : min ring d.brackets.r2 ≤ current

-- from below the first bracket: at a gate word, where such calls are on
pub record CanGoUp (d : Descriptor) (ring word : ℕ) (upward : Bool) : Type 0 where
  pub below : ring < d.brackets.r1
  pub on : upward ≡ true
  pub gate : word < d.gate

-- executable, of a class that is dominated, from no ring above the third bracket, and entered in one of the two ways
pub record CanCall (d : Descriptor) (ring word current : ℕ) (same upward : Bool) : Type 0 where
  pub dominated : is_neither d.aim ≡ false
  pub flag : d.e ≡ true
  pub within : ring ≤ d.brackets.r3
  pub way : CanEnter d ring word current same ⊎ CanGoUp d ring word upward

-- the access that each operation needs
abbrev pub Allows : Descriptor → Op → ℕ → ℕ → Type 0
Allows d Read ring word = CanRead d ring
Allows d Indirect ring word = CanRead d ring
Allows d Write ring word = CanWrite d ring
Allows d Fetch ring word = CanExecute d ring
Allows d (Call current same upward) ring word = CanCall d ring word current same upward
Allows d Return ring word = CanExecute d ring

-- a word of a segment that stands, with the access that the operation needs
pub record IsGranted (d : Descriptor) (op : Op) (ring word : ℕ) : Type 0 where
  pub kind : d.kind ≡ Segment
  pub bound : word < d.bound
  pub access : Allows d op ring word

-- the denial's condition holds, and that of no denial before it in the order
pub record IsFirst (denial : Denial) (d : Descriptor) (op : Op) (ring word : ℕ) : Type 0 where
  pub earlier : List Denial
  pub later : List Denial
  pub place : judging_order ≡ earlier ++ denial ∷ later
  pub holds : applies denial d op ring word ≡ true
  pub first : list_all (λ other. not (applies other d op ring word)) earlier ≡ true
