-- What the supervisor keeps of each pair of a process and a segment number: the present descriptor, and by which entry
-- its word is a fault, where it is one.
use Rattle.std.specs.Prelude.{◌≡◌, ℕ, ◌+◌, ◌*◌, ◌-◌, ◌<◌, ◌≤◌, Bool, true, false, List, length, Option, Some, None, slice_get}
use Rattle.mx_core.specs.declared.changes.Change.{Change}
use Rattle.mx_core.specs.declared.words.DescriptorWord.{DescriptorWord}
use Rattle.mx_core.specs.declared.words.DescriptorWord.TheVariants.{Valid, Fault}
use Rattle.mx_rule.specs.declared.layout.Layout.{Layout}
use Rattle.mx_sdw.specs.Admissible.{IsAdmissible}
use Rattle.mx_sdw.specs.Descriptors.{Descriptor}
use Rattle.mx_desc.specs.declared.slots.Slot.{Slot}

-- the entry by which a descriptor word is a fault
abbrev pub fault_in : DescriptorWord → Option ℕ
fault_in (Fault number) = Some number
fault_in (Valid number desc) = None

abbrev pub is_fault : DescriptorWord → Bool
is_fault (Fault number) = true
is_fault (Valid number desc) = false

-- a pair that the layout has
pub record IsPair (y : Layout) (p n : ℕ) : Type 0 where
  pub low : 1 ≤ p
  pub high : p ≤ y.processes
  pub number : n < y.numbers

-- the slots of process 1 come first, by number, and then those of the next
abbrev pub slot_number : Layout → ℕ → ℕ → ℕ
slot_number y p n = y.numbers * (p - 1) + n

-- the slot keeps this descriptor, which a word can say, and this fault
pub record IsSlot (desc : Descriptor) (fault : Option ℕ) (s : Slot) : Type 0 where
  pub present : s.desc ≡ desc
  pub broken : s.fault ≡ fault
  pub admissible : IsAdmissible s.desc
  pub fits : (number : ℕ) → s.fault ≡ Some number → number ≤ 262143

-- each slot keeps what its pair has
pub record ShowsSlots (y : Layout) (table : ℕ → ℕ → Descriptor) (fault : ℕ → ℕ → Option ℕ)
    (slots : List Slot) : Type 0 where
  pub count : length slots ≡ y.numbers * y.processes
  pub each : (p n : ℕ) (s : Slot) → IsPair y p n → slice_get slots (slot_number y p n) ≡ Some s
      → IsSlot (table p n) (fault p n) s

-- changes of pairs that the layout has, by descriptors that words can say
abbrev pub AreSlotted : Layout → List Change → Type 0
AreSlotted y changes = (i : ℕ) (c : Change) → slice_get changes i ≡ Some c
    → IsPair y c.process c.segno × IsAdmissible c.desc
