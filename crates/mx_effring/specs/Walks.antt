-- Where the walk of an operand has come to, what it asks for there, and which words it refuses.
use Rattle.std.specs.Prelude.{◌≡◌, ℕ, ◌+◌, ◌≤◌, nat_eq, true, false, ◌&&◌, if◌then◌else◌, length, Option, Some, None}
use Rattle.mx_effring.specs.declared.walks.Want.{Want}
use Rattle.mx_effring.specs.declared.walks.Want.TheVariants.{Word, Done}
use Rattle.mx_effring.specs.declared.walks.Stuck.{Stuck}
use Rattle.mx_effring.specs.declared.walks.Stuck.TheVariants.{Link, NotPointer, Limit}
use Rattle.mx_ptr.specs.Pointers.{PointerParts, pointer_in, is_link, IsPackable}
use Rattle.mx_effring.specs.Chains.{Operand, effective_ring, place_of}

-- where a walk has come to: the place, the ring, and how many words it has read
pub record Reached : Type 0 where
  pub place : PointerParts
  pub ring : ℕ
  pub count : ℕ

-- where the chain has led, at the effective ring so far, after so many words
abbrev pub reached : Operand → Reached
reached operand = record { place = place_of operand; ring = effective_ring operand; count = length operand.chain }

-- one of eight rings, and at most eight words, of which an eighth asks for no further one
pub record IsBounded (at : Reached) : Type 0 where
  pub ring : at.ring ≤ 7
  pub short : at.count ≤ 8
  pub ended : at.count ≡ 8 → at.place.further ≡ false

-- the word at the place that a walk has come to, to be read at its ring; or that place itself
abbrev pub wanted_at : Reached → Want
wanted_at at =
    if at.place.further
    then Word at.place.segno at.place.word at.ring
    else Done (record at.place { ring = at.ring; further = false })

-- so the operand asks: at the place that its chain has led to, at the effective ring so far
abbrev pub wanted : Operand → Want
wanted operand = wanted_at (reached operand)

-- the place asked for is one that a pointer word can say
abbrev pub IsPlace : Want → Type 0
IsPlace (Word segno word ring) = (segno ≤ 4095) × (word ≤ 16383)
IsPlace (Done target) = IsPackable target

-- whether it is a word that the walk asks for
abbrev pub IsWanting : Reached → Type 0
IsWanting at = at.place.further ≡ true

-- a pointer is refused as the eighth word, where it asks for a further one
abbrev pub refuses_pointer : Reached → Option PointerParts → Option Stuck
refuses_pointer at None = Some NotPointer
refuses_pointer at (Some p) = if p.further && nat_eq at.count 7 then Some Limit else None

-- why a word is refused, if it is
abbrev pub refuses_at : Reached → ℕ → Option Stuck
refuses_at at word = if is_link word then Some Link else refuses_pointer at (pointer_in word)

abbrev pub refuses : Operand → ℕ → Option Stuck
refuses operand word = refuses_at (reached operand) word

-- one word further: at a place that a pointer word says, and at no lower ring
pub record IsFurther (old new : Reached) : Type 0 where
  pub count : new.count ≡ old.count + 1
  pub rises : old.ring ≤ new.ring
  pub packable : IsPackable new.place
