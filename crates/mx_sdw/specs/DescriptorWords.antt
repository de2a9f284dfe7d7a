-- Descriptor words, of 64 bits: what a table says of a segment number, in one word of the memory that threads share.
-- The layout is this model's own.
use Rattle.std.specs.Prelude.{◌≡◌, ℕ, ◌+◌, ◌-◌, ◌*◌, ◌^◌, ◌≤◌, nat_eq, Bool, not, ◌&&◌, ◌||◌, if◌then◌else◌}
use Rattle.mx_sdw.specs.declared.descriptor_words.DescView.{DescView}
use Rattle.mx_sdw.specs.declared.descriptor_words.DescView.TheVariants.{Fault, Set, Unknown, Gone}
use Rattle.mx_sdw.specs.declared.descriptors.Aim.{Aim}
use Rattle.mx_sdw.specs.declared.descriptors.Aim.TheVariants.{Equal, Dominates, Neither}
use Rattle.mx_sdw.specs.declared.descriptors.DescKind.TheVariants.{Segment}
use Rattle.mx_sdw.specs.Admissible.{IsInRange}
use Rattle.mx_sdw.specs.Bits.{bits, flag_bit, has_bit}
use Rattle.mx_sdw.specs.Descriptors.{Descriptor, is_equal, is_neither}
use Rattle.mx_sdw.specs.Rings.{Bracketing}

-- bits 61 to 18: three brackets, flags r, e and w, number of gates, page, whether the authorization is other than the
-- class, and the bound less one. An authorization that does not even dominate the class is written by flag w, which such a
-- segment has not
abbrev pub segment_bits : Descriptor → ℕ
segment_bits d =
    d.brackets.r1 * 2 ^ 59 + d.brackets.r2 * 2 ^ 56 + d.brackets.r3 * 2 ^ 53
    + flag_bit d.r * 2 ^ 52 + flag_bit d.e * 2 ^ 51 + flag_bit (d.w || is_neither d.aim) * 2 ^ 50
    + d.gate * 2 ^ 39 + d.page * 2 ^ 29 + flag_bit (not (is_equal d.aim)) * 2 ^ 28 + (d.bound - 1) * 2 ^ 18

-- bits 63 and 62 are the kind, bits 17 to 0 the number of a journal entry, all others zero but for a segment
abbrev pub desc_word : DescView → ℕ
desc_word (Unknown number) = number
desc_word (Fault number) = 1 * 2 ^ 62 + number
desc_word (Set number d) = 2 * 2 ^ 62 + segment_bits d + number
desc_word (Gone number) = 3 * 2 ^ 62 + number

-- how the authorization stands to the class, by bits 28 and 50
abbrev pub aim_in : ℕ → Aim
aim_in n = if has_bit n 28 then (if has_bit n 50 then Neither else Dominates) else Equal

-- the segment's descriptor in the fields of a word
abbrev pub desc_in : ℕ → Descriptor
desc_in n =
    let brackets : Bracketing = record { r1 = bits n 59 3; r2 = bits n 56 3; r3 = bits n 53 3 } in
    record {
      kind = Segment;
      brackets = brackets;
      r = has_bit n 52;
      e = has_bit n 51;
      w = has_bit n 50 && not (has_bit n 28);
      gate = bits n 39 11;
      page = bits n 29 10;
      bound = bits n 18 10 + 1;
      aim = aim_in n;
    }

-- what a word says
abbrev pub desc_view : ℕ → DescView
desc_view n =
    let kind : ℕ = bits n 62 2 in
    let number : ℕ = bits n 0 18 in
    if nat_eq kind 0 then Unknown number
    else if nat_eq kind 1 then Fault number
    else if nat_eq kind 2 then Set number (desc_in n)
    else Gone number

-- what can be said by a word: a number of an entry below 2 ^ 18, and a segment in range
abbrev pub FitsWord : DescView → Type 0
FitsWord (Unknown number) = number ≤ 262143
FitsWord (Fault number) = number ≤ 262143
FitsWord (Set number d) = (number ≤ 262143) × (d.kind ≡ Segment) × IsInRange d
FitsWord (Gone number) = number ≤ 262143

-- a word of the layout: the word of what it says, which fits
pub record IsDescWord (n : ℕ) : Type 0 where
  pub fits : FitsWord (desc_view n)
  pub spelled : desc_word (desc_view n) ≡ n
