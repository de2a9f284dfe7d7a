-- Pointer words and link words. The layout is this model's own: twelve octal digits, of which four are the segment
-- number, one the ring, five twice the word number and the bit for further indirection, and two the tag.
use Rattle.std.specs.Prelude.{ℕ, ◌+◌, ◌*◌, ◌/◌, ◌%◌, ◌^◌, ◌≤◌, nat_eq, Bool, if◌then◌else◌, Option, Some, None}

-- a pointer: the ring in it, the segment and the word that it points to, and whether a further indirect word stands
-- there
pub record PointerParts : Type 0 where
  pub ring : ℕ
  pub segno : ℕ
  pub word : ℕ
  pub further : Bool

-- the tag of a pointer word, octal 43
abbrev pub pointer_tag : ℕ
pointer_tag = 4 * 8 + 3

-- the tag of a link word, octal 46
abbrev pub link_tag : ℕ
link_tag = 4 * 8 + 6

-- the last two digits of a word
abbrev pub tag_of : ℕ → ℕ
tag_of word = word % 8 ^ 2

-- five digits: twice the word number, and the further bit
abbrev pub place_of : ℕ → Bool → ℕ
place_of word further = 2 * word + (if further then 1 else 0)

-- a segment number of four digits, a ring of one, a place of five, and a tag of two
abbrev pub tagged : ℕ → ℕ → ℕ → ℕ → ℕ
tagged segno ring place tag = segno * 8 ^ 8 + ring * 8 ^ 7 + place * 8 ^ 2 + tag

-- the word of a pointer
abbrev pub pointer_word : PointerParts → ℕ
pointer_word p = tagged p.segno p.ring (place_of p.word p.further) pointer_tag

-- what the digits of a word say of a pointer
abbrev pub parts_of : ℕ → PointerParts
parts_of word =
    let place : ℕ = word / 8 ^ 2 % 8 ^ 5 in
    record { ring = word / 8 ^ 7 % 8; segno = word / 8 ^ 8; word = place / 2; further = nat_eq (place % 2) 1 }

-- the pointer in a word, which has one exactly where its tag is a pointer's
abbrev pub pointer_in : ℕ → Option PointerParts
pointer_in word = if nat_eq (tag_of word) pointer_tag then Some (parts_of word) else None

-- a pointer that has a word: its ring is one of eight, its segment number has four octal digits, and its word number is
-- below 2 ^ 14
pub record IsPackable (p : PointerParts) : Type 0 where
  pub ring : p.ring ≤ 7
  pub segno : p.segno ≤ 4095
  pub word : p.word ≤ 16383

-- the word of the link of a number
abbrev pub link_word : ℕ → ℕ
link_word index = tagged 0 0 (2 * index) link_tag

-- whether a word is a link word
abbrev pub is_link : ℕ → Bool
is_link word = nat_eq (tag_of word) link_tag
