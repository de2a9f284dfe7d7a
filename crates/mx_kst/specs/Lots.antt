-- What the segment numbers of a process stand for: a list, by number.
use Rattle.std.specs.Prelude.{ℕ, ◌+◌, ◌-◌, ◌==◌, Bool, true, false, List, map, length, position, Option, slice_index_or}
use Rattle.std.specs.List.{range_with_len}
use Rattle.mx_kst.specs.declared.lots.Lot.{Lot}
use Rattle.mx_kst.specs.declared.lots.Lot.TheVariants.{Free, Stack, Branch, Linkage}

-- numbers 0 to 7 are the stacks of rings 0 to 7
abbrev pub stacks : List Lot
stacks = map Stack (range_with_len 0 8)

-- what a number stands for; one that is not given yet is free
abbrev pub lot_of : List Lot → ℕ → Lot
lot_of lots segno = slice_index_or lots segno Free

-- how many numbers, up to the last, are not given yet
abbrev pub numbers_left : ℕ → List Lot → ℕ
numbers_left last lots = last + 1 - length lots

-- a segment of the hierarchy
abbrev pub is_branch : Lot → Bool
is_branch (Branch uid) = true
is_branch Free = false
is_branch (Stack ring) = false
is_branch (Linkage of page brackets words) = false

-- the segment with this uid
abbrev pub is_segment : ℕ → Lot → Bool
is_segment uid (Branch other) = other == uid
is_segment uid Free = false
is_segment uid (Stack ring) = false
is_segment uid (Linkage of page brackets words) = false

-- the number of a segment
abbrev pub number_of : List Lot → ℕ → Option ℕ
number_of lots uid = position (is_segment uid) lots

-- the linkage section of the segment with this number
abbrev pub is_section_of : ℕ → Lot → Bool
is_section_of segno (Linkage of page brackets words) = of == segno
is_section_of segno Free = false
is_section_of segno (Stack ring) = false
is_section_of segno (Branch uid) = false
