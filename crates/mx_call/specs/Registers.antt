-- The registers of a process.
use Rattle.std.specs.Prelude.{◌≡◌, ℕ, ◌≤◌, max, false, List, length}
use Rattle.std.specs.List.{All}
use Rattle.mx_ptr.specs.Pointers.{PointerParts, IsPackable}

-- the current ring, the procedure pointer, the pointer registers, and the accumulator
pub record Registers : Type 0 where
  pub ring : ℕ
  pub procedure : PointerParts
  pub pr : List PointerParts
  pub a : ℕ

-- what is true of a process's registers at every moment: there are eight pointer registers, none has a ring below the
-- current one, and neither they nor the procedure pointer ask for further indirection
pub record IsSound (registers : Registers) : Type 0 where
  pub eight : length registers.pr ≡ 8
  pub above : All (λ p. registers.ring ≤ p.ring) registers.pr
  pub plain : All (λ p. p.further ≡ false) registers.pr
  pub procedure : registers.procedure.further ≡ false

-- every pointer in the registers has a word, also with the current ring in it: so each can be stored
pub record ArePackable (registers : Registers) : Type 0 where
  pub ring : registers.ring ≤ 7
  pub procedure : IsPackable registers.procedure
  pub pr : All IsPackable registers.pr

-- the procedure pointer of a process that goes on at a target, in a ring
abbrev pub going_on : PointerParts → ℕ → PointerParts
going_on target ring = record { ring = ring; segno = target.segno; word = target.word; further = false }

-- word 0 of the stack of a ring, whose segment number is the ring
abbrev pub stack_base : ℕ → PointerParts
stack_base ring = record { ring = ring; segno = ring; word = 0; further = false }

-- the pointer to where a process runs, with the ring in which it runs
abbrev pub way_back : Registers → PointerParts
way_back registers = record registers.procedure { ring = registers.ring }

-- a pointer with its ring raised to at least this one
abbrev pub raised_to : ℕ → PointerParts → PointerParts
raised_to ring p = record p { ring = max ring p.ring }
