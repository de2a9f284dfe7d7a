-- The registers with which a process starts, and how a pointer register is loaded.
use Rattle.std.specs.Prelude.{ℕ, replicate, slice_set}
use Rattle.mx_ptr.specs.Pointers.{PointerParts}
use Rattle.mx_call.specs.Registers.{Registers, stack_base}

-- in a ring, with each pointer at word 0 of that ring's stack
abbrev pub opening_in : ℕ → Registers
opening_in ring = record { ring = ring; procedure = stack_base ring; pr = replicate 8 (stack_base ring); a = 0 }

-- every process starts in ring 4: this model's own choice
abbrev pub opening_registers : Registers
opening_registers = opening_in 4

-- the pointer register of this number is loaded with the effective pointer of an operand
abbrev pub loaded : Registers → ℕ → PointerParts → Registers
loaded registers number target = record registers { pr = slice_set registers.pr number target }
