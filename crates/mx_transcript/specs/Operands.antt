-- Where the address of a memory line begins, and the walk from there.
use Rattle.std.specs.Prelude.{ℕ, ◌+◌, ◌%◌, Bool, false, [], Option, Some, None, slice_get}
use Rattle.std.specs.Option.{option_map}
use Rattle.mx_ptr.specs.Pointers.{PointerParts}
use Rattle.mx_effring.specs.Chains as chains
use Rattle.mx_call.specs.Registers.{Registers, way_back}
use Rattle.mx_script.specs.declared.lines.Base.{Base}
use Rattle.mx_script.specs.declared.lines.Base.TheVariants.{Segment, Register}
use Rattle.mx_script.specs.declared.lines.Line.{Line}
use Rattle.mx_script.specs.declared.lines.Line.TheVariants.{Ask, Set, Epp, Lda, Sta, Spri, Fetch, Call, Return}
use Rattle.mx_script.specs.declared.lines.Operand.{Operand}

-- a walk that begins at a pointer, in the current ring, and has read no word yet
abbrev pub walk_from : Registers → Bool → PointerParts → chains.Operand
walk_from registers indirect base = record { current = registers.ring; base = base; indirect = indirect; chain = [] }

-- so many words beyond where a pointer points; word numbers go round at 16,384
abbrev pub beyond : ℕ → PointerParts → PointerParts
beyond word p = record p { word = (p.word + word) % 16384 }

-- `S|W` begins at that word, in the current ring; `prN|W` where the register points, in its ring
abbrev pub base_of : Registers → Base → ℕ → Option PointerParts
base_of registers (Segment segno) word = Some (record { ring = registers.ring; segno = segno; word = word; further = false })
base_of registers (Register number) word = option_map (beyond word) (slice_get registers.pr number)

abbrev pub operand_walk : Registers → Operand → Option chains.Operand
operand_walk registers operand = option_map (walk_from registers operand.indirect) (base_of registers operand.base operand.word)

-- a fetch is at the procedure pointer, in the current ring; lines without an address have no walk
abbrev pub walk_of : Registers → Line → Option chains.Operand
walk_of registers (Ask request) = None
walk_of registers (Set word) = None
walk_of registers (Epp number operand) = operand_walk registers operand
walk_of registers (Lda operand) = operand_walk registers operand
walk_of registers (Sta operand) = operand_walk registers operand
walk_of registers (Spri number operand) = operand_walk registers operand
walk_of registers Fetch = Some (walk_from registers false (way_back registers))
walk_of registers (Call operand) = operand_walk registers operand
walk_of registers (Return operand) = operand_walk registers operand
