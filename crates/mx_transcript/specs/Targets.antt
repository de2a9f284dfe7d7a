-- What each memory line does at its target, the effective pointer: the reference that it makes there, and what the
-- grant makes of the registers and return gates. One row a line.
use Rattle.std.specs.Prelude.{false, Option, Some, None, slice_get}
use Rattle.mx_sdw.specs.Descriptors.{Descriptor}
use Rattle.mx_sdw.specs.declared.operations.Op.TheVariants as op
use Rattle.mx_ptr.specs.Pointers.{PointerParts, pointer_word}
use Rattle.mx_call.specs.Loading.{loaded}
use Rattle.mx_call.specs.Registers.{Registers}
use Rattle.mx_upcall.specs.Control.{Control, with_registers, calling, after_call, returning, after_return}
use Rattle.mx_core.specs.declared.elements.Outcome.{Outcome}
use Rattle.mx_core.specs.declared.elements.Outcome.TheVariants as outcome
use Rattle.mx_script.specs.declared.lines.Line.{Line}
use Rattle.mx_script.specs.declared.lines.Line.TheVariants.{Ask, Set, Epp, Lda, Sta, Spri, Fetch, Call, Return}
use Rattle.mx_transcript.specs.declared.transcripts.Result2.{Result2}
use Rattle.mx_transcript.specs.declared.transcripts.Result2.TheVariants as result
use Rattle.mx_transcript.specs.Next.{Next, Asks, Ends, Nowhere, at_place, storing}

-- a pointer register is stored without further indirection
abbrev pub spri_at : PointerParts → Option PointerParts → Next
spri_at target None = Nowhere
spri_at target (Some p) = Asks (storing (pointer_word (record p { further = false })) target)

-- the line ends so, with these registers
abbrev pub keeping_gates : Control → Result2 → Registers → Next
keeping_gates control ends registers = Ends ends (with_registers control registers)

abbrev pub at_target : Control → Line → PointerParts → Next
at_target control (Epp number operand) target = keeping_gates control (result.Pr number target) (loaded control.registers number target)
at_target control (Lda operand) target = Asks (at_place op.Read target)
at_target control (Sta operand) target = Asks (storing control.registers.a target)
at_target control (Spri number operand) target = spri_at target (slice_get control.registers.pr number)
at_target control Fetch target = Asks (at_place op.Fetch target)
at_target control (Call operand) target = Asks (at_place (calling control target) target)
at_target control (Return operand) target = Asks (at_place op.Return (returning control target))
at_target control (Ask request) target = Nowhere
at_target control (Set word) target = Nowhere

-- the process goes on so
abbrev pub moved : Control → Next
moved after = Ends (result.Moved after.registers.ring after.registers.procedure) after

-- a denial leaves the registers and the gates as they were
abbrev pub after_target : Control → Line → PointerParts → Descriptor → Outcome → Next
after_target control line target descriptor (outcome.Denied denial) = Ends (result.Denied denial) control
after_target control (Lda operand) target descriptor (outcome.Read value writer stamp) =
    keeping_gates control (result.A value) (record control.registers { a = value })
after_target control (Sta operand) target descriptor (outcome.Written value) = Ends result.Done control
after_target control (Spri number operand) target descriptor (outcome.Written value) = Ends result.Done control
after_target control Fetch target descriptor (outcome.Read value writer stamp) = Ends result.Done control
after_target control (Call operand) target descriptor (outcome.Entered ring) = moved (after_call control target descriptor)
after_target control (Return operand) target descriptor (outcome.Entered ring) = moved (after_return control target)
after_target _ _ _ _ _ = Nowhere
