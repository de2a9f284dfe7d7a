-- What passes from line to line of a process: its registers and its return gates. And what calls and returns make of both,
-- after Schroeder and Saltzer. The target is the effective pointer.
use Rattle.std.specs.Prelude.{nat_eq, nat_lt, if◌then◌else◌, Option, Some, None}
use Rattle.mx_sdw.specs.Descriptors.{Descriptor}
use Rattle.mx_sdw.specs.declared.operations.Op.{Op}
use Rattle.mx_sdw.specs.declared.operations.Op.TheVariants.{Call}
use Rattle.mx_ptr.specs.Pointers.{PointerParts}
use Rattle.mx_call.specs.Registers.{Registers}
use Rattle.mx_call.specs.Transfers.{called, returned}
use Rattle.mx_upcall.specs.Gates.{ReturnGate, ReturnGates, no_gates, has_room, pushed, popped, usable}
use Rattle.mx_upcall.specs.Upcalls.{gate_left, upcalled, downreturned}

pub record Control : Type 0 where
  pub registers : Registers
  pub gates : ReturnGates

-- these registers, where upward calls are off
abbrev pub ungated : Registers → Control
ungated registers = record { registers = registers; gates = no_gates 0 }

-- the same gates with other registers
abbrev pub with_registers : Control → Registers → Control
with_registers control registers = record control { registers = registers }

-- a call of a target: it may go upward where one more return gate may stand
abbrev pub calling : Control → PointerParts → Op
calling control target = Call control.registers.ring (nat_eq target.segno control.registers.procedure.segno) (has_room control.gates)

-- after a granted call: from below the first bracket it goes upward and leaves a gate
abbrev pub after_call : Control → PointerParts → Descriptor → Control
after_call control target descriptor =
    if nat_lt target.ring descriptor.brackets.r1
    then record { registers = upcalled control.registers target descriptor; gates = pushed control.gates (gate_left control.registers descriptor) }
    else with_registers control (called control.registers target descriptor)

-- the gate through which a return to a target goes, if it goes through one
abbrev pub way_down : Control → PointerParts → Option ReturnGate
way_down control target = usable control.gates control.registers.ring target

-- where a return is asked: through a gate in the gate's lower ring
abbrev pub returning_through : Option ReturnGate → PointerParts → PointerParts
returning_through None target = target
returning_through (Some gate) target = record target { ring = gate.lower }

abbrev pub returning : Control → PointerParts → PointerParts
returning control target = returning_through (way_down control target) target

-- after a granted return: one through a gate takes the gate away
abbrev pub after_return_through : Option ReturnGate → Control → PointerParts → Control
after_return_through None control target = with_registers control (returned control.registers target)
after_return_through (Some gate) control target =
    record { registers = downreturned control.registers gate; gates = popped control.gates }

abbrev pub after_return : Control → PointerParts → Control
after_return control target = after_return_through (way_down control target) control target
