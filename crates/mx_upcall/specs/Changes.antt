-- Helpers: what a line makes of the registers and return gates of a process, by the new registers and by what it does with
-- the gates, which stay where they are.
use Rattle.std.specs.Prelude.{◌≡◌, true}
use Rattle.mx_call.specs.Registers.{Registers}
use Rattle.mx_upcall.specs.Gates.{ReturnGates, has_room, pushed, popped}
use Rattle.mx_upcall.specs.Control.{Control}
use Rattle.mx_upcall.specs.declared.controls.Change.{Change}
use Rattle.mx_upcall.specs.declared.controls.GateStep.{GateStep}
use Rattle.mx_upcall.specs.declared.controls.GateStep.TheVariants.{Kept, Left, Used}

-- the gates after it
abbrev pub stepped : ReturnGates → GateStep → ReturnGates
stepped gates Kept = gates
stepped gates (Left gate) = pushed gates gate
stepped gates Used = popped gates

-- a gate is left only where one more may stand
abbrev pub Fits : ReturnGates → GateStep → Type 0
Fits gates Kept = Unit {0}
Fits gates (Left gate) = has_room gates ≡ true
Fits gates Used = Unit {0}

-- these registers, and the gates as they are
abbrev pub keeping : Registers → Change
keeping registers = record { registers = registers; gates = Kept }

-- the registers and gates after it
abbrev pub changed : Control → Change → Control
changed control change = record { registers = change.registers; gates = stepped control.gates change.gates }
