-- What is true of the return gates of a process at every moment.
use Rattle.std.specs.Prelude.{◌≡◌, ◌<◌, ◌≤◌, false}
use Rattle.std.specs.List.{All}
use Rattle.mx_ptr.specs.Pointers.{IsPackable}
use Rattle.mx_call.specs.Registers.{ArePackable}
use Rattle.mx_upcall.specs.Control.{Control}
use Rattle.mx_upcall.specs.Gates.{ReturnGate, ReturnGates}

-- a gate leads to a lower ring, brings back no pointer of a ring below it, and none that asks for further indirection
pub record IsSoundGate (gate : ReturnGate) : Type 0 where
  pub falls : gate.lower < gate.upper
  pub above : gate.lower ≤ gate.pr0.ring
  pub plain : gate.pr0.further ≡ false
  pub procedure : gate.procedure.further ≡ false

-- what it brings back can be stored
pub record IsPackableGate (gate : ReturnGate) : Type 0 where
  pub ring : gate.lower ≤ 7
  pub procedure : IsPackable gate.procedure
  pub pr0 : IsPackable gate.pr0

abbrev pub AreSoundGates : ReturnGates → Type 0
AreSoundGates g = All IsSoundGate g.gates

abbrev pub ArePackableGates : ReturnGates → Type 0
ArePackableGates g = All IsPackableGate g.gates

-- every pointer that passes from line to line can be stored
pub record IsPackableControl (control : Control) : Type 0 where
  pub registers : ArePackable control.registers
  pub gates : ArePackableGates control.gates
