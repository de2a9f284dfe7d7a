-- The registers and return gates at the start of a process: the registers are those of every process, and of the
-- initializer in ring 0; no gate stands.
use Rattle.std.specs.Prelude.{ℕ, zero, suc}
use Rattle.mx_call.specs.Loading as start
use Rattle.mx_call.specs.Registers.{Registers}
use Rattle.mx_upcall.specs.Control.{Control}
use Rattle.mx_upcall.specs.Gates.{no_gates}
use Rattle.mx_request.specs.Versions.{most_gates}
use Rattle.mx_script.specs.Sessions.{Outline}

abbrev pub opening_registers : ℕ → Registers
opening_registers zero = start.opening_in 0
opening_registers (suc p) = start.opening_registers

abbrev pub opening_control : Outline → ℕ → Control
opening_control session p =
    record { registers = opening_registers p; gates = no_gates (most_gates session.version) }
