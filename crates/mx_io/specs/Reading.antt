-- What one read answers.
use Rattle.std.specs.Prelude.{ℕ, ◌≤◌, List, [], take}
use Rattle.mx_io.specs.declared.source.Got.{Got}
use Rattle.mx_io.specs.declared.source.Got.TheVariants.{Bytes, End, Fault}

-- a count of bytes is at least one, and at most the room
abbrev pub IsWithinRoom : ℕ → Got → Type 0
IsWithinRoom room (Bytes count) = (1 ≤ count) × (count ≤ room)
IsWithinRoom room End = Unit {0}
IsWithinRoom room Fault = Unit {0}

-- the bytes that it put at the buffer's front; none at the end and at a fault
abbrev pub given : Got → List ℕ → List ℕ
given (Bytes count) buf = take count buf
given End buf = []
given Fault buf = []
