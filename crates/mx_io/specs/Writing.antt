-- What one write answers.
use Rattle.std.specs.Prelude.{ℕ, ◌≤◌, List, [], take}
use Rattle.mx_io.specs.declared.sink.Put.{Put}
use Rattle.mx_io.specs.declared.sink.Put.TheVariants.{Bytes, Fault}

-- a count of bytes is at least one, and at most those that were offered
abbrev pub IsWithinOffer : ℕ → Put → Type 0
IsWithinOffer offered (Bytes count) = (1 ≤ count) × (count ≤ offered)
IsWithinOffer offered Fault = Unit {0}

-- the bytes that it took, from the front of those offered; none at a fault
abbrev pub taken : Put → List ℕ → List ℕ
taken (Bytes count) bytes = take count bytes
taken Fault bytes = []
