-- Rings of protection and the brackets of a segment, after Schroeder and Saltzer.
use Rattle.std.specs.Prelude.{ℕ, ◌≤◌, nat_le, ◌&&◌, Option, Some, None, if◌then◌else◌}

-- the ring of a number: there are rings 0 to 7
abbrev pub ring_of : ℕ → Option ℕ
ring_of number = if nat_le number 7 then Some number else None

-- the three brackets of a segment
pub record Bracketing : Type 0 where
  pub r1 : ℕ
  pub r2 : ℕ
  pub r3 : ℕ

-- the order that the brackets of a segment keep
pub record IsOrdered (first second third : ℕ) : Type 0 where
  pub write_first : first ≤ second
  pub gate_last : second ≤ third

-- three rings as brackets, where they are in order
abbrev pub brackets_of : ℕ → ℕ → ℕ → Option Bracketing
brackets_of r1 r2 r3 = if nat_le r1 r2 && nat_le r2 r3 then Some (record { r1 = r1; r2 = r2; r3 = r3 }) else None

abbrev pub lowest_brackets : Bracketing
lowest_brackets = record { r1 = 0; r2 = 0; r3 = 0 }
