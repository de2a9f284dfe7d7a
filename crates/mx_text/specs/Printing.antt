-- Helpers of the printer: a text goes to a sink piece by piece, and what was not sent yet is the rest.
use Rattle.std.specs.Prelude.{◌≡◌, ℕ, ◌≤◌, List, ◌++◌, length, Option}
use Rattle.mx_io.specs.Bytes.{Appends}

-- a part of the text was sent, and this rest of it was not
pub record IsSent (before after : Option (List ℕ)) (rest text : List ℕ) : Type 0 where
  pub sent : List ℕ
  pub appended : Appends before after sent
  pub whole : sent ++ rest ≡ text

-- the text was cut short: a rest of at least one byte was not sent
pub record IsCutShort (before after : Option (List ℕ)) (text : List ℕ) : Type 0 where
  pub rest : List ℕ
  pub some : 1 ≤ length rest
  pub is_sent : IsSent before after rest text
