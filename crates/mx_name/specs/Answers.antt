-- What a text says or a pathname means is a value or its first fault; and what a call answers to it.
use Rattle.std.specs.Prelude.{◌≡◌, Option, None, Some, Result, Ok, Err, IsOk, ◌⊎◌}

-- the fault, if there is one, else the value
abbrev pub unless : {A E : Type 0} → Option E → A → Result A E
unless None value = Ok value
unless (Some fault) value = Err fault

-- the same of what was read so far
abbrev pub judged : {A E : Type 0} → (A → Option E) → Result A E → Result A E
judged fault (Err error) = Err error
judged fault (Ok value) = unless (fault value) value

-- an answer is what was meant, except that the want of memory may stand in place of a value
abbrev pub Answers : {A E : Type 0} → E → Result A E → Result A E → Type 0
Answers memory meant result = (result ≡ meant) ⊎ ((result ≡ Err memory) × IsOk meant)
