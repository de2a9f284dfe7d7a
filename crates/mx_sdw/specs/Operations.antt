-- The operations, by what they do with a word.
use Rattle.std.specs.Prelude.{ℕ, nat_lt, Bool, true, false, ◌||◌}
use Rattle.mx_sdw.specs.declared.operations.Op.{Op}
use Rattle.mx_sdw.specs.declared.operations.Op.TheVariants.{Read, Indirect, Write, Fetch, Call, Return}

abbrev pub reads : Op → Bool
reads Read = true
reads Indirect = true
reads _ = false

abbrev pub writes : Op → Bool
writes Write = true
writes _ = false

abbrev pub fetches : Op → Bool
fetches Fetch = true
fetches _ = false

abbrev pub calls : Op → Bool
calls (Call current same upward) = true
calls _ = false

abbrev pub returns_to : Op → Bool
returns_to Return = true
returns_to _ = false

-- the operations after which the process goes on in another place
abbrev pub transfers : Op → Bool
transfers op = calls op || returns_to op

-- the operations that take the word as an instruction
abbrev pub executes : Op → Bool
executes op = fetches op || transfers op

-- a call whose target segment is the one that runs
abbrev pub is_within : Op → Bool
is_within (Call current same upward) = same
is_within _ = false

-- a call that may go up to a ring of less privilege
abbrev pub is_upward : Op → Bool
is_upward (Call current same upward) = upward
is_upward _ = false

-- a call from a ring below this one
abbrev pub raises_to : Op → ℕ → Bool
raises_to (Call current same upward) ring = nat_lt current ring
raises_to _ ring = false
