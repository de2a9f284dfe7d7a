-- What a session of each version has besides those before it: from version 2 on classes of access isolation, from
-- version 3 on initial access lists, and 256 segment numbers for each process where there were 128; from version 4 on
-- upward calls.
use Rattle.std.specs.Prelude.{ℕ, nat_le, Bool, if◌then◌else◌}
use Rattle.mx_request.specs.declared.requests.Request.{Request}
use Rattle.mx_request.specs.declared.requests.Request.TheVariants.{SetIacl, DelIacl, SetClass}

abbrev pub has_classes : ℕ → Bool
has_classes version = nat_le 2 version

-- the last segment number that a process can be given
abbrev pub last_number : ℕ → ℕ
last_number version = if nat_le 3 version then 255 else 127

-- how many return gates a process may have, each of an upward call
abbrev pub most_gates : ℕ → ℕ
most_gates version = if nat_le 4 version then 16 else 0

-- the version from which on a session may ask a request
abbrev pub since_version : Request → ℕ
since_version (SetClass path class) = 2
since_version (SetIacl path kind id modes) = 3
since_version (DelIacl path kind id) = 3
since_version _ = 1
