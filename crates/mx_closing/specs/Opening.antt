-- The opening of the shared words of a session: which word is which, and the descriptors that stand after the setup.
use Rattle.std.specs.Prelude.{ℕ, zero, suc, ◌+◌, List, [], ◌∷◌, ◌++◌, length, if◌then◌else◌}
use Rattle.mx_core.specs.declared.changes.Change.{Change}
use Rattle.mx_request.specs.Versions.{last_number}
use Rattle.mx_rule.specs.declared.layout.Layout.{Layout}
use Rattle.mx_script.specs.Sessions.{Outline}
use Rattle.mx_sdw.specs.Descriptors.{Descriptor, unknown_desc}
use Rattle.mx_sdw.specs.Same.{same_desc}

-- a descriptor word for each number of each process, up to the last number of the version
abbrev pub layout_of : Outline → Layout
layout_of x = record { processes = length x.principals; numbers = last_number x.version + 1 }

-- Helpers: the descriptors of a table that are not unknown, by process and by number.
abbrev pub known_desc : ℕ → ℕ → Descriptor → List Change
known_desc p n desc =
    if same_desc desc unknown_desc then [] else record { process = p; segno = n; desc = desc } ∷ []

-- of process p, of the numbers below so many
abbrev pub known_row : ℕ → (ℕ → Descriptor) → ℕ → List Change
known_row p row zero = []
known_row p row (suc n) = known_row p row n ++ known_desc p n (row n)

-- of processes 1 to so many
abbrev pub known_rows : ℕ → (ℕ → ℕ → Descriptor) → ℕ → List Change
known_rows numbers table zero = []
known_rows numbers table (suc p) = known_rows numbers table p ++ known_row (suc p) (table (suc p)) numbers
