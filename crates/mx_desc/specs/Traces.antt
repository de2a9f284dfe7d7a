-- The trace that a pass keeps, or none.
use Rattle.std.specs.Prelude.{◌≡◌, ℕ, ◌-◌, ◌^◌, List, Option, Some, None, vec_capacity, vec_len}
use Rattle.std.specs.Global.{Vec}
use Rattle.mx_core.specs.declared.elements.Kept.{Kept}

-- its events, where they are kept, and for how many more there is room
pub record TraceValue : Type 0 where
  pub kept : Option (List Kept)
  pub spare : ℕ

-- where none are kept, there is room for as many as can be asked for
abbrev pub trace_by : Option (Vec Kept) → TraceValue
trace_by (Some events) = record { kept = Some events.items; spare = vec_capacity events - vec_len events }
trace_by None = record { kept = None; spare = 2 ^ 64 - 1 }

-- where events are kept, they are all that the process did
abbrev pub IsTraceOf : List Kept → Option (List Kept) → Type 0
IsTraceOf did (Some kept) = kept ≡ did
IsTraceOf did None = Unit {0}
