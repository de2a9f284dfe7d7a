-- A pass as the law of a finished run sees it.
use Rattle.std.specs.Prelude.{ℕ, zero, suc, List, [], ◌∷◌, ◌++◌, map, Option, Some, None, slice_get}
use Rattle.mx_core.specs.declared.elements.Kept.{Kept as Recorded}
use Rattle.mx_core.specs.declared.elements.Kept.TheVariants as recorded
use Rattle.mx_desc.specs.Passes.{PassValue}
use Rattle.mx_rule.specs.declared.views.EntryView.{EntryView}
use Rattle.mx_state.specs.declared.journal.Entry as journaled
use Rattle.mx_ties.specs.Views.{Kept, Referred, Missed, Marked, View}

-- an event of a trace, without the operation that was asked for
abbrev pub kept_in : Recorded → Kept
kept_in (recorded.Judged element op desc) = Referred (record { element = element; desc = desc })
kept_in (recorded.Missed segno by) = Missed segno by

-- The entries of a history with their marks. Seats keep the last one first; here they come in the journal's order.
abbrev pub marked_in : List (EntryView journaled.Entry) → List Marked
marked_in [] = []
marked_in (entry ∷ history) = marked_in history ++ record { entry = entry.entry; mark = entry.mark } ∷ []

abbrev pub view_in : PassValue journaled.Entry → View
view_in pass = record {
  trace = map kept_in pass.view.trace;
  history = marked_in pass.view.history;
  floor = pass.view.floor;
  amount = pass.amount;
}

-- of one who has no pass
abbrev pub idle_view : View
idle_view = record { trace = []; history = []; floor = 0; amount = 0 }

abbrev pub view_or_idle : Option (PassValue journaled.Entry) → View
view_or_idle None = idle_view
view_or_idle (Some pass) = view_in pass

-- of each process, where the passes are those of the processes from 1 on
abbrev pub views_in : List (PassValue journaled.Entry) → ℕ → View
views_in passes zero = idle_view
views_in passes (suc place) = view_or_idle (slice_get passes place)
