-- The references of a run with their accesses: each has the descriptor of its process at its point, and the entry of the
-- access list that decided its modes.
use Rattle.std.specs.Prelude.{◌≡◌, List}
use Rattle.std.specs.List.{All}
use Rattle.mx_script.specs.Sessions.{Outline}
use Rattle.mx_state.specs.declared.journal.Entry as journaled
use Rattle.mx_judging.specs.Replays.{access_of, entry_of}
use Rattle.mx_judging.specs.declared.replays.Judged.{Judged}

-- the access shown is the one that the reference was judged on, and the entry shown the one that decided its modes
pub record IsAccess (x : Outline) (journal : List journaled.Entry) (j : Judged) : Type 0 where
  pub desc : j.desc ≡ access_of x journal j.process j.element
  pub entry : j.entry ≡ entry_of x journal j.process j.element

abbrev pub AreAccesses : Outline → List journaled.Entry → List Judged → Type 0
AreAccesses x journal judged = All (IsAccess x journal) judged
