-- Where the passes of all processes have come back to the supervisor, the run is closed: the journal, the traces and the
-- reads are right together.
use Rattle.std.specs.Prelude.{◌≡◌, ℕ, suc, List, [], ◌∷◌, length, Some, slice_get, sum_by, Contains}
use Rattle.mx_desc.specs.Passes.{PassValue}
use Rattle.mx_rule.specs.Ending.{IsRightEnd}
use Rattle.mx_rule.specs.declared.views.PassView.{PassView}
use Rattle.mx_rule.specs.declared.views.SuperView.{SuperView}
use Rattle.mx_script.specs.Sessions.{Outline}
use Rattle.mx_state.specs.declared.journal.Entry as journaled
use Rattle.mx_ties.specs.Closed.{IsClosed}
use Rattle.mx_closing.specs.Keeping.{KeepsJournal}
use Rattle.mx_closing.specs.Views.{marked_in, views_in}

-- the passes are those of so many processes, from process 1 on in order
pub record AreOfAll (processes : ℕ) (passes : List (PassValue journaled.Entry)) : Type 0 where
  pub count : length passes ≡ processes
  pub owners : (place : ℕ) (pass : PassValue journaled.Entry) → slice_get passes place ≡ Some pass
      → pass.view.process ≡ suc place

-- the passes of all processes came back, each as it stands here, and their shares of the ledger count as many entries
-- together as there are
pub record AreBack (v : SuperView journaled.Entry) (passes : List (PassValue journaled.Entry)) : Type 0 where
  pub all : AreOfAll v.processes passes
  pub back : (place : ℕ) (pass : PassValue journaled.Entry) → slice_get passes place ≡ Some pass
      → Contains v.retired pass.view
  pub amounts : sum_by (λ pass. pass.amount) passes ≡ length v.history

abbrev pub ClosingLaw : Type 0
ClosingLaw = (x : Outline) (setup : List journaled.Entry) (v : SuperView journaled.Entry)
    (passes : List (PassValue journaled.Entry))
    → KeepsJournal x setup v → AreBack v passes → IsRightEnd v
    → IsClosed x setup (marked_in v.history) (views_in passes)

-- Helper: the views of passes that come back one after another, before them those of earlier ones, the last one first.
abbrev pub returned : {E : Type 0} → List (PassValue E) → List (PassView E) → List (PassView E)
returned [] views = views
returned (pass ∷ passes) views = returned passes (pass.view ∷ views)
