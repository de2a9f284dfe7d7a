-- What the end tells of the processes whose seats came back.
use Rattle.std.specs.Prelude.{◌≡◌, ℕ, ◌<◌, ◌≤◌, List, [], Some, map, slice_get}
use mathlib.Core.Option.{some}
use lib.ListN.{get_elem?}
use Rattle.atomic_table.specs.Table.{State}
use Rattle.mx_reads.specs.ReadRule.{known_by, AreRightReads}
use Rattle.mx_core.specs.Deeds.{deed_of, front}
use Rattle.mx_core.specs.Traces.{IsGoodTrace}
use Rattle.mx_core.specs.declared.elements.Kept.{Kept}
use Rattle.mx_rule.specs.Fronts.{IsFront}
use Rattle.mx_rule.specs.Layout.{Layout}
use Rattle.mx_rule.specs.Rule.{Holds}
use Rattle.mx_rule.specs.Telling.{AreRightWords}
use Rattle.mx_rule.specs.Shown.{View, PassView, Super, SuperView, Office, office_of}

-- a process was told of answered entries alone, and what it did is right on the tables
pub record IsRightPass {E : Type 0} (x : Office) (u : PassView E) : Type 0 where
  pub floor : u.floor ≤ x.answered
  pub trace : IsGoodTrace x.start u.floor (λ q n. x.table q u.process n) (x.word u.process) u.trace

-- So is each whose seat came back, and it was told of a front of the history. Each descriptor word is right. Nobody but
-- the processes did anything, and what they read is right, with the marks and the uses of pages that the supervisor
-- knows. A process whose seat did not come back did something too.
pub record IsRightEnd {E : Type 0} (v : SuperView E) : Type 0 where
  pub passes : (i : ℕ) (u : PassView E) → slice_get v.retired i ≡ Some u → IsRightPass (office_of v) u
  pub told : (i : ℕ) (u : PassView E) → slice_get v.retired i ≡ Some u → IsFront u.history v.history
  pub words : AreRightWords (office_of v)
  pub trace : ℕ → List Kept
  pub nobody : trace 0 ≡ []
  pub more : (p : ℕ) → v.processes < p → trace p ≡ []
  pub shown : (i : ℕ) (u : PassView E) → slice_get v.retired i ≡ Some u → trace u.process ≡ u.trace
  pub reads : AreRightReads (λ p. map (deed_of (office_of v).start (office_of v).given) (trace p))
      (known_by (front (office_of v).start (office_of v).entry))

abbrev pub EndIsRight : Type 0 → Type 0
EndIsRight S = (y : Layout) (s : State S (View S)) (v : SuperView S) (id : ℕ) → Holds y s
    → get_elem? s.views id ≡ some (Super v) → IsRightEnd v
