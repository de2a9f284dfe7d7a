-- Enter, LoadConnect and Leave by a pass.
use Rattle.std.specs.Prelude.{◌≡◌, ◌≢◌, ℕ, ◌==◌, [], None}
use Rattle.mx_core.specs.Entering.{next_turn}
use Rattle.mx_core.specs.Put.{pick}
use Rattle.mx_core.specs.declared.words.Stage.TheVariants.{Outside, Entering, Ready}
use Rattle.mx_rule.specs.Layout.{Layout}
use Rattle.mx_rule.specs.Parts.{ConnectWord, Flag}
use Rattle.mx_rule.specs.Shown.{PassView}
use Rattle.mx_rule.specs.Allowing.{PassWrites, PassReads}

abbrev pub entered_view : {E : Type 0} → PassView E → PassView E
entered_view v = record v {
  turn = next_turn v.turn;
  flag = next_turn v.turn;
  stage = Entering;
  basis = None;
  hold = None;
}

abbrev pub EnterAllowed : Type 0 → Type 0
EnterAllowed S = (y : Layout) (v : PassView S) → v.stage ≡ Outside
    → PassWrites S y v (Flag v.process) (next_turn v.turn) (entered_view v)

abbrev pub connected_view : {E : Type 0} → ℕ → PassView E → PassView E
connected_view n v = record v { cleared = n; stage = Ready; memory = pick (n == v.cleared) v.memory [] }

abbrev pub LoadConnectAllowed : Type 0 → Type 0
LoadConnectAllowed S = (y : Layout) (v : PassView S) → v.stage ≡ Entering
    → PassReads S y v (ConnectWord v.process) (λ n. connected_view n v)

abbrev pub left_view : {E : Type 0} → PassView E → PassView E
left_view v = record v { flag = 0; stage = Outside; basis = None; hold = None }

abbrev pub LeaveAllowed : Type 0 → Type 0
LeaveAllowed S = (y : Layout) (v : PassView S) → v.stage ≢ Outside → PassWrites S y v (Flag v.process) 0 (left_view v)
