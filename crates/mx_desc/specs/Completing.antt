-- Helpers: what is judged and not over at once is completed by its cell step.
use Rattle.std.specs.Prelude.{◌≡◌, ℕ, ◌++◌, max, [], ◌∷◌, Option, Some, None}
use Rattle.mx_core.specs.Judging.{Agrees, at_once, stamp_read}
use Rattle.mx_core.specs.Loading.{element_of}
use Rattle.mx_core.specs.declared.elements.Kept.TheVariants.{Judged}
use Rattle.mx_core.specs.declared.elements.Outcome.{Outcome}
use Rattle.mx_core.specs.declared.elements.Outcome.TheVariants.{Written}
use Rattle.mx_core.specs.declared.words.Asked.{Asked}
use Rattle.mx_core.specs.declared.words.Triple.{Triple}
use Rattle.mx_rule.specs.declared.views.PassView.{PassView}

-- a reference is held on the triple
pub record AwaitsCell {E : Type 0} (on : Triple) (a : Asked) (v : PassView E) : Type 0 where
  pub basis : v.basis ≡ Some on
  pub hold : v.hold ≡ Some a

-- where what is asked is not over at once; else nothing is held
abbrev pub AwaitsCellUnless : {E : Type 0} → Option Outcome → Triple → Asked → PassView E → Type 0
AwaitsCellUnless (Some o) on a v = v.hold ≡ None
AwaitsCellUnless None on a v = AwaitsCell on a v

pub record HasCell {E : Type 0} (on : Triple) (a : Asked) (value : ℕ) (v : PassView E) (o : Outcome)
    (v' : PassView E) : Type 0 where
  pub right : Agrees on.desc a o
  pub stored : (written : ℕ) → o ≡ Written written → written ≡ value
  pub after : v' ≡ record v {
    hold = None;
    floor = max v.floor (stamp_read o);
    trace = v.trace ++ Judged (element_of on.segno a v.floor o) a.op on.desc ∷ [];
  }

abbrev pub IsCompletedBy : {E : Type 0} → Option Outcome → Triple → Asked → ℕ → PassView E → Outcome → PassView E
    → Type 0
IsCompletedBy (Some done) on a value v o v' = (o ≡ done) × (v' ≡ v)
IsCompletedBy None on a value v o v' = HasCell on a value v o v'

abbrev pub IsCompleted : {E : Type 0} → Triple → Asked → ℕ → PassView E → Outcome → PassView E → Type 0
IsCompleted on a value v o v' = IsCompletedBy (at_once on.desc a) on a value v o v'
