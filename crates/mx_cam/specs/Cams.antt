-- A reference through an associative memory.
use Rattle.std.specs.Prelude.{◌≡◌, ◌⊎◌, ℕ, None, Some}
use Rattle.mx_sdw.specs.Admissible.{IsAdmissible}
use Rattle.mx_core.specs.AssociativeMemory.{recalled}
use Rattle.mx_core.specs.declared.elements.Element.{Element}
use Rattle.mx_core.specs.declared.words.Asked.{Asked}
use Rattle.mx_core.specs.declared.words.Triple.{Triple}
use Rattle.mx_desc.specs.Referring.{HasReferred, HasSeen}
use Rattle.mx_rule.specs.declared.views.PassView.{PassView}

-- what is asked was judged on what the memory has of the number
pub record HasRecalled {E : Type 0} (n : ℕ) (a : Asked) (value : ℕ) (v : PassView E) (e : Element) (v' : PassView E)
    : Type 0 where
  pub on : Triple
  pub at : recalled n v.memory ≡ Some on
  pub admissible : IsAdmissible on.desc
  pub seen : HasSeen on a value v e v'

-- the memory had not the number, and its descriptor word was judged on, and remembered
pub record HasLoaded {E : Type 0} (numbers n : ℕ) (a : Asked) (value : ℕ) (v : PassView E) (e : Element)
    (v' : PassView E) : Type 0 where
  pub none : recalled n v.memory ≡ None
  pub referred : HasReferred numbers n a value v e v'

abbrev pub HasJudged : {E : Type 0} → ℕ → ℕ → Asked → ℕ → PassView E → Element → PassView E → Type 0
HasJudged numbers n a value v e v' = HasRecalled n a value v e v' ⊎ HasLoaded numbers n a value v e v'
