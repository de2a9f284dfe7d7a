-- What a reference by a process comes to: an element, judged on a descriptor that it was told of, or a miss.
use Rattle.std.specs.Prelude.{◌≡◌, ℕ, ◌<◌, ◌≤◌, ◌++◌, max, nat_lt, [], ◌∷◌, None, Some}
use Rattle.mx_sdw.specs.Admissible.{IsAdmissible}
use Rattle.mx_core.specs.AssociativeMemory.{remembered}
use Rattle.mx_core.specs.Judging.{Agrees, stamp_read}
use Rattle.mx_core.specs.Loading.{element_of}
use Rattle.mx_core.specs.Put.{pick}
use Rattle.mx_core.specs.declared.elements.Element.{Element}
use Rattle.mx_core.specs.declared.elements.Kept.TheVariants.{Judged, Missed}
use Rattle.mx_core.specs.declared.elements.Outcome.TheVariants.{Written}
use Rattle.mx_core.specs.declared.words.Asked.{Asked}
use Rattle.mx_core.specs.declared.words.Triple.{Triple}
use Rattle.mx_rule.specs.Shown.{all_told}
use Rattle.mx_rule.specs.declared.views.PassView.{PassView}

-- What is asked was judged on the triple, at the floor: the outcome is what the rule says of its descriptor. The
-- element is kept with that descriptor, and the floor rises to a stamp that was read.
pub record HasSeen {E : Type 0} (on : Triple) (a : Asked) (value : ℕ) (v : PassView E) (e : Element)
    (v' : PassView E) : Type 0 where
  pub element : e ≡ element_of on.segno a v.floor e.outcome
  pub right : Agrees on.desc a e.outcome
  pub stored : (written : ℕ) → e.outcome ≡ Written written → written ≡ value
  pub after : v' ≡ record v {
    basis = Some on;
    hold = None;
    floor = max v.floor (stamp_read e.outcome);
    trace = v.trace ++ Judged e a.op on.desc ∷ [];
  }

-- a number that was loaded goes into the memory, unless the table has it not
abbrev pub with_memory : {E : Type 0} → ℕ → Triple → PassView E → PassView E
with_memory numbers on v = record v { memory = pick (nat_lt on.segno numbers) (remembered on v.memory) v.memory }

pub record HasReferred {E : Type 0} (numbers n : ℕ) (a : Asked) (value : ℕ) (v : PassView E) (e : Element)
    (v' : PassView E) : Type 0 where
  pub on : Triple
  pub segno : on.segno ≡ n
  pub told : on.number ≤ v.floor
  pub admissible : IsAdmissible on.desc
  pub seen : HasSeen on a value (with_memory numbers on v) e v'

-- the entry is above what the process knows settled of the number
pub record HasMissed {E : Type 0} (n by : ℕ) (v v' : PassView E) : Type 0 where
  pub news : all_told v.start v.told v.process n < by
  pub after : v' ≡ record v { basis = None; hold = None; trace = v.trace ++ Missed n by ∷ [] }
