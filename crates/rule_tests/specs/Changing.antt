-- One change of access: the supervisor at rest, and while an entry is pending that changes one pair.
use Rattle.std.specs.Prelude.{◌≡◌, ℕ, ◌<◌, ◌≤◌, IsTrue}
use Rattle.mx_sdw.specs.Descriptors.{Descriptor}
use Rattle.mx_core.specs.declared.words.DescriptorWord.TheVariants.{Fault}
use Rattle.mx_rule.specs.Seats.{super_of}
use Rattle.mx_rule.specs.Shown.{Office, office_of}
use Rattle.mx_rule.specs.Striking.{Changes}
use Rattle.mx_rule.specs.declared.views.View.{View}

-- what the supervisor's seat has
abbrev pub seen : {E : Type 0} → View E → Office
seen v = office_of (super_of v)

-- the descriptors after all entries
abbrev pub present : Office → ℕ → ℕ → Descriptor
present x = x.table x.length

pub record HasPair (x : Office) (p n : ℕ) : Type 0 where
  pub low : 1 ≤ p
  pub high : p ≤ x.processes
  pub number : n < x.numbers

pub record IsAtRest (x : Office) : Type 0 where
  pub low : x.answered ≤ x.length
  pub rest : x.length ≤ x.answered
  pub ready : (page : ℕ) → IsTrue (x.ready page)

-- the pending entry changes this pair alone
pub record IsChanging (x : Office) (p n : ℕ) : Type 0 where
  pub pair : HasPair x p n
  pub pending : x.answered < x.length
  pub changed : Changes x p n
  pub only : (q m : ℕ) → Changes x q m → (q ≡ p) × (m ≡ n)
  pub ready : (page : ℕ) → IsTrue (x.ready page)

pub record IsStruck (x : Office) (p n : ℕ) : Type 0 where
  pub changing : IsChanging x p n
  pub struck : x.word p n ≡ Fault x.length

pub record IsConnected (x : Office) (p n : ℕ) : Type 0 where
  pub struck : IsStruck x p n
  pub connect : x.connect p ≡ x.length

pub record HasLeft (x : Office) (p n : ℕ) : Type 0 where
  pub connected : IsConnected x p n
  pub acknowledged : IsTrue (x.acknowledged p)

-- the entry is answered, and the pair's word a fault by it
pub record IsUnsettled (x : Office) (p n : ℕ) : Type 0 where
  pub pair : HasPair x p n
  pub rest : IsAtRest x
  pub fault : x.word p n ≡ Fault x.length
