-- Connect, Look, Acknowledge and Answer by the supervisor.
use Rattle.std.specs.Prelude.{◌≡◌, ℕ, ◌<◌, ◌≤◌, ◌==◌, ◌&&◌, ◌||◌, not, Bool, IsTrue, [], ◌∷◌}
use Rattle.mx_core.specs.Put.{pick}
use Rattle.mx_core.specs.declared.words.DescriptorWord.TheVariants.{Fault}
use Rattle.mx_rule.specs.Layout.{Layout}
use Rattle.mx_rule.specs.Parts.{Answered, ConnectWord, Flag}
use Rattle.mx_rule.specs.Shown.{SuperView, Office, office_of, numbers_of}
use Rattle.mx_rule.specs.Allowing.{OfficeWrites, OfficeReads}
use Rattle.mx_rule.specs.Striking.{Changes}

pub record MayConnect (x : Office) (p : ℕ) : Type 0 where
  pub low : 1 ≤ p
  pub high : p ≤ x.processes
  pub pending : x.answered < x.length
  pub segno : ℕ
  pub changed : Changes x p segno
  pub struck : (n : ℕ) → Changes x p n → x.word p n ≡ Fault x.length

abbrev pub connecting_view : {E : Type 0} → ℕ → SuperView E → SuperView E
connecting_view p v = record v {
  connects = (record { process = p; number = v.length }) ∷ v.connects;
  looks = (record { process = p; number = 0 }) ∷ v.looks;
}

abbrev pub ConnectAllowed : Type 0 → Type 0
ConnectAllowed S = (y : Layout) (v : SuperView S) (p : ℕ) → MayConnect (office_of v) p
    → OfficeWrites S y v (ConnectWord p) v.length (connecting_view p v)

pub record MayAcknowledge (x : Office) (p : ℕ) : Type 0 where
  pub low : 1 ≤ p
  pub high : p ≤ x.processes
  pub pending : x.answered < x.length
  pub connected : x.connect p ≡ x.length

-- one load of the flag looks, or acknowledges
abbrev pub has_left : ℕ → ℕ → Bool
has_left n look = (n == 0) || (not (look == 0) && not (n == look))

abbrev pub acknowledged_view : {E : Type 0} → ℕ → SuperView E → SuperView E
acknowledged_view p v = record v { acknowledged = p ∷ v.acknowledged }

abbrev pub looked_view : {E : Type 0} → ℕ → ℕ → SuperView E → SuperView E
looked_view p n v = record v { looks = (record { process = p; number = n }) ∷ v.looks }

abbrev pub noticed_view : {E : Type 0} → ℕ → ℕ → SuperView E → SuperView E
noticed_view p n v = pick (has_left n (numbers_of 0 v.looks p)) (acknowledged_view p v) (looked_view p n v)

abbrev pub AcknowledgeAllowed : Type 0 → Type 0
AcknowledgeAllowed S = (y : Layout) (v : SuperView S) (p : ℕ) → MayAcknowledge (office_of v) p
    → OfficeReads S y v (Flag p) (λ n. noticed_view p n v)

pub record MayAnswer (x : Office) : Type 0 where
  pub pending : x.answered < x.length
  pub struck : (p n : ℕ) → Changes x p n → x.word p n ≡ Fault x.length
  pub acknowledged : (p n : ℕ) → Changes x p n → IsTrue (x.acknowledged p)

abbrev pub answered_view : {E : Type 0} → SuperView E → SuperView E
answered_view v = record v { answered = v.length; looks = []; acknowledged = [] }

abbrev pub AnswerAllowed : Type 0 → Type 0
AnswerAllowed S = (y : Layout) (v : SuperView S) → MayAnswer (office_of v)
    → OfficeWrites S y v Answered v.length (answered_view v)
