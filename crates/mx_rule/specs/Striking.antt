-- Strike and Settle by the supervisor.
use Rattle.std.specs.Prelude.{◌≡◌, ◌≢◌, ℕ, ◌<◌, ◌≤◌, ◌∷◌}
use Rattle.mx_core.specs.declared.words.DescriptorWord.TheVariants.{Valid, Fault}
use Rattle.mx_rule.specs.Codes.{word_code}
use Rattle.mx_rule.specs.Layout.{Layout}
use Rattle.mx_rule.specs.Parts.{DescriptorAt}
use Rattle.mx_rule.specs.Shown.{SuperView, Office, office_of}
use Rattle.mx_rule.specs.Allowing.{OfficeWrites}

-- conditions on what the supervisor has
abbrev pub Changes : Office → ℕ → ℕ → Type 0
Changes x p n = x.table x.length p n ≢ x.table x.answered p n

pub record MayStrike (x : Office) (p n : ℕ) : Type 0 where
  pub low : 1 ≤ p
  pub high : p ≤ x.processes
  pub number : n < x.numbers
  pub pending : x.answered < x.length
  pub changed : Changes x p n

abbrev pub struck_view : {E : Type 0} → ℕ → ℕ → SuperView E → SuperView E
struck_view p n v = record v { words = (record { process = p; segno = n; word = Fault v.length }) ∷ v.words }

abbrev pub StrikeAllowed : Type 0 → Type 0
StrikeAllowed S = (y : Layout) (v : SuperView S) (p n : ℕ) → MayStrike (office_of v) p n
    → OfficeWrites S y v (DescriptorAt p n) (word_code (Fault v.length)) (struck_view p n v)

pub record MaySettle (x : Office) (p n by : ℕ) : Type 0 where
  pub low : 1 ≤ p
  pub high : p ≤ x.processes
  pub number : n < x.numbers
  pub rest : x.length ≤ x.answered
  pub fault : x.word p n ≡ Fault by

abbrev pub settled_view : {E : Type 0} → ℕ → ℕ → ℕ → SuperView E → SuperView E
settled_view p n by v = record v {
  words = (record { process = p; segno = n; word = Valid by ((office_of v).table v.length p n) }) ∷ v.words;
  told = (record { process = p; segno = n; number = by }) ∷ v.told;
}

abbrev pub SettleAllowed : Type 0 → Type 0
SettleAllowed S = (y : Layout) (v : SuperView S) (p n by : ℕ) → MaySettle (office_of v) p n by
    → OfficeWrites S y v (DescriptorAt p n) (word_code (Valid by ((office_of v).table v.length p n)))
    (settled_view p n by v)
