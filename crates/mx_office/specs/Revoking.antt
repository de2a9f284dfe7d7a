-- An entry from its coming to its answer: the words of the pairs that it changed are struck, their processes told to
-- empty their memories and waited for, and the entry is answered.
use Rattle.std.specs.Prelude.{◌≡◌, ◌≢◌, ℕ, ◌∷◌, IsTrue, List, [], Some, slice_get}
use Rattle.mx_core.specs.declared.changes.Change.{Change}
use Rattle.mx_core.specs.declared.words.DescriptorWord.TheVariants.{Fault}
use Rattle.mx_rule.specs.Acknowledging.{MayAcknowledge, MayConnect, answered_view}
use Rattle.mx_rule.specs.Shown.{Office}
use Rattle.mx_rule.specs.Striking.{MayStrike}
use Rattle.mx_rule.specs.declared.views.NumberAt.{NumberAt}
use Rattle.mx_rule.specs.declared.views.SuperView.{SuperView}
use Rattle.mx_rule.specs.declared.views.WordAt.{WordAt}

-- the words of these pairs become faults by an entry, one after another
abbrev pub struck_words : List Change → ℕ → List WordAt → List WordAt
struck_words [] number words = words
struck_words (c ∷ cs) number words =
    struck_words cs number (record { process = c.process; segno = c.segno; word = Fault number } ∷ words)

abbrev pub struck_views : {E : Type 0} → List Change → SuperView E → SuperView E
struck_views changes v = record v { words = struck_words changes v.length v.words }

-- a number is kept of the process of each of these pairs
abbrev pub kept_of_each : List Change → ℕ → List NumberAt → List NumberAt
kept_of_each [] number kept = kept
kept_of_each (c ∷ cs) number kept = kept_of_each cs number (record { process = c.process; number = number } ∷ kept)

-- their processes are told, and what was seen of their flags is forgotten
abbrev pub connected_views : {E : Type 0} → List Change → SuperView E → SuperView E
connected_views changes v = record v {
  connects = kept_of_each changes v.length v.connects;
  looks = kept_of_each changes 0 v.looks;
}

-- the pending entry with these changes is answered
abbrev pub revoked_view : {E : Type 0} → List Change → SuperView E → SuperView E
revoked_view changes v = answered_view (connected_views changes (struck_views changes v))

abbrev pub MayStrikeAll : Office → List Change → Type 0
MayStrikeAll x changes = (i : ℕ) (c : Change) → slice_get changes i ≡ Some c → MayStrike x c.process c.segno

abbrev pub MayConnectAll : Office → List Change → Type 0
MayConnectAll x changes = (i : ℕ) (c : Change) → slice_get changes i ≡ Some c → MayConnect x c.process

abbrev pub MayAcknowledgeAll : Office → List Change → Type 0
MayAcknowledgeAll x changes = (i : ℕ) (c : Change) → slice_get changes i ≡ Some c → MayAcknowledge x c.process

abbrev pub AreAcknowledged : Office → List Change → Type 0
AreAcknowledged x changes = (i : ℕ) (c : Change) → slice_get changes i ≡ Some c → IsTrue (x.acknowledged c.process)

-- the pair is one of those of the list
pub record IsListed (changes : List Change) (p n : ℕ) : Type 0 where
  pub place : ℕ
  pub change : Change
  pub at : slice_get changes place ≡ Some change
  pub process : change.process ≡ p
  pub segno : change.segno ≡ n

-- each pair that the pending entry changed is listed
abbrev pub AreListed : Office → List Change → Type 0
AreListed x changes = (p n : ℕ) → x.table x.length p n ≢ x.table x.answered p n → IsListed changes p n
