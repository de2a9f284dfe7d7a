-- LoadDesc and Recall by a pass.
use Rattle.std.specs.Prelude.{◌≡◌, ℕ, ◌<◌, ◌≤◌, ◌++◌, nat_le, nat_lt, [], ◌∷◌, Option, Some, None}
use Rattle.mx_sdw.specs.Admissible.{IsAdmissible}
use Rattle.mx_sdw.specs.Descriptors.{unknown_desc}
use Rattle.mx_core.specs.AssociativeMemory.{remembered, recalled}
use Rattle.mx_core.specs.Judging.{at_once}
use Rattle.mx_core.specs.Loading.{element_of}
use Rattle.mx_core.specs.Put.{pick}
use Rattle.mx_core.specs.declared.elements.Kept.TheVariants.{Judged, Missed}
use Rattle.mx_core.specs.declared.elements.Outcome.{Outcome}
use Rattle.mx_core.specs.declared.words.DescriptorWord.{DescriptorWord}
use Rattle.mx_core.specs.declared.words.DescriptorWord.TheVariants.{Valid, Fault}
use Rattle.mx_core.specs.declared.words.Asked.{Asked}
use Rattle.mx_core.specs.declared.words.Triple.{Triple}
use Rattle.mx_core.specs.declared.words.Stage.TheVariants.{Ready}
use Rattle.mx_rule.specs.Codes.{IsWordCode, word_said}
use Rattle.mx_rule.specs.Layout.{Layout}
use Rattle.mx_rule.specs.Parts.{DescriptorAt, Flag}
use Rattle.mx_rule.specs.Shown.{PassView, all_told}
use Rattle.mx_rule.specs.Allowing.{PassReads, PassTells}

abbrev pub missed_view : {E : Type 0} → ℕ → ℕ → PassView E → PassView E
missed_view n by v = record v { basis = None; hold = None; trace = v.trace ++ Missed n by ∷ [] }

abbrev pub judged_view : {E : Type 0} → Option Outcome → Triple → Asked → PassView E → PassView E
judged_view None u a v = record v { basis = Some u; hold = Some a }
judged_view (Some o) u a v = record v {
  basis = Some u;
  hold = None;
  trace = v.trace ++ Judged (element_of u.segno a v.floor o) a.op u.desc ∷ [];
}

abbrev pub remembering_view : {E : Type 0} → ℕ → Triple → PassView E → PassView E
remembering_view numbers u v = record v { memory = pick (nat_lt u.segno numbers) (remembered u v.memory) v.memory }

abbrev pub loaded_view : {E : Type 0} → ℕ → ℕ → Asked → DescriptorWord → PassView E → PassView E
loaded_view numbers n a (Fault number) v = missed_view n number v
loaded_view numbers n a (Valid number desc) v =
    let u : Triple = record { segno = n; number = number; desc = desc } in
    pick (nat_le number v.floor) (judged_view (at_once desc a) u a (remembering_view numbers u v))
    (missed_view n number v)

-- a word that is missed is news: its number is above the one with which the process knows the pair settled
abbrev pub IsNews : {E : Type 0} → PassView E → ℕ → DescriptorWord → Type 0
IsNews v n (Fault number) = all_told v.start v.told v.process n < number
IsNews v n (Valid number desc) = v.floor < number → all_told v.start v.told v.process n < number

abbrev pub LoadDescAllowed : Type 0 → Type 0
LoadDescAllowed S = (y : Layout) (v : PassView S) (n : ℕ) (a : Asked) → v.stage ≡ Ready → n < y.numbers
    → PassTells S y v (DescriptorAt v.process n) (λ m. loaded_view y.numbers n a (word_said m) v)
    (λ m. IsWordCode m × IsNews v n (word_said m))

-- for a number that the table has not, it reads its own flag, and judges on the unknown descriptor
abbrev pub LoadUnknownAllowed : Type 0 → Type 0
LoadUnknownAllowed S = (y : Layout) (v : PassView S) (n : ℕ) (a : Asked) → v.stage ≡ Ready → y.numbers ≤ n
    → PassReads S y v (Flag v.process) (λ m. loaded_view y.numbers n a (Valid v.start unknown_desc) v)

abbrev pub RecallAllowed : Type 0 → Type 0
RecallAllowed S = (y : Layout) (v : PassView S) (n : ℕ) (a : Asked) (u : Triple)
    → v.stage ≡ Ready → recalled n v.memory ≡ Some u
    → PassTells S y v (Flag v.process) (λ m. judged_view (at_once u.desc a) u a v) (λ m. IsAdmissible u.desc)
