-- Once an entry is answered, the words of its own process that it changed are settled; a word that a process missed is
-- settled when it asks for it.
use Rattle.std.specs.Prelude.{◌≡◌, ℕ, ◌==◌, List, [], ◌∷◌, Some, slice_get}
use Rattle.mx_sdw.specs.Descriptors.{Descriptor}
use Rattle.mx_core.specs.Put.{pick}
use Rattle.mx_core.specs.declared.changes.Change.{Change}
use Rattle.mx_core.specs.declared.words.DescriptorWord.{DescriptorWord}
use Rattle.mx_core.specs.declared.words.DescriptorWord.TheVariants.{Fault, Valid}
use Rattle.mx_desc.specs.Slots.{IsPair}
use Rattle.mx_rule.specs.Shown.{office_of}
use Rattle.mx_rule.specs.Striking.{MaySettle, settled_view}
use Rattle.mx_rule.specs.declared.layout.Layout.{Layout}
use Rattle.mx_rule.specs.declared.views.SuperView.{SuperView}
use Rattle.mx_rule.specs.declared.views.Told.{Told}
use Rattle.mx_rule.specs.declared.views.WordAt.{WordAt}

-- of the changes, those of this process: the words become what the table has, with the number
abbrev pub settled_words : ℕ → List Change → ℕ → (ℕ → ℕ → Descriptor) → List WordAt → List WordAt
settled_words p [] number table words = words
settled_words p (c ∷ cs) number table words = settled_words p cs number table
    (pick (c.process == p) (record {
      process = c.process;
      segno = c.segno;
      word = Valid number (table c.process c.segno);
    } ∷ words) words)

abbrev pub settled_told : ℕ → List Change → ℕ → List Told → List Told
settled_told p [] number told = told
settled_told p (c ∷ cs) number told = settled_told p cs number
    (pick (c.process == p) (record { process = c.process; segno = c.segno; number = number } ∷ told) told)

-- the words of process p among the changes of the last entry are settled
abbrev pub settled_views : {E : Type 0} → ℕ → List Change → SuperView E → SuperView E
settled_views p changes v = record v {
  words = settled_words p changes v.length ((office_of v).table v.length) v.words;
  told = settled_told p changes v.length v.told;
}

-- the pair is one of the table, and its word was struck by the last entry, which is answered
pub record IsStruckLast {E : Type 0} (y : Layout) (v : SuperView E) (c : Change) : Type 0 where
  pub pair : IsPair y c.process c.segno
  pub may : MaySettle (office_of v) c.process c.segno v.length

abbrev pub AreStruckLast : {E : Type 0} → Layout → SuperView E → ℕ → List Change → Type 0
AreStruckLast y v p changes = (i : ℕ) (c : Change) → slice_get changes i ≡ Some c → c.process ≡ p → IsStruckLast y v c

-- no pair is listed twice
abbrev pub ArePairsOnce : List Change → Type 0
ArePairsOnce changes = (i j : ℕ) (a b : Change) → slice_get changes i ≡ Some a → slice_get changes j ≡ Some b
    → a.process ≡ b.process → a.segno ≡ b.segno → i ≡ j

-- Helper: the word of a pair, which this is, is settled where it is a fault.
abbrev pub mended_by : {E : Type 0} → DescriptorWord → ℕ → ℕ → SuperView E → SuperView E
mended_by (Fault number) p n v = settled_view p n number v
mended_by (Valid number desc) p n v = v

-- the word of a pair is settled where it is a fault
abbrev pub mended_view : {E : Type 0} → ℕ → ℕ → SuperView E → SuperView E
mended_view p n v = mended_by ((office_of v).word p n) p n v
