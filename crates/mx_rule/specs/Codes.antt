-- What a shared word says of a descriptor, and of a cell: the layouts of descriptor words and cell words.
use Rattle.std.specs.Prelude.{◌≡◌, ℕ, ◌^◌, ◌<◌, ◌≤◌}
use Rattle.mx_sdw.specs.Admissible.{IsAdmissible}
use Rattle.mx_sdw.specs.CellWords.{cell_word, value_in, writer_in, stamp_in}
use Rattle.mx_sdw.specs.DescriptorWords.{desc_word, desc_view}
use Rattle.mx_sdw.specs.Descriptors.{Descriptor, unknown_desc, gone_desc}
use Rattle.mx_sdw.specs.declared.descriptor_words.DescView.{DescView}
use Rattle.mx_sdw.specs.declared.descriptor_words.DescView.TheVariants as view
use Rattle.mx_sdw.specs.declared.descriptors.DescKind.{DescKind}
use Rattle.mx_sdw.specs.declared.descriptors.DescKind.TheVariants.{Unknown, Gone, Segment}
use Rattle.mx_reads.specs.Held.{Held}
use Rattle.mx_core.specs.declared.words.DescriptorWord.{DescriptorWord}
use Rattle.mx_core.specs.declared.words.DescriptorWord.TheVariants.{Valid, Fault}

-- a descriptor that stands since an entry, as a word says it
abbrev pub standing_view : DescKind → ℕ → Descriptor → DescView
standing_view Unknown number desc = view.Unknown number
standing_view Gone number desc = view.Gone number
standing_view Segment number desc = view.Set number desc

abbrev pub view_of : DescriptorWord → DescView
view_of (Valid number desc) = standing_view desc.kind number desc
view_of (Fault number) = view.Fault number

abbrev pub word_by : DescView → DescriptorWord
word_by (view.Unknown number) = Valid number unknown_desc
word_by (view.Gone number) = Valid number gone_desc
word_by (view.Set number desc) = Valid number desc
word_by (view.Fault number) = Fault number

abbrev pub word_code : DescriptorWord → ℕ
word_code word = desc_word (view_of word)

abbrev pub word_said : ℕ → DescriptorWord
word_said n = word_by (desc_view n)

abbrev pub cell_code : Held → ℕ
cell_code held = cell_word held.value held.writer held.stamp

abbrev pub cell_said : ℕ → Held
cell_said n = record { value = value_in n; writer = writer_in n; stamp = stamp_in n }

-- a descriptor word that a shared word can say
abbrev pub IsCodable : DescriptorWord → Type 0
IsCodable (Valid number desc) = (number ≤ 262143) × IsAdmissible desc
IsCodable (Fault number) = number ≤ 262143

-- and a cell
pub record IsPlain (held : Held) : Type 0 where
  pub value : held.value < 2 ^ 36
  pub writer : held.writer ≤ 15
  pub stamp : held.stamp ≤ 262143

-- the number of a word that says a descriptor word, or a cell
pub record IsWordCode (n : ℕ) : Type 0 where
  pub word : DescriptorWord
  pub codable : IsCodable word
  pub is : n ≡ word_code word

pub record IsCellCode (n : ℕ) : Type 0 where
  pub held : Held
  pub plain : IsPlain held
  pub is : n ≡ cell_code held
