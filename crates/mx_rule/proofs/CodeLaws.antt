-- What a word says of a descriptor word, or of a cell, is what was put into it.
use Rattle.std.proofs.Common.{◌≡◌, ℕ, ◌≤◌, nat_eq, refl, ap, sym, ◌∙◌, subst}
use Rattle.std.specs.Prelude.{if◌then◌else◌}
use Rattle.mx_sdw.specs.Admissible.{IsAdmissible, IsInRange}
use Rattle.mx_sdw.specs.Bits.{bits}
use Rattle.mx_sdw.specs.DescriptorWords.{FitsWord, IsDescWord, desc_in, desc_view, desc_word}
use Rattle.mx_sdw.specs.Descriptors.{Descriptor}
use Rattle.mx_sdw.specs.declared.descriptor_words.DescView.TheVariants as view
use Rattle.mx_sdw.specs.declared.descriptors.DescKind.{DescKind}
use Rattle.mx_sdw.specs.declared.descriptors.DescKind.TheVariants.{Unknown, Gone, Segment}
use Rattle.mx_sdw.proofs.WordLaws.{view_back, value_back, writer_back, stamp_back}
use Rattle.mx_reads.specs.Held.{Held}
use Rattle.mx_core.specs.declared.words.DescriptorWord.{DescriptorWord}
use Rattle.mx_core.specs.declared.words.DescriptorWord.TheVariants.{Valid, Fault}
use Rattle.mx_rule.specs.Codes.{standing_view, view_of, word_by, word_code, word_said, cell_code, cell_said, IsCodable, IsPlain, IsWordCode}

standing_fits : (kind : DescKind) (number : ℕ) (desc : Descriptor) → desc.kind ≡ kind → number ≤ 262143
    → IsAdmissible desc → FitsWord (standing_view kind number desc)
standing_fits Unknown number desc is small admissible = small
standing_fits Gone number desc is small admissible = small
standing_fits Segment number desc is small admissible = (small, is, (admissible.segment is).range)

standing_said : (kind : DescKind) (number : ℕ) (desc : Descriptor) → desc.kind ≡ kind → IsAdmissible desc
    → word_by (standing_view kind number desc) ≡ Valid number desc
standing_said Unknown number desc is admissible = ap (λ (d : Descriptor). Valid number d) (sym (admissible.unknown is))
standing_said Gone number desc is admissible = ap (λ (d : Descriptor). Valid number d) (sym (admissible.gone is))
standing_said Segment number desc is admissible = refl

pub word_back : (word : DescriptorWord) → IsCodable word → word_said (word_code word) ≡ word
word_back (Valid number desc) is =
    ap word_by (view_back (standing_view desc.kind number desc) (standing_fits desc.kind number desc refl is.0 is.1))
    ∙ standing_said desc.kind number desc refl is.1
word_back (Fault number) is = ap word_by (view_back (view_of (Fault number)) is)

pub cell_back : (held : Held) → IsPlain held → cell_said (cell_code held) ≡ held
cell_back held is = λ i. record {
  value = value_back held.value held.writer held.stamp is.value i;
  writer = writer_back held.value held.writer held.stamp is.value is.writer is.stamp i;
  stamp = stamp_back held.value held.writer held.stamp is.value is.stamp i;
}

view_fits : (word : DescriptorWord) → IsCodable word → FitsWord (view_of word)
view_fits (Valid number desc) is = standing_fits desc.kind number desc refl is.0 is.1
view_fits (Fault number) is = is

pub code_is_word : (n : ℕ) → IsWordCode n → IsDescWord n
code_is_word n code =
    let back = view_back (view_of code.word) (view_fits code.word code.codable) in
    subst IsDescWord (sym code.is) (record {
      fits = subst FitsWord (sym back) (view_fits code.word code.codable);
      spelled = ap desc_word back;
    })

pub said_codable : (n : ℕ) → IsWordCode n → IsCodable (word_said n)
said_codable n code = subst IsCodable (sym (ap word_said code.is ∙ word_back code.word code.codable)) code.codable

-- a word of a segment has its fields in range
pub in_range : (n : ℕ) → bits n 62 2 ≡ 2 → FitsWord (desc_view n) → IsInRange (desc_in n)
in_range n is fits =
    let number : ℕ = bits n 0 18 in
    let set : FitsWord (view.Set number (desc_in n)) = subst (λ (k : ℕ). FitsWord (if nat_eq k 0 then view.Unknown number
    else if nat_eq k 1 then view.Fault number else if nat_eq k 2 then view.Set number (desc_in n) else view.Gone number)) is fits in
    set.2
