use Rattle.std.proofs.Common.{◌≡◌, ℕ, ap, sym, subst}
use Rattle.mx_sdw.specs.DescriptorWords.{desc_word, desc_view, FitsWord, IsDescWord}
use Rattle.mx_sdw.specs.declared.descriptor_words.DescView.{DescView}
use Rattle.mx_sdw.proofs.WordLaws.{view_back}
use Rattle.mx_sdw.proofs.descriptor_words.DescWord.of.Goals as goal

is_word : (view : DescView) (n : ℕ) → n ≡ desc_word view → FitsWord view → IsDescWord n
is_word view n e fits =
    let back : desc_view (desc_word view) ≡ view = view_back view fits in
    subst IsDescWord (sym e) (record { fits = subst FitsWord (sym back) fits; spelled = ap desc_word back })

pub invariant_of-result : goal.invariant_of-result
invariant_of-result c = is_word c.args.view.now c.word_of.result c.word_of.ensures c.requires
