use Rattle.std.proofs.Common.{◌≡◌, ℕ, ◌+◌, List, length, ap, refl, sym, ◌∙◌, subst, rules}
use Rattle.mx_sdw.specs.Descriptors.{Descriptor}
use Rattle.mx_core.specs.Lists.{Lists}
use Rattle.mx_worlds.specs.Tables.{desc_in}
use Rattle.mx_core.specs.declared.words.DescriptorWord.{DescriptorWord}
use Rattle.mx_core.specs.declared.words.DescriptorWord.TheVariants.{Valid}
use Rattle.mx_core.proofs.Lists.{value_added}
use Rattle.mx_worlds.proofs.TableLaws.{desc_here}
use Rattle.mx_worlds.proofs.rows.words_of.Goals as goal

pub loop-desc-preserved : goal.loop-desc-preserved
loop-desc-preserved c =
    let row = c.args.row.now in
    let words = c.loop-desc.words in
    let at = desc_here row row c.loop-desc.desc-index c.desc-item.result refl (search rules) c.desc-item.is in
    let count : c.loop-desc.desc-index ≡ length words.items = search rules in (
      c.in_ok-extend_from_slice.ensures.len ∙ ap (λ (k : ℕ). k + 1) c.loop-desc.invariant.0,
      subst (λ (l : List DescriptorWord). Lists l (λ n. Valid c.args.start (desc_in row n)))
          (sym c.in_ok-extend_from_slice.ensures.items)
          (value_added words.items (λ n. Valid c.args.start (desc_in row n)) (Valid c.args.start c.desc-item.result)
          c.loop-desc.invariant.1
          (ap (λ (d : Descriptor). Valid c.args.start d) (sym at ∙ ap (desc_in row) count))),
    )
