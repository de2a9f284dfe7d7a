use Rattle.std.proofs.Common.{List, ap, ◌∙◌, rules}
use Rattle.std.specs.Prelude.{replicate}
use Rattle.mx_sdw.specs.Descriptors.{Descriptor}
use Rattle.mx_worlds.specs.Tables.{desc_in}
use Rattle.mx_worlds.proofs.TableLaws.{unknown_row}
use Rattle.mx_worlds.proofs.tables.Row.unknown.Goals as goal

pub returns : goal.returns
returns c = (
  search rules,
  λ n.
      let e = c.in_ok-descs.ensures.items_if_clones_equal (λ y e. e)
      ∙ ap (λ (d : Descriptor). replicate c.from.result d) c.unknown.ensures in
      ap (λ (row : List Descriptor). desc_in row n) e ∙ unknown_row c.from.result n,
)
