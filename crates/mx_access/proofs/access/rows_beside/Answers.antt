use Rattle.std.proofs.Common.{◌∙◌, sym, arith}
use Rattle.mx_access.proofs.AllRowLaws.{all_made}
use Rattle.mx_access.proofs.access.rows_beside.Goals as goal

pub map_indices-requires-after_bounds : goal.map_indices-requires-after_bounds
map_indices-requires-after_bounds g c κs within = λ p below. (
  omega (arith, below, c.beside_of-beside.ensures),
  (c.requires.told, c.requires.admissible),
)

pub add_rows-requires-clause-rows : goal.add_rows-requires-clause-rows
add_rows-requires-clause-rows g c =
    all_made c.args.session.now c.args.entries.now c.args.transcripts.now c.in_ok-rows.rows.items c.beside_of-beside.result
    (sym c.in_ok-rows.rows.ok.0 ∙ c.in_ok-rows.ensures.len) (λ p d below. (c.in_ok-rows.ensures.each p d below).1.met)
