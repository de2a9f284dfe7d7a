use Rattle.std.proofs.Common.{◌≡◌, ℕ, ◌*◌, ◌+◌, false, refl, ap, ◌∙◌, rules}
use Rattle.std.specs.Prelude.{nat_le, nat_lt, ◌==◌, ◌&&◌, not, slice_set}
use Rattle.mx_core.specs.Pages.{page_of}
use Rattle.mx_core.specs.Put.{put}
use Rattle.mx_worlds.proofs.Marks.{lists_as, page_put, page_done}
use Rattle.mx_worlds.proofs.Seating.{lists_set}
use Rattle.mx_worlds.proofs.marking.soil_page.Goals as goal

pub loop-cell-preserved : goal.loop-cell-preserved
loop-cell-preserved c = (
  λ f has.
      let low = 64 * c.args.page in
      lists_as (slice_set c.loop-cell.clean.items c.loop-cell.cell false)
      (put (λ n. f n && not (nat_le low n && nat_lt n c.loop-cell.cell)) c.loop-cell.cell false)
      (λ n. f n && not (nat_le low n && nat_lt n (c.loop-cell.cell + 1)))
      (lists_set c.loop-cell.clean.items (λ n. f n && not (nat_le low n && nat_lt n c.loop-cell.cell)) c.loop-cell.cell
      false (c.loop-cell.invariant.0 f has))
      (λ n under. page_put f low c.loop-cell.cell n (search rules)),
  c.loop-cell.invariant.1,
)

pub returns-clause-shown : goal.returns-clause-shown
returns-clause-shown c f has =
    let low = 64 * c.args.page in
    lists_as c.loop-cell.clean.items (λ n. f n && not (nat_le low n && nat_lt n c.loop-cell.cell))
    (λ n. f n && not (page_of n == c.args.page)) (c.loop-cell.invariant.0 f has)
    (λ n under.
    let e : c.loop-cell.cell ≡ low + 64 = search rules in
    ap (λ (k : ℕ). f n && not (nat_le low n && nat_lt n k)) e
    ∙ page_done (f n) c.args.page low n refl)
