use Rattle.std.proofs.Common.{◌≡◌, ◌&&◌, not, false, is_none, length, ap, sym, ◌∙◌, rules}
use Rattle.mx_stores.specs.Least.{is_by}
use Rattle.mx_stores.specs.Sighted.{latest}
use Rattle.mx_stores.specs.Since.{first}
use Rattle.mx_stores.proofs.Noting.{kept_none}
use Rattle.mx_stores.proofs.reader.is_unknown.Goals as goal

pub returns-else-is_none : goal.returns-else-is_none
returns-else-is_none c = λ done source p here cell rows are fits at.
    let kept = kept_none c.args.rows.now.tables.items p cell (latest done source p cell here) c.latest.result
    (c.latest.ensures done source c.args.rows.now.tables.items c.args.rows.now.groups.items c.args.rows.now.cells.numbers.items
    p here cell are fits at) in
    let some : is_none c.latest.result ≡ false = search rules in
    c.if-is_none.false
    ∙ sym (ap (λ b. b && not (is_by (first done (length c.args.rows.now.tables.items) cell) c.args.point)) (kept ∙ some))
