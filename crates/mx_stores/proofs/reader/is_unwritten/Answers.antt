use Rattle.std.proofs.Common.{◌≡◌, ◌<◌, ℕ, length, ap, sym, subst, ◌∙◌, rules}
use Rattle.mx_reads.specs.Deeds.{CellUse}
use Rattle.mx_stores.specs.Cells.{IsAbsent}
use Rattle.mx_stores.specs.Tables.{number_of}
use Rattle.mx_stores.proofs.Unstored.{never_first, unwritten_there}
use Rattle.mx_stores.proofs.reader.is_unwritten.Goals as goal

pub returns-in-None : goal.returns-in-None
returns-in-None c = λ done source rows below are.
    let cell : c.read.inside.cell ≡ c.args.read.now.cell = search rules in
    let value : c.read.inside.value ≡ c.args.read.now.value = search rules in
    let stamp : c.read.inside.stamp ≡ c.args.read.now.stamp = search rules in
    let fits : c.args.read.now.cell.since < 4294967296 =
    subst (λ (x : CellUse). x.since < 4294967296) cell c.number.ensures.fits in
    let absent : IsAbsent c.args.rows.now.cells.numbers.items (number_of c.args.read.now.cell) =
    subst (λ (n : ℕ). IsAbsent c.args.rows.now.cells.numbers.items n)
    (c.number.ensures.number ∙ ap (λ (x : CellUse). number_of x) cell) (c.in-None.ensures rows.cells.rising) in
    unwritten_there done (length c.args.rows.now.tables.items) source c.args.read.now (sym value ∙ c.if-read-eq0.true)
    (sym stamp ∙ c.if-read-eq0-2.true) (are.absent c.args.read.now.cell fits absent)
    (never_first done c.args.rows.now.tables.items c.args.rows.now.cells.numbers.items c.args.read.now.cell rows.tables rows.cells
    below absent)
