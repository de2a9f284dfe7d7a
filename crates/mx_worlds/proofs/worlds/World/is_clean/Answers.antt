use Rattle.std.proofs.Common.{ℕ, ◌*◌, ◌≤◌, sym, ◌∙◌, rules}
use Rattle.std.specs.Prelude.{IsTrue}
use Rattle.std.proofs.lemmas.Bool.{both_ways}
use Rattle.mx_worlds.proofs.Searching.{one_more}
use Rattle.mx_worlds.proofs.Seating.{value_is}
use Rattle.mx_worlds.proofs.worlds.World.is_clean.Goals as goal

pub returns-then-not-index : goal.returns-then-not-index
returns-then-not-index c w shows = λ all.
    let e = value_is c.args.self.now.clean.items w.clean c.loop-cell.cell c.index.result.now
    shows.parts.memory.clean_cells (search rules) c.index.ensures in
    both_ways (w.clean c.loop-cell.cell) (sym e ∙ search rules) (all c.loop-cell.cell (search rules))

pub loop-cell-preserved : goal.loop-cell-preserved
loop-cell-preserved c w shows cell from under =
    one_more (λ (k : ℕ). 64 * c.args.page ≤ k → IsTrue (w.clean k)) c.loop-cell.cell
    (λ k l from. c.loop-cell.invariant w shows k from l)
    (λ from. sym (value_is c.args.self.now.clean.items w.clean c.loop-cell.cell c.index.result.now
    shows.parts.memory.clean_cells (search rules) c.index.ensures) ∙ search rules) cell under from

pub returns : goal.returns
returns c w shows cell at = c.loop-cell.invariant w shows cell (search rules) (search rules)
