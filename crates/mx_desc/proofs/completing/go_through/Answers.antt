use Rattle.std.proofs.Common.{sym, ◌∙◌, rules}
use Rattle.mx_rule.specs.Seats.{pass_of}
use Rattle.mx_desc.proofs.Through.{stored_done, read_done}
use Rattle.mx_desc.proofs.completing.go_through.Goals as goal

pub returns-then-writes-clause-done : goal.returns-then-writes-clause-done
returns-then-writes-clause-done g c =
    stored_done c.args.on.now c.args.asked.now (pass_of c.args.seat.now.seat.me.0) _ c.requires.waits c.requires.held
    c.args.value (sym c.writes.ensures ∙ search rules) c.store_cell.ensures.view

pub returns-clause-done : goal.returns-clause-done
returns-clause-done g c =
    read_done c.args.on.now c.args.asked.now (pass_of c.args.seat.now.seat.me.0) _ c.requires.waits c.requires.held
    c.args.value c.load_cell-held.result c.value.result c.writer.result c.stamp.result
    (sym c.writes.ensures ∙ search rules) c.load_cell-held.ensures.view c.value.ensures c.writer.ensures.writer
    c.stamp.ensures.stamp
