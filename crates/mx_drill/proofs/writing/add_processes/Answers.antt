use Rattle.std.proofs.Common.{◌++◌, map, ap, ◌∙◌}
use Rattle.mx_drill.proofs.WritingLaws.{process_more}
use Rattle.mx_drill.specs.Writing.{rows_text}
use Rattle.mx_script.specs.declared.rows.Row.TheVariants.{Line as LineRow}
use Rattle.mx_drill.proofs.writing.add_processes.Goals as goal

pub loop-i-preserved : goal.loop-i-preserved
loop-i-preserved c =
    process_more c.args.entrants.now c.args.scripts.now c.loop-i.i c.index-entrants-i.result c.index-scripts-i.result _ c.loop-i.out.items
    c.add_process.new.out.items _ c.loop-i-test.true c.requires c.index-entrants-i.is c.index-scripts-i.is c.loop-i.invariant
    c.in_ok-add_process.ensures
    (c.in_ok-add_script.ensures ∙ ap (λ lines. c.add_process.new.out.items ++ rows_text (map LineRow lines)) c.items.ensures)
