use Rattle.std.proofs.Common.{ap, ◌∙◌}
use Rattle.mx_desc.specs.Passes.{PassValue}
use Rattle.mx_rule.specs.Notes.{joined_view}
use Rattle.mx_state.specs.declared.journal.Entry as journaled
use Rattle.mx_office.proofs.Serves.{grown_by}
use Rattle.mx_office.proofs.serving.tell.Goals as goal

pub returns-clause-grown : goal.returns-clause-grown
returns-clause-grown g c =
    let n = c.split-note.result in
    grown_by c.args.pass.now c.join.new.self n (c.join.ensures.view
    ∙ ap (λ (z : PassValue journaled.Entry). record z { view = joined_view n z.view }) c.report.ensures.pass)
    c.join.ensures.longer
