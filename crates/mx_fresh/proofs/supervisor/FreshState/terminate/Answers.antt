use Rattle.std.proofs.Common.{Option, option_and_then, subst, ◌∙◌}
use Rattle.mx_pages.specs.declared.pages.PageRun.{PageRun}
use Rattle.mx_request.specs.declared.replies.Reply.TheVariants.{Done}
use Rattle.mx_state.specs.Plain.{Plain}
use Rattle.mx_fresh.specs.Runs.{TellsRuns, page_freed}
use Rattle.mx_fresh.specs.Said.{freeing}
use Rattle.mx_fresh.proofs.RunLaws.{back_runs}
use Rattle.mx_fresh.proofs.supervisor.FreshState.terminate.Goals as goal

pub returns-in_ok-pages-in-Some-clause-runs : goal.returns-in_ok-pages-in-Some-clause-runs
returns-in_ok-pages-in-Some-clause-runs c =
    let s = c.self.inside in
    let old : Plain = record { version = s.version; hierarchy = s.hierarchy; processes = s.processes.items; mail = s.mail.items } in
    let new : Plain = record { version = s.version; hierarchy = c.put_pages.new.hierarchy; processes = c.learn.new.processes.items; mail = s.mail.items } in
    let freed : Option PageRun = option_and_then (page_freed s.hierarchy.pages) c.section_page-page.result in
    rw (c.freeing.ensures, c.page_freed-freed.ensures) (subst (λ (t : Plain). TellsRuns t new (freeing Done freed)) c.self.view_is
    (back_runs old new c.section_page-page.result Done (c.put_pages.ensures ∙ c.in_ok-pages-in-Some.ensures)))
