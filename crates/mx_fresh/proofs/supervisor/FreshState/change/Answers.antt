use Rattle.std.proofs.Common.{◌≡◌, IfOk, OnErr, subst, ap, ◌∙◌}
use Rattle.std.proofs.lemmas.Result.{on_err_weaker}
use Rattle.mx_hier.specs.Branches.{Hierarchy}
use Rattle.mx_hier.specs.Who.{caller}
use Rattle.mx_state.specs.Askers.{on_path}
use Rattle.mx_state.specs.Plain.{Plain, answer}
use Rattle.mx_state.specs.Requests.{changed}
use Rattle.mx_fresh.specs.Meant.{meant_by}
use Rattle.mx_fresh.specs.Runs.{TellsRuns}
use Rattle.mx_fresh.specs.Told.{IsResolved}
use Rattle.mx_fresh.proofs.AnswerLaws.{served, served_runs, unserved}
use Rattle.mx_fresh.proofs.ToldLaws.{told_of}
use Rattle.mx_fresh.proofs.supervisor.FreshState.change.Goals as goal

pub returns-clause-answer : goal.returns-clause-answer
returns-clause-answer c =
    let s = c.self.inside in
    let old : Plain = record { version = s.version; hierarchy = s.hierarchy; processes = s.processes.items; mail = s.mail.items } in
    let new : Plain = record { version = s.version; hierarchy = c.change-did.new.hierarchy; processes = s.processes.items; mail = s.mail.items } in
    subst (λ (t : Plain). IfOk c.done.result (λ given.
    on_path t c.args.p c.args.ring (λ who. changed t (meant_by t.hierarchy who c.args.request.now)) ≡ answer given.reply new)) c.self.view_is
    (served old c.args.p c.args.ring (caller c.caller-who.result) (λ who. meant_by s.hierarchy who c.args.request.now) c.change-did.new.hierarchy
    c.change-did.result c.done.result (rw c.as_slice.ensures.value at c.caller-who.ensures) c.change-did.ensures.answer c.done.ensures)

pub returns-clause-runs : goal.returns-clause-runs
returns-clause-runs c =
    let s = c.self.inside in
    let old : Plain = record { version = s.version; hierarchy = s.hierarchy; processes = s.processes.items; mail = s.mail.items } in
    let new : Plain = record { version = s.version; hierarchy = c.change-did.new.hierarchy; processes = s.processes.items; mail = s.mail.items } in
    subst (λ (t : Plain). IfOk c.done.result (TellsRuns t new)) c.self.view_is
    (served_runs old (meant_by s.hierarchy (caller c.caller-who.result) c.args.request.now) c.change-did.new.hierarchy
    c.change-did.result c.done.result c.change-did.ensures.answer c.change-did.ensures.runs c.done.ensures)

pub returns-clause-err : goal.returns-clause-err
returns-clause-err c =
    let s = c.self.inside in
    on_err_weaker c.done.result
    (λ e. ap (λ (h : Hierarchy). record { version = s.version; hierarchy = h; processes = s.processes.items; mail = s.mail.items }) e ∙ c.self.view_is)
    (unserved (meant_by s.hierarchy (caller c.caller-who.result) c.args.request.now) s.hierarchy c.change-did.new.hierarchy c.change-did.result c.done.result
    c.change-did.ensures.answer c.done.ensures)

pub returns-clause-told : goal.returns-clause-told
returns-clause-told c =
    let s = c.self.inside in
    let old : Plain = record { version = s.version; hierarchy = s.hierarchy; processes = s.processes.items; mail = s.mail.items } in
    subst (λ (t : Plain). OnErr c.done.result (IsResolved t c.args.p c.args.ring c.args.request.now)) c.self.view_is
    (told_of old c.args.p c.args.ring (caller c.caller-who.result) c.args.request.now c.change-did.result c.done.result
    (rw c.as_slice.ensures.value at c.caller-who.ensures) c.change-did.ensures.told c.done.ensures)
