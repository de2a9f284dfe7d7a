use Rattle.std.proofs.Common.{◌≡◌, ℕ, ◌<◌, ◌≤◌, List, sym, ap, ◌∙◌, subst, rules}
use Rattle.mx_core.specs.declared.changes.Change.{Change}
use Rattle.mx_desc.specs.Passes.{PassValue}
use Rattle.mx_rule.specs.Notes.{joined_view, noted_view}
use Rattle.mx_rule.specs.Shown.{office_of}
use Rattle.mx_rule.specs.declared.views.NoteView.{NoteView}
use Rattle.mx_rule.specs.declared.views.SuperView.{SuperView}
use Rattle.mx_office.specs.Announcing.{announced_view, came_view, coming}
use Rattle.mx_office.specs.Clearing.{AreBare, cleared_pages}
use Rattle.mx_office.specs.Revoking.{AreListed, MayStrikeAll, revoked_view}
use Rattle.mx_office.specs.Settling.{AreStruckLast, settled_views}
use Rattle.mx_office.proofs.Announces.{announced, listed, pending, strikes, struck_last}
use Rattle.mx_office.proofs.announcing.announce.Goals as goal

pub revoke-requires-clause-pending : goal.revoke-requires-clause-pending
revoke-requires-clause-pending g c =
    let e = coming c.args.pass.now.view.process c.args.changes.now c.args.given.now c.args.freed c.args.entry.now in
    let v = c.args.chief.now in
    let u = c.args.pass.now.view in
    let came : c.append.new.self ≡ came_view e v = search rules in
    subst (λ (x : SuperView g.row.E.Denot). x.answered < x.length) (sym came)
    (pending e v u c.requires.may c.length-length.ensures.answered)

pub revoke-requires-clause-may : goal.revoke-requires-clause-may
revoke-requires-clause-may g c =
    let e = coming c.args.pass.now.view.process c.args.changes.now c.args.given.now c.args.freed c.args.entry.now in
    let v = c.args.chief.now in
    let u = c.args.pass.now.view in
    let came : c.append.new.self ≡ came_view e v = search rules in
    let items : c.items.result.now ≡ c.args.changes.now = search rules in
    subst (λ (z : SuperView g.row.E.Denot × List Change). MayStrikeAll (office_of z.0) z.1)
    (λ i. (sym came i, sym items i)) (strikes e v u c.requires.may c.length-length.ensures.answered)

pub revoke-requires-clause-listed : goal.revoke-requires-clause-listed
revoke-requires-clause-listed g c =
    let e = coming c.args.pass.now.view.process c.args.changes.now c.args.given.now c.args.freed c.args.entry.now in
    let v = c.args.chief.now in
    let u = c.args.pass.now.view in
    let came : c.append.new.self ≡ came_view e v = search rules in
    let items : c.items.result.now ≡ c.args.changes.now = search rules in
    subst (λ (z : SuperView g.row.E.Denot × List Change). AreListed (office_of z.0) z.1)
    (λ i. (sym came i, sym items i)) (listed e v u c.requires.may c.length-length.ensures.answered)

pub clear_pages-requires-clause-bare : goal.clear_pages-requires-clause-bare
clear_pages-requires-clause-bare g c =
    let e = coming c.args.pass.now.view.process c.args.changes.now c.args.given.now c.args.freed c.args.entry.now in
    let v = c.args.chief.now in
    let came : c.append.new.self ≡ came_view e v = search rules in
    let items : c.items.result.now ≡ c.args.changes.now = search rules in
    let done : c.revoke.new.chief ≡ revoked_view e.changes (came_view e v) =
    c.revoke.ensures ∙ (λ i. revoked_view (items i) (came i)) in
    subst (λ (x : SuperView g.row.E.Denot). AreBare (office_of x) c.args.freed) (sym done) c.requires.may.bare

pub settle_own-requires-clause-may : goal.settle_own-requires-clause-may
settle_own-requires-clause-may g c =
    let e = coming c.args.pass.now.view.process c.args.changes.now c.args.given.now c.args.freed c.args.entry.now in
    let v = c.args.chief.now in
    let u = c.args.pass.now.view in
    let came : c.append.new.self ≡ came_view e v = search rules in
    let items : c.items.result.now ≡ c.args.changes.now = search rules in
    let again : c.items-2.result.now ≡ c.args.changes.now = search rules in
    let process : c.process-process.result ≡ u.process = c.process-process.ensures.value in
    let done : c.revoke.new.chief ≡ revoked_view e.changes (came_view e v) =
    c.revoke.ensures ∙ (λ i. revoked_view (items i) (came i)) in
    let cleared : c.clear_pages.new.chief ≡ cleared_pages e.freed (revoked_view e.changes (came_view e v)) =
    c.clear_pages.ensures ∙ ap (cleared_pages e.freed) done in
    subst (λ (z : SuperView g.row.E.Denot × (ℕ × List Change)). AreStruckLast g.B.Naming.layout z.0 z.1.0 z.1.1)
    (λ i. (sym cleared i, (sym process i, sym again i)))
    (struck_last e v u c.requires.may c.length-length.ensures.answered g.B.Naming.layout
    c.layout-layout.ensures.processes c.layout-layout.ensures.numbers)

pub returns-clause-told : goal.returns-clause-told
returns-clause-told g c =
    let e = coming c.args.pass.now.view.process c.args.changes.now c.args.given.now c.args.freed c.args.entry.now in
    let v = c.args.chief.now in
    let u = c.args.pass.now.view in
    let came : c.append.new.self ≡ came_view e v = search rules in
    let items : c.items.result.now ≡ c.args.changes.now = search rules in
    let again : c.items-2.result.now ≡ c.args.changes.now = search rules in
    let process : c.process-process.result ≡ u.process = c.process-process.ensures.value in
    let done : c.revoke.new.chief ≡ revoked_view e.changes (came_view e v) =
    c.revoke.ensures ∙ (λ i. revoked_view (items i) (came i)) in
    let cleared : c.clear_pages.new.chief ≡ cleared_pages e.freed (revoked_view e.changes (came_view e v)) =
    c.clear_pages.ensures ∙ ap (cleared_pages e.freed) done in
    let settled : c.settle_own.new.chief ≡ announced_view e v =
    c.settle_own.ensures ∙ (λ i. settled_views (process i) (again i) (cleared i)) in
    let note : c.split-note.result ≡ noted_view (announced_view e v) = c.split-note.ensures.note ∙ ap noted_view settled in
    let joined : c.join.new.self.view ≡ joined_view (noted_view (announced_view e v)) u =
    ap (λ (x : PassValue g.row.E.Denot). x.view) c.join.ensures.view
    ∙ ap (λ (n : NoteView g.row.E.Denot). joined_view n u) note in
    announced e v u c.requires.may c.length-length.ensures.answered c.join.new.self.view joined
    (subst (λ (n : NoteView g.row.E.Denot). u.floor ≤ n.floor → c.join.new.self.view.history ≡ n.history) note
    c.join.ensures.later) c.join.ensures.marks c.join.ensures.longer
