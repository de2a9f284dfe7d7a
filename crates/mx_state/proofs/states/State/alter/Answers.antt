use Rattle.mx_hier.specs.Walks.{resolved}
use Rattle.mx_state.specs.Plain.{Plain}
use Rattle.std.proofs.Common.{None, OnErr, subst, ◌≡◌}
use Rattle.mx_state.specs.Askers.{asker}
use Rattle.mx_state.specs.AtOnce.{pathless}
use Rattle.mx_state.proofs.AtOnceLaws.{entry_path, on_err, told_path, with_path}
use Rattle.mx_hier.specs.Rules.{onward}
use Rattle.mx_hier.specs.Walks.{entry}
use Rattle.mx_hier.specs.Who.{caller, subject}
use Rattle.mx_state.specs.Changing.{altered_at, alteration}
use Rattle.mx_state.proofs.AnswerLaws.{after_call, call_is_sound, of_old_by, found, loud_serves}
use Rattle.mx_state.proofs.ChangingLaws.{altered_leaves}
use Rattle.mx_state.proofs.GivenLaws.{altered_frees, pages_freed}
use Rattle.mx_state.proofs.RenewingLaws.{renewed_are}
use Rattle.mx_state.proofs.SegmentLaws.{Only}
use Rattle.mx_state.proofs.states.State.alter.Goals as goal

pub invariant_of-self-2 : goal.invariant_of-self-2
invariant_of-self-2 c =
    let s = c.self.inside in
    let who = subject c.caller-who.result in
    call_is_sound s.version (Only c.in-Ok.uid) (altered_at s.hier who c.in-Ok.uid c.args.request.now) s.hier c.alter-given.new.hier s.mail s.processes.items s.initializer s.root
    c.alter-given.result c.alter-given.ensures.answer (altered_leaves s.hier who c.in-Ok.uid c.args.request.now) c.self.invariant

pub returns-clause-served : goal.returns-clause-served
returns-clause-served c =
    let s = c.self.inside in
    let who = caller c.caller-who.result in
    let uid = c.in-Ok.uid in
    let request = c.args.request.now in
    let meant = altered_at s.hier who.subject uid request in
    let before = after_call (Only uid) meant s.hier c.alter-given.new.hier c.alter-given.result c.alter-given.ensures.answer
    (altered_leaves s.hier who.subject uid request) in
    of_old_by s.version (λ s. alteration s c.args.p c.args.ring c.args.path.now c.args.follow request) s.hier s.mail s.processes.items _ _ _ c.self.view_is
    (loud_serves s.version (λ who. onward (entry s.hier who c.args.path.now c.args.follow) (λ uid. altered_at s.hier who.subject uid request))
    meant s.hier c.alter-given.new.hier s.mail s.processes.items c.args.p c.args.ring who
    c.alter-given.result c.in_ok-reply.reply c.renewed-changes.result c.unless_refused-freed.result (rw c.as_slice-processes.ensures.value at c.caller-who.ensures)
    (found (entry s.hier who c.args.path.now c.args.follow) (λ uid. altered_at s.hier who.subject uid request) uid c.in-Ok.ensures.answer)
    c.alter-given.ensures.answer c.in_ok-reply.ensures
    (rw (c.unless_refused-freed.ensures, c.freed_by-pages.ensures.value)
    (pages_freed meant s.hier c.alter-given.new.hier c.alter-given.result _ c.alter-given.ensures.answer
    (altered_frees s.hier who.subject uid request (rw c.freed_by-pages.ensures.value at c.freed_by-pages.ensures.taken))))
    c.self.invariant.sound
    (renewed_are s.version s.hier c.alter-given.new.hier s.mail s.processes.items uid c.in_ok-held.held.items c.renewed-changes.result c.self.invariant.sound before
    (rw c.as_slice-processes.ensures.value at c.in_ok-held.ensures)
    (rw c.as_slice-processes.ensures.value at c.renewed-changes.ensures.value))
    c.renewed-changes.ensures.admissible)

pub returns-in-Err-clause-told : goal.returns-in-Err-clause-told
returns-in-Err-clause-told c =
    let s = c.self.inside in
    let who = caller c.caller-who.result in
    subst (λ (t : Plain). OnErr c.refused.result (pathless (asker t.processes c.args.p) c.args.ring c.args.path.now ≡ None)) c.self.view_is
    (told_path _ (resolved who c.args.path.now) c.in-Err.error c.refused.result
    (with_path (asker s.processes.items c.args.p) c.args.ring who c.args.path.now (rw c.as_slice-processes.ensures.value at c.caller-who.ensures))
    c.in-Err.ensures.told c.refused.ensures)

pub returns-in_err-held-clause-told : goal.returns-in_err-held-clause-told
returns-in_err-held-clause-told c =
    let s = c.self.inside in
    let who = caller c.caller-who.result in
    on_err _ (subst (λ (t : Plain). pathless (asker t.processes c.args.p) c.args.ring c.args.path.now ≡ None) c.self.view_is
    (with_path (asker s.processes.items c.args.p) c.args.ring who c.args.path.now (rw c.as_slice-processes.ensures.value at c.caller-who.ensures)
    (entry_path s.hier who c.args.path.now c.args.follow c.in-Ok.uid c.in-Ok.ensures.answer)))

pub returns-in_err-reply-clause-told : goal.returns-in_err-reply-clause-told
returns-in_err-reply-clause-told c =
    let s = c.self.inside in
    let who = caller c.caller-who.result in
    on_err _ (subst (λ (t : Plain). pathless (asker t.processes c.args.p) c.args.ring c.args.path.now ≡ None) c.self.view_is
    (with_path (asker s.processes.items c.args.p) c.args.ring who c.args.path.now (rw c.as_slice-processes.ensures.value at c.caller-who.ensures)
    (entry_path s.hier who c.args.path.now c.args.follow c.in-Ok.uid c.in-Ok.ensures.answer)))
