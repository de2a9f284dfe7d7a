use Rattle.std.proofs.Common.{◌≡◌, ◌∙◌, None, Option, ap, refl, subst, sym}
use Rattle.std.specs.Option.{option_map}
use Rattle.mx_request.specs.declared.requests.Request.TheVariants.{Logout}
use Rattle.mx_transcript.specs.Denials.{last_denial}
use Rattle.mx_process.proofs.AttemptLaws.{at_line, attempt_begins, has_room, heeded_then, is_linked, left_behind, link_told, linking_process, numbers_behind}
use Rattle.mx_process.specs.Attempts.{IsAtLinkIn}
use Rattle.mx_process.specs.Processes.{IsProcess, ProcessValue}
use Rattle.mx_process.specs.declared.misses.Miss.{Miss}
use Rattle.mx_process.proofs.processes.Process.attempt.Goals as goal

pub attempt-requires-clause-attempting : goal.attempt-requires-clause-attempting
attempt-requires-clause-attempting g c =
    attempt_begins g.B.Sitting.session g.B.Sitting.setup g.B.Attending.accounts c.self.inside.script.now c.self.inside.cam _ _
    c.args.line.now c.self.view_is c.self.invariant c.requires.at c.requires.other c.requires.free c.requires.settled

pub tell_and_heed-self-inside-requires-clause-room : goal.tell_and_heed-self-inside-requires-clause-room
tell_and_heed-self-inside-requires-clause-room g c =
    has_room g.B.Sitting.session g.B.Sitting.setup g.B.Attending.accounts c.self.inside.script.now c.self.inside.cam _ _
    c.args.line.now c.self.view_is c.self.invariant c.requires.at

pub tell_and_heed-self-inside-requires-clause-left : goal.tell_and_heed-self-inside-requires-clause-left
tell_and_heed-self-inside-requires-clause-left g c =
    left_behind g.B.Sitting.session g.B.Sitting.setup g.B.Attending.accounts c.self.inside.script.now c.self.inside.cam _ _
    c.args.line.now c.self.view_is c.self.invariant c.requires.at c.attempt.new.state c.attempt.new.pass c.requires.other
    c.in-Done.ensures.came

pub tell_and_heed-self-inside-requires-clause-numbers : goal.tell_and_heed-self-inside-requires-clause-numbers
tell_and_heed-self-inside-requires-clause-numbers g c =
    let ended = c.in-Done.ensures.came in
    numbers_behind g.B.Sitting.session g.B.Sitting.setup g.B.Attending.accounts c.self.inside.script.now c.self.inside.cam _ _
    c.args.line.now c.self.view_is c.self.invariant c.requires.at c.attempt.new.state ended.first

pub invariant_of-self : goal.invariant_of-self
invariant_of-self g c =
    let settled : c.self.inside.missing ≡ None = ap (λ (v : ProcessValue). v.missing) c.self.view_is ∙ c.requires.settled in
    let account = option_map g.A.Auditor.account c.tell_and_heed-self-inside.new.auditor in
    let there = at_line g.B.Sitting.session g.B.Sitting.setup g.B.Attending.accounts c.self.inside.script.now c.self.inside.cam _ _
    c.args.line.now c.self.view_is c.self.invariant c.requires.at in
    subst (λ (m : Option Miss). IsProcess g.B.Sitting.session g.B.Sitting.setup g.B.Attending.accounts c.tell_and_heed-self-inside.result.now
    c.attempt.new.cam
    (record { state = c.tell_and_heed-self-inside.new.state; missing = m; pass = c.attempt.new.pass; account = account }))
    (sym settled)
    (heeded_then g.B.Sitting.session g.B.Sitting.setup g.B.Attending.accounts c.self.inside.script.now c.self.inside.cam
    c.attempt.new.cam _ c.attempt.new.state c.attempt.new.pass c.args.line.now
    (last_denial c.attempt.new.state.recording.steps) account c.tell_and_heed-self-inside.new.state c.tell_and_heed-self-inside.result.now
    c.tell_and_heed-self-inside.ensures
    (record {
      is = c.self.invariant;
      same = c.attempt.ensures.same;
      outside = c.attempt.ensures.outside;
      untold = c.attempt.ensures.untold;
    }) there.0 there.1 (c.requires.other Logout) c.in-Done.ensures.came refl)

pub invariant_of-self-in-Link : goal.invariant_of-self-in-Link
invariant_of-self-in-Link g c =
    let settled : c.self.inside.missing ≡ None = ap (λ (v : ProcessValue). v.missing) c.self.view_is ∙ c.requires.settled in
    let account = option_map g.A.Auditor.account c.self.inside.auditor in
    let there = at_line g.B.Sitting.session g.B.Sitting.setup g.B.Attending.accounts c.self.inside.script.now c.self.inside.cam _ _
    c.args.line.now c.self.view_is c.self.invariant c.requires.at in
    subst (λ (m : Option Miss). IsProcess g.B.Sitting.session g.B.Sitting.setup g.B.Attending.accounts c.self.inside.script.now
    c.attempt.new.cam (record { state = c.attempt.new.state; missing = m; pass = c.attempt.new.pass; account = account })) (sym settled)
    (linking_process g.B.Sitting.session g.B.Sitting.setup g.B.Attending.accounts c.self.inside.script.now c.self.inside.cam
    c.attempt.new.cam _ c.attempt.new.state c.attempt.new.pass c.args.line.now
    (record {
      is = c.self.invariant;
      same = c.attempt.ensures.same;
      outside = c.attempt.ensures.outside;
      untold = c.attempt.ensures.untold;
    }) _ there.0 there.1 c.in-Link.ensures.came)

pub returns-in-Link-clause-link : goal.returns-in-Link-clause-link
returns-in-Link-clause-link g c segno word ring is =
    link_told (λ s w r. IsAtLinkIn g.B.Sitting.session s w r c.args.self.now (record {
      state = c.attempt.new.state;
      missing = c.self.inside.missing;
      pass = c.attempt.new.pass;
      account = option_map g.A.Auditor.account c.self.inside.auditor;
    })) c.in-Link.segno segno c.in-Link.word word c.in-Link.ring ring is
    (is_linked g.B.Sitting.session g.B.Sitting.setup g.B.Attending.accounts c.self.inside.script.now c.self.inside.cam
    c.attempt.new.cam _ c.attempt.new.state c.attempt.new.pass c.args.line.now c.args.self.now c.self.view_is c.in-Link.segno
    c.in-Link.word c.in-Link.ring c.requires.at c.requires.settled c.in-Link.ensures.came c.attempt.ensures.untold)
