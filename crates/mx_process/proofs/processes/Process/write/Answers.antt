use Rattle.std.proofs.Common.{◌≡◌, ◌∙◌, None, Option, ap, refl, subst, sym}
use Rattle.std.specs.Option.{option_map}
use Rattle.mx_transcript.specs.Denials.{last_denial}
use Rattle.mx_process.proofs.AttemptLaws.{at_line, has_room, heeded_then, missed_process, numbers_behind}
use Rattle.mx_process.proofs.WrittenLaws.{behind_write, ends_by, no_logout, write_begins, written_done, written_more, written_process}
use Rattle.mx_process.specs.Processes.{IsProcess, ProcessValue}
use Rattle.mx_process.specs.Turns.{inside}
use Rattle.mx_process.specs.declared.misses.Miss.{Miss}
use Rattle.mx_process.proofs.processes.Process.write.Goals as goal

pub write-requires-clause-writing : goal.write-requires-clause-writing
write-requires-clause-writing g c =
    write_begins g.B.Sitting.session g.B.Sitting.setup g.B.Attending.accounts c.self.inside.script.now c.self.inside.cam _ _
    c.args.line.now c.self.view_is c.self.invariant c.requires.at c.requires.due c.requires.settled

pub tell_and_heed-self-inside-requires-clause-room : goal.tell_and_heed-self-inside-requires-clause-room
tell_and_heed-self-inside-requires-clause-room g c =
    has_room g.B.Sitting.session g.B.Sitting.setup g.B.Attending.accounts c.self.inside.script.now c.self.inside.cam _ _
    c.args.line.now c.self.view_is c.self.invariant c.requires.at

pub tell_and_heed-self-inside-requires-clause-left : goal.tell_and_heed-self-inside-requires-clause-left
tell_and_heed-self-inside-requires-clause-left g c =
    let ended = ends_by g.B.Sitting.session g.B.Sitting.setup c.args.line.now c.self.inside.state
    (inside c.write.new.state c.write.new.pass) c.in-Ended.ensures.wrote in
    behind_write g.B.Sitting.session g.B.Sitting.setup g.B.Attending.accounts c.self.inside.script.now c.self.inside.cam
    c.write.new.cam _ c.write.new.state c.write.new.pass c.args.line.now c.args.self.now c.self.view_is
    c.requires.at c.requires.settled _ c.self.invariant c.requires.due ended.steps

pub tell_and_heed-self-inside-requires-clause-numbers : goal.tell_and_heed-self-inside-requires-clause-numbers
tell_and_heed-self-inside-requires-clause-numbers g c =
    let ended = ends_by g.B.Sitting.session g.B.Sitting.setup c.args.line.now c.self.inside.state
    (inside c.write.new.state c.write.new.pass) c.in-Ended.ensures.wrote in
    numbers_behind g.B.Sitting.session g.B.Sitting.setup g.B.Attending.accounts c.self.inside.script.now c.self.inside.cam _ _
    c.args.line.now c.self.view_is c.self.invariant c.requires.at c.write.new.state ended.first

pub invariant_of-self-in-Ended : goal.invariant_of-self-in-Ended
invariant_of-self-in-Ended g c =
    let settled : c.self.inside.missing ≡ None = ap (λ (v : ProcessValue). v.missing) c.self.view_is ∙ c.requires.settled in
    let account = option_map g.A.Auditor.account c.tell_and_heed-self-inside.new.auditor in
    let there = at_line g.B.Sitting.session g.B.Sitting.setup g.B.Attending.accounts c.self.inside.script.now
    c.self.inside.cam _ _
    c.args.line.now c.self.view_is c.self.invariant c.requires.at in
    subst (λ (m : Option Miss). IsProcess g.B.Sitting.session g.B.Sitting.setup g.B.Attending.accounts
    c.tell_and_heed-self-inside.result.now
    c.write.new.cam
    (record { state = c.tell_and_heed-self-inside.new.state; missing = m; pass = c.write.new.pass; account = account }))
    (sym settled)
    (heeded_then g.B.Sitting.session g.B.Sitting.setup g.B.Attending.accounts c.self.inside.script.now c.self.inside.cam
    c.write.new.cam _ c.write.new.state c.write.new.pass c.args.line.now
    (last_denial c.write.new.state.recording.steps) account c.tell_and_heed-self-inside.new.state
    c.tell_and_heed-self-inside.result.now
    c.tell_and_heed-self-inside.ensures
    (record {
      is = c.self.invariant;
      same = c.write.ensures.same;
      outside = c.write.ensures.outside;
      untold = c.write.ensures.untold;
    }) there.0 there.1
    (no_logout g.B.Sitting.session g.B.Sitting.setup g.B.Attending.accounts c.self.inside.script.now c.self.inside.cam
    c.write.new.cam _ c.write.new.state c.write.new.pass c.args.line.now c.args.self.now c.self.view_is
    c.requires.at c.requires.settled c.self.invariant c.requires.due)
    (ends_by g.B.Sitting.session g.B.Sitting.setup c.args.line.now c.self.inside.state (inside c.write.new.state c.write.new.pass)
    c.in-Ended.ensures.wrote) refl)

pub invariant_of-self : goal.invariant_of-self
invariant_of-self g c =
    written_process g.B.Sitting.session g.B.Sitting.setup g.B.Attending.accounts c.self.inside.script.now c.self.inside.cam
    c.write.new.cam _ c.write.new.state c.write.new.pass c.args.line.now c.args.self.now c.self.view_is c.requires.at
    c.requires.settled
    (record {
      is = c.self.invariant;
      same = c.write.ensures.same;
      outside = c.write.ensures.outside;
      untold = c.write.ensures.untold;
    }) c.in-More.ensures.wrote

pub invariant_of-self-in-Missing : goal.invariant_of-self-in-Missing
invariant_of-self-in-Missing g c =
    let missed = c.in-Missing.ensures.wrote in
    let there = at_line g.B.Sitting.session g.B.Sitting.setup g.B.Attending.accounts c.self.inside.script.now
    c.self.inside.cam _ _
    c.args.line.now c.self.view_is c.self.invariant c.requires.at in
    missed_process g.B.Sitting.session g.B.Sitting.setup g.B.Attending.accounts c.self.inside.script.now c.self.inside.cam
    c.write.new.cam _ c.write.new.state c.write.new.pass c.args.line.now
    (record {
      is = c.self.invariant;
      same = c.write.ensures.same;
      outside = c.write.ensures.outside;
      untold = c.write.ensures.untold;
    }) c.in-Missing.miss there.0 there.1 missed.misses

pub returns-in-More-clause-more : goal.returns-in-More-clause-more
returns-in-More-clause-more g c is =
    written_more g.B.Sitting.session g.B.Sitting.setup g.B.Attending.accounts c.self.inside.script.now c.self.inside.cam
    c.write.new.cam _ c.write.new.state c.write.new.pass c.args.line.now c.args.self.now c.self.view_is c.requires.at
    c.requires.settled c.in-More.ensures.wrote c.write.ensures.untold

pub returns-in-Ended-clause-done : goal.returns-in-Ended-clause-done
returns-in-Ended-clause-done g c is =
    written_done g.B.Sitting.session g.B.Sitting.setup g.B.Attending.accounts c.self.inside.script.now c.self.inside.cam
    c.write.new.cam _ c.write.new.state c.write.new.pass c.args.line.now c.args.self.now c.self.view_is c.requires.at
    c.requires.settled (last_denial c.write.new.state.recording.steps)
    (option_map g.A.Auditor.account c.tell_and_heed-self-inside.new.auditor) c.tell_and_heed-self-inside.new.state
    c.tell_and_heed-self-inside.result.now c.in-Ended.ensures.wrote c.tell_and_heed-self-inside.ensures c.write.ensures.untold
