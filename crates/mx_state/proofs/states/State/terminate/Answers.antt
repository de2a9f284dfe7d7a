use Rattle.std.proofs.Common.{◌-◌, refl, arith}
use Rattle.mx_kst.specs.Terminating as kst
use Rattle.mx_request.specs.declared.requests.Request.TheVariants as ask
use Rattle.mx_state.specs.declared.states.ProcessState.{ProcessState}
use Rattle.mx_state.specs.Knowing.{terminate}
use Rattle.mx_state.specs.Plain.{Answer}
use Rattle.mx_state.specs.Sections.{section_page}
use Rattle.mx_state.proofs.AnswerLaws.{plain_state, of_old}
use Rattle.mx_state.proofs.FreedLaws.{page_apart}
use Rattle.mx_state.proofs.KnowingLaws.{ended_holds, ended_serves}
use Rattle.mx_state.proofs.states.State.terminate.Goals as goal

pub release_page-freed-requires : goal.release_page-freed-requires
release_page-freed-requires c =
    let s = c.self.inside in
    let place = rw c.as_slice.ensures.value at c.process_in-process.ensures in
    page_apart (plain_state s.version s.hier s.mail s.processes.items) (c.from-i.result - 1) c.process_in-process.result.now c.args.segno c.section_page-page.result
    c.self.invariant.sound c.self.invariant.held_once place c.section_page-page.ensures

pub invariant_of-self : goal.invariant_of-self
invariant_of-self c =
    let s = c.self.inside in
    let process = c.process_in-process.result.now in
    let place = rw c.as_slice.ensures.value at c.process_in-process.ensures in
    let forgotten = c.forget.ensures.forgotten process place in
    ended_holds s.version s.hier c.release_page-freed.new.hier s.mail s.processes.items c.forget.new.processes.items (c.from-i.result - 1) process c.args.segno
    c.section_page-page.result forgotten.0 s.initializer s.root c.self.invariant place forgotten.1 forgotten.2 c.section_page-page.ensures c.release_page-freed.ensures.after

pub returns-clause-served : goal.returns-clause-served
returns-clause-served c =
    let s = c.self.inside in
    let old = plain_state s.version s.hier s.mail s.processes.items in
    let process = c.process_in-process.result.now in
    let place = rw c.as_slice.ensures.value at c.process_in-process.ensures in
    let forgotten = c.forget.ensures.forgotten process place in
    let asks : ProcessState → Answer = λ process.
    terminate old c.args.p process (section_page process.known c.args.segno) (kst.terminate process.known c.args.segno) in
    of_old s.version s.hier s.mail s.processes.items _ _ c.args.p c.args.ring (ask.Terminate c.args.segno) _ c.self.view_is
    (ended_serves s.version s.hier c.release_page-freed.new.hier s.mail s.processes.items c.forget.new.processes.items c.args.p (c.from-i.result - 1) process c.args.segno
    c.section_page-page.result forgotten.0 c.in_ok-held.held.items c.renewed-changes.result c.release_page-freed.result asks c.self.invariant.sound
    (page_apart old (c.from-i.result - 1) process c.args.segno c.section_page-page.result c.self.invariant.sound c.self.invariant.held_once place c.section_page-page.ensures)
    c.requires.some (omega (arith, c.from-i.ensures)) place refl
    forgotten.1 forgotten.2 c.section_page-page.ensures c.release_page-freed.ensures.after c.release_page-freed.ensures.run (rw c.as_slice-2.ensures.value at c.in_ok-held.ensures)
    (rw c.as_slice-3.ensures.value at c.renewed-changes.ensures.value) c.renewed-changes.ensures.admissible)
