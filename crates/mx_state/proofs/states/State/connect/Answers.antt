use Rattle.std.proofs.Common.{◌≡◌, ◌<◌, ◌-◌, ◌+◌, Some, Err, refl, ap, sym, ◌∙◌, subst, arith}
use Rattle.std.specs.Option.{option_copied}
use Rattle.mx_kst.specs.Initiating.{Initiated}
use Rattle.mx_state.specs.Connecting.{connect}
use Rattle.mx_state.specs.Plain.{Plain, process_at}
use Rattle.mx_state.specs.declared.states.ProcessState.{ProcessState}
use Rattle.mx_state.proofs.ConnectingLaws.{connect_refused}
use Rattle.mx_state.proofs.KnowingLaws.{connected_as, known_holds, known_next, same_process}
use Rattle.mx_state.proofs.states.State.connect.Goals as goal

pub returns-in-Err-clause-connected : goal.returns-in-Err-clause-connected
returns-in-Err-clause-connected c = λ process e.
    let s = c.self.inside in
    let own = c.process_in-process.result.now in
    let text = option_copied c.args.name in
    let place = rw c.as_slice.ensures.value at c.process_in-process.ensures in
    let there : process_at s.processes.items c.args.p ≡ Some process = ap (λ (t : Plain). process_at t.processes c.args.p) c.self.view_is ∙ e in
    let same : process ≡ own = same_process s.processes.items c.args.p (c.from-i.result - 1) process own c.requires.some (omega (arith, c.from-i.ensures)) there place in
    let refused = connect_refused s.hier own.known c.args.uid c.args.ring text c.in-Err.why (sym c.section.ensures.value ∙ c.in-Err.is) in (
      subst (λ (t : Plain). connect t.hierarchy process.known c.args.ring text c.args.uid ≡ Err c.in-Err.why) c.self.view_is
          (ap (λ (p : ProcessState). connect s.hier p.known c.args.ring text c.args.uid) same ∙ refused),
      refl,
    )

pub invariant_of-self-2 : goal.invariant_of-self-2
invariant_of-self-2 c =
    let s = c.self.inside in
    let own = c.process_in-process.result.now in
    let place = rw c.as_slice.ensures.value at c.process_in-process.ensures in
    let knows = c.in_ok-known.ensures.known own place in
    let given : Initiated = record { known = c.in_ok-known.known; after = knows.0 } in
    let below = subst (λ (t : Plain). c.args.uid < t.hierarchy.next) (sym c.self.view_is) c.requires.made in
    rw (c.give_page-given.ensures.after, knows.2)
    (known_holds s.version s.hier s.mail s.processes.items (c.from-i.result - 1) own c.args.uid c.args.ring (option_copied c.args.name) c.in-Ok.section given place knows.1
    s.initializer s.root c.self.invariant c.in-Ok.ensures.within below (sym c.section.ensures.value ∙ c.in-Ok.is))

pub returns-clause-connected : goal.returns-clause-connected
returns-clause-connected c = λ process e.
    let s = c.self.inside in
    let own = c.process_in-process.result.now in
    let place = rw c.as_slice.ensures.value at c.process_in-process.ensures in
    let knows = c.in_ok-known.ensures.known own place in
    connected_as s.version s.hier c.give_page-given.new.hier s.mail s.processes.items c.know.new.processes.items c.args.self.now c.args.p (c.from-i.result - 1) process own
    c.args.uid c.args.ring (c.last.result + 1 - c.left.result) (option_copied c.args.name) c.in-Ok.section (record { known = c.in_ok-known.known; after = knows.0 })
    c.in_ok-held.held.items c.renewed-changes.result c.give_page-given.result c.self.view_is c.self.invariant.sound c.requires.some (omega (arith, c.from-i.ensures)) place e
    (sym c.section.ensures.value ∙ c.in-Ok.is) knows.1 knows.2 c.give_page-given.ensures.after c.give_page-given.ensures.run c.in-Ok.ensures.within (known_next own.known c.last.result c.left.result c.left.ensures.sound c.last.ensures.value c.left.ensures.value)
    (rw c.as_slice-2.ensures.value at c.in_ok-held.ensures)
    (rw c.as_slice-3.ensures.value at c.renewed-changes.ensures.value) c.renewed-changes.ensures.admissible
