use Rattle.std.proofs.Common.{◌≡◌, Some, Ok, Err, ap, sym, ◌∙◌, subst}
use Rattle.std.specs.Option.{option_copied}
use Rattle.mx_request.specs.declared.replies.Reply.TheVariants.{Linked}
use Rattle.mx_state.specs.Connecting.{connect}
use Rattle.mx_state.specs.Knowing.{free_name, link, linked}
use Rattle.mx_state.specs.Known.{Connects, Leads}
use Rattle.mx_state.specs.Linking.{link_at}
use Rattle.mx_state.specs.Plain.{Plain, process_at}
use Rattle.mx_state.proofs.ConnectionLaws.{connection_serves, link_leads, nowhere_serves, refusal_serves}
use Rattle.mx_state.proofs.Descriptors.{process_at_place}
use Rattle.mx_state.proofs.states.State.link.Goals as goal

pub returns-in-Err-clause-served : goal.returns-in-Err-clause-served
returns-in-Err-clause-served c =
    let now = c.args.self.now in
    let own = c.process_in-process.result.now in
    let it = c.in-Some.link in
    let place = rw (c.as_slice.ensures.value, c.from.ensures) at c.process_in-process.ensures in
    let there : process_at now.processes c.args.p ≡ Some own =
    sym (ap (λ (t : Plain). process_at t.processes c.args.p) c.self.view_is) ∙ process_at_place c.self.inside.processes.items c.args.p c.requires.some ∙ place in
    let at : link_at now.hierarchy own.known c.args.segno c.args.word ≡ Some it =
    sym (ap (λ (t : Plain). link_at t.hierarchy own.known c.args.segno c.args.word) c.self.view_is) ∙ sym c.link_at.ensures ∙ c.in-Some.is in
    let leads = subst (λ (t : Plain). Leads t.hierarchy own c.args.ring it (Err c.in-Err.error)) c.self.view_is c.in-Err.ensures.leads in
    nowhere_serves now c.args.p c.args.ring c.args.segno c.args.word own it c.in-Err.error c.refused.result c.requires.some there at leads c.refused.ensures

pub returns-in-Ok-2-clause-served : goal.returns-in-Ok-2-clause-served
returns-in-Ok-2-clause-served c =
    let now = c.args.self.now in
    let own = c.process_in-process.result.now in
    let it = c.in-Some.link in
    let place = rw (c.as_slice.ensures.value, c.from.ensures) at c.process_in-process.ensures in
    let there : process_at now.processes c.args.p ≡ Some own =
    sym (ap (λ (t : Plain). process_at t.processes c.args.p) c.self.view_is) ∙ process_at_place c.self.inside.processes.items c.args.p c.requires.some ∙ place in
    let at : link_at now.hierarchy own.known c.args.segno c.args.word ≡ Some it =
    sym (ap (λ (t : Plain). link_at t.hierarchy own.known c.args.segno c.args.word) c.self.view_is) ∙ sym c.link_at.ensures ∙ c.in-Some.is in
    let leads = subst (λ (t : Plain). Leads t.hierarchy own c.args.ring it (Ok c.in-Ok.to)) c.self.view_is c.in-Ok.ensures.leads in
    let name = free_name own.known c.args.ring it.segment in
    let meant = connect now.hierarchy own.known c.args.ring name c.in-Ok.to.uid in
    let connected = c.in_ok-connection.ensures.connected own there in
    let named : option_copied c.as_ref.result ≡ name = c.as_ref.ensures.value ∙ c.free_name-name.ensures in
    let is : Connects now c.connect.new.self c.args.p own meant (Ok c.in-Ok-2.connection) =
    subst (λ n. Connects now c.connect.new.self c.args.p own (connect now.hierarchy own.known c.args.ring n c.in-Ok.to.uid) (Ok c.in-Ok-2.connection)) named
    (subst (Connects now c.connect.new.self c.args.p own (connect now.hierarchy own.known c.args.ring (option_copied c.as_ref.result) c.in-Ok.to.uid)) c.in-Ok-2.is connected) in
    connection_serves now c.connect.new.self c.args.p own meant c.in-Ok-2.connection
    (λ process. link now c.args.p c.args.ring process c.args.segno c.args.word)
    (λ known. Linked known.segno c.in-Ok.to.word known.fresh known.linkage) c.requires.some there
    (λ after e. link_leads now c.args.p c.args.ring c.args.segno c.args.word own it c.in-Ok.to at leads ∙ ap (linked now c.args.p own c.in-Ok.to.word) e) is

pub returns-in-Err-2-clause-served : goal.returns-in-Err-2-clause-served
returns-in-Err-2-clause-served c =
    let now = c.args.self.now in
    let own = c.process_in-process.result.now in
    let it = c.in-Some.link in
    let place = rw (c.as_slice.ensures.value, c.from.ensures) at c.process_in-process.ensures in
    let there : process_at now.processes c.args.p ≡ Some own =
    sym (ap (λ (t : Plain). process_at t.processes c.args.p) c.self.view_is) ∙ process_at_place c.self.inside.processes.items c.args.p c.requires.some ∙ place in
    let at : link_at now.hierarchy own.known c.args.segno c.args.word ≡ Some it =
    sym (ap (λ (t : Plain). link_at t.hierarchy own.known c.args.segno c.args.word) c.self.view_is) ∙ sym c.link_at.ensures ∙ c.in-Some.is in
    let leads = subst (λ (t : Plain). Leads t.hierarchy own c.args.ring it (Ok c.in-Ok.to)) c.self.view_is c.in-Ok.ensures.leads in
    let name = free_name own.known c.args.ring it.segment in
    let meant = connect now.hierarchy own.known c.args.ring name c.in-Ok.to.uid in
    let connected = c.in_ok-connection.ensures.connected own there in
    let named : option_copied c.as_ref.result ≡ name = c.as_ref.ensures.value ∙ c.free_name-name.ensures in
    let is : Connects now c.connect.new.self c.args.p own meant (Err c.in-Err-2.why) =
    subst (λ n. Connects now c.connect.new.self c.args.p own (connect now.hierarchy own.known c.args.ring n c.in-Ok.to.uid) (Err c.in-Err-2.why)) named
    (subst (Connects now c.connect.new.self c.args.p own (connect now.hierarchy own.known c.args.ring (option_copied c.as_ref.result) c.in-Ok.to.uid)) c.in-Err-2.is connected) in
    refusal_serves now c.connect.new.self c.args.p own c.in-Err-2.why c.unchanged-in-Err-2.result
    (λ process. link now c.args.p c.args.ring process c.args.segno c.args.word) c.requires.some there
    (link_leads now c.args.p c.args.ring c.args.segno c.args.word own it c.in-Ok.to at leads ∙ ap (linked now c.args.p own c.in-Ok.to.word) is.0)
    is.1 c.unchanged-in-Err-2.ensures
