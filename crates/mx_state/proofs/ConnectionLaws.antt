-- What `initiate` and `link` come to, where a segment becomes known and where it does not.
use Rattle.std.proofs.Common.{◌≡◌, ◌≤◌, ◌-◌, ℕ, Option, None, Some, Result, Ok, Err, IfOk, refl, ap, sym, ◌∙◌, subst}
use Rattle.std.specs.declared.alloc.AllocError.{AllocError}
use Rattle.mx_hier.specs.declared.refusals.HierError.{HierError}
use Rattle.mx_hier.specs.declared.refusals.HierError.TheVariants as fault
use Rattle.mx_hier.specs.declared.refusals.Refusal.{Refusal}
use Rattle.mx_kst.specs.declared.segments.Known.{Known}
use Rattle.mx_link.specs.declared.resolving.LinkError.{LinkError}
use Rattle.mx_link.specs.declared.resolving.LinkError.TheVariants as error
use Rattle.mx_request.specs.declared.replies.Reply.{Reply}
use Rattle.mx_request.specs.declared.replies.Reply.TheVariants.{Refused}
use Rattle.mx_state.specs.declared.applied.Applied.{Applied}
use Rattle.mx_state.specs.declared.knowing.Connection.{Connection}
use Rattle.mx_state.specs.declared.linking.Link.{Link}
use Rattle.mx_state.specs.declared.linking.Place.{Place}
use Rattle.mx_state.specs.declared.states.ProcessState.{ProcessState}
use Rattle.mx_state.specs.Askers.{on_process}
use Rattle.mx_state.specs.Connecting.{Connected, connect}
use Rattle.mx_state.specs.Known.{IsConnected, Leads, link_refusal}
use Rattle.mx_state.specs.Knowing.{free_name, knowing_more, link, link_by, link_to, link_towards, linked}
use Rattle.mx_state.specs.Linking.{link_at}
use Rattle.mx_state.specs.Plain.{Plain, Answer, answer, process_at}
use Rattle.mx_state.specs.Replies.{IsRefused, alone}
use Rattle.mx_state.specs.Serving.{Serves}
use Rattle.mx_state.proofs.AnswerLaws.{nothing_is_bounded}
use Rattle.mx_state.proofs.Descriptors.{nothing_changes, process_at_place}
use Rattle.mx_state.proofs.GivenLaws.{none_given, none_freed, next_given, next_frees_none}
use Rattle.mx_state.proofs.ProcessLaws.{to_process}

-- the answer to a request on a process's own state is that to the process
own_answer : (s : Plain) (p : ℕ) (process : ProcessState) (asks : ProcessState → Answer) → 1 ≤ p → process_at s.processes p ≡ Some process
    → on_process s p asks ≡ asks process
own_answer s p process asks low there =
    to_process s p (p - 1) process asks low refl (sym (process_at_place s.processes p low) ∙ there)

-- a segment that became known
pub connection_serves : (s new : Plain) (p : ℕ) (process : ProcessState) (meant : Result Connected Refusal) (connection : Connection)
    (asks : ProcessState → Answer) (reply : Known → Reply) → 1 ≤ p → process_at s.processes p ≡ Some process
    → ((c : Connected) → meant ≡ Ok c → asks process ≡ answer (reply c.known) (knowing_more s p process c))
    → IsConnected s new p process meant connection
    → Serves s new (on_process s p asks) (record { reply = reply connection.known; changes = connection.changes; given = connection.given; freed = None })
connection_serves s new p process meant connection asks reply low there told is = record {
  as_meant = own_answer s p process asks low there ∙ told is.after is.as_meant
      ∙ ap (λ k. answer (reply k) (knowing_more s p process is.after)) (sym is.known)
      ∙ ap (answer (reply connection.known)) (sym is.state);
  changes = is.changes;
  given = next_given s new connection.given is.given;
  freed = next_frees_none s new connection.given is.given;
  bounded = is.bounded;
  version = ap (λ (t : Plain). t.version) is.state;
  count = is.count;
}

-- a request that is refused
pub refusal_serves : (s new : Plain) (p : ℕ) (process : ProcessState) (why : Refusal) (applied : Applied) (asks : ProcessState → Answer)
    → 1 ≤ p → process_at s.processes p ≡ Some process → asks process ≡ answer (Refused why) s → new ≡ s
    → applied ≡ alone (Refused why) → Serves s new (on_process s p asks) applied
refusal_serves s new p process why applied asks low there told same is = rw (is, same) (record {
  as_meant = own_answer s p process asks low there ∙ told;
  changes = nothing_changes s s (λ q m. refl);
  given = none_given s s refl;
  freed = none_freed s s refl;
  bounded = nothing_is_bounded _;
  version = refl;
  count = refl;
})

-- `link` of a link that leads to a place
pub link_leads : (s : Plain) (p ring segno word : ℕ) (process : ProcessState) (it : Link) (place : Place)
    → link_at s.hierarchy process.known segno word ≡ Some it → Leads s.hierarchy process ring it (Ok place)
    → link s p ring process segno word
    ≡ linked s p process place.word (connect s.hierarchy process.known ring (free_name process.known ring it.segment) place.uid)
link_leads s p ring segno word process it place at leads =
    let to = leads.0 in
    let name = free_name process.known ring it.segment in
    ap (link_by s p ring process) at ∙ ap (link_towards s p ring process it) leads.1
    ∙ ap (link_to s p ring process it to.word) leads.2
    ∙ ap (λ w. linked s p process w (connect s.hierarchy process.known ring name place.uid)) (sym leads.3)

-- and of one that leads nowhere
pub link_leads_nowhere : (s : Plain) (p ring segno word : ℕ) (process : ProcessState) (it : Link) (why : Refusal)
    → link_at s.hierarchy process.known segno word ≡ Some it → Leads s.hierarchy process ring it (Err (fault.Refused why))
    → link s p ring process segno word ≡ answer (Refused why) s
link_leads_nowhere s p ring segno word process it why at leads =
    ap (link_by s p ring process) at ∙ ap (link_towards s p ring process it) leads.1 ∙ by_error leads.0 leads.2
  where
    some_is : {a b : Refusal} → ◌≡◌ {A = Option Refusal} (Some a) (Some b) → a ≡ b
    some_is e = cc

    by_error : (e : LinkError) → link_refusal e ≡ Some why → link_towards s p ring process it (Err e) ≡ answer (Refused why) s
    by_error error.SegmentNotFound f = ap (λ w. answer (Refused w) s) (some_is f)
    by_error error.NotObject f = ap (λ w. answer (Refused w) s) (some_is f)
    by_error error.NoDefinition f = ap (λ w. answer (Refused w) s) (some_is f)
    by_error error.Memory f = absurd (cc)

-- the same as the program's steps
pub nowhere_serves : (s : Plain) (p ring segno word : ℕ) (process : ProcessState) (it : Link) (given : HierError) (result : Result Applied AllocError)
    → 1 ≤ p → process_at s.processes p ≡ Some process → link_at s.hierarchy process.known segno word ≡ Some it
    → Leads s.hierarchy process ring it (Err given) → IsRefused given result
    → IfOk result (Serves s s (on_process s p (λ process. link s p ring process segno word)))
nowhere_serves s p ring segno word process it (fault.Refused why) result low there at leads is =
    subst (λ r. IfOk r (Serves s s (on_process s p (λ process. link s p ring process segno word)))) (sym is)
    (refusal_serves s s p process why (alone (Refused why)) (λ process. link s p ring process segno word) low there
    (link_leads_nowhere s p ring segno word process it why at leads) refl refl)
nowhere_serves s p ring segno word process it fault.Memory (Ok applied) low there at leads is = absurd (cc)
nowhere_serves s p ring segno word process it fault.Memory (Err e) low there at leads is = tt
