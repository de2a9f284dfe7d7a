-- What the plain supervisor replies is a reply to its request.
use Rattle.std.proofs.Common.{◌≡◌, ◌⊎◌, inl, inr, ℕ, ◌≤◌, Bool, true, false, length, refl, sym, ap, ◌∙◌, subst}
use Rattle.mx_request.specs.declared.replies.Reply.{Reply}
use Rattle.mx_request.specs.declared.replies.Reply.TheVariants as reply
use Rattle.mx_request.specs.declared.requests.Request.{Request}
use Rattle.mx_request.specs.declared.requests.Request.TheVariants as ask
use Rattle.mx_kst.specs.declared.segments.Known.{Known}
use Rattle.mx_mail.specs.Taking.{take_message}
use Rattle.mx_mail.specs.declared.mail.Taken.{Taken}
use Rattle.mx_mail.specs.declared.mail.Taken.TheVariants as taking
use Rattle.mx_state.proofs.ToldLaws.{link_replies_law, only_link_law}
use Rattle.mx_state.specs.Askers.{Asker, Initializer, Process, Nobody, answered_process, asker, on_process}
use Rattle.mx_state.specs.Messages.{block, logout, taken_reply}
use Rattle.mx_state.specs.Plain.{Answer, Plain}
use Rattle.mx_state.specs.Requests.{plain}
use Rattle.mx_state.specs.Told.{IsLinked, IsRefused}
use Rattle.mx_state.specs.declared.states.ProcessState.{ProcessState}
use Rattle.mx_sup.proofs.ReplyLaws.{only_block_waits}
use Rattle.mx_office.specs.Replies.{AsksForNoLink, IsReplyFor}

-- a refusal, or where a link leads
abbrev is_of_link : Reply → Bool
is_of_link reply.Done = false
is_of_link (reply.Refused why) = true
is_of_link (reply.Status status) = false
is_of_link (reply.Names names) = false
is_of_link (reply.Segno known) = false
is_of_link (reply.Linked to at fresh linkage) = true
is_of_link reply.Sent = false
is_of_link (reply.Message sender word) = false
is_of_link reply.Nobody = false
is_of_link reply.Waiting = false

of_link : (given : Reply) → IsRefused given ⊎ IsLinked given → is_of_link given ≡ true
of_link given (inl refused) = ap is_of_link refused.1
of_link given (inr linked) = ap is_of_link linked.4

contrary : true ≡ false → ⊥
contrary e = cc

-- who asks for a message is told of no segment
no_segment : (taken : Taken) (known : Known) → taken_reply taken ≡ reply.Segno known → ⊥
no_segment (taking.Message sender word) known e = cc
no_segment taking.Nobody known e = cc
no_segment taking.Waiting known e = cc

by_process : (s : Plain) (a : Asker) (f : ProcessState → Answer) (known : Known)
    → ((process : ProcessState) → (f process).reply ≡ reply.Segno known → ⊥) → (answered_process s a f).reply ≡ reply.Segno known → ⊥
by_process s Initializer f known never e = cc
by_process s (Process process) f known never e = never process e
by_process s Nobody f known never e = cc

message_never : (s : Plain) (p : ℕ) (known : Known) → (on_process s p (λ process. block s p)).reply ≡ reply.Segno known → ⊥
message_never s p known e =
    by_process s (asker s.processes p) (λ process. block s p) known (λ process. no_segment (take_message s.mail p).taken known) e

-- nor is who logs out
logout_never : (s : Plain) (p : ℕ) (known : Known) → (on_process s p (λ process. logout s p)).reply ≡ reply.Segno known → ⊥
logout_never s p known e = by_process s (asker s.processes p) (λ process. logout s p) known (λ process done. apart done) e
  where
    apart : reply.Done ≡ reply.Segno known → ⊥
    apart done = cc

module _ (s : Plain) (p ring : ℕ) (request : Request) (some : 1 ≤ p) (within : p ≤ length s.processes) where
  not_of_link : (given : Reply) → (plain s p ring request).reply ≡ given → is_of_link given ≡ false → AsksForNoLink request
  not_of_link given is other segno word asks = contrary (sym (of_link given
      (subst (λ (r : Reply). IsRefused r ⊎ IsLinked r) (ap (λ (q : Request). (plain s p ring q).reply) (sym asks) ∙ is)
      (link_replies_law s p ring segno word some within))) ∙ other)

  pub fits : (given : Reply) → (plain s p ring request).reply ≡ given → IsReplyFor request given
  fits reply.Done is = not_of_link reply.Done is refl
  fits (reply.Refused why) is = tt
  fits (reply.Status status) is = not_of_link (reply.Status status) is refl
  fits (reply.Names names) is = not_of_link (reply.Names names) is refl
  fits (reply.Segno known) is = (
    not_of_link (reply.Segno known) is refl,
    (
      λ asks. message_never s p known (ap (λ (q : Request). (plain s p ring q).reply) (sym asks) ∙ is),
      λ asks. message_never s p known (ap (λ (q : Request). (plain s p ring q).reply) (sym asks) ∙ is),
    ),
    λ asks. logout_never s p known (ap (λ (q : Request). (plain s p ring q).reply) (sym asks) ∙ is),
  )
  fits (reply.Linked to at fresh linkage) is = only_link_law s p ring request to at fresh linkage is
  fits reply.Sent is = not_of_link reply.Sent is refl
  fits (reply.Message sender word) is = not_of_link (reply.Message sender word) is refl
  fits reply.Nobody is = not_of_link reply.Nobody is refl
  fits reply.Waiting is = only_block_waits s p ring request is
