-- What a request on messages comes to: the mail changes, and no descriptor does.
use Rattle.std.proofs.Common.{◌≡◌, ◌≤◌, ◌-◌, ℕ, nat_le, Bool, true, false, List, [], ◌∷◌, length, Option, Some, None, Result, Ok, Err, IsOk, OnOk, IfErr, OnErr, IsTrue, ◌⊎◌, ◌↔◌, inl, inr, cond, refl, sym, ap, ◌∙◌, subst, arith}
use Rattle.mx_hier.specs.Branches.{Hierarchy}
use Rattle.mx_hier.specs.Rules.{first_of, unless}
use Rattle.mx_hier.specs.declared.refusals.Refusal.TheVariants as why
use Rattle.mx_mail.specs.Processes as post
use Rattle.mx_mail.specs.Processes.{PlainProcess}
use Rattle.mx_mail.specs.Sending.{deliver, refusal_in, send_message, send_refusal, unless_refused}
use Rattle.mx_mail.specs.Taking.{TakeAnswer, take_answer, take_message}
use Rattle.mx_mail.specs.declared.mail.MailError.{MailError}
use Rattle.mx_mail.specs.declared.mail.MailError.TheVariants as error
use Rattle.mx_mail.specs.declared.mail.Taken.{Taken}
use Rattle.mx_mail.specs.declared.mail.Taken.TheVariants as taken
use Rattle.mx_mail.specs.declared.processes.ExecutionState.{ExecutionState}
use Rattle.mx_mail.specs.declared.processes.ExecutionState.TheVariants as state
use Rattle.mx_name.specs.Principals.{PlainPrincipal}
use Rattle.mx_request.specs.declared.replies.Reply.{Reply}
use Rattle.mx_request.specs.declared.replies.Reply.TheVariants.{Refused, Sent, Waiting}
use Rattle.mx_state.specs.declared.applied.Applied.{Applied}
use Rattle.mx_state.specs.declared.states.ProcessState.{ProcessState}
use Rattle.mx_state.specs.Askers.{on_process}
use Rattle.mx_state.specs.Messages.{block, has_ended, sent, taken_reply, wakeup, wakeup_refusals}
use Rattle.mx_state.specs.Plain.{Plain, Answer, answer}
use Rattle.mx_state.specs.Replies.{SaysSent, alone}
use Rattle.mx_state.specs.Serving.{Serves}
use Rattle.mx_state.specs.Sound.{HoldsSound}
use Rattle.mx_state.proofs.AnswerLaws.{plain_state, nothing_is_bounded}
use Rattle.mx_state.proofs.Descriptors.{nothing_changes}
use Rattle.mx_state.proofs.GivenLaws.{none_given, none_freed}
use Rattle.mx_state.proofs.Lists.{some_in}
use Rattle.mx_state.proofs.ProcessLaws.{to_process}

pub mail_holds : (version : ℕ) (h : Hierarchy) (mail after : List PlainProcess) (processes : List ProcessState)
    (principal : PlainPrincipal)
    (root : List (List ℕ)) → length after ≡ length mail → HoldsSound principal root (plain_state version h mail processes)
    → HoldsSound principal root (plain_state version h after processes)
mail_holds version h mail after processes principal root same holds = record {
  initializer_is = holds.initializer_is;
  root_is = holds.root_is;
  sound = record {
    process_count = holds.sound.process_count;
    mail_count = same ∙ holds.sound.mail_count;
    processes = holds.sound.processes;
  };
  held_once = holds.held_once;
}

pub mail_serves : (version : ℕ) (h : Hierarchy) (mail after : List PlainProcess) (processes : List ProcessState) (p : ℕ)
    (given : Answer)
    (reply : Reply) (applied : Applied) → 1 ≤ p → p ≤ length processes
    → given ≡ answer reply (plain_state version h after processes) → applied ≡ alone reply
    → Serves (plain_state version h mail processes) (plain_state version h after processes)
    (on_process (plain_state version h mail processes) p (λ process. given)) applied
mail_serves version h mail after processes p given reply applied low within meant e =
    let w = some_in processes (p - 1) (omega arith) in
    rw e (record {
      as_meant = to_process (plain_state version h mail processes) p (p - 1) w.0 (λ process. given) low refl w.1 ∙ meant;
      changes = nothing_changes (plain_state version h mail processes) (plain_state version h after processes) (λ q n. refl);
      given = none_given (plain_state version h mail processes) (plain_state version h after processes) refl;
      freed = none_freed (plain_state version h mail processes) (plain_state version h after processes) refl;
      bounded = nothing_is_bounded _;
      version = refl;
      count = refl;
    })

-- what the mail says of a message, and what the plain supervisor answers
abbrev pub IsToldAs : Plain → Result (List PlainProcess) MailError → Answer → Type 0
IsToldAs s (Ok after) given = given ≡ answer Sent (record s { mail = after })
IsToldAs s (Err error.NoProcess) given = given ≡ answer (Refused why.NoProcess) s
IsToldAs s (Err error.Ended) given = given ≡ answer (Refused why.Ended) s
IsToldAs s (Err error.Full) given = given ≡ answer (Refused why.MailFull) s
IsToldAs s (Err error.Memory) given = ⊥

pub told_as : (s : Plain) (p to word : ℕ) → IsToldAs s (send_message s.mail p to word) (wakeup s p to word)
told_as s p to word = by_receiver (post.process_at s.mail to)
  where
    by_count : (full : Bool) (after : List PlainProcess)
        → IsToldAs s (unless_refused (cond full (Some error.Full) None) after)
        (sent s (unless (first_of ((false, why.Ended) ∷ (full, why.MailFull) ∷ [])) after))
    by_count true after = refl
    by_count false after = refl

    by_state : (x : ExecutionState) (messages : List (ℕ × ℕ)) (after : List PlainProcess)
        → IsToldAs s (unless_refused (refusal_in x messages) after)
        (sent s (unless (first_of ((has_ended x, why.Ended) ∷ (nat_le 64 (length messages), why.MailFull) ∷ [])) after))
    by_state state.Ended messages after = refl
    by_state state.Running messages after = by_count (nat_le 64 (length messages)) after
    by_state state.Waiting messages after = by_count (nat_le 64 (length messages)) after

    by_receiver : (o : Option PlainProcess) → IsToldAs s
        (unless_refused (send_refusal o) (deliver s.mail to o (p, word)))
        (sent s (unless (first_of (wakeup_refusals o)) (deliver s.mail to o (p, word))))
    by_receiver None = refl
    by_receiver (Some process) = by_state process.state process.messages (deliver s.mail to (Some process) (p, word))

-- what is answered to who sends a message
pub wakeup_is : (s : Plain) (p to word : ℕ) (given : Result (Unit {0}) MailError) (after : List PlainProcess)
    (reply : Reply)
    → OnOk given (send_message s.mail p to word ≡ Ok after)
    → IfErr given (λ x. (send_message s.mail p to word ≡ Err x)
    ⊎ ((x ≡ error.Memory) × IsOk (send_message s.mail p to word)))
    → OnErr given (after ≡ s.mail) → SaysSent given (Ok reply)
    → wakeup s p to word ≡ answer reply (record s { mail = after })
wakeup_is s p to word given after reply sending refused left says = by_given given sending refused left says
  where
    told : (r : Result (List PlainProcess) MailError) → send_message s.mail p to word ≡ r
        → IsToldAs s r (wakeup s p to word)
    told r e = subst (λ r. IsToldAs s r (wakeup s p to word)) e (told_as s p to word)

    by_given : (given : Result (Unit {0}) MailError) → OnOk given (send_message s.mail p to word ≡ Ok after)
        → IfErr given (λ x. (send_message s.mail p to word ≡ Err x)
        ⊎ ((x ≡ error.Memory) × IsOk (send_message s.mail p to word)))
        → OnErr given (after ≡ s.mail) → SaysSent given (Ok reply)
        → wakeup s p to word ≡ answer reply (record s { mail = after })
    by_given (Ok done) sending refused left says = let same : reply ≡ Sent = cc in rw same (told (Ok after) sending)
    by_given (Err error.NoProcess) sending (inl e) left says =
        let same : reply ≡ Refused why.NoProcess = cc in rw (same, left) (told (Err error.NoProcess) e)
    by_given (Err error.NoProcess) sending (inr memory) left says = absurd (apart memory.0)
      where
        apart : error.NoProcess ≡ error.Memory → ⊥
        apart e = cc
    by_given (Err error.Ended) sending (inl e) left says =
        let same : reply ≡ Refused why.Ended = cc in rw (same, left) (told (Err error.Ended) e)
    by_given (Err error.Ended) sending (inr memory) left says = absurd (apart memory.0)
      where
        apart : error.Ended ≡ error.Memory → ⊥
        apart e = cc
    by_given (Err error.Full) sending (inl e) left says =
        let same : reply ≡ Refused why.MailFull = cc in rw (same, left) (told (Err error.Full) e)
    by_given (Err error.Full) sending (inr memory) left says = absurd (apart memory.0)
      where
        apart : error.Full ≡ error.Memory → ⊥
        apart e = cc
    by_given (Err error.Memory) sending refused left says = cc

-- and to who asks for one
pub block_is : (s : Plain) (p : ℕ) (given : Taken) (after : List PlainProcess) (reply : Reply)
    → take_message s.mail p ≡ take_answer given after → reply ≡ taken_reply given
    → block s p ≡ answer reply (record s { mail = after })
block_is s p given after reply taking same =
    ap (λ (g : TakeAnswer). answer (taken_reply g.taken) (record s { mail = g.processes })) taking
    ∙ ap (λ r. answer r (record s { mail = after })) (sym same)

waits : (given : Taken) → taken_reply given ≡ Waiting → given ≡ taken.Waiting
waits (taken.Message sender word) e = cc
waits taken.Nobody e = cc
waits taken.Waiting e = refl

-- a process is ready exactly where the reply is not `waiting`
pub ready_is : (s : Plain) (p : ℕ) (ready : Bool) → 1 ≤ p → p ≤ length s.processes
    → (IsTrue ready ↔ ((take_message s.mail p).taken ≡ taken.Waiting → ⊥))
    → IsTrue ready ↔ ((on_process s p (λ process. block s p)).reply ≡ Waiting → ⊥)
ready_is s p ready low within exactly =
    let w = some_in s.processes (p - 1) (omega arith) in
    let is : on_process s p (λ process. block s p)
    ≡ block s p = to_process s p (p - 1) w.0 (λ process. block s p) low refl w.1 in
    let given : Taken = (take_message s.mail p).taken in (
      λ yes e. exactly.0 yes (waits given (sym (ap (λ (a : Answer). a.reply) is) ∙ e)),
      λ never. exactly.1 (λ e. never (ap (λ (a : Answer). a.reply) is ∙ ap taken_reply e)),
    )
