-- What a request makes of who runs, waits or has ended, and so a journal; and that not all wait for one another.
use Rattle.std.proofs.Common.{◌≡◌, ◌≢◌, ◌⊎◌, ◌≤◌, ◌-◌, ◌==◌, ◌||◌, not, ℕ, zero, suc, Bool, true, false, cond, List, [], ◌∷◌, length, Option, Some, None, Result, Ok, Err, inl, inr, refl, ap, sym, ◌∙◌, subst, slice_get, slice_set, length-set, arith}
use Rattle.std.proofs.lemmas.Bool.{cases_eq, eq-eqb, ne_eqb}
use Rattle.std.specs.Option.{option_map}
use Rattle.mx_hier.specs.ChangeWorkingDirectory.{directory}
use Rattle.mx_hier.specs.Initiate.{segment}
use Rattle.mx_hier.specs.Rules.{first_of, onward, unless}
use Rattle.mx_hier.specs.declared.refusals.Refusal.{Refusal}
use Rattle.mx_kst.specs.KnownSegments.{KnownSegments}
use Rattle.mx_kst.specs.Terminating as kst
use Rattle.mx_link.specs.declared.resolving.LinkError.{LinkError}
use Rattle.mx_link.specs.declared.resolving.LinkError.TheVariants as error
use Rattle.mx_link.specs.declared.resolving.Target.{Target}
use Rattle.mx_mail.specs.Processes as mail
use Rattle.mx_mail.specs.Processes.{PlainProcess}
use Rattle.mx_mail.proofs.SleepingLaws.{awake_other}
use Rattle.mx_mail.specs.Sending.{deliver, with_message}
use Rattle.mx_mail.specs.Sleeping as sleeping
use Rattle.mx_mail.specs.Taking.{nobody_else, messages_of, process_after, taken_from}
use Rattle.mx_mail.specs.declared.processes.ExecutionState.{ExecutionState}
use Rattle.mx_mail.specs.declared.processes.ExecutionState.TheVariants.{Running, Waiting, Ended}
use Rattle.mx_request.specs.Classes.{class_of}
use Rattle.mx_request.specs.declared.classes.RequestClass.TheVariants.{OfPath}
use Rattle.mx_request.specs.declared.replies.Reply.{Reply}
use Rattle.mx_request.specs.declared.requests.Request.{Request}
use Rattle.mx_request.specs.declared.requests.Request.TheVariants as ask
use Rattle.mx_state.specs.declared.journal.Entry.{Entry}
use Rattle.mx_state.specs.declared.linking.Link.{Link}
use Rattle.mx_state.specs.declared.states.ProcessState.{ProcessState}
use Rattle.mx_state.specs.Askers.{caller, on_process}
use Rattle.mx_state.specs.History.{IsRight, IsRightEntry, opening, replay}
use Rattle.mx_state.specs.Connecting.{Connected, connect}
use Rattle.mx_state.specs.Sections.{section_page}
use Rattle.mx_state.specs.Knowing.{free_name, given, initiate, link, link_by, link_to, link_towards, linked, terminate}
use Rattle.mx_state.specs.Linking.{found_uid, link_at, link_target}
use Rattle.mx_state.specs.Messages.{block, logout, sent, taken_reply, wakeup, wakeup_refusals}
use Rattle.mx_state.specs.OwnState.{change_wdir, set_rules}
use Rattle.mx_state.specs.Plain.{Plain, Answer}
use Rattle.mx_state.specs.Requests.{plain}
use Rattle.mx_state.specs.Waiting.{DoesLaw, IsAwake, OneRunsLaw, WaitsForLaw, after_request, does, does_after, replied}
use Rattle.mx_state.proofs.LeavingLaws.{path_request_leaves}
use Rattle.mx_state.proofs.Lists.{slice_get-set_other, slice_get-set_same, some_in}
use Rattle.mx_state.proofs.ProcessLaws.{to_process}

-- what a process of the mail does
abbrev doing : List PlainProcess → ℕ → Option ExecutionState
doing xs p = option_map (λ process. process.state) (mail.process_at xs p)

-- one process is another now

at_place : (xs : List PlainProcess) (p : ℕ) → 1 ≤ p → mail.process_at xs p ≡ slice_get xs (p - 1)
at_place xs p low = rw (ne_eqb p 0 (λ z. omega (arith, z, low))) refl

set_place : (xs : List PlainProcess) (p : ℕ) (x : PlainProcess) → 1 ≤ p
    → mail.with_process xs p x ≡ slice_set xs (p - 1) x
set_place xs p x low = rw (ne_eqb p 0 (λ z. omega (arith, z, low))) refl

abbrev state_of : Option PlainProcess → Option ExecutionState
state_of o = option_map (λ process. process.state) o

none_at_zero : (xs : List PlainProcess) (p : ℕ) (now : ExecutionState) → doing xs p ≡ Some now → 1 ≤ p
none_at_zero xs zero now e = cc
none_at_zero xs (suc k) now e = omega arith

same_there : (xs : List PlainProcess) (p : ℕ) (x : PlainProcess) (now : ExecutionState) → doing xs p ≡ Some now
    → doing (mail.with_process xs p x) p ≡ Some x.state
same_there xs p x now e =
    let low = none_at_zero xs p now e in
    ap (λ ys. doing ys p) (set_place xs p x low) ∙ ap state_of (at_place (slice_set xs (p - 1) x) p low)
    ∙ by_place (slice_get xs (p - 1)) refl (sym (ap state_of (at_place xs p low)) ∙ e)
  where
    by_place : (o : Option PlainProcess) → slice_get xs (p - 1) ≡ o → state_of o ≡ Some now
        → state_of (slice_get (slice_set xs (p - 1) x) (p - 1)) ≡ Some x.state
    by_place None at f = cc
    by_place (Some y) at f = ap state_of (slice_get-set_same xs (p - 1) x y at)

same_elsewhere : (xs : List PlainProcess) (p q : ℕ) (x : PlainProcess) → q ≢ p
    → doing (mail.with_process xs p x) q ≡ doing xs q
same_elsewhere xs p q x apart = by_zero (cases_eq p 0) (cases_eq q 0)
  where
    by_zero : (p ≡ 0) ⊎ (p ≡ 0 → ⊥) → (q ≡ 0) ⊎ (q ≡ 0 → ⊥) → doing (mail.with_process xs p x) q ≡ doing xs q
    by_zero (inl none) other = rw none refl
    by_zero (inr some) (inl none) = rw none refl
    by_zero (inr some) (inr more) =
        let low : 1 ≤ p = omega arith in
        let from : 1 ≤ q = omega arith in
        ap (λ ys. doing ys q) (set_place xs p x low) ∙ ap state_of (at_place (slice_set xs (p - 1) x) q from)
        ∙ ap state_of (slice_get-set_other xs (p - 1) (q - 1) x (λ e. apart (omega (arith, e, low, from))))
        ∙ sym (ap state_of (at_place xs q from))

same_count : (xs : List PlainProcess) (p : ℕ) (x : PlainProcess) → length (mail.with_process xs p x) ≡ length xs
same_count xs p x = elim (cases_eq p 0) [
  | inl none ↦ rw none refl
  | inr some ↦ ap length (set_place xs p x (omega arith)) ∙ length-set xs (p - 1) x
]

-- what a request of process p makes of who runs, waits or has ended
record Steps (s : Plain) (p : ℕ) (request : Request) (given : Answer) : Type 0 where
  others : (q : ℕ) → q ≢ p → does given.state q ≡ does s q
  own : (now : ExecutionState) → does s p ≡ Some now → does given.state p ≡ Some (after_request request given.reply now)
  count : length given.state.mail ≡ length s.mail

left_alone : (s : Plain) (p : ℕ) (request : Request) (given : Answer) → given.state.mail ≡ s.mail
    → ((now : ExecutionState) → after_request request given.reply now ≡ now) → Steps s p request given
left_alone s p request given same keeps = record {
  others = λ q apart. ap (λ m. doing m q) same;
  own = λ now e. ap (λ m. doing m p) same ∙ e ∙ ap Some (sym (keeps now));
  count = ap length same;
}

path_steps : (s : Plain) (p ring : ℕ) (request : Request) → class_of request ≡ OfPath
    → ((r : Reply) (now : ExecutionState) → after_request request r now ≡ now)
    → Steps s p request (plain s p ring request)
path_steps s p ring request of keeps =
    left_alone s p request (plain s p ring request) (path_request_leaves s p ring request of).1
    (λ now. keeps (plain s p ring request).reply now)

-- of a process that is there
module _ (s : Plain) (p : ℕ) (low : 1 ≤ p) (process : ProcessState) (at : slice_get s.processes (p - 1) ≡ Some process)
  where
    own_steps : (request : Request) (f : ProcessState → Answer) → Steps s p request (f process)
        → Steps s p request (on_process s p f)
    own_steps request f steps = subst (Steps s p request) (sym (to_process s p (p - 1) process f low refl at)) steps

    change_wdir_steps : (path : List ℕ) (meant : Result (List (List ℕ)) Refusal)
        → Steps s p (ask.ChangeWdir path) (change_wdir s p process meant)
    change_wdir_steps path (Ok where_to) = left_alone s p (ask.ChangeWdir path) _ refl (λ now. refl)
    change_wdir_steps path (Err why) = left_alone s p (ask.ChangeWdir path) _ refl (λ now. refl)

    initiate_steps : (path : List ℕ) (name : Option (List ℕ)) (meant : Result Connected Refusal)
        → Steps s p (ask.Initiate path name) (given s p process meant)
    initiate_steps path name (Ok known) = left_alone s p (ask.Initiate path name) _ refl (λ now. refl)
    initiate_steps path name (Err why) = left_alone s p (ask.Initiate path name) _ refl (λ now. refl)

    linked_steps : (segno word at : ℕ) (meant : Result Connected Refusal)
        → Steps s p (ask.Link segno word) (linked s p process at meant)
    linked_steps segno word at (Ok known) = left_alone s p (ask.Link segno word) _ refl (λ now. refl)
    linked_steps segno word at (Err why) = left_alone s p (ask.Link segno word) _ refl (λ now. refl)

    link_steps : (ring segno word : ℕ) (o : Option Link) → Steps s p (ask.Link segno word) (link_by s p ring process o)
    link_steps ring segno word None = left_alone s p (ask.Link segno word) _ refl (λ now. refl)
    link_steps ring segno word (Some it) = by_target (link_target s.hierarchy process ring it)
      where
        by_uid : (at : ℕ) (o : Option ℕ) → Steps s p (ask.Link segno word) (link_to s p ring process it at o)
        by_uid at (Some uid) =
            linked_steps segno word at
            (connect s.hierarchy process.known ring (free_name process.known ring it.segment) uid)
        by_uid at None = left_alone s p (ask.Link segno word) _ refl (λ now. refl)

        by_target : (r : Result Target LinkError) → Steps s p (ask.Link segno word) (link_towards s p ring process it r)
        by_target (Ok to) = by_uid to.word (found_uid process.known to.found)
        by_target (Err error.SegmentNotFound) = left_alone s p (ask.Link segno word) _ refl (λ now. refl)
        by_target (Err error.NotObject) = left_alone s p (ask.Link segno word) _ refl (λ now. refl)
        by_target (Err error.NoDefinition) = left_alone s p (ask.Link segno word) _ refl (λ now. refl)
        by_target (Err error.Memory) = left_alone s p (ask.Link segno word) _ refl (λ now. refl)

    terminate_steps : (segno : ℕ) (page : Option ℕ) (meant : Option KnownSegments)
        → Steps s p (ask.Terminate segno) (terminate s p process page meant)
    terminate_steps segno page (Some known) = left_alone s p (ask.Terminate segno) _ refl (λ now. refl)
    terminate_steps segno page None = left_alone s p (ask.Terminate segno) _ refl (λ now. refl)

-- a message changes nothing of what its receiver does
delivered : (xs : List PlainProcess) (to q : ℕ) (process : PlainProcess) (message : ℕ × ℕ)
    → mail.process_at xs to ≡ Some process
    → doing (mail.with_process xs to (with_message process message)) q ≡ doing xs q
delivered xs to q process message at = elim (cases_eq q to) [
  | inl same ↦ rw same (same_there xs to (with_message process message) process.state (ap state_of at)
      ∙ sym (ap state_of at))
  | inr apart ↦ same_elsewhere xs to q (with_message process message) apart
]

sent_steps : (s : Plain) (p to word : ℕ) (receiver : Option PlainProcess) → mail.process_at s.mail to ≡ receiver
    → (refused : Option Refusal)
    → Steps s p (ask.Wakeup to word) (sent s (unless refused (deliver s.mail to receiver (p, word))))
sent_steps s p to word receiver at (Some why) = left_alone s p (ask.Wakeup to word) _ refl (λ now. refl)
sent_steps s p to word None at None = left_alone s p (ask.Wakeup to word) _ refl (λ now. refl)
sent_steps s p to word (Some process) at None = record {
  others = λ q apart. delivered s.mail to q process (p, word) at;
  own = λ now e. delivered s.mail to p process (p, word) at ∙ e;
  count = same_count s.mail to (with_message process (p, word));
}

-- who asked for a message does what the reply says
replied_as : (nobody : Bool) (messages : List (ℕ × ℕ))
    → (process_after nobody messages).state ≡ replied (taken_reply (taken_from nobody messages))
replied_as nobody (message ∷ later) = refl
replied_as true [] = refl
replied_as false [] = refl

block_steps : (s : Plain) (p : ℕ) (request : Request)
    → ((r : Reply) (now : ExecutionState) → after_request request r now ≡ replied r)
    → Steps s p request (block s p)
block_steps s p request asks =
    let nobody = nobody_else s.mail p in
    let messages = messages_of s.mail p in
    record {
      others = λ q apart. same_elsewhere s.mail p q (process_after nobody messages) apart;
      own = λ now e.
          same_there s.mail p (process_after nobody messages) now e
          ∙ ap Some (replied_as nobody messages ∙ sym (asks (taken_reply (taken_from nobody messages)) now));
      count = same_count s.mail p (process_after nobody messages);
    }

logout_steps : (s : Plain) (p : ℕ) → Steps s p ask.Logout (logout s p)
logout_steps s p = record {
  others = λ q apart. same_elsewhere s.mail p q (mail.process_in Ended []) apart;
  own = λ now e. same_there s.mail p (mail.process_in Ended []) now e;
  count = same_count s.mail p (mail.process_in Ended []);
}

steps : (s : Plain) (p ring : ℕ) (request : Request) → 1 ≤ p → p ≤ length s.processes
    → Steps s p request (plain s p ring request)
steps s p ring (ask.CreateDir path d1 d2) low within =
    path_steps s p ring (ask.CreateDir path d1 d2) refl (λ r now. refl)
steps s p ring (ask.CreateSeg path words brackets) low within =
    path_steps s p ring (ask.CreateSeg path words brackets) refl (λ r now. refl)
steps s p ring (ask.CreateObject path words brackets object) low within =
    path_steps s p ring (ask.CreateObject path words brackets object) refl (λ r now. refl)
steps s p ring (ask.CreateLink path target) low within =
    path_steps s p ring (ask.CreateLink path target) refl (λ r now. refl)
steps s p ring (ask.Rename path name) low within = path_steps s p ring (ask.Rename path name) refl (λ r now. refl)
steps s p ring (ask.Delete path) low within = path_steps s p ring (ask.Delete path) refl (λ r now. refl)
steps s p ring (ask.SetAcl path id modes) low within =
    path_steps s p ring (ask.SetAcl path id modes) refl (λ r now. refl)
steps s p ring (ask.DelAcl path id) low within = path_steps s p ring (ask.DelAcl path id) refl (λ r now. refl)
steps s p ring (ask.SetIacl path kind id modes) low within =
    path_steps s p ring (ask.SetIacl path kind id modes) refl (λ r now. refl)
steps s p ring (ask.DelIacl path kind id) low within =
    path_steps s p ring (ask.DelIacl path kind id) refl (λ r now. refl)
steps s p ring (ask.SetBrackets path brackets) low within =
    path_steps s p ring (ask.SetBrackets path brackets) refl (λ r now. refl)
steps s p ring (ask.SetDirBrackets path d1 d2) low within =
    path_steps s p ring (ask.SetDirBrackets path d1 d2) refl (λ r now. refl)
steps s p ring (ask.SetClass path class) low within =
    path_steps s p ring (ask.SetClass path class) refl (λ r now. refl)
steps s p ring (ask.Status path) low within = path_steps s p ring (ask.Status path) refl (λ r now. refl)
steps s p ring (ask.List path) low within = path_steps s p ring (ask.List path) refl (λ r now. refl)
steps s p ring (ask.ChangeWdir path) low within =
    let w = some_in s.processes (p - 1) (omega arith) in
    own_steps s p low w.0 w.1 (ask.ChangeWdir path)
    (λ process. change_wdir s p process (directory s.hierarchy (caller process ring) path))
    (change_wdir_steps s p low w.0 w.1 path (directory s.hierarchy (caller w.0 ring) path))
steps s p ring (ask.SetRules rules) low within =
    let w = some_in s.processes (p - 1) (omega arith) in
    own_steps s p low w.0 w.1 (ask.SetRules rules) (λ process. set_rules s p process rules)
    (left_alone s p (ask.SetRules rules) _ refl (λ now. refl))
steps s p ring (ask.Initiate path name) low within =
    let w = some_in s.processes (p - 1) (omega arith) in
    own_steps s p low w.0 w.1 (ask.Initiate path name)
    (λ process. initiate s p ring process name (segment s.hierarchy (caller process ring) path))
    (initiate_steps s p low w.0 w.1 path name
    (onward (segment s.hierarchy (caller w.0 ring) path) (connect s.hierarchy w.0.known ring name)))
steps s p ring (ask.Terminate segno) low within =
    let w = some_in s.processes (p - 1) (omega arith) in
    own_steps s p low w.0 w.1 (ask.Terminate segno)
    (λ process. terminate s p process (section_page process.known segno) (kst.terminate process.known segno))
    (terminate_steps s p low w.0 w.1 segno (section_page w.0.known segno) (kst.terminate w.0.known segno))
steps s p ring (ask.Wakeup to word) low within =
    let w = some_in s.processes (p - 1) (omega arith) in
    let receiver = mail.process_at s.mail to in
    own_steps s p low w.0 w.1 (ask.Wakeup to word) (λ process. wakeup s p to word)
    (sent_steps s p to word receiver refl (first_of (wakeup_refusals receiver)))
steps s p ring ask.Block low within =
    let w = some_in s.processes (p - 1) (omega arith) in
    own_steps s p low w.0 w.1 ask.Block (λ process. block s p) (block_steps s p ask.Block (λ r now. refl))
steps s p ring (ask.Link segno word) low within =
    let w = some_in s.processes (p - 1) (omega arith) in
    own_steps s p low w.0 w.1 (ask.Link segno word) (λ process. link s p ring process segno word)
    (link_steps s p low w.0 w.1 ring segno word (link_at s.hierarchy w.0.known segno word))
steps s p ring ask.Resume low within =
    let w = some_in s.processes (p - 1) (omega arith) in
    own_steps s p low w.0 w.1 ask.Resume (λ process. block s p) (block_steps s p ask.Resume (λ r now. refl))
steps s p ring ask.Logout low within =
    let w = some_in s.processes (p - 1) (omega arith) in
    own_steps s p low w.0 w.1 ask.Logout (λ process. logout s p) (logout_steps s p)

-- A request leaves what every other process does; what its own process does is what the request and its reply say; and
-- the mail stays that of as many processes.
pub others_do : (s : Plain) (p ring : ℕ) (request : Request) → 1 ≤ p → p ≤ length s.processes
    → (q : ℕ) → q ≢ p → does (plain s p ring request).state q ≡ does s q
others_do s p ring request low within = (steps s p ring request low within).others

pub own_does : (s : Plain) (p ring : ℕ) (request : Request) → 1 ≤ p → p ≤ length s.processes
    → (now : ExecutionState) → does s p ≡ Some now
    → does (plain s p ring request).state p ≡ Some (after_request request (plain s p ring request).reply now)
own_does s p ring request low within = (steps s p ring request low within).own

pub mail_counts : (s : Plain) (p ring : ℕ) (request : Request) → 1 ≤ p → p ≤ length s.processes
    → length (plain s p ring request).state.mail ≡ length s.mail
mail_counts s p ring request low within = (steps s p ring request low within).count

-- a right entry, of whichever process
pub entry_does : (s : Plain) (entry : Entry) (p : ℕ) (now : ExecutionState) → IsRightEntry s entry → 1 ≤ p
    → does s p ≡ Some now
    → does (plain s entry.process entry.ring entry.request).state p
    ≡ Some (cond (entry.process == p) (after_request entry.request entry.reply now) now)
entry_does s entry p now right low e = by_maker (cases_eq entry.process p) (cases_eq entry.process 0)
  where
    by_maker : (entry.process ≡ p) ⊎ (entry.process ≡ p → ⊥) → (entry.process ≡ 0) ⊎ (entry.process ≡ 0 → ⊥)
        → does (plain s entry.process entry.ring entry.request).state p
        ≡ Some (cond (entry.process == p) (after_request entry.request entry.reply now) now)
    by_maker (inl same) other =
        let maker : 1 ≤ entry.process = omega (arith, same, low) in
        rw (eq-eqb entry.process p same)
        (subst (λ q. does (plain s entry.process entry.ring entry.request).state q
        ≡ Some (after_request entry.request entry.reply now)) same
        (own_does s entry.process entry.ring entry.request maker right.maker.0 now (ap (does s) same ∙ e)
        ∙ ap (λ r. Some (after_request entry.request r now)) right.reply))
    by_maker (inr apart) (inl setup) =
        rw (ne_eqb entry.process p apart)
        (ap (λ m. doing m p) (path_request_leaves s entry.process entry.ring entry.request (right.maker.1 setup)).1 ∙ e)
    by_maker (inr apart) (inr some) =
        rw (ne_eqb entry.process p apart)
        (others_do s entry.process entry.ring entry.request (omega arith) right.maker.0 p (λ f. apart (sym f)) ∙ e)

pub replay_does : (entries : List Entry) (s : Plain) (p : ℕ) (now : ExecutionState) → IsRight s entries → 1 ≤ p
    → does s p ≡ Some now
    → does (replay s entries) p ≡ Some (does_after entries p now)
replay_does [] s p now right low e = e
replay_does (entry ∷ entries) s p now right low e =
    replay_does entries (plain s entry.process entry.ring entry.request).state p
    (cond (entry.process == p) (after_request entry.request entry.reply now) now) right.1 low
    (entry_does s entry p now right.0 low e)

all_run : (n i : ℕ) → suc i ≤ n → state_of (slice_get (mail.all_running n) i) ≡ Some Running
all_run zero i within = absurd (omega arith)
all_run (suc n) zero within = refl
all_run (suc n) (suc i) within = all_run n i (omega arith)

pub does_law : DoesLaw
does_law version entrants journal p right low within =
    replay_does journal (opening version entrants) p Running right low
    (ap state_of (at_place (mail.all_running (length entrants)) p low)
    ∙ all_run (length entrants) (p - 1) (omega arith))

-- not all wait for one another

mail_is_there : (messages : List (ℕ × ℕ)) (nobody : Bool) → messages ≢ []
    → (not (length messages == 0) || nobody) ≡ true
mail_is_there [] nobody some = absurd (some refl)
mail_is_there (message ∷ messages) nobody some =
    let apart : (length (message ∷ messages) == 0) ≡ false = grind arith in rw apart refl

awake : (s : Plain) (q : ℕ) (other : PlainProcess) → mail.process_at s.mail q ≡ Some other → sleeping.IsAwake other
    → IsAwake s q
awake s q other at (inl runs) = inl (ap state_of at ∙ ap Some runs)
awake s q other at (inr waits) =
    inr (ap state_of at ∙ ap Some waits.0, rw at (mail_is_there other.messages (nobody_else s.mail q) waits.1))

pub waits_for : WaitsForLaw
waits_for s p low e =
    let w = awake_other s.mail p low e in (w.other, w.apart, awake s w.other w.process w.there w.awake)

pub one_runs : OneRunsLaw
one_runs s p waits none =
    let low = none_at_zero s.mail p Waiting waits in
    let w = waits_for s p low (none p waits) in
    elim w.2 [
      | inl runs ↦ (w.0, runs)
      | inr ready ↦ absurd (true_false (sym ready.1 ∙ none w.0 ready.0))
    ]
  where
    true_false : true ≡ false → ⊥
    true_false e = cc
