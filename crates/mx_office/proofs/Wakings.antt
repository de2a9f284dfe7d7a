-- Whoever sleeps and can go on after an entry is woken by it, and whoever is ready is not told to wait.
use Rattle.std.proofs.Common.{◌≡◌, ◌≢◌, ◌⊎◌, ◌<◌, ◌≤◌, ◌-◌, ◌==◌, ◌||◌, not, ℕ, zero, suc, Bool, true, false, List, [], ◌∷◌, ◌++◌, length, Option, Some, None, Result, Ok, Err, inl, inr, refl, ap, sym, ◌∙◌, subst, slice_get, slice_set, arith}
use Rattle.std.proofs.lemmas.Bool.{cases_eq, ne_eqb}
use Rattle.std.specs.Option.{option_map}
use Rattle.mx_hier.specs.ChangeWorkingDirectory.{directory}
use Rattle.mx_hier.specs.Initiate.{segment}
use Rattle.mx_hier.specs.Rules.{first_of, onward, unless}
use Rattle.mx_hier.specs.declared.refusals.Refusal.{Refusal}
use Rattle.mx_kst.specs.KnownSegments.{KnownSegments}
use Rattle.mx_kst.specs.Terminating as kst
use Rattle.mx_link.specs.declared.resolving.LinkError.{LinkError}
use Rattle.mx_link.specs.declared.resolving.LinkError.TheVariants as error
use Rattle.mx_link.specs.declared.resolving.Target.{Target}
use Rattle.mx_mail.proofs.SleepingLaws.{awake_other, others_told}
use Rattle.mx_mail.specs.Processes as mail
use Rattle.mx_mail.specs.Processes.{PlainProcess}
use Rattle.mx_mail.specs.Sending.{deliver, with_message}
use Rattle.mx_mail.specs.Sleeping.{IsAnotherAwake, IsAsleep, IsAwake}
use Rattle.mx_mail.specs.Taking as taking
use Rattle.mx_mail.specs.Taking.{messages_of, nobody_else, process_after, taken_from}
use Rattle.mx_mail.specs.declared.processes.ExecutionState.TheVariants.{Running, Waiting, Ended}
use Rattle.mx_request.specs.Classes.{class_of}
use Rattle.mx_request.specs.declared.classes.RequestClass.TheVariants.{OfPath}
use Rattle.mx_request.specs.declared.replies.Reply.{Reply}
use Rattle.mx_request.specs.declared.replies.Reply.TheVariants as reply
use Rattle.mx_request.specs.declared.requests.Request.{Request}
use Rattle.mx_request.specs.declared.requests.Request.TheVariants as ask
use Rattle.mx_state.proofs.LeavingLaws.{path_request_leaves}
use Rattle.mx_state.proofs.Lists.{slice_get-set_other, slice_get-set_same}
use Rattle.mx_state.specs.Askers.{Asker, Initializer, Process, Nobody, answered_process, asker, caller, on_process}
use Rattle.mx_state.specs.Connecting.{Connected, connect}
use Rattle.mx_state.specs.Knowing.{free_name, given, initiate, link, link_by, link_to, link_towards, linked, terminate}
use Rattle.mx_state.specs.Linking.{found_uid, link_at, link_target}
use Rattle.mx_state.specs.Messages.{block, is_ready, sent, taken_reply, wakeup, wakeup_refusals}
use Rattle.mx_state.specs.OwnState.{change_wdir, set_rules}
use Rattle.mx_state.specs.Plain.{Plain, Answer}
use Rattle.mx_state.specs.Requests.{plain}
use Rattle.mx_state.specs.Sections.{section_page}
use Rattle.mx_state.specs.Waiting.{does}
use Rattle.mx_script.specs.Sessions.{Outline, limit_of}
use Rattle.mx_sup.specs.Supervised.{Supervised, state_of}
use Rattle.mx_state.specs.declared.linking.Link.{Link}
use Rattle.mx_state.specs.declared.states.ProcessState.{ProcessState}
use Rattle.mx_office.specs.Blocking.{IsStuck}
use Rattle.mx_office.specs.Holding.{LockedValue}
use Rattle.mx_office.specs.Serving.{IsServed, answer_of}
use Rattle.mx_office.specs.declared.answers.Answer.TheVariants.{Waiting as Waits}
use Rattle.mx_office.specs.declared.answers.EnterError.{EnterError}
use Rattle.mx_office.specs.declared.answers.EnterError.TheVariants.{Memory}
use Rattle.mx_office.specs.declared.answers.Served.{Served}
use Rattle.mx_office.specs.Waking.{Wakes, WakesAll, woken_by}
use Rattle.mx_office.specs.declared.waking.Woken.TheVariants.{All}

-- one that is ready is given a message, or nobody

ready_given : (nobody : Bool) (messages : List (ℕ × ℕ)) → (not (length messages == 0) || nobody) ≡ true
    → taken_reply (taken_from nobody messages) ≡ reply.Waiting → ⊥
ready_given nobody (m ∷ ms) ready e = cc
ready_given true [] ready e = cc
ready_given false [] ready e = cc

answered_given : (s : Plain) (a : Asker) (p : ℕ) → is_ready s p ≡ true
    → (answered_process s a (λ process. block s p)).reply ≡ reply.Waiting → ⊥
answered_given s Initializer p ready e = cc
answered_given s (Process process) p ready e = ready_given (nobody_else s.mail p) (messages_of s.mail p) ready e
answered_given s Nobody p ready e = cc

pub resume_given : (s : Plain) (p ring : ℕ) → is_ready s p ≡ true
    → (plain s p ring ask.Resume).reply ≡ reply.Waiting → ⊥
resume_given s p ring ready e = answered_given s (asker s.processes p) p ready e

waiting_reply : (r : Reply) → answer_of r ≡ Waits → r ≡ reply.Waiting
waiting_reply reply.Done e = cc
waiting_reply (reply.Refused why) e = cc
waiting_reply (reply.Status status) e = cc
waiting_reply (reply.Names names) e = cc
waiting_reply (reply.Segno known) e = cc
waiting_reply (reply.Linked segno word fresh linkage) e = cc
waiting_reply reply.Sent e = cc
waiting_reply (reply.Message sender word) e = cc
waiting_reply reply.Nobody e = cc
waiting_reply reply.Waiting e = refl

-- where a request was entered, the run is not to end
pub running_then : (stopped : Bool) (result : Result Served EnterError) (served : Served) → result ≡ Ok served
    → (stopped ≡ true → result ≡ Err Memory) → stopped ≡ false
running_then false result served came over = refl
running_then true result served came over = absurd (not_both (sym came ∙ over refl))
  where
    not_both : ◌≡◌ {A = Result Served EnterError} (Ok served) (Err Memory) → ⊥
    not_both e = cc

-- so is one whom nothing keeps asleep, where its `resume` was entered
pub resumed_given : (x : Outline) (locked : LockedValue) (p ring : ℕ) (served : Served) (after : Supervised)
    → IsServed locked.supervised p ring ask.Resume served after → (IsStuck x locked p → ⊥) → locked.stopped ≡ false
    → length locked.supervised.journal < limit_of x → served.answer ≡ Waits → ⊥
resumed_given x locked p ring served after made awake running below e =
    by_test (is_ready (state_of locked.supervised) p) refl
  where
    by_test : (b : Bool) → is_ready (state_of locked.supervised) p ≡ b → ⊥
    by_test true ready = resume_given (state_of locked.supervised) p ring ready
        (made.made.right.reply ∙ waiting_reply made.made.reply (sym made.answered ∙ e))
    by_test false unready = awake (record { running = running; below = below; unready = unready })

-- one process is another now

at_place : (xs : List PlainProcess) (p : ℕ) → 1 ≤ p → mail.process_at xs p ≡ slice_get xs (p - 1)
at_place xs p low = rw (ne_eqb p 0 (λ z. omega (arith, z, low))) refl

set_place : (xs : List PlainProcess) (p : ℕ) (x : PlainProcess) → 1 ≤ p
    → mail.with_process xs p x ≡ slice_set xs (p - 1) x
set_place xs p x low = rw (ne_eqb p 0 (λ z. omega (arith, z, low))) refl

some_number : (xs : List PlainProcess) (p : ℕ) (x : PlainProcess) → mail.process_at xs p ≡ Some x → 1 ≤ p
some_number xs zero x e = cc
some_number xs (suc k) x e = omega arith

here : (xs : List PlainProcess) (p : ℕ) (x y : PlainProcess) → mail.process_at xs p ≡ Some x
    → mail.process_at (mail.with_process xs p y) p ≡ Some y
here xs p x y at =
    let low = some_number xs p x at in
    ap (λ ys. mail.process_at ys p) (set_place xs p y low) ∙ at_place (slice_set xs (p - 1) y) p low
    ∙ slice_get-set_same xs (p - 1) y x (sym (at_place xs p low) ∙ at)

elsewhere : (xs : List PlainProcess) (p q : ℕ) (x : PlainProcess) → q ≢ p
    → mail.process_at (mail.with_process xs p x) q ≡ mail.process_at xs q
elsewhere xs p q x apart = by_zero (cases_eq p 0) (cases_eq q 0)
  where
    by_zero : (p ≡ 0) ⊎ (p ≡ 0 → ⊥) → (q ≡ 0) ⊎ (q ≡ 0 → ⊥)
        → mail.process_at (mail.with_process xs p x) q ≡ mail.process_at xs q
    by_zero (inl none) other = rw none refl
    by_zero (inr some) (inl none) = rw none refl
    by_zero (inr some) (inr more) =
        let low : 1 ≤ p = omega arith in
        let from : 1 ≤ q = omega arith in
        ap (λ ys. mail.process_at ys q) (set_place xs p x low) ∙ at_place (slice_set xs (p - 1) x) q from
        ∙ slice_get-set_other xs (p - 1) (q - 1) x (λ e. apart (omega (arith, e, low, from)))
        ∙ sym (at_place xs q from)

awake_not : (x : PlainProcess) → IsAwake x → IsAsleep x → ⊥
awake_not x (inl runs) (inl ended) = running_ended (sym runs ∙ ended)
  where
    running_ended : Running ≡ Ended → ⊥
    running_ended e = cc
awake_not x (inl runs) (inr waits) = running_waiting (sym runs ∙ waits.0)
  where
    running_waiting : Running ≡ Waiting → ⊥
    running_waiting e = cc
awake_not x (inr some) (inl ended) = waiting_ended (sym some.0 ∙ ended)
  where
    waiting_ended : Waiting ≡ Ended → ⊥
    waiting_ended e = cc
awake_not x (inr some) (inr waits) = some.1 waits.1

abbrev IsAsleepSome : Option PlainProcess → Type 0
IsAsleepSome None = ⊥
IsAsleepSome (Some z) = IsAsleep z

no_messages : (ms : List (ℕ × ℕ)) (nobody : Bool) → (not (length ms == 0) || nobody) ≡ false → ms ≡ []
no_messages [] nobody e = refl
no_messages (m ∷ ms) nobody e = absurd (grind arith)

-- Process q waits without a message, and another is awake: so it goes on waiting as long as it has none and another is
-- awake.
module _ (xs : List PlainProcess) (q : ℕ) (x : PlainProcess) (at : mail.process_at xs q ≡ Some x) (waits : x.state ≡ Waiting)
    (unready : taking.is_ready xs q ≡ false) where
  low : 1 ≤ q
  low = some_number xs q x at

  empty : x.messages ≡ []
  empty = sym (ap taking.messages_in at) ∙ no_messages (messages_of xs q) (nobody_else xs q) unready

  asleep : IsAsleep x
  asleep = inr (waits, empty)

  keeps : (ys : List PlainProcess) → mail.process_at ys q ≡ Some x → (r : ℕ) (z : PlainProcess) → r ≢ q
      → mail.process_at ys r ≡ Some z → (IsAsleep z → ⊥) → taking.is_ready ys q ≡ false
  keeps ys still r z apart there awake = by_test (nobody_else ys q) refl
    where
      none : messages_of ys q ≡ []
      none = ap taking.messages_in still ∙ empty

      by_test : (b : Bool) → nobody_else ys q ≡ b → taking.is_ready ys q ≡ false
      by_test true e = absurd (awake (others_told ys q low e r z there apart))
      by_test false e = rw (none, e) refl

  -- another process becomes y, which is no more asleep than before
  keeps_with : (p : ℕ) (y : PlainProcess) → q ≢ p
      → ((z : PlainProcess) → mail.process_at xs p ≡ Some z → (IsAsleep z → ⊥) → IsAsleep y → ⊥)
      → taking.is_ready (mail.with_process xs p y) q ≡ false
  keeps_with p y apart no_more = by_other (awake_other xs q low unready)
    where
      by_place : (w : IsAnotherAwake xs q) → (w.other ≡ p) ⊎ (w.other ≡ p → ⊥)
          → taking.is_ready (mail.with_process xs p y) q ≡ false
      by_place w (inl same) =
          let there : mail.process_at xs p ≡ Some w.process = ap (mail.process_at xs) (sym same) ∙ w.there in
          keeps (mail.with_process xs p y) (elsewhere xs p q y apart ∙ at) p y (λ e. apart (sym e))
          (here xs p w.process y there) (no_more w.process there (awake_not w.process w.awake))
      by_place w (inr other) =
          keeps (mail.with_process xs p y) (elsewhere xs p q y apart ∙ at) w.other w.process w.apart
          (elsewhere xs p w.other y other ∙ w.there) (awake_not w.process w.awake)

      by_other : IsAnotherAwake xs q → taking.is_ready (mail.with_process xs p y) q ≡ false
      by_other w = by_place w (cases_eq w.other p)

  -- process p is told to wait: then one that is awake is neither p nor q
  keeps_waiting : (p : ℕ) (y : PlainProcess) → 1 ≤ p → q ≢ p → taking.is_ready xs p ≡ false
      → taking.is_ready (mail.with_process xs p y) q ≡ false
  keeps_waiting p y some apart told = by_other (awake_other xs p some told)
    where
      by_other : IsAnotherAwake xs p → taking.is_ready (mail.with_process xs p y) q ≡ false
      by_other w = keeps (mail.with_process xs p y) (elsewhere xs p q y apart ∙ at) w.other w.process
          (λ e. awake_not w.process w.awake
          (subst IsAsleepSome (sym at ∙ sym (ap (mail.process_at xs) e) ∙ w.there) asleep))
          (elsewhere xs p w.other y w.apart ∙ w.there) (awake_not w.process w.awake)

  -- process p asks for a message
  keeps_taking : (p : ℕ) → 1 ≤ p → q ≢ p → (nobody : Bool) (messages : List (ℕ × ℕ)) → nobody_else xs p ≡ nobody
      → messages_of xs p ≡ messages → taking.is_ready (mail.with_process xs p (process_after nobody messages)) q ≡ false
  keeps_taking p some apart nobody (m ∷ ms) e f =
      keeps_with p (mail.process_in Running ms) apart (λ z there awake. awake_not (mail.process_in Running ms) (inl refl))
  keeps_taking p some apart true [] e f =
      keeps_with p (mail.process_in Running []) apart (λ z there awake. awake_not (mail.process_in Running []) (inl refl))
  keeps_taking p some apart false [] e f = keeps_waiting p (mail.process_in Waiting []) some apart (rw (f, e) refl)

message_wakes : (process : PlainProcess) (message : ℕ × ℕ) → (IsAsleep process → ⊥) → IsAsleep (with_message process message)
    → ⊥
message_wakes process message awake (inl ended) = awake (inl ended)
message_wakes process message awake (inr waits) = never process.messages waits.1
  where
    never : (ms : List (ℕ × ℕ)) → ms ++ message ∷ [] ≡ [] → ⊥
    never [] e = cc
    never (m ∷ ms) e = cc

there_waits : (o : Option PlainProcess) → option_map (λ (process : PlainProcess). process.state) o ≡ Some Waiting
    → (x : PlainProcess) × (o ≡ Some x) × (x.state ≡ Waiting)
there_waits None e = cc
there_waits (Some x) e = (x, refl, cc)

same_one : (o : Option PlainProcess) (x y : PlainProcess) → o ≡ Some x → o ≡ Some y → x ≡ y
same_one o x y e f = (let g = sym e ∙ f in cc)

contrary : false ≡ true → ⊥
contrary e = cc

-- what a request of process p does to one that waits
module _ (s : Plain) (p q : ℕ) (some : 1 ≤ p) (apart : q ≢ p)
    (waits : does s q ≡ Some Waiting) (unready : is_ready s q ≡ false) where
  quiet : (given : Answer) → given.state.mail ≡ s.mail → is_ready given.state q ≡ false
  quiet given same = ap (λ m. taking.is_ready m q) same ∙ unready

  path_quiet : (ring : ℕ) (request : Request) → class_of request ≡ OfPath
      → is_ready (plain s p ring request).state q ≡ false
  path_quiet ring request of = quiet (plain s p ring request) (path_request_leaves s p ring request of).1

  on_quiet : (f : ProcessState → Answer) → ((process : ProcessState) → is_ready (f process).state q ≡ false)
      → is_ready (on_process s p f).state q ≡ false
  on_quiet f each = by_asker (asker s.processes p)
    where
      by_asker : (a : Asker) → is_ready (answered_process s a f).state q ≡ false
      by_asker Initializer = unready
      by_asker (Process process) = each process
      by_asker Nobody = unready

  change_wdir_quiet : (process : ProcessState) (meant : Result (List (List ℕ)) Refusal)
      → is_ready (change_wdir s p process meant).state q ≡ false
  change_wdir_quiet process (Ok where_to) = unready
  change_wdir_quiet process (Err why) = unready

  given_quiet : (process : ProcessState) (meant : Result Connected Refusal)
      → is_ready (given s p process meant).state q ≡ false
  given_quiet process (Ok known) = unready
  given_quiet process (Err why) = unready

  terminate_quiet : (process : ProcessState) (page : Option ℕ) (meant : Option KnownSegments)
      → is_ready (terminate s p process page meant).state q ≡ false
  terminate_quiet process page (Some known) = unready
  terminate_quiet process page None = unready

  linked_quiet : (process : ProcessState) (word : ℕ) (meant : Result Connected Refusal)
      → is_ready (linked s p process word meant).state q ≡ false
  linked_quiet process word (Ok known) = unready
  linked_quiet process word (Err why) = unready

  link_quiet : (ring : ℕ) (process : ProcessState) (o : Option Link)
      → is_ready (link_by s p ring process o).state q ≡ false
  link_quiet ring process None = unready
  link_quiet ring process (Some it) = by_target (link_target s.hierarchy process ring it)
    where
      by_uid : (word : ℕ) (o : Option ℕ) → is_ready (link_to s p ring process it word o).state q ≡ false
      by_uid word (Some uid) = linked_quiet process word
          (connect s.hierarchy process.known ring (free_name process.known ring it.segment) uid)
      by_uid word None = unready

      by_target : (r : Result Target LinkError) → is_ready (link_towards s p ring process it r).state q ≡ false
      by_target (Ok to) = by_uid to.word (found_uid process.known to.found)
      by_target (Err error.SegmentNotFound) = unready
      by_target (Err error.NotObject) = unready
      by_target (Err error.NoDefinition) = unready
      by_target (Err error.Memory) = unready

  block_quiet : is_ready (block s p).state q ≡ false
  block_quiet =
      let x = there_waits (mail.process_at s.mail q) waits in
      keeps_taking s.mail q x.0 x.1 x.2 unready p some apart (nobody_else s.mail p) (messages_of s.mail p) refl refl

  sent_quiet : (to word : ℕ) → q ≢ to → (receiver : Option PlainProcess) → mail.process_at s.mail to ≡ receiver
      → (refused : Option Refusal)
      → is_ready (sent s (unless refused (deliver s.mail to receiver (p, word)))).state q ≡ false
  sent_quiet to word other receiver at (Some why) = unready
  sent_quiet to word other None at None = unready
  sent_quiet to word other (Some process) at None =
      let x = there_waits (mail.process_at s.mail q) waits in
      keeps_with s.mail q x.0 x.1 x.2 unready to (with_message process (p, word)) other
      (λ z there awake. message_wakes process (p, word)
      (subst (λ (y : PlainProcess). IsAsleep y → ⊥) (same_one (mail.process_at s.mail to) z process there at) awake))

  after_wakeup : (ring to word : ℕ) → is_ready (plain s p ring (ask.Wakeup to word)).state q ≡ true → q ≡ to
  after_wakeup ring to word ready = by_receiver (cases_eq q to)
    where
      by_receiver : (q ≡ to) ⊎ (q ≡ to → ⊥) → q ≡ to
      by_receiver (inl is) = is
      by_receiver (inr other) = absurd (contrary (sym (on_quiet (λ process. wakeup s p to word)
          (λ process. sent_quiet to word other (mail.process_at s.mail to) refl
          (first_of (wakeup_refusals (mail.process_at s.mail to))))) ∙ ready))

  woken : (ring : ℕ) (request : Request) → is_ready (plain s p ring request).state q ≡ true → Wakes (woken_by request) q
  woken ring (ask.CreateDir path d1 d2) ready =
      contrary (sym (path_quiet ring (ask.CreateDir path d1 d2) refl) ∙ ready)
  woken ring (ask.CreateSeg path words brackets) ready =
      contrary (sym (path_quiet ring (ask.CreateSeg path words brackets) refl) ∙ ready)
  woken ring (ask.CreateObject path words brackets object) ready =
      contrary (sym (path_quiet ring (ask.CreateObject path words brackets object) refl) ∙ ready)
  woken ring (ask.CreateLink path target) ready = contrary (sym (path_quiet ring (ask.CreateLink path target) refl) ∙ ready)
  woken ring (ask.Rename path name) ready = contrary (sym (path_quiet ring (ask.Rename path name) refl) ∙ ready)
  woken ring (ask.Delete path) ready = contrary (sym (path_quiet ring (ask.Delete path) refl) ∙ ready)
  woken ring (ask.SetAcl path id modes) ready = contrary (sym (path_quiet ring (ask.SetAcl path id modes) refl) ∙ ready)
  woken ring (ask.DelAcl path id) ready = contrary (sym (path_quiet ring (ask.DelAcl path id) refl) ∙ ready)
  woken ring (ask.SetIacl path kind id modes) ready =
      contrary (sym (path_quiet ring (ask.SetIacl path kind id modes) refl) ∙ ready)
  woken ring (ask.DelIacl path kind id) ready = contrary (sym (path_quiet ring (ask.DelIacl path kind id) refl) ∙ ready)
  woken ring (ask.SetBrackets path brackets) ready =
      contrary (sym (path_quiet ring (ask.SetBrackets path brackets) refl) ∙ ready)
  woken ring (ask.SetDirBrackets path d1 d2) ready =
      contrary (sym (path_quiet ring (ask.SetDirBrackets path d1 d2) refl) ∙ ready)
  woken ring (ask.SetClass path class) ready = contrary (sym (path_quiet ring (ask.SetClass path class) refl) ∙ ready)
  woken ring (ask.Status path) ready = contrary (sym (path_quiet ring (ask.Status path) refl) ∙ ready)
  woken ring (ask.List path) ready = contrary (sym (path_quiet ring (ask.List path) refl) ∙ ready)
  woken ring (ask.ChangeWdir path) ready = contrary (sym (on_quiet
      (λ process. change_wdir s p process (directory s.hierarchy (caller process ring) path))
      (λ process. change_wdir_quiet process (directory s.hierarchy (caller process ring) path))) ∙ ready)
  woken ring (ask.SetRules rules) ready =
      contrary (sym (on_quiet (λ process. set_rules s p process rules) (λ process. unready)) ∙ ready)
  woken ring (ask.Initiate path name) ready = contrary (sym (on_quiet
      (λ process. initiate s p ring process name (segment s.hierarchy (caller process ring) path))
      (λ process. given_quiet process (onward (segment s.hierarchy (caller process ring) path)
      (connect s.hierarchy process.known ring name)))) ∙ ready)
  woken ring (ask.Terminate segno) ready = contrary (sym (on_quiet
      (λ process. terminate s p process (section_page process.known segno) (kst.terminate process.known segno))
      (λ process. terminate_quiet process (section_page process.known segno) (kst.terminate process.known segno))) ∙ ready)
  woken ring (ask.Wakeup to word) ready = after_wakeup ring to word ready
  woken ring ask.Block ready = contrary (sym (on_quiet (λ process. block s p) (λ process. block_quiet)) ∙ ready)
  woken ring (ask.Link segno word) ready = contrary (sym (on_quiet (λ process. link s p ring process segno word)
      (λ process. link_quiet ring process (link_at s.hierarchy process.known segno word))) ∙ ready)
  woken ring ask.Resume ready = contrary (sym (on_quiet (λ process. block s p) (λ process. block_quiet)) ∙ ready)
  woken ring ask.Logout ready = tt

pub wakes_all : (request : Request) → WakesAll (woken_by request) request
wakes_all request s p ring q some apart waits unready ready = woken s p q some apart waits unready ring request ready

pub all_woken : (request : Request) → WakesAll All request
all_woken request s p ring q some apart waits unready ready = tt
