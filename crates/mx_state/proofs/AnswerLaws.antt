-- What a request on the hierarchy comes to.
use Rattle.std.proofs.Common.{◌≡◌, ℕ, zero, suc, ◌∷◌, List, Option, None, Result, Ok, Err, IfOk, refl, sym, subst, ap, ◌∙◌, [], arith}
use Rattle.std.specs.declared.alloc.AllocError.{AllocError}
use Rattle.std.specs.List.{All}
use Rattle.mx_core.specs.declared.changes.Change.{Change}
use Rattle.mx_sdw.specs.Admissible.{IsAdmissible}
use Rattle.mx_name.specs.Principals.{PlainPrincipal}
use Rattle.mx_hier.specs.Branches.{Hierarchy}
use Rattle.mx_hier.specs.Callers.{Caller}
use Rattle.mx_hier.specs.Rules.{Answers, Tells, onward}
use Rattle.mx_hier.specs.declared.refusals.HierError.{HierError}
use Rattle.mx_hier.specs.declared.refusals.HierError.TheVariants as fault
use Rattle.mx_hier.specs.declared.refusals.Refusal.{Refusal}
use Rattle.mx_mail.specs.Processes.{PlainProcess}
use Rattle.mx_pages.specs.declared.pages.PageRun.{PageRun}
use Rattle.mx_request.specs.declared.requests.Request.{Request}
use Rattle.mx_request.specs.declared.replies.Reply.{Reply}
use Rattle.mx_request.specs.declared.replies.Reply.TheVariants.{Done, Refused}
use Rattle.mx_state.specs.declared.applied.Applied.{Applied}
use Rattle.mx_state.specs.declared.states.ProcessState.{ProcessState}
use Rattle.mx_state.specs.Askers.{Asker, Initializer, Process, Nobody, asker, answered_caller, on_path}
use Rattle.mx_state.specs.Calling.{IsCallerOf}
use Rattle.mx_state.specs.Changes.{AreChanges, IsBounded}
use Rattle.mx_state.specs.Plain.{Plain, Answer, answer}
use Rattle.mx_state.specs.NextRun.{IsFreed, IsNext}
use Rattle.mx_state.specs.Replies.{Says, IsRefused, alone, telling}
use Rattle.mx_state.specs.Requests.{changed, plain, told}
use Rattle.mx_state.specs.Serving.{Serves}
use Rattle.mx_state.specs.Sound.{IsSound, HoldsSound}
use Rattle.mx_state.proofs.Descriptors.{nothing_changes, quiet, grown_is_sound, changes_are_bounded, sound_numbered}
use Rattle.mx_state.proofs.GivenLaws.{freeing_gives_none, none_given, none_freed, next_given, next_frees_none, run_freed}
use Rattle.mx_state.proofs.PageLaws.{grown_once}
use Rattle.mx_state.proofs.SegmentLaws.{IsAsBefore, Nothing, Leaves, as_it_was}

-- the state as its parts
abbrev pub plain_state : ℕ → Hierarchy → List PlainProcess → List ProcessState → Plain
plain_state version h mail processes = record { version = version; hierarchy = h; processes = processes; mail = mail }

-- the answer to a request on a path is that to its caller
pub to_caller : (s : Plain) (a : Asker) (ring : ℕ) (who : Caller) (given : Caller → Answer) → IsCallerOf a ring who
    → answered_caller s a ring given ≡ given who
to_caller s Initializer ring who given is = ap given (sym is)
to_caller s (Process process) ring who given is = ap given (sym is)
to_caller s Nobody ring who given is = absurd is

-- what follows where an entry was found
pub found : {A : Type 0} (given : Result ℕ Refusal) (rest : ℕ → Result A Refusal) (uid : ℕ) → given ≡ Ok uid → onward given rest ≡ rest uid
found given rest uid e = ap (λ given. onward given rest) e

-- whatever the call came to, the segments stand as it is meant
pub after_call : {A : Type 0} (but : ℕ → Type 0) (meant : Result Hierarchy Refusal) (h k : Hierarchy) (call : Result A HierError)
    → Answers meant h call k → Leaves but h meant → IsAsBefore but h k
after_call but meant h k (Ok value) says leaves = leaves k says
after_call but meant h k (Err (fault.Refused why)) says leaves = subst (IsAsBefore but h) (sym says.1) (as_it_was but h)
after_call but meant h k (Err fault.Memory) says leaves = subst (IsAsBefore but h) (sym says) (as_it_was but h)

pub call_is_sound : {A : Type 0} (version : ℕ) (but : ℕ → Type 0) (meant : Result Hierarchy Refusal) (h k : Hierarchy) (mail : List PlainProcess) (processes : List ProcessState)
    (principal : PlainPrincipal) (root : List (List ℕ)) (call : Result A HierError) → Answers meant h call k → Leaves but h meant
    → HoldsSound principal root (plain_state version h mail processes) → HoldsSound principal root (plain_state version k mail processes)
call_is_sound version but meant h k mail processes principal root call says leaves holds = record {
  initializer_is = holds.initializer_is;
  root_is = holds.root_is;
  sound = grown_is_sound but (plain_state version h mail processes) k holds.sound (after_call but meant h k call says leaves);
  held_once = grown_once version h k mail processes (after_call but meant h k call says leaves).pages holds.held_once;
}

changed_as : {A : Type 0} (version : ℕ) (h k : Hierarchy) (mail : List PlainProcess) (processes : List ProcessState) (meant : Result Hierarchy Refusal) (call : Result A HierError) (reply : Reply)
    → Answers meant h call k → Says call (Ok reply) → changed (plain_state version h mail processes) meant ≡ answer reply (plain_state version k mail processes)
changed_as version h k mail processes meant (Ok value) reply answers says =
    let same : reply ≡ Done = cc in rw (answers, same) refl
changed_as version h k mail processes meant (Err (fault.Refused why)) reply answers says =
    let same : reply ≡ Refused why = cc in rw (answers.0, same, answers.1) refl
changed_as version h k mail processes meant (Err fault.Memory) reply answers says = cc

-- the same of the state that the program's stands for
pub of_old_by : (version : ℕ) (meant : Plain → Answer) (h : Hierarchy) (mail : List PlainProcess) (processes : List ProcessState) (old new : Plain) (applied : Applied)
    → plain_state version h mail processes ≡ old → Serves (plain_state version h mail processes) new (meant (plain_state version h mail processes)) applied
    → Serves old new (meant old) applied
of_old_by version meant h mail processes old new applied e serves = subst (λ s. Serves s new (meant s) applied) e serves

pub of_old : (version : ℕ) (h : Hierarchy) (mail : List PlainProcess) (processes : List ProcessState) (old new : Plain) (p ring : ℕ) (request : Request) (applied : Applied)
    → plain_state version h mail processes ≡ old → Serves (plain_state version h mail processes) new (plain (plain_state version h mail processes) p ring request) applied
    → Serves old new (plain old p ring request) applied
of_old version h mail processes old new p ring request applied e serves = of_old_by version (λ s. plain s p ring request) h mail processes old new applied e serves

-- no changes at all
pub nothing_is_bounded : (last : ℕ) → All (IsBounded last) []
nothing_is_bounded last k d within = absurd (omega arith)

-- a request that only asks of the hierarchy
pub told_serves : {A : Type 0} (s : Plain) (p ring : ℕ) (who : Caller) (f : Caller → Result A Refusal) (as_reply : A → Reply) (reply : Reply) (applied : Applied)
    → IsCallerOf (asker s.processes p) ring who → told s as_reply (f who) ≡ answer reply s → applied ≡ alone reply
    → Serves s s (on_path s p ring (λ who. told s as_reply (f who))) applied
told_serves s p ring who f as_reply reply applied is same e = rw e (record {
  as_meant = to_caller s (asker s.processes p) ring who (λ who. told s as_reply (f who)) is ∙ same;
  changes = nothing_changes s s (λ q n. refl);
  given = none_given s s refl;
  freed = none_freed s s refl;
  bounded = nothing_is_bounded _;
  version = refl;
  count = refl;
})

-- the same where it is refused, or memory is wanting
pub told_refused : {A : Type 0} (s : Plain) (p ring : ℕ) (who : Caller) (f : Caller → Result A Refusal) (as_reply : A → Reply) (error : HierError) (result : Result Applied AllocError)
    → IsCallerOf (asker s.processes p) ring who → Tells (f who) (Err error) → IsRefused error result
    → IfOk result (Serves s s (on_path s p ring (λ who. told s as_reply (f who))))
told_refused s p ring who f as_reply (fault.Refused why) result is tells says =
    subst (λ r. IfOk r (Serves s s (on_path s p ring (λ who. told s as_reply (f who))))) (sym says)
    (told_serves s p ring who f as_reply (Refused why) (alone (Refused why)) is (ap (told s as_reply) tells) refl)
told_refused s p ring who f as_reply fault.Memory (Ok applied) is tells says = absurd (cc)
told_refused s p ring who f as_reply fault.Memory (Err e) is tells says = tt

-- a request that changes the hierarchy, and no segment that stood: it may be given the next run of pages
pub quiet_serves : {A : Type 0} (version : ℕ) (f : Caller → Result Hierarchy Refusal) (meant : Result Hierarchy Refusal) (h k : Hierarchy) (mail : List PlainProcess) (processes : List ProcessState)
    (p ring : ℕ) (who : Caller) (call : Result A HierError) (reply : Reply) (run : Option PageRun) (applied : Applied)
    → IsCallerOf (asker processes p) ring who → f who ≡ meant → Answers meant h call k → Says call (Ok reply) → Leaves Nothing h meant
    → IsNext h.pages k.pages run → IsSound (plain_state version h mail processes)
    → applied ≡ record { reply = reply; changes = []; given = run; freed = None }
    → Serves (plain_state version h mail processes) (plain_state version k mail processes)
    (on_path (plain_state version h mail processes) p ring (λ who. changed (plain_state version h mail processes) (f who))) applied
quiet_serves version f meant h k mail processes p ring who call reply run applied is same answers says leaves next sound e = rw e (record {
  as_meant = to_caller (plain_state version h mail processes) (asker processes p) ring who (λ who. changed (plain_state version h mail processes) (f who)) is
      ∙ ap (changed (plain_state version h mail processes)) same ∙ changed_as version h k mail processes meant call reply answers says;
  changes = quiet (plain_state version h mail processes) k sound (after_call Nothing meant h k call answers leaves);
  given = next_given (plain_state version h mail processes) (plain_state version k mail processes) run next;
  freed = next_frees_none (plain_state version h mail processes) (plain_state version k mail processes) run next;
  bounded = nothing_is_bounded _;
  version = refl;
  count = refl;
})

-- the same where it is refused, or memory is wanting
pub quiet_refused : {A : Type 0} (version : ℕ) (f : Caller → Result Hierarchy Refusal) (meant : Result Hierarchy Refusal) (h k : Hierarchy) (mail : List PlainProcess) (processes : List ProcessState)
    (p ring : ℕ) (who : Caller) (call : Result A HierError) (error : HierError) (result : Result Applied AllocError)
    → IsCallerOf (asker processes p) ring who → f who ≡ meant → call ≡ Err error → Answers meant h call k → Leaves Nothing h meant
    → IsSound (plain_state version h mail processes) → IsRefused error result
    → IfOk result (Serves (plain_state version h mail processes) (plain_state version k mail processes)
    (on_path (plain_state version h mail processes) p ring (λ who. changed (plain_state version h mail processes) (f who))))
quiet_refused {A = A} version f meant h k mail processes p ring who call error result is same failed answers leaves sound says =
    by_error error result (subst (λ (c : Result A HierError). Answers meant h c k) failed answers) says
  where
    Served : Applied → Type 0
    Served = Serves (plain_state version h mail processes) (plain_state version k mail processes)
        (on_path (plain_state version h mail processes) p ring (λ who. changed (plain_state version h mail processes) (f who)))

    by_error : (error : HierError) (result : Result Applied AllocError) → Answers {A = A} meant h (Err error) k → IsRefused error result → IfOk result Served
    by_error (fault.Refused why) result answers says =
        subst (λ r. IfOk r Served) (sym says)
        (quiet_serves {A = A} version f meant h k mail processes p ring who (Err (fault.Refused why)) (Refused why) None (alone (Refused why))
        is same answers refl leaves (ap (λ (h : Hierarchy). h.pages) answers.1) sound refl)
    by_error fault.Memory (Ok applied) answers says = absurd (cc)
    by_error fault.Memory (Err e) answers says = tt

-- one that changes one segment, and may free a run of pages
pub loud_serves : (version : ℕ) (f : Caller → Result Hierarchy Refusal) (meant : Result Hierarchy Refusal) (h k : Hierarchy) (mail : List PlainProcess) (processes : List ProcessState)
    (p ring : ℕ) (who : Caller) (call : Result (Unit {0}) HierError) (reply : Reply) (changes : List Change) (freed : Option PageRun)
    → IsCallerOf (asker processes p) ring who → f who ≡ meant → Answers meant h call k → Says call (Ok reply)
    → IsFreed h.pages k.pages freed
    → IsSound (plain_state version h mail processes) → AreChanges (plain_state version h mail processes) (plain_state version k mail processes) changes
    → All (λ c. IsAdmissible c.desc) changes
    → Serves (plain_state version h mail processes) (plain_state version k mail processes)
    (on_path (plain_state version h mail processes) p ring (λ who. changed (plain_state version h mail processes) (f who)))
    (telling reply changes freed)
loud_serves version f meant h k mail processes p ring who call reply changes freed is same answers says pages sound are admissible = record {
  as_meant = to_caller (plain_state version h mail processes) (asker processes p) ring who (λ who. changed (plain_state version h mail processes) (f who)) is
      ∙ ap (changed (plain_state version h mail processes)) same ∙ changed_as version h k mail processes meant call reply answers says;
  changes = are;
  given = freeing_gives_none (plain_state version h mail processes) (plain_state version k mail processes) freed pages;
  freed = run_freed (plain_state version h mail processes) (plain_state version k mail processes) freed pages;
  bounded = changes_are_bounded (plain_state version h mail processes) (plain_state version k mail processes) changes sound (sound_numbered (plain_state version h mail processes) sound) refl refl are admissible;
  version = refl;
  count = refl;
}

-- one change to an admissible descriptor
pub one_is_admissible : (c : Change) → IsAdmissible c.desc → All (λ c. IsAdmissible c.desc) (c ∷ [])
one_is_admissible c fits zero d within = fits
one_is_admissible c fits (suc k) d within = absurd (omega arith)
