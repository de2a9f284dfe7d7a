-- What a request on a path is answered, by what was done to the hierarchy.
use Rattle.std.proofs.Common.{◌≡◌, ℕ, Option, Some, None, IfSome, Result, Ok, Err, IfOk, OnErr, IsErr, option_map, refl, sym, ap, subst, ◌∙◌}
use Rattle.std.specs.declared.alloc.AllocError.{AllocError}
use Rattle.mx_hier.specs.Branches.{Hierarchy, segment_at}
use Rattle.mx_hier.specs.Callers.{Caller}
use Rattle.mx_hier.specs.Delete.{pages_left}
use Rattle.mx_hier.specs.Rules.{Answers, Tells, onward}
use Rattle.mx_hier.specs.declared.branches.Segment.{Segment}
use Rattle.mx_hier.specs.declared.refusals.HierError.{HierError}
use Rattle.mx_hier.specs.declared.refusals.HierError.TheVariants as given
use Rattle.mx_hier.specs.declared.refusals.Refusal.{Refusal}
use Rattle.mx_pages.specs.Runs.{IsPageRun, with_free}
use Rattle.mx_pages.specs.declared.pages.PageRun.{PageRun}
use Rattle.mx_request.specs.declared.replies.Reply.{Reply}
use Rattle.mx_request.specs.declared.replies.Reply.TheVariants as reply
use Rattle.mx_state.specs.Askers.{Asker, Initializer, Process, Nobody, asker, answered_caller, on_path}
use Rattle.mx_state.specs.Calling.{IsCallerOf}
use Rattle.mx_state.specs.Plain.{Plain, Answer, answer}
use Rattle.mx_state.specs.Requests.{changed, told}
use Rattle.mx_state.proofs.GivenLaws.{Ends, KeepsPages}
use Rattle.mx_fresh.specs.Runs.{AreMoved, AreSegmentsTaken, GivesNext, IsTaken, Moves, TellsRuns, run_of}
use Rattle.mx_fresh.specs.Said.{SaysDone, moving, with_freed, with_no_runs, said}
use Rattle.mx_fresh.specs.declared.answered.Answered.{Answered}
use Rattle.mx_fresh.specs.declared.answered.Runs.{Runs}
use Rattle.mx_fresh.proofs.RunLaws.{given_runs, kept_runs, moved_runs}

-- whose request it is
pub asked : (s : Plain) (p ring : ℕ) (who : Caller) (meant : Caller → Answer) → IsCallerOf (asker s.processes p) ring who → on_path s p ring meant ≡ meant who
asked s p ring who meant is = by (asker s.processes p) is
  where
    by : (a : Asker) → IsCallerOf a ring who → answered_caller s a ring meant ≡ meant who
    by Initializer e = ap meant (sym e)
    by (Process process) e = ap meant (sym e)
    by Nobody e = absurd e

no_answer : (result : Result Answered AllocError) (F : Answered → Type 0) → IsErr result → IfOk result F
no_answer (Ok answered) F e = absurd (cc)
no_answer (Err error) F e = tt

pub on_error : {A : Type 0} (result : Result A AllocError) (F : Type 0) → F → OnErr result F
on_error (Ok value) F f = tt
on_error (Err error) F f = f

-- what is done, or refused
answered : (s : Plain) (meant : Result Hierarchy Refusal) (new : Hierarchy) (did : Result Runs HierError) (result : Result Answered AllocError)
    → Answers meant s.hierarchy did new → SaysDone did result → IfOk result (λ a. changed s meant ≡ answer a.reply (record s { hierarchy = new }))
answered s meant new (Ok run) result a e = rw (e, a) refl
answered s meant new (Err (given.Refused why)) result a e = rw (e, a.0, a.1) refl
answered s meant new (Err given.Memory) result a e = no_answer result (λ a. changed s meant ≡ answer a.reply (record s { hierarchy = new })) e

pub served : (s : Plain) (p ring : ℕ) (who : Caller) (meant : Caller → Result Hierarchy Refusal) (new : Hierarchy) (did : Result Runs HierError)
    (result : Result Answered AllocError) → IsCallerOf (asker s.processes p) ring who → Answers (meant who) s.hierarchy did new → SaysDone did result
    → IfOk result (λ a. on_path s p ring (λ who. changed s (meant who)) ≡ answer a.reply (record s { hierarchy = new }))
served s p ring who meant new did result is a e =
    subst (λ (given : Answer). IfOk result (λ a. given ≡ answer a.reply (record s { hierarchy = new })))
    (sym (asked s p ring who (λ who. changed s (meant who)) is)) (answered s (meant who) new did result a e)

pub unserved : (meant : Result Hierarchy Refusal) (old new : Hierarchy) (did : Result Runs HierError) (result : Result Answered AllocError)
    → Answers meant old did new → SaysDone did result → OnErr result (new ≡ old)
unserved meant old new (Ok run) result a e = rw e tt
unserved meant old new (Err (given.Refused why)) result a e = rw e tt
unserved meant old new (Err given.Memory) result a e = on_error result (new ≡ old) a

-- the runs are those that were given out and freed, also where the request is refused and none is
pub served_runs : (s : Plain) (meant : Result Hierarchy Refusal) (new : Hierarchy) (did : Result Runs HierError) (result : Result Answered AllocError)
    → Answers meant s.hierarchy did new → IfOk did (Moves s.hierarchy.pages new.pages) → SaysDone did result
    → IfOk result (TellsRuns s (record s { hierarchy = new }))
served_runs s meant new (Ok runs) result a moves e =
    rw e (moved_runs s (record s { hierarchy = new }) (moving reply.Done runs) moves)
served_runs s meant new (Err (given.Refused why)) result a moves e =
    rw e (kept_runs s (record s { hierarchy = new }) (reply.Refused why) (ap (λ (h : Hierarchy). h.pages) a.1))
served_runs s meant new (Err given.Memory) result a moves e = no_answer result (TellsRuns s (record s { hierarchy = new })) e

-- what gives out no page, and frees none
pub quiet_answers : (meant : Result Hierarchy Refusal) (old new : Hierarchy) (did : Result (Unit {0}) HierError) → Answers meant old did new
    → Answers meant old (with_no_runs did) new
quiet_answers meant old new (Ok done) a = a
quiet_answers meant old new (Err (given.Refused why)) a = a
quiet_answers meant old new (Err given.Memory) a = a

pub quiet_moves : (meant : Result Hierarchy Refusal) (old new : Hierarchy) (did : Result (Unit {0}) HierError) → Answers meant old did new
    → Ends (KeepsPages old) meant → IfOk (with_no_runs did) (Moves old.pages new.pages)
quiet_moves meant old new (Ok done) a keeps = keeps new a
quiet_moves meant old new (Err error) a keeps = tt

-- what frees a run, or none
pub freed_answers : (meant : Result Hierarchy Refusal) (old new : Hierarchy) (did : Result (Option PageRun) HierError) → Answers meant old did new
    → Answers meant old (with_freed did) new
freed_answers meant old new (Ok run) a = a
freed_answers meant old new (Err (given.Refused why)) a = a
freed_answers meant old new (Err given.Memory) a = a

pub freed_moves : (old new : Hierarchy) (uid : ℕ) (did : Result (Option PageRun) HierError) → AreSegmentsTaken old
    → IfOk did (λ run. run ≡ option_map run_of (segment_at old uid)) → IfOk did (λ run. IfSome run IsPageRun)
    → IfOk did (λ run. new.pages ≡ pages_left old.pages (segment_at old uid)) → IfOk (with_freed did) (Moves old.pages new.pages)
freed_moves old new uid (Ok run) taken is is_run left = by_segment (segment_at old uid) refl run is is_run left
  where
    by_segment : (o : Option Segment) → segment_at old uid ≡ o → (run : Option PageRun) → run ≡ option_map run_of o → IfSome run IsPageRun
        → new.pages ≡ pages_left old.pages o → AreMoved old.pages new.pages None run
    by_segment None at run is is_run left = rw is left
    by_segment (Some segment) at None is is_run left = absurd (cc)
    by_segment (Some segment) at (Some run) is is_run left =
        let same : run ≡ run_of segment = cc in
        record {
          is_run = is_run;
          taken = subst (IsTaken old.pages) (sym same) (taken uid segment at);
          left = left ∙ ap (λ (run : PageRun). with_free old.pages run.first run.count) (sym same);
        }
freed_moves old new uid (Err error) taken is is_run left = tt

-- a reply alone
pub said_answer : (F : Reply → Type 0) (reply : Result Reply AllocError) (result : Result Answered AllocError) → result ≡ said reply → IfOk reply F
    → IfOk result (λ a. F a.reply)
said_answer F (Ok reply) result e is = rw e is
said_answer F (Err error) result e is = rw e tt

pub said_runs : (old new : Plain) (reply : Result Reply AllocError) (result : Result Answered AllocError) → result ≡ said reply
    → new.hierarchy ≡ old.hierarchy → IfOk result (TellsRuns old new)
said_runs old new (Ok reply) result e same = rw e (kept_runs old new reply (ap (λ (h : Hierarchy). h.pages) same))
said_runs old new (Err error) result e same = rw e tt

-- where the next run was given out
pub next_runs : (old new : Plain) (result : Result Answered AllocError) → IfOk result (GivesNext old new) → IfOk result (TellsRuns old new)
next_runs old new (Ok answered) next = given_runs old new answered next
next_runs old new (Err error) next = tt

pub said_error : (F : Type 0) (reply : Result Reply AllocError) (result : Result Answered AllocError) → result ≡ said reply → OnErr reply F → OnErr result F
said_error F (Ok reply) result e is = rw e tt
said_error F (Err error) result e is = rw e is

-- what follows where an entry was found, and where none was
pub found_then : {A B : Type 0} (first : Result A Refusal) (rest : A → Result Hierarchy Refusal) (value : A) (old new : Hierarchy) (did : Result B HierError)
    → first ≡ Ok value → Answers (rest value) old did new → Answers (onward first rest) old did new
found_then first rest value old new did is a = subst (λ meant. Answers (onward meant rest) old did new) (sym is) a

pub not_found_then : {A : Type 0} (B : Type 0) (first : Result A Refusal) (rest : A → Result Hierarchy Refusal) (old : Hierarchy) (error : HierError)
    → Tells {A = A} first (Err error) → Answers {A = B} (onward first rest) old (Err error) old
not_found_then B first rest old (given.Refused why) is = (ap (λ meant. onward meant rest) is, refl)
not_found_then B first rest old given.Memory is = refl

-- what is told of the hierarchy, or why nothing is
module _ {A : Type 0} (s : Plain) (p ring : ℕ) (who : Caller) (as_reply : A → Reply) (meant : Caller → Result A Refusal) (is : IsCallerOf (asker s.processes p) ring who) where
  pub told_so : (value : A) → meant who ≡ Ok value → on_path s p ring (λ who. told s as_reply (meant who)) ≡ answer (as_reply value) s
  told_so value e = asked s p ring who (λ who. told s as_reply (meant who)) is ∙ ap (told s as_reply) e

  pub told_why : (why : Refusal) → meant who ≡ Err why → on_path s p ring (λ who. told s as_reply (meant who)) ≡ answer (reply.Refused why) s
  told_why why e = asked s p ring who (λ who. told s as_reply (meant who)) is ∙ ap (told s as_reply) e
