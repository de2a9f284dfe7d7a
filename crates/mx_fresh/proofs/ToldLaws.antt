-- Where a request is answered by the want of memory, its path was resolved.
use Rattle.std.proofs.Common.{◌≡◌, ℕ, ◌≤◌, ◌-◌, List, Some, Result, Ok, Err, OnErr, IsOk, slice_get, ne_eqb, refl, sym, subst, ◌∙◌, arith}
use Rattle.std.specs.declared.alloc.AllocError.{AllocError}
use Rattle.mx_hier.specs.Callers.{Caller}
use Rattle.mx_hier.specs.Rules.{TellsFirst}
use Rattle.mx_hier.specs.declared.refusals.HierError.{HierError}
use Rattle.mx_hier.specs.declared.refusals.HierError.TheVariants as given
use Rattle.mx_request.specs.declared.requests.Request.{Request}
use Rattle.mx_state.specs.Askers.{Asker, Initializer, Process, Nobody, asker, caller}
use Rattle.mx_state.specs.Calling.{IsCallerOf}
use Rattle.mx_state.specs.Plain.{Plain}
use Rattle.mx_state.specs.declared.states.ProcessState.{ProcessState}
use Rattle.mx_fresh.specs.Said.{SaysDone}
use Rattle.mx_fresh.specs.Told.{path_found, IsResolved}
use Rattle.mx_fresh.specs.declared.answered.Answered.{Answered}
use Rattle.mx_fresh.specs.declared.answered.Runs.{Runs}
use Rattle.mx_fresh.proofs.AnswerLaws.{on_error}

-- one alone asks
one_caller : (a : Asker) (ring : ℕ) (who other : Caller) → IsCallerOf a ring who → IsCallerOf a ring other → other ≡ who
one_caller Initializer ring who other is at = at ∙ sym is
one_caller (Process process) ring who other is at = at ∙ sym is
one_caller Nobody ring who other is at = absurd is

pub resolved_for : (s : Plain) (p ring : ℕ) (who : Caller) (request : Request) → IsCallerOf (asker s.processes p) ring who
    → IsOk (path_found who request) → IsResolved s p ring request
resolved_for s p ring who request is found = λ other at.
    subst (λ (who : Caller). IsOk (path_found who request)) (sym (one_caller (asker s.processes p) ring who other is at)) found

pub told_of : (s : Plain) (p ring : ℕ) (who : Caller) (request : Request) (did : Result Runs HierError) (result : Result Answered AllocError)
    → IsCallerOf (asker s.processes p) ring who → TellsFirst (path_found who request) did → SaysDone did result → OnErr result (IsResolved s p ring request)
told_of s p ring who request (Ok run) result is told e = rw e tt
told_of s p ring who request (Err (given.Refused why)) result is told e = rw e tt
told_of s p ring who request (Err given.Memory) result is told e =
    on_error result (IsResolved s p ring request) (resolved_for s p ring who request is told)

-- a process as the one who asks
pub asks : (processes : List ProcessState) (p ring : ℕ) (process : ProcessState) → 1 ≤ p → slice_get processes (p - 1) ≡ Some process
    → IsCallerOf (asker processes p) ring (caller process ring)
asks processes p ring process low there = rw (ne_eqb p 0 (λ z. omega (arith, z, low)), there) refl
