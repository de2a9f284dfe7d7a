-- A refusal that is found before memory is taken is told.
use Rattle.std.proofs.Common.{◌≡◌, ℕ, Bool, List, Option, Some, None, Result, Ok, Err, IsOk, OnErr, refl, sym, subst}
use Rattle.std.specs.Option.{option_and_then}
use Rattle.std.specs.Result.{result_err}
use Rattle.std.specs.declared.alloc.AllocError.{AllocError}
use Rattle.mx_hier.specs.Branches.{Hierarchy}
use Rattle.mx_hier.specs.Callers.{Caller}
use Rattle.mx_hier.specs.Rules.{TellsFirst, onward}
use Rattle.mx_hier.specs.Walks.{entry, resolved}
use Rattle.mx_hier.specs.declared.refusals.HierError.{HierError}
use Rattle.mx_hier.specs.declared.refusals.HierError.TheVariants as fault
use Rattle.mx_hier.specs.declared.refusals.Refusal.{Refusal}
use Rattle.mx_state.specs.declared.applied.Applied.{Applied}
use Rattle.mx_state.specs.Askers.{Asker, Initializer, Process, Nobody}
use Rattle.mx_state.specs.AtOnce.{pathless}
use Rattle.mx_state.specs.Calling.{IsCallerOf, begun}
use Rattle.mx_state.specs.Replies.{IsRefused}

no_err : {A E : Type 0} (r : Result A E) → IsOk r → result_err r ≡ None
no_err (Ok x) ok = refl
no_err (Err e) ok = absurd (cc)

-- a pathname has a path where it was found from who asks
pub with_path : (a : Asker) (ring : ℕ) (who : Caller) (path : List ℕ) → IsCallerOf a ring who → IsOk (resolved who path) → pathless a ring path ≡ None
with_path Initializer ring who path is ok = subst (λ (w : Caller). result_err (resolved w path) ≡ None) is (no_err (resolved who path) ok)
with_path (Process process) ring who path is ok = subst (λ (w : Caller). result_err (resolved w path) ≡ None) is (no_err (resolved who path) ok)
with_path Nobody ring who path is ok = refl

pub with_any_path : (a : Asker) (ring : ℕ) (who : Caller) (path : Option (List ℕ)) → IsCallerOf a ring who → IsOk (begun who path)
    → option_and_then (pathless a ring) path ≡ None
with_any_path a ring who None is ok = refl
with_any_path a ring who (Some path) is ok = with_path a ring who path is ok

pub on_err : {T E P : Type 0} (r : Result T E) → P → OnErr r P
on_err (Ok x) p = tt
on_err (Err e) p = p

-- where the call is refused that is told, and else the pathname had a path
pub told_path : {A : Type 0} (P : Type 0) (found : Result A Refusal) (error : HierError) (result : Result Applied AllocError)
    → (IsOk found → P) → TellsFirst {B = Unit {0}} found (Err error) → IsRefused error result → OnErr result P
told_path P found (fault.Refused why) result then tells says = subst (λ (r : Result Applied AllocError). OnErr r P) (sym says) tt
told_path P found fault.Memory result then tells says = on_err result (then tells)

-- what went on from something had it
went_on : {A B : Type 0} (r : Result A Refusal) (rest : A → Result B Refusal) (b : B) → onward r rest ≡ Ok b → IsOk r
went_on (Ok a) rest b e = refl
went_on (Err why) rest b e = absurd (cc)

-- an entry that was found had a path
pub entry_path : (h : Hierarchy) (who : Caller) (path : List ℕ) (follow : Bool) (uid : ℕ) → entry h who path follow ≡ Ok uid → IsOk (resolved who path)
entry_path h who path follow uid e = went_on (resolved who path) _ uid e
