-- The initializer may make each request of a session's setup.
use Rattle.std.proofs.Common.{◌≡◌, ℕ, zero, suc, true, List, [], ◌∷◌, Some, refl, subst, arith}
use Rattle.std.specs.List.{slice_get, list_all}
use Rattle.std.specs.Prelude.{nat_le, ◌&&◌}
use Rattle.mx_request.proofs.StepLaws.{both}
use Rattle.mx_request.specs.Classes.{class_of}
use Rattle.mx_request.specs.Versions.{since_version}
use Rattle.mx_request.specs.declared.classes.RequestClass.{RequestClass}
use Rattle.mx_request.specs.declared.classes.RequestClass.TheVariants.{OfPath, OfProcess, OfSupervisor}
use Rattle.mx_request.specs.declared.requests.Request.{Request}
use Rattle.mx_script.specs.Sessions.{is_for_setup, is_short, is_setup_request}
use Rattle.mx_state.specs.History.{MayAsk}
use Rattle.mx_state.specs.Plain.{Plain}

of_path : (class : RequestClass) → is_for_setup class ≡ true → class ≡ OfPath
of_path OfPath e = refl
of_path OfProcess e = absurd (cc)
of_path OfSupervisor e = absurd (cc)

each_of : (version : ℕ) (requests : List Request) (i : ℕ) (request : Request) → list_all (is_setup_request version) requests ≡ true
    → slice_get requests i ≡ Some request → is_setup_request version request ≡ true
each_of version [] i request all e = absurd (cc)
each_of version (r ∷ requests) zero request all e =
    subst (λ x. is_setup_request version x ≡ true) (same r request e)
    (both (is_setup_request version r) (list_all (is_setup_request version) requests) all).0
  where
    same : (a b : Request) → Some a ≡ Some b → a ≡ b
    same a b e = cc
each_of version (r ∷ requests) (suc i) request all e =
    each_of version requests i request (both (is_setup_request version r) (list_all (is_setup_request version) requests) all).1 e

pub may_ask : (s : Plain) (version : ℕ) (requests : List Request) (i : ℕ) (request : Request)
    → list_all (is_setup_request version) requests ≡ true
    → slice_get requests i ≡ Some request → MayAsk s 0 request
may_ask s version requests i request all e = (
  omega arith,
  λ zero. of_path (class_of request)
      (both (is_for_setup (class_of request)) (nat_le (since_version request) version && is_short request)
      (each_of version requests i request all e)).0,
)
