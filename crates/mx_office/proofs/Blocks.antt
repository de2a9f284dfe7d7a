-- What `block` leaves its process, from its two entries.
use Rattle.std.proofs.Common.{◌≡◌, ℕ, List, Result, Err, sym, subst, arith}
use Rattle.mx_desc.specs.Passes.{PassValue}
use Rattle.mx_request.specs.declared.requests.Request.TheVariants.{Block, Resume}
use Rattle.mx_script.specs.Sessions.{Outline}
use Rattle.mx_state.specs.declared.journal.Entry as journaled
use Rattle.mx_office.specs.Blocking.{HasBlocked, HasWaited}
use Rattle.mx_office.specs.Serving.{HasEntered, HasMetLimit}
use Rattle.mx_office.specs.declared.answers.Answer.{Answer}
use Rattle.mx_office.specs.declared.answers.Answer.TheVariants.{Waiting}
use Rattle.mx_office.specs.declared.answers.Blocked.TheVariants as blocked
use Rattle.mx_office.specs.declared.answers.EnterError.{EnterError}
use Rattle.mx_office.specs.declared.answers.Served.{Served}

pub err_as : (result : Result Served EnterError) (why met : EnterError) → result ≡ Err why → why ≡ met → result ≡ Err met
err_as result why met is same = subst (λ (z : EnterError). result ≡ Err z) same is

module _ (x : Outline) (setup : List journaled.Entry) (ring : ℕ) (o : PassValue journaled.Entry) (first : Served)
    (between : PassValue journaled.Entry) (entered : HasEntered x setup ring Block first o between)
    (waits : first.answer ≡ Waiting) where
  pub waited_by : HasWaited x setup ring first.number o between
  waited_by = subst (λ (a : Answer). HasEntered x setup ring Block (record { number = first.number; answer = a }) o between)
      waits entered

  pub resumed_by : (later : Served) (o' : PassValue journaled.Entry) → HasEntered x setup ring Resume later between o'
      → (later.answer ≡ Waiting → ⊥) → HasBlocked x setup ring (blocked.Resumed first.number later) o o'
  resumed_by later o' resumed given = record {
    between = between;
    above = (let a = entered.reached in let b = resumed.above in omega arith);
    given = given;
    waited = waited_by;
    entered = resumed;
  }

  pub cut_by : (length : ℕ) (o' : PassValue journaled.Entry) → HasMetLimit x length between o'
      → HasBlocked x setup ring (blocked.CutShort first.number) o o'
  cut_by length o' met = record {
    between = between;
    waited = waited_by;
    limit = subst (λ (n : ℕ). HasMetLimit x n between o') met.limit met;
  }
