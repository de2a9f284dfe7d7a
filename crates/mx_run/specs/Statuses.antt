-- What the other statuses of the top call mean. A source's bytes and a sink's are spoken of where they are told.
use Rattle.std.specs.Prelude.{◌≡◌, ◌⊎◌, ℕ, ◌≤◌, ◌<◌, List, length, Option}
use Rattle.mx_audit.specs.Accounts.{Account}
use Rattle.mx_check.specs.Judgements as judged
use Rattle.mx_script.specs.SessionTexts.{IsSomeSession}
use Rattle.mx_run.specs.Done.{most_bytes}
use Rattle.mx_run.specs.Commands.{IsRun, IsDrill, IsCheck, IsAccepted}
use Rattle.mx_run.specs.Verdicts.{IsVerdict, verdict_text, verdict_status}
use Rattle.mx_run.specs.declared.verdicts.Verdict.{Verdict}

-- The text of a right verdict that has this status was printed, where `Printed` says which text was: at statuses 0, 2, 5, 6
-- and 7 the whole; at status 4, and at status 1 where anything was written, the front and not all of it.
pub record HasPrinted (Printed : List ℕ → Type 0) (words : List (List ℕ)) (source source' : Option (List ℕ))
    (accounts accounts' : List Account) (status : ℕ) : Type 0 where
  pub verdict : Verdict
  pub right : IsVerdict words source source' accounts accounts' verdict
  pub status_is : status ≡ verdict_status verdict
  pub printed : Printed (verdict_text verdict)

-- Statuses 1, 3 and 4: memory ran out, or the source or the sink failed.
abbrev pub IsStopped : ℕ → Type 0
IsStopped status = (status ≡ 1) ⊎ ((status ≡ 3) ⊎ (status ≡ 4))

-- The status that the words of a command and the bytes of its source ask for.
pub record IsDueStatus (words : List (List ℕ)) (spelled : List ℕ) (status : ℕ) : Type 0 where
  pub bad_words : (IsAccepted words → ⊥) → status ≡ 2
  pub drill : (number : ℕ) → IsDrill words number → status ≡ 0
  pub session : IsRun words → length spelled ≤ most_bytes → IsSomeSession spelled → status ≡ 0
  pub no_session : IsRun words → length spelled ≤ most_bytes → (IsSomeSession spelled → ⊥) → status ≡ 5
  pub too_long : IsRun words → most_bytes < length spelled → status ≡ 6
  pub check : IsCheck words → judged.IsDueStatus spelled status
