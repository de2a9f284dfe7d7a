-- Helpers: what sending a message comes to.
use Rattle.std.specs.Prelude.{◌≡◌, ℕ, List, Result, Ok, Err}
use Rattle.mx_hier.specs.Rules.{first_of, unless}
use Rattle.mx_hier.specs.declared.refusals.Refusal.{Refusal}
use Rattle.mx_mail.specs.Processes.{PlainProcess, process_at}
use Rattle.mx_mail.specs.Sending.{deliver}
use Rattle.mx_state.specs.Messages.{wakeup_refusals}

-- the mail after a message, or why it is not sent
abbrev pub sending : List PlainProcess → ℕ → ℕ → ℕ → Result (List PlainProcess) Refusal
sending mail sender to word =
    unless (first_of (wakeup_refusals (process_at mail to))) (deliver mail to (process_at mail to) (sender, word))

abbrev pub Sends : List PlainProcess → ℕ → ℕ → ℕ → Result (Unit {0}) Refusal → List PlainProcess → Type 0
Sends old sender to word (Ok done) new = sending old sender to word ≡ Ok new
Sends old sender to word (Err why) new = (sending old sender to word ≡ Err why) × (new ≡ old)
