-- Which rule on the entries of a journal an entry fails, at its place, counted from 0, and after this state.
use Rattle.std.specs.Prelude.{◌≡◌, ℕ, ◌<◌, ◌≤◌, length}
use Rattle.mx_breach.specs.declared.causes.EntryCause.{EntryCause}
use Rattle.mx_breach.specs.declared.causes.EntryCause.TheVariants as cause
use Rattle.mx_request.specs.Classes.{class_of}
use Rattle.mx_request.specs.declared.classes.RequestClass.TheVariants.{OfPath}
use Rattle.mx_script.specs.Sessions.{Outline, limit_of}
use Rattle.mx_state.specs.Plain.{Plain}
use Rattle.mx_state.specs.Requests.{plain}
use Rattle.mx_state.specs.declared.journal.Entry as journaled

abbrev pub Fails : Outline → Plain → ℕ → journaled.Entry → EntryCause → Type 0
Fails session state place entry cause.PastLimit = limit_of session ≤ place
Fails session state place entry cause.NoProcess = length session.principals < entry.process
Fails session state place entry cause.InSetup = (place < length session.setup) × (entry.process ≡ 0 → ⊥)
Fails session state place entry cause.OtherRing = (entry.process ≡ 0) × (entry.ring ≡ 0 → ⊥)
Fails session state place entry cause.NoPath = (entry.process ≡ 0) × (class_of entry.request ≡ OfPath → ⊥)
Fails session state place entry cause.OtherReply =
    (plain state entry.process entry.ring entry.request).reply ≡ entry.reply → ⊥
