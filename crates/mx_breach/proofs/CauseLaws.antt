-- An entry that is bad, in its place and made by who may make it, has another reply.
use Rattle.std.proofs.Common.{◌≡◌, ℕ, ◌<◌, ◌≤◌, length, arith}
use Rattle.mx_legal.specs.Entries.{IsGoodEntry}
use Rattle.mx_request.specs.Classes.{class_of}
use Rattle.mx_request.specs.declared.classes.RequestClass.TheVariants.{OfPath}
use Rattle.mx_script.specs.Sessions.{Outline, limit_of}
use Rattle.mx_state.specs.Plain.{Plain}
use Rattle.mx_state.specs.Requests.{plain}
use Rattle.mx_state.specs.declared.journal.Entry as journaled

pub other_reply : (session : Outline) (state : Plain) (place : ℕ) (entry : journaled.Entry) → place < limit_of session
    → entry.process ≤ length session.principals → (place < length session.setup → entry.process ≡ 0)
    → (entry.process ≡ 0 → entry.ring ≡ 0) → (entry.process ≡ 0 → class_of entry.request ≡ OfPath)
    → length state.processes ≡ length session.principals → (IsGoodEntry session state place entry → ⊥)
    → (plain state entry.process entry.ring entry.request).reply ≡ entry.reply → ⊥
other_reply session state place entry limit process setup ring path same bad reply = bad (record {
  in_place = record {
    within_limit = limit;
    setup_first = λ h. setup (omega (arith, h));
    ring = ring;
  };
  right = record { maker = (omega (arith, process, same), path); reply = reply };
})
