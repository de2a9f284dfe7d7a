-- What serving a request comes to.
use Rattle.std.specs.Prelude.{◌≡◌, [], length}
use Rattle.std.specs.List.{All}
use Rattle.mx_hier.specs.declared.refusals.Refusal.{Refusal}
use Rattle.mx_request.specs.declared.replies.Reply.TheVariants.{Refused}
use Rattle.mx_request.specs.Versions.{last_number}
use Rattle.mx_state.specs.declared.applied.Applied.{Applied}
use Rattle.mx_state.specs.Changes.{AreChanges, IsBounded}
use Rattle.mx_state.specs.Given.{AreGiven, AreFreed}
use Rattle.mx_state.specs.Plain.{Plain, Answer, answer}

-- the reply and the state that are meant, and exactly the descriptors that changed, the pages that were given out and
-- those that were freed; the session is of one version
pub record Serves (old new : Plain) (meant : Answer) (applied : Applied) : Type 0 where
  pub as_meant : meant ≡ answer applied.reply new
  pub changes : AreChanges old new applied.changes
  pub bounded : All (IsBounded (last_number old.version)) applied.changes
  pub given : AreGiven old new applied.given
  pub freed : AreFreed old new applied.freed
  pub version : new.version ≡ old.version
  pub count : length new.processes ≡ length old.processes

-- a refusal leaves the state, and no change is told
abbrev pub RefusesQuietly : Plain → Plain → Applied → Type 0
RefusesQuietly old new applied = (why : Refusal) → applied.reply ≡ Refused why → (new ≡ old) × (applied.changes ≡ [])
