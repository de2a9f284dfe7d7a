-- Helpers that only private contracts cite: what is replied where a request on the hierarchy or a message gives nothing
-- back, and where it is refused; and what a request comes to that gives out no page.
use Rattle.std.specs.Prelude.{◌≡◌, List, [], Option, None, Result, Ok, Err, IsErr}
use Rattle.std.specs.declared.alloc.AllocError.{AllocError}
use Rattle.mx_core.specs.declared.changes.Change.{Change}
use Rattle.mx_hier.specs.declared.refusals.HierError.{HierError}
use Rattle.mx_hier.specs.declared.refusals.HierError.TheVariants as given
use Rattle.mx_hier.specs.declared.refusals.Refusal.TheVariants.{NoProcess, Ended, MailFull}
use Rattle.mx_mail.specs.declared.mail.MailError.{MailError}
use Rattle.mx_mail.specs.declared.mail.MailError.TheVariants as mail
use Rattle.mx_pages.specs.declared.pages.PageRun.{PageRun}
use Rattle.mx_request.specs.declared.replies.Reply.{Reply}
use Rattle.mx_request.specs.declared.replies.Reply.TheVariants.{Done, Refused, Sent}
use Rattle.mx_state.specs.declared.applied.Applied.{Applied}

-- a reply, the descriptors that changed, and the run of pages that was freed
abbrev pub telling : Reply → List Change → Option PageRun → Applied
telling reply changes freed = record { reply = reply; changes = changes; given = None; freed = freed }

-- a reply alone
abbrev pub alone : Reply → Applied
alone reply = telling reply [] None

abbrev pub Says : {A : Type 0} → Result A HierError → Result Reply AllocError → Type 0
Says (Ok value) result = result ≡ Ok Done
Says (Err (given.Refused why)) result = result ≡ Ok (Refused why)
Says (Err given.Memory) result = IsErr result

-- where a message is sent, or is not
abbrev pub SaysSent : Result (Unit {0}) MailError → Result Reply AllocError → Type 0
SaysSent (Ok value) result = result ≡ Ok Sent
SaysSent (Err mail.NoProcess) result = result ≡ Ok (Refused NoProcess)
SaysSent (Err mail.Ended) result = result ≡ Ok (Refused Ended)
SaysSent (Err mail.Full) result = result ≡ Ok (Refused MailFull)
SaysSent (Err mail.Memory) result = IsErr result

abbrev pub IsRefused : HierError → Result Applied AllocError → Type 0
IsRefused (given.Refused why) result = result ≡ Ok (alone (Refused why))
IsRefused given.Memory result = IsErr result
