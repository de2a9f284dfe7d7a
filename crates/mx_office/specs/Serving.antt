-- What an entry leaves its process, and what a full journal does: each field is what the process's own part wants.
use Rattle.std.specs.Prelude.{◌≡◌, ℕ, suc, ◌+◌, ◌<◌, ◌≤◌, List, [], ◌∷◌, ◌++◌, length, Option, Some, None, slice_get}
use Rattle.mx_closing.specs.Views.{marked_in}
use Rattle.mx_core.specs.declared.changes.Run.{Run}
use Rattle.mx_core.specs.declared.elements.Kept.{Kept}
use Rattle.mx_core.specs.declared.elements.Kept.TheVariants.{Missed}
use Rattle.mx_desc.specs.Passes.{PassValue}
use Rattle.mx_pages.specs.declared.pages.PageRun.{PageRun}
use Rattle.mx_request.specs.declared.replies.Reply.{Reply}
use Rattle.mx_request.specs.declared.replies.Reply.TheVariants as reply
use Rattle.mx_request.specs.declared.requests.Request.{Request}
use Rattle.mx_rule.specs.Shown.{all_told}
use Rattle.mx_script.specs.Sessions.{Outline, limit_of}
use Rattle.mx_state.specs.Told.{IsLinkedWithin}
use Rattle.mx_state.specs.declared.journal.Entry as journaled
use Rattle.mx_sup.specs.Entering.{HasEntered as HasBeenEntered}
use Rattle.mx_sup.specs.Supervised.{Supervised}
use Rattle.mx_ties.specs.Closed.{followed}
use Rattle.mx_ties.specs.Views.{Marked}
use Rattle.mx_transcript.specs.Misses.{IsChanged}
use Rattle.mx_office.specs.Replies.{IsReplyFor}
use Rattle.mx_office.specs.declared.answers.Answer.{Answer}
use Rattle.mx_office.specs.declared.answers.Answer.TheVariants.{Refused, Known, Linked, Waiting, Other}
use Rattle.mx_office.specs.declared.answers.Served.{Served}

-- the runs that an entry gives
abbrev pub runs_of : Option PageRun → List Run
runs_of None = []
runs_of (Some run) = record { page = run.first; pages = run.count } ∷ []

-- what a line asks of a reply
abbrev pub answer_of : Reply → Answer
answer_of reply.Done = Other
answer_of (reply.Refused why) = Refused
answer_of (reply.Status status) = Other
answer_of (reply.Names names) = Other
answer_of (reply.Segno known) = Known known.linkage
answer_of (reply.Linked segno word fresh linkage) = Linked segno word linkage
answer_of reply.Sent = Other
answer_of (reply.Message sender word) = Other
answer_of reply.Nobody = Other
answer_of reply.Waiting = Waiting

-- the plain supervisor entered it for process p, and what it replied is answered
pub record IsServed (old : Supervised) (p ring : ℕ) (request : Request) (served : Served) (new : Supervised) : Type 0 where
  pub made : HasBeenEntered old p ring request served.number new
  pub answered : served.answer ≡ answer_of made.reply

-- the last settled entry of which a process was told, by number
abbrev pub told_to : PassValue journaled.Entry → ℕ → ℕ
told_to o n = all_told o.view.start o.view.told o.view.process n

-- a process was told of more, and did nothing
pub record HasGrown (o o' : PassValue journaled.Entry) : Type 0 where
  pub more : List Marked
  pub history : marked_in o'.view.history ≡ marked_in o.view.history ++ more
  pub floor : o.view.floor ≤ o'.view.floor
  pub told : (n : ℕ) → told_to o n ≤ told_to o' n
  pub trace : o'.view.trace ≡ o.view.trace
  pub memory : o'.view.memory ≡ o.view.memory
  pub stage : o'.view.stage ≡ o.view.stage
  pub process : o'.view.process ≡ o.view.process
  pub start : o'.view.start ≡ o.view.start
  pub spare : o'.spare ≡ o.spare

-- The process made this request: the history that it was told of has the entry, with its reply, at its place, and with a
-- mark that counts what the process did. The reply is one to this request, and a place to which a link leads is one that a
-- pointer can name. The number is above the floor that it had, which then has reached it; of each own pair that the entry
-- changed the process knows it settled. The share counts one entry more.
pub record HasEntered (x : Outline) (setup : List journaled.Entry) (ring : ℕ) (request : Request) (served : Served)
    (o o' : PassValue journaled.Entry) : Type 0 where
  pub grown : HasGrown o o'
  pub place : ℕ
  pub is : served.number ≡ length setup + suc place
  pub marked : Marked
  pub at : slice_get (marked_in o'.view.history) place ≡ Some marked
  pub entry : marked.entry
      ≡ record { process = o.view.process; ring = ring; request = request; reply = marked.entry.reply }
  pub linked : IsLinkedWithin marked.entry.reply
  pub fits : IsReplyFor request marked.entry.reply
  pub answered : served.answer ≡ answer_of marked.entry.reply
  pub mark : marked.mark ≡ length o.view.trace
  pub above : o.view.floor < served.number
  pub reached : o'.view.floor ≡ served.number
  pub own : (n : ℕ) → IsChanged x (followed setup (marked_in o'.view.history)) o.view.process n served.number
      → served.number ≤ told_to o' n
  pub amount : o'.amount ≡ o.amount + 1

-- the journal is at its limit, which is the length; the process was told of all of it
pub record HasMetLimit (x : Outline) (length : ℕ) (o o' : PassValue journaled.Entry) : Type 0 where
  pub limit : length ≡ limit_of x
  pub floor : o'.view.floor ≡ length
  pub grown : HasGrown o o'
  pub amount : o'.amount ≡ o.amount

-- The process was told of more, and did nothing. Where the last that it did was a miss of this number, its floor has
-- reached the entry by which it missed, and it knows the number settled by that entry or a later one.
pub record HasSettled (segno : ℕ) (o o' : PassValue journaled.Entry) : Type 0 where
  pub grown : HasGrown o o'
  pub floor : (front : List Kept) (by : ℕ) → o.view.trace ≡ front ++ Missed segno by ∷ [] → by ≤ o'.view.floor
  pub told : (front : List Kept) (by : ℕ) → o.view.trace ≡ front ++ Missed segno by ∷ [] → by ≤ told_to o' segno
  pub amount : o'.amount ≡ o.amount
