-- What may be replied to a request.
use Rattle.std.specs.Prelude.{◌≡◌, ◌⊎◌, ℕ}
use Rattle.mx_request.specs.declared.replies.Reply.{Reply}
use Rattle.mx_request.specs.declared.replies.Reply.TheVariants as reply
use Rattle.mx_request.specs.declared.requests.Request.{Request}
use Rattle.mx_request.specs.declared.requests.Request.TheVariants as ask

-- it is the request to follow a link
abbrev pub AsksForLink : Request → Type 0
AsksForLink request = (segno : ℕ) × (word : ℕ) × (request ≡ ask.Link segno word)

-- and not that one
abbrev pub AsksForNoLink : Request → Type 0
AsksForNoLink request = (segno word : ℕ) → request ≡ ask.Link segno word → ⊥

-- nor for a message
abbrev pub AsksForNoMessage : Request → Type 0
AsksForNoMessage request = (request ≡ ask.Block → ⊥) × (request ≡ ask.Resume → ⊥)

-- nor to log out
abbrev pub AsksForNoLogout : Request → Type 0
AsksForNoLogout request = request ≡ ask.Logout → ⊥

-- `waiting` only to `block` and `resume`, where a link leads only to `link`, and to `link` nothing but that or a refusal; no
-- segment to who asks for a message, or logs out
abbrev pub IsReplyFor : Request → Reply → Type 0
IsReplyFor request reply.Done = AsksForNoLink request
IsReplyFor request (reply.Refused why) = Unit {0}
IsReplyFor request (reply.Status status) = AsksForNoLink request
IsReplyFor request (reply.Names names) = AsksForNoLink request
IsReplyFor request (reply.Segno known) = AsksForNoLink request × AsksForNoMessage request × AsksForNoLogout request
IsReplyFor request (reply.Linked to at fresh linkage) = AsksForLink request
IsReplyFor request reply.Sent = AsksForNoLink request
IsReplyFor request (reply.Message sender word) = AsksForNoLink request
IsReplyFor request reply.Nobody = AsksForNoLink request
IsReplyFor request reply.Waiting = (request ≡ ask.Block) ⊎ (request ≡ ask.Resume)
