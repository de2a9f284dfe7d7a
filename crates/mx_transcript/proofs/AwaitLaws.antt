-- Only who blocks is told to wait and then resumes.
use Rattle.std.proofs.Common.{◌≡◌, ◌⊎◌, inl, inr, refl, ap, sym, ◌∙◌}
use Rattle.mx_upcall.specs.Control.{Control}
use Rattle.mx_request.specs.Classes.{class_of}
use Rattle.mx_request.specs.declared.classes.RequestClass.TheVariants.{OfPath, OfProcess}
use Rattle.mx_request.specs.declared.replies.Reply.{Reply}
use Rattle.mx_request.specs.declared.replies.Reply.TheVariants as reply
use Rattle.mx_request.specs.declared.requests.Request.{Request}
use Rattle.mx_request.specs.declared.requests.Request.TheVariants as ask
use Rattle.mx_transcript.specs.declared.transcripts.Result2.{Result2}
use Rattle.mx_transcript.specs.Asking.{awaits, replied, result_of}
use Rattle.mx_transcript.specs.Next.{Reference, Asks, Calls, Ends, Nowhere}

awaits_is : (g : Control) (request : Request) → (awaits g request ≡ Nowhere) ⊎ (request ≡ ask.Block)
awaits_is g ask.Block = inr refl
awaits_is g (ask.CreateDir path d1 d2) = inl refl
awaits_is g (ask.CreateSeg path words brackets) = inl refl
awaits_is g (ask.CreateObject path words brackets map) = inl refl
awaits_is g (ask.CreateLink path target) = inl refl
awaits_is g (ask.Rename path name) = inl refl
awaits_is g (ask.Delete path) = inl refl
awaits_is g (ask.SetAcl path id modes) = inl refl
awaits_is g (ask.DelAcl path id) = inl refl
awaits_is g (ask.SetIacl path kind id modes) = inl refl
awaits_is g (ask.DelIacl path kind id) = inl refl
awaits_is g (ask.SetClass path class) = inl refl
awaits_is g (ask.SetBrackets path brackets) = inl refl
awaits_is g (ask.SetDirBrackets path d1 d2) = inl refl
awaits_is g (ask.Status path) = inl refl
awaits_is g (ask.List path) = inl refl
awaits_is g (ask.ChangeWdir path) = inl refl
awaits_is g (ask.SetRules rules) = inl refl
awaits_is g (ask.Initiate path name) = inl refl
awaits_is g (ask.Terminate segno) = inl refl
awaits_is g (ask.Wakeup to word) = inl refl
awaits_is g (ask.Link segno word) = inl refl
awaits_is g ask.Resume = inl refl
awaits_is g ask.Logout = inl refl

-- so a line that waits asks for no end, and for no reference
pub awaits_no_end : (g : Control) (request : Request) (ends : Result2) (now : Control) → awaits g request ≡ Ends ends now
    → ⊥
awaits_no_end g request ends now e = elim (awaits_is g request) [
  | inl none ↦ nowhere (sym none ∙ e)
  | inr block ↦ calls (sym (ap (awaits g) block) ∙ e)
]
  where
    nowhere : Nowhere ≡ Ends ends now → ⊥
    nowhere h = cc

    calls : Calls g.registers.ring ask.Resume ≡ Ends ends now → ⊥
    calls h = cc

awaits_no_reference : (g : Control) (request : Request) (r : Reference) → awaits g request ≡ Asks r → ⊥
awaits_no_reference g request r e = elim (awaits_is g request) [
  | inl none ↦ nowhere (sym none ∙ e)
  | inr block ↦ calls (sym (ap (awaits g) block) ∙ e)
]
  where
    nowhere : Nowhere ≡ Asks r → ⊥
    nowhere h = cc

    calls : Calls g.registers.ring ask.Resume ≡ Asks r → ⊥
    calls h = cc

pub replied_asks : (g : Control) (request : Request) (given : Reply) (r : Reference) → replied g request given ≡ Asks r → ⊥
replied_asks g request reply.Waiting r e = awaits_no_reference g request r e
replied_asks g request (reply.Refused why) r e = cc
replied_asks g request reply.Done r e = cc
replied_asks g request (reply.Status status) r e = cc
replied_asks g request (reply.Names names) r e = cc
replied_asks g request (reply.Segno known) r e = cc
replied_asks g request (reply.Linked segno word fresh linkage) r e = cc
replied_asks g request reply.Sent r e = cc
replied_asks g request (reply.Message sender word) r e = cc
replied_asks g request reply.Nobody r e = cc

-- a request on a path is never asked again
pub waits_for_none : (g : Control) (request : Request) → class_of request ≡ OfPath → awaits g request ≡ Nowhere
waits_for_none g request path = elim (awaits_is g request) [
  | inl none ↦ none
  | inr block ↦ absurd (apart (sym (ap class_of block) ∙ path))
]
  where
    apart : OfProcess ≡ OfPath → ⊥
    apart h = cc

-- a link was snapped
abbrev pub IsLinked : Reply → Type 0
IsLinked (reply.Linked segno word fresh linkage) = Unit {0}
IsLinked _ = ⊥

-- whoever is neither told to wait nor that a link was snapped ends the line with the reply
pub replied_so : (g : Control) (request : Request) (given : Reply) → (given ≡ reply.Waiting → ⊥)
    → (IsLinked given → ⊥) → replied g request given ≡ Ends (result_of given) g
replied_so g request reply.Waiting never unlinked = absurd (never refl)
replied_so g request (reply.Linked segno word fresh linkage) never unlinked = absurd (unlinked tt)
replied_so g request (reply.Refused why) never unlinked = refl
replied_so g request reply.Done never unlinked = refl
replied_so g request (reply.Status status) never unlinked = refl
replied_so g request (reply.Names names) never unlinked = refl
replied_so g request (reply.Segno known) never unlinked = refl
replied_so g request reply.Sent never unlinked = refl
replied_so g request (reply.Message sender word) never unlinked = refl
replied_so g request reply.Nobody never unlinked = refl
