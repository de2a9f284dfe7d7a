-- Replies after which a request's line ends at once, and that a request on a path has such a one.
use Rattle.std.proofs.Common.{◌≡◌, ℕ, List, [], ◌++◌, length, Option, None, Result, Ok, Err, refl, ap, ◌∙◌}
use Rattle.std.specs.List.{slice_get}
use Rattle.mx_upcall.specs.Control.{Control}
use Rattle.mx_hier.specs.Branches.{Hierarchy}
use Rattle.mx_hier.specs.Callers.{Caller}
use Rattle.mx_hier.specs.declared.refusals.Refusal.{Refusal}
use Rattle.mx_request.specs.Classes.{class_of}
use Rattle.mx_request.specs.Sections.{section_in}
use Rattle.mx_request.specs.declared.classes.RequestClass.TheVariants.{OfPath}
use Rattle.mx_request.specs.declared.replies.Reply.{Reply}
use Rattle.mx_request.specs.declared.replies.Reply.TheVariants as reply
use Rattle.mx_request.specs.declared.requests.Request.{Request}
use Rattle.mx_request.specs.declared.requests.Request.TheVariants as ask
use Rattle.mx_script.specs.declared.lines.Line.TheVariants.{Ask}
use Rattle.mx_state.specs.Shown.{shown}
use Rattle.mx_state.specs.Askers.{Asker, Initializer, Process, Nobody, asker, answered_caller}
use Rattle.mx_state.specs.Plain.{Plain, Answer}
use Rattle.mx_state.specs.Requests.{plain, changed, told}
use Rattle.mx_state.specs.declared.journal.Entry as journaled
use Rattle.mx_transcript.specs.Asking.{next, replied, first_due, result_of}
use Rattle.mx_transcript.specs.Courses as course
use Rattle.mx_transcript.specs.Courses.{Judged}
use Rattle.mx_transcript.specs.Filling.{section_words, snapped, due, links_of}
use Rattle.mx_transcript.specs.Next.{Reference, Ends}

-- a reply that asks for no write, and tells nobody to wait
abbrev pub IsFinal : Reply → Type 0
IsFinal (reply.Segno known) = known.linkage ≡ None
IsFinal (reply.Linked segno word fresh linkage) = ⊥
IsFinal reply.Waiting = ⊥
IsFinal reply.Done = Unit {0}
IsFinal (reply.Refused why) = Unit {0}
IsFinal (reply.Status status) = Unit {0}
IsFinal (reply.Names names) = Unit {0}
IsFinal reply.Sent = Unit {0}
IsFinal (reply.Message sender word) = Unit {0}
IsFinal reply.Nobody = Unit {0}

no_writes : (request : Request) (ring : ℕ) (given : Reply) (links : ℕ) → IsFinal given
    → section_words (section_in given) links ++ snapped request ring given ≡ []
no_writes request ring (reply.Segno known) links none =
    ap (λ (made : Option ℕ). section_words made links ++ []) none
no_writes request ring (reply.Linked segno word fresh linkage) links none = absurd none
no_writes request ring reply.Waiting links none = absurd none
no_writes request ring reply.Done links none = refl
no_writes request ring (reply.Refused why) links none = refl
no_writes request ring (reply.Status status) links none = refl
no_writes request ring (reply.Names names) links none = refl
no_writes request ring reply.Sent links none = refl
no_writes request ring (reply.Message sender word) links none = refl
no_writes request ring reply.Nobody links none = refl

pub nothing_due : (entry : journaled.Entry) (filled : List Judged) → IsFinal entry.reply → due entry filled ≡ None
nothing_due entry filled none =
    ap (λ (writes : List Reference). slice_get writes (length filled))
    (no_writes entry.request entry.ring entry.reply (links_of filled) none)

replied_last : (g : Control) (request : Request) (given : Reply) → IsFinal given
    → replied g request given ≡ Ends (result_of given) g
replied_last g request (reply.Segno known) none = refl
replied_last g request (reply.Linked segno word fresh linkage) none = absurd none
replied_last g request reply.Waiting none = absurd none
replied_last g request reply.Done none = refl
replied_last g request (reply.Refused why) none = refl
replied_last g request (reply.Status status) none = refl
replied_last g request (reply.Names names) none = refl
replied_last g request reply.Sent none = refl
replied_last g request (reply.Message sender word) none = refl
replied_last g request reply.Nobody none = refl

pub final_ends : (g : Control) (request : Request) (entry : journaled.Entry) → IsFinal entry.reply
    → next g (Ask request) (course.Answer entry []) ≡ Ends (result_of entry.reply) g
final_ends g request entry none =
    ap (λ (write : Option Reference). first_due write (replied g entry.request entry.reply)) (nothing_due entry [] none)
    ∙ replied_last g entry.request entry.reply none

by_caller : (s : Plain) (a : Asker) (ring : ℕ) (f : Caller → Answer) → ((who : Caller) → IsFinal (f who).reply)
    → IsFinal (answered_caller s a ring f).reply
by_caller s Initializer ring f each = each _
by_caller s (Process process) ring f each = each _
by_caller s Nobody ring f each = tt

change_final : (s : Plain) (r : Result Hierarchy Refusal) → IsFinal (changed s r).reply
change_final s (Ok hierarchy) = tt
change_final s (Err why) = tt

told_final : {A : Type 0} (s : Plain) (as_reply : A → Reply) (r : Result A Refusal)
    → ((value : A) → IsFinal (as_reply value)) → IsFinal (told s as_reply r).reply
told_final s as_reply (Ok value) each = each value
told_final s as_reply (Err why) each = tt

-- a request on a path is answered so
pub path_final : (s : Plain) (p ring : ℕ) (request : Request) → class_of request ≡ OfPath
    → IsFinal (plain s p ring request).reply
path_final s p ring (ask.CreateDir path d1 d2) c = by_caller s (asker s.processes p) ring _ (λ who. change_final s _)
path_final s p ring (ask.CreateSeg path words brackets) c =
    by_caller s (asker s.processes p) ring _ (λ who. change_final s _)
path_final s p ring (ask.CreateObject path words brackets map) c =
    by_caller s (asker s.processes p) ring _ (λ who. change_final s _)
path_final s p ring (ask.CreateLink path target) c = by_caller s (asker s.processes p) ring _ (λ who. change_final s _)
path_final s p ring (ask.Rename path name) c = by_caller s (asker s.processes p) ring _ (λ who. change_final s _)
path_final s p ring (ask.Delete path) c = by_caller s (asker s.processes p) ring _ (λ who. change_final s _)
path_final s p ring (ask.SetAcl path id modes) c = by_caller s (asker s.processes p) ring _ (λ who. change_final s _)
path_final s p ring (ask.DelAcl path id) c = by_caller s (asker s.processes p) ring _ (λ who. change_final s _)
path_final s p ring (ask.SetIacl path kind id modes) c = by_caller s (asker s.processes p) ring _ (λ who. change_final s _)
path_final s p ring (ask.DelIacl path kind id) c = by_caller s (asker s.processes p) ring _ (λ who. change_final s _)
path_final s p ring (ask.SetClass path class) c = by_caller s (asker s.processes p) ring _ (λ who. change_final s _)
path_final s p ring (ask.SetBrackets path brackets) c =
    by_caller s (asker s.processes p) ring _ (λ who. change_final s _)
path_final s p ring (ask.SetDirBrackets path d1 d2) c =
    by_caller s (asker s.processes p) ring _ (λ who. change_final s _)
path_final s p ring (ask.Status path) c =
    by_caller s (asker s.processes p) ring _ (λ who. told_final s (λ status. reply.Status (shown s.version status)) _ (λ value. tt))
path_final s p ring (ask.List path) c =
    by_caller s (asker s.processes p) ring _ (λ who. told_final s reply.Names _ (λ value. tt))
path_final s p ring (ask.ChangeWdir path) c = absurd cc
path_final s p ring (ask.SetRules rules) c = absurd cc
path_final s p ring (ask.Initiate path name) c = absurd cc
path_final s p ring (ask.Terminate segno) c = absurd cc
path_final s p ring (ask.Wakeup to word) c = absurd cc
path_final s p ring ask.Block c = absurd cc
path_final s p ring (ask.Link segno word) c = absurd cc
path_final s p ring ask.Resume c = absurd cc
path_final s p ring ask.Logout c = absurd cc
