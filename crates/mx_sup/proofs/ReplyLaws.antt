-- Who is told to wait: whoever blocks or resumes and is not ready, and nobody else.
use Rattle.std.proofs.Common.{◌≡◌, ◌⊎◌, inl, inr, ℕ, ◌==◌, ◌||◌, not, Bool, true, false, List, [], ◌∷◌, ◌++◌, length, Option, Some, None, Result, Ok, Err, refl, ap, ◌∙◌}
use Rattle.mx_hier.specs.Branches.{Hierarchy}
use Rattle.mx_hier.specs.Callers.{Caller}
use Rattle.mx_hier.specs.declared.refusals.Refusal.{Refusal}
use Rattle.mx_kst.specs.KnownSegments.{KnownSegments}
use Rattle.mx_link.specs.declared.resolving.LinkError.{LinkError}
use Rattle.mx_link.specs.declared.resolving.LinkError.TheVariants.{SegmentNotFound, NotObject, NoDefinition, Memory}
use Rattle.mx_link.specs.declared.resolving.Target.{Target}
use Rattle.mx_mail.specs.Processes.{PlainProcess}
use Rattle.mx_mail.specs.Taking.{taken_from, nobody_else, messages_of}
use Rattle.mx_upcall.specs.Control.{Control}
use Rattle.mx_transcript.proofs.AwaitLaws.{IsLinked}
use Rattle.mx_transcript.specs.Asking.{next, answered, first_due}
use Rattle.mx_transcript.specs.Courses.{Answer as Answering}
use Rattle.mx_transcript.specs.Filling.{section_words, snapped}
use Rattle.mx_transcript.specs.Next.{Reference}
use Rattle.mx_request.specs.Sections.{section_in}
use Rattle.mx_request.specs.declared.replies.Reply.{Reply}
use Rattle.mx_request.specs.declared.replies.Reply.TheVariants as reply
use Rattle.mx_request.specs.declared.requests.Request.{Request}
use Rattle.mx_request.specs.declared.requests.Request.TheVariants as ask
use Rattle.mx_state.specs.Shown.{shown}
use Rattle.mx_state.specs.Askers.{Asker, Initializer, Process, Nobody, asker, answered_caller, answered_process}
use Rattle.mx_state.specs.Connecting.{Connected}
use Rattle.mx_state.specs.Knowing.{given, link_by, link_to, link_towards, linked, terminate}
use Rattle.mx_state.specs.Linking.{found_uid, link_at, link_target}
use Rattle.mx_state.specs.declared.linking.Link.{Link}
use Rattle.mx_state.specs.Messages.{is_ready, sent, taken_reply}
use Rattle.mx_state.specs.OwnState.{change_wdir}
use Rattle.mx_script.specs.declared.lines.Line.{Line}
use Rattle.mx_state.proofs.ToldLaws.{only_link_law}
use Rattle.mx_state.specs.Plain.{Plain, Answer}
use Rattle.mx_state.specs.declared.journal.Entry as journaled
use Rattle.std.specs.List.{slice_get}
use Rattle.mx_state.specs.Requests.{plain, changed, told}
use Rattle.mx_state.specs.declared.states.ProcessState.{ProcessState}

abbrev Waits : Answer → Type 0
Waits a = a.reply ≡ reply.Waiting

by_caller : (s : Plain) (a : Asker) (ring : ℕ) (f : Caller → Answer) → ((who : Caller) → Waits (f who) → ⊥)
    → Waits (answered_caller s a ring f) → ⊥
by_caller s Initializer ring f never e = never _ e
by_caller s (Process process) ring f never e = never _ e
by_caller s Nobody ring f never e = cc

by_process : (s : Plain) (a : Asker) (f : ProcessState → Answer) → ((process : ProcessState) → Waits (f process) → ⊥)
    → Waits (answered_process s a f) → ⊥
by_process s Initializer f never e = cc
by_process s (Process process) f never e = never process e
by_process s Nobody f never e = cc

change_never : (s : Plain) (r : Result Hierarchy Refusal) → Waits (changed s r) → ⊥
change_never s (Ok hierarchy) e = cc
change_never s (Err why) e = cc

told_never : {A : Type 0} (s : Plain) (as_reply : A → Reply) (r : Result A Refusal)
    → ((value : A) → as_reply value ≡ reply.Waiting → ⊥) → Waits (told s as_reply r) → ⊥
told_never s as_reply (Ok value) never e = never value e
told_never s as_reply (Err why) never e = cc

wdir_never : (s : Plain) (p : ℕ) (process : ProcessState) (r : Result (List (List ℕ)) Refusal) → Waits (change_wdir s p process r) → ⊥
wdir_never s p process (Ok path) e = cc
wdir_never s p process (Err why) e = cc

given_never : (s : Plain) (p : ℕ) (process : ProcessState) (r : Result Connected Refusal) → Waits (given s p process r) → ⊥
given_never s p process (Ok known) e = cc
given_never s p process (Err why) e = cc

linked_never : (s : Plain) (p : ℕ) (process : ProcessState) (word : ℕ) (r : Result Connected Refusal) → Waits (linked s p process word r) → ⊥
linked_never s p process word (Ok connected) e = cc
linked_never s p process word (Err why) e = cc

link_to_never : (s : Plain) (p ring : ℕ) (process : ProcessState) (found : Link) (word : ℕ) (uid : Option ℕ)
    → Waits (link_to s p ring process found word uid) → ⊥
link_to_never s p ring process found word (Some uid) e = linked_never s p process word _ e
link_to_never s p ring process found word None e = cc

towards_never : (s : Plain) (p ring : ℕ) (process : ProcessState) (found : Link) (r : Result Target LinkError)
    → Waits (link_towards s p ring process found r) → ⊥
towards_never s p ring process found (Ok to) e = link_to_never s p ring process found to.word (found_uid process.known to.found) e
towards_never s p ring process found (Err SegmentNotFound) e = cc
towards_never s p ring process found (Err NotObject) e = cc
towards_never s p ring process found (Err NoDefinition) e = cc
towards_never s p ring process found (Err Memory) e = cc

link_never : (s : Plain) (p ring : ℕ) (process : ProcessState) (found : Option Link) → Waits (link_by s p ring process found) → ⊥
link_never s p ring process (Some found) e = towards_never s p ring process found (link_target s.hierarchy process ring found) e
link_never s p ring process None e = cc

terminate_never : (s : Plain) (p : ℕ) (process : ProcessState) (page : Option ℕ) (r : Option KnownSegments)
    → Waits (terminate s p process page r) → ⊥
terminate_never s p process page (Some known) e = cc
terminate_never s p process page None e = cc

sent_never : (s : Plain) (r : Result (List PlainProcess) Refusal) → Waits (sent s r) → ⊥
sent_never s (Ok mail) e = cc
sent_never s (Err why) e = cc

-- only who blocks or resumes is told to wait
pub only_block_waits : (s : Plain) (p ring : ℕ) (request : Request) → Waits (plain s p ring request)
    → (request ≡ ask.Block) ⊎ (request ≡ ask.Resume)
only_block_waits s p ring (ask.CreateDir path d1 d2) e = absurd (by_caller s (asker s.processes p) ring _ (λ who. change_never s _) e)
only_block_waits s p ring (ask.CreateSeg path words brackets) e = absurd (by_caller s (asker s.processes p) ring _ (λ who. change_never s _) e)
only_block_waits s p ring (ask.CreateObject path words brackets object) e = absurd (by_caller s (asker s.processes p) ring _ (λ who. change_never s _) e)
only_block_waits s p ring (ask.CreateLink path target) e = absurd (by_caller s (asker s.processes p) ring _ (λ who. change_never s _) e)
only_block_waits s p ring (ask.Rename path name) e = absurd (by_caller s (asker s.processes p) ring _ (λ who. change_never s _) e)
only_block_waits s p ring (ask.Delete path) e = absurd (by_caller s (asker s.processes p) ring _ (λ who. change_never s _) e)
only_block_waits s p ring (ask.SetAcl path id modes) e = absurd (by_caller s (asker s.processes p) ring _ (λ who. change_never s _) e)
only_block_waits s p ring (ask.DelAcl path id) e = absurd (by_caller s (asker s.processes p) ring _ (λ who. change_never s _) e)
only_block_waits s p ring (ask.SetIacl path kind id modes) e = absurd (by_caller s (asker s.processes p) ring _ (λ who. change_never s _) e)
only_block_waits s p ring (ask.DelIacl path kind id) e = absurd (by_caller s (asker s.processes p) ring _ (λ who. change_never s _) e)
only_block_waits s p ring (ask.SetClass path class) e = absurd (by_caller s (asker s.processes p) ring _ (λ who. change_never s _) e)
only_block_waits s p ring (ask.SetBrackets path brackets) e = absurd (by_caller s (asker s.processes p) ring _ (λ who. change_never s _) e)
only_block_waits s p ring (ask.SetDirBrackets path d1 d2) e = absurd (by_caller s (asker s.processes p) ring _ (λ who. change_never s _) e)
only_block_waits s p ring (ask.Status path) e =
    absurd (by_caller s (asker s.processes p) ring _ (λ who. told_never s (λ status. reply.Status (shown s.version status)) _ (λ value h. cc)) e)
only_block_waits s p ring (ask.List path) e =
    absurd (by_caller s (asker s.processes p) ring _ (λ who. told_never s reply.Names _ (λ value h. cc)) e)
only_block_waits s p ring (ask.ChangeWdir path) e =
    absurd (by_process s (asker s.processes p) _ (λ process. wdir_never s p process _) e)
only_block_waits s p ring (ask.SetRules rules) e = absurd (by_process s (asker s.processes p) _ (λ process h. cc) e)
only_block_waits s p ring (ask.Initiate path name) e =
    absurd (by_process s (asker s.processes p) _ (λ process. given_never s p process _) e)
only_block_waits s p ring (ask.Terminate segno) e =
    absurd (by_process s (asker s.processes p) _ (λ process. terminate_never s p process _ _) e)
only_block_waits s p ring (ask.Wakeup to word) e = absurd (by_process s (asker s.processes p) _ (λ process. sent_never s _) e)
only_block_waits s p ring ask.Block e = inl refl
only_block_waits s p ring (ask.Link segno word) e =
    absurd (by_process s (asker s.processes p) _ (λ process. link_never s p ring process (link_at s.hierarchy process.known segno word)) e)
only_block_waits s p ring ask.Resume e = inr refl
only_block_waits s p ring ask.Logout e = absurd (by_process s (asker s.processes p) _ (λ process h. cc) e)

-- who is ready does not wait again
taken_never : (nobody : Bool) (messages : List (ℕ × ℕ)) → not (length messages == 0) || nobody ≡ true
    → taken_reply (taken_from nobody messages) ≡ reply.Waiting → ⊥
taken_never true [] h e = cc
taken_never false [] h e = cc
taken_never nobody (message ∷ later) h e = cc

pub ready_resumes : (s : Plain) (p ring : ℕ) → is_ready s p ≡ true → Waits (plain s p ring ask.Resume) → ⊥
ready_resumes s p ring ready e =
    by_process s (asker s.processes p) _ (λ process h. taken_never (nobody_else s.mail p) (messages_of s.mail p) ready h) e

-- only the request to snap a link is answered so
pub linked_only : (s : Plain) (p ring : ℕ) (request : Request) (given : Reply) → (plain s p ring request).reply ≡ given → IsLinked given
    → (segno : ℕ) × (word : ℕ) × (request ≡ ask.Link segno word)
linked_only s p ring request (reply.Linked to at fresh linkage) e is = only_link_law s p ring request to at fresh linkage e
linked_only s p ring request (reply.Refused why) e is = absurd is
linked_only s p ring request reply.Done e is = absurd is
linked_only s p ring request (reply.Status status) e is = absurd is
linked_only s p ring request (reply.Names names) e is = absurd is
linked_only s p ring request (reply.Segno known) e is = absurd is
linked_only s p ring request reply.Sent e is = absurd is
linked_only s p ring request (reply.Message sender word) e is = absurd is
linked_only s p ring request reply.Nobody e is = absurd is
linked_only s p ring request reply.Waiting e is = absurd is

-- where a reply asks for no writes its line goes on as it is answered
pub next_answered : (g : Control) (l : Line) (entry : journaled.Entry) → section_in entry.reply ≡ None
    → snapped entry.request entry.ring entry.reply ≡ []
    → next g l (Answering entry []) ≡ answered g l entry.request entry.reply
next_answered g l entry none nothing =
    ap (λ (d : Option Reference). first_due d (answered g l entry.request entry.reply))
    (ap (λ (section : Option ℕ). slice_get (section_words section 1 ++ snapped entry.request entry.ring entry.reply) 0) none
    ∙ ap (λ (rest : List Reference). slice_get rest 0) nothing)
