-- What a request leaves, by the definitions alone.
use Rattle.std.proofs.Common.{◌≡◌, ℕ, List, [], Option, Some, None, Result, Ok, Err, refl, ap, sym, ◌∙◌, subst}
use Rattle.mx_hier.specs.Branches.{Hierarchy}
use Rattle.mx_hier.specs.Callers.{Caller}
use Rattle.mx_hier.specs.ChangeWorkingDirectory.{directory}
use Rattle.mx_hier.specs.CreateDirectory.{create_dir}
use Rattle.mx_hier.specs.CreateLink.{create_link}
use Rattle.mx_hier.specs.CreateObject.{create_object}
use Rattle.mx_hier.specs.CreateSegment.{create_seg}
use Rattle.mx_hier.specs.Delete.{delete}
use Rattle.mx_hier.specs.DeleteAclEntry.{del_acl}
use Rattle.mx_hier.specs.Initiate.{segment}
use Rattle.mx_hier.specs.List.{list}
use Rattle.mx_hier.specs.Rename.{rename}
use Rattle.mx_hier.specs.InitialLists.{set_iacl, del_iacl}
use Rattle.mx_hier.specs.SetAcl.{set_acl}
use Rattle.mx_hier.specs.SetBrackets.{set_brackets}
use Rattle.mx_hier.specs.SetClass.{set_class}
use Rattle.mx_hier.specs.SetDirectoryBrackets.{set_dir_brackets}
use Rattle.mx_hier.specs.Status.{status}
use Rattle.mx_hier.specs.declared.refusals.Refusal.{Refusal}
use Rattle.mx_hier.specs.Rules.{first_of, onward, unless}
use Rattle.mx_kst.specs.KnownSegments.{KnownSegments}
use Rattle.mx_link.specs.declared.resolving.LinkError.{LinkError}
use Rattle.mx_link.specs.declared.resolving.LinkError.TheVariants as error
use Rattle.mx_link.specs.declared.resolving.Target.{Target}
use Rattle.mx_kst.specs.Terminating as kst
use Rattle.mx_mail.specs.Processes as mail
use Rattle.mx_mail.specs.Processes.{PlainProcess}
use Rattle.mx_mail.specs.Sending.{deliver}
use Rattle.mx_mail.specs.Taking.{take_message}
use Rattle.mx_mail.specs.declared.mail.Taken.{Taken}
use Rattle.mx_mail.specs.declared.mail.Taken.TheVariants as taken
use Rattle.mx_request.specs.declared.requests.Request.{Request}
use Rattle.mx_request.specs.declared.requests.Request.TheVariants as ask
use Rattle.mx_request.specs.declared.replies.Reply.{Reply}
use Rattle.mx_request.specs.declared.replies.Reply.TheVariants as reply
use Rattle.mx_state.specs.declared.applied.Applied.{Applied}
use Rattle.mx_state.specs.declared.linking.Link.{Link}
use Rattle.mx_state.specs.declared.states.ProcessState.{ProcessState}
use Rattle.mx_state.specs.Askers.{Asker, Initializer, Process, Nobody, asker, initial_caller, caller, answered_caller, answered_process}
use Rattle.mx_state.specs.Changes.{AreChanges}
use Rattle.mx_state.specs.Connecting.{Connected, connect}
use Rattle.mx_state.specs.Knowing.{free_name, given, initiate, link, link_by, link_to, link_towards, linked, terminate}
use Rattle.mx_state.specs.Linking.{found_uid, link_at, link_target}
use Rattle.mx_state.specs.Messages.{block, logout, sent, taken_reply, wakeup, wakeup_refusals}
use Rattle.mx_state.specs.OwnState.{change_wdir, set_rules}
use Rattle.mx_state.specs.Laws.{RefusalLaw, PathLaw}
use Rattle.mx_state.specs.Plain.{Plain, Answer, answer}
use Rattle.mx_state.specs.Requests.{changed, told, plain}
use Rattle.mx_state.specs.Sections.{section_page}
use Rattle.mx_state.specs.Serving.{Serves}
use Rattle.mx_state.specs.Shown.{shown}
use Rattle.mx_state.proofs.Descriptors.{nothing_told}

-- a refusal leaves the state
abbrev IsStill : Plain → Answer → Type 0
IsStill s given = (why : Refusal) → given.reply ≡ reply.Refused why → given.state ≡ s

-- and so for any caller and any process
path_still : (s : Plain) (a : Asker) (ring : ℕ) (given : Caller → Answer) → ((who : Caller) → IsStill s (given who))
    → IsStill s (answered_caller s a ring given)
path_still s Initializer ring given still = still (initial_caller ring)
path_still s (Process process) ring given still = still (caller process ring)
path_still s Nobody ring given still = λ why e. refl

process_still : (s : Plain) (a : Asker) (given : ProcessState → Answer) → ((process : ProcessState) → IsStill s (given process))
    → IsStill s (answered_process s a given)
process_still s Initializer given still = λ why e. refl
process_still s (Process process) given still = still process
process_still s Nobody given still = λ why e. refl

changed_still : (s : Plain) (meant : Result Hierarchy Refusal) → IsStill s (changed s meant)
changed_still s (Ok h) = λ why e. cc
changed_still s (Err other) = λ why e. refl

told_still : {A : Type 0} (s : Plain) (as_reply : A → Reply) (meant : Result A Refusal) → IsStill s (told s as_reply meant)
told_still s as_reply (Ok value) = λ why e. refl
told_still s as_reply (Err other) = λ why e. refl

given_still : (s : Plain) (p : ℕ) (process : ProcessState) (meant : Result Connected Refusal) → IsStill s (given s p process meant)
given_still s p process (Err other) = λ why e. refl
given_still s p process (Ok known) = λ why e. cc

linked_still : (s : Plain) (p : ℕ) (process : ProcessState) (word : ℕ) (meant : Result Connected Refusal) → IsStill s (linked s p process word meant)
linked_still s p process word (Err other) = λ why e. refl
linked_still s p process word (Ok known) = λ why e. cc

link_still : (s : Plain) (p ring : ℕ) (process : ProcessState) (o : Option Link) → IsStill s (link_by s p ring process o)
link_still s p ring process None = λ why e. refl
link_still s p ring process (Some it) = by_target (link_target s.hierarchy process ring it)
  where
    by_uid : (word : ℕ) (o : Option ℕ) → IsStill s (link_to s p ring process it word o)
    by_uid word (Some uid) =
        linked_still s p process word (connect s.hierarchy process.known ring (free_name process.known ring it.segment) uid)
    by_uid word None = λ why e. refl

    by_target : (r : Result Target LinkError) → IsStill s (link_towards s p ring process it r)
    by_target (Ok to) = by_uid to.word (found_uid process.known to.found)
    by_target (Err error.SegmentNotFound) = λ why e. refl
    by_target (Err error.NotObject) = λ why e. refl
    by_target (Err error.NoDefinition) = λ why e. refl
    by_target (Err error.Memory) = λ why e. refl

terminate_still : (s : Plain) (p : ℕ) (process : ProcessState) (page : Option ℕ) (meant : Option KnownSegments) → IsStill s (terminate s p process page meant)
terminate_still s p process page None = λ why e. refl
terminate_still s p process page (Some known) = λ why e. cc

change_wdir_still : (s : Plain) (p : ℕ) (process : ProcessState) (meant : Result (List (List ℕ)) Refusal) → IsStill s (change_wdir s p process meant)
change_wdir_still s p process (Err other) = λ why e. refl
change_wdir_still s p process (Ok path) = λ why e. cc

sent_still : (s : Plain) (meant : Result (List PlainProcess) Refusal) → IsStill s (sent s meant)
sent_still s (Ok after) = λ why e. cc
sent_still s (Err other) = λ why e. refl

wakeup_still : (s : Plain) (p to word : ℕ) → IsStill s (wakeup s p to word)
wakeup_still s p to word =
    let receiver = mail.process_at s.mail to in
    sent_still s (unless (first_of (wakeup_refusals receiver)) (deliver s.mail to receiver (p, word)))

-- who asks for a message is not refused
taken_still : (s : Plain) (given : Taken) (after : List PlainProcess) → IsStill s (answer (taken_reply given) (record s { mail = after }))
taken_still s (taken.Message sender word) after = λ why e. cc
taken_still s taken.Nobody after = λ why e. cc
taken_still s taken.Waiting after = λ why e. cc

block_still : (s : Plain) (p : ℕ) → IsStill s (block s p)
block_still s p = let given = take_message s.mail p in taken_still s given.taken given.processes

path_answer_still : (s : Plain) (p ring : ℕ) (meant : Caller → Result Hierarchy Refusal)
    → IsStill s (answered_caller s (asker s.processes p) ring (λ who. changed s (meant who)))
path_answer_still s p ring meant =
    path_still s (asker s.processes p) ring (λ who. changed s (meant who)) (λ who. changed_still s (meant who))

told_answer_still : {A : Type 0} (s : Plain) (p ring : ℕ) (as_reply : A → Reply) (meant : Caller → Result A Refusal)
    → IsStill s (answered_caller s (asker s.processes p) ring (λ who. told s as_reply (meant who)))
told_answer_still s p ring as_reply meant =
    path_still s (asker s.processes p) ring (λ who. told s as_reply (meant who)) (λ who. told_still s as_reply (meant who))

pub refusal_leaves : RefusalLaw
refusal_leaves s p ring (ask.CreateDir path d1 d2) = path_answer_still s p ring (λ who. create_dir s.hierarchy who path d1 d2)
refusal_leaves s p ring (ask.CreateSeg path words brackets) = path_answer_still s p ring (λ who. create_seg s.hierarchy who path words brackets)
refusal_leaves s p ring (ask.CreateObject path words brackets object) =
    path_answer_still s p ring (λ who. create_object s.hierarchy who path words brackets object)
refusal_leaves s p ring (ask.CreateLink path target) = path_answer_still s p ring (λ who. create_link s.hierarchy who path target)
refusal_leaves s p ring (ask.Rename path name) = path_answer_still s p ring (λ who. rename s.hierarchy who path name)
refusal_leaves s p ring (ask.Delete path) = path_answer_still s p ring (λ who. delete s.hierarchy who path)
refusal_leaves s p ring (ask.SetAcl path id modes) = path_answer_still s p ring (λ who. set_acl s.hierarchy who path id modes)
refusal_leaves s p ring (ask.DelAcl path id) = path_answer_still s p ring (λ who. del_acl s.hierarchy who path id)
refusal_leaves s p ring (ask.SetIacl path kind id modes) = path_answer_still s p ring (λ who. set_iacl s.hierarchy who path kind id modes)
refusal_leaves s p ring (ask.DelIacl path kind id) = path_answer_still s p ring (λ who. del_iacl s.hierarchy who path kind id)
refusal_leaves s p ring (ask.SetBrackets path brackets) = path_answer_still s p ring (λ who. set_brackets s.hierarchy who path brackets)
refusal_leaves s p ring (ask.SetDirBrackets path d1 d2) = path_answer_still s p ring (λ who. set_dir_brackets s.hierarchy who path d1 d2)
refusal_leaves s p ring (ask.SetClass path class) = path_answer_still s p ring (λ who. set_class s.hierarchy who path class)
refusal_leaves s p ring (ask.Status path) = told_answer_still s p ring (λ told. reply.Status (shown s.version told)) (λ who. status s.hierarchy who path)
refusal_leaves s p ring (ask.List path) = told_answer_still s p ring reply.Names (λ who. list s.hierarchy who path)
refusal_leaves s p ring (ask.ChangeWdir path) =
    process_still s (asker s.processes p) (λ process. change_wdir s p process (directory s.hierarchy (caller process ring) path))
    (λ process. change_wdir_still s p process (directory s.hierarchy (caller process ring) path))
refusal_leaves s p ring (ask.SetRules rules) =
    process_still s (asker s.processes p) (λ process. set_rules s p process rules) (λ process why e. cc)
refusal_leaves s p ring (ask.Initiate path name) =
    process_still s (asker s.processes p)
    (λ process. initiate s p ring process name (segment s.hierarchy (caller process ring) path))
    (λ process. given_still s p process
    (onward (segment s.hierarchy (caller process ring) path) (connect s.hierarchy process.known ring name)))
refusal_leaves s p ring (ask.Terminate segno) =
    process_still s (asker s.processes p) (λ process. terminate s p process (section_page process.known segno) (kst.terminate process.known segno))
    (λ process. terminate_still s p process (section_page process.known segno) (kst.terminate process.known segno))
refusal_leaves s p ring (ask.Wakeup to word) =
    process_still s (asker s.processes p) (λ process. wakeup s p to word) (λ process. wakeup_still s p to word)
refusal_leaves s p ring ask.Block =
    process_still s (asker s.processes p) (λ process. block s p) (λ process. block_still s p)
refusal_leaves s p ring (ask.Link segno word) =
    process_still s (asker s.processes p) (λ process. link s p ring process segno word)
    (λ process. link_still s p ring process (link_at s.hierarchy process.known segno word))
refusal_leaves s p ring ask.Resume =
    process_still s (asker s.processes p) (λ process. block s p) (λ process. block_still s p)
refusal_leaves s p ring ask.Logout =
    process_still s (asker s.processes p) (λ process. logout s p) (λ process why e. cc)

-- a request on a path leaves the processes and the mail
abbrev IsLeft : Plain → Answer → Type 0
IsLeft s given = (given.state.processes ≡ s.processes) × (given.state.mail ≡ s.mail)

path_leaves : (s : Plain) (a : Asker) (ring : ℕ) (given : Caller → Answer) → ((who : Caller) → IsLeft s (given who))
    → IsLeft s (answered_caller s a ring given)
path_leaves s Initializer ring given leaves = leaves (initial_caller ring)
path_leaves s (Process process) ring given leaves = leaves (caller process ring)
path_leaves s Nobody ring given leaves = (refl, refl)

changed_leaves : (s : Plain) (meant : Result Hierarchy Refusal) → IsLeft s (changed s meant)
changed_leaves s (Ok h) = (refl, refl)
changed_leaves s (Err why) = (refl, refl)

told_leaves : {A : Type 0} (s : Plain) (as_reply : A → Reply) (meant : Result A Refusal) → IsLeft s (told s as_reply meant)
told_leaves s as_reply (Ok value) = (refl, refl)
told_leaves s as_reply (Err why) = (refl, refl)

change_leaves : (s : Plain) (p ring : ℕ) (meant : Caller → Result Hierarchy Refusal)
    → IsLeft s (answered_caller s (asker s.processes p) ring (λ who. changed s (meant who)))
change_leaves s p ring meant =
    path_leaves s (asker s.processes p) ring (λ who. changed s (meant who)) (λ who. changed_leaves s (meant who))

asking_leaves : {A : Type 0} (s : Plain) (p ring : ℕ) (as_reply : A → Reply) (meant : Caller → Result A Refusal)
    → IsLeft s (answered_caller s (asker s.processes p) ring (λ who. told s as_reply (meant who)))
asking_leaves s p ring as_reply meant =
    path_leaves s (asker s.processes p) ring (λ who. told s as_reply (meant who)) (λ who. told_leaves s as_reply (meant who))

pub path_request_leaves : PathLaw
path_request_leaves s p ring (ask.CreateDir path d1 d2) e = change_leaves s p ring (λ who. create_dir s.hierarchy who path d1 d2)
path_request_leaves s p ring (ask.CreateSeg path words brackets) e = change_leaves s p ring (λ who. create_seg s.hierarchy who path words brackets)
path_request_leaves s p ring (ask.CreateObject path words brackets object) e =
    change_leaves s p ring (λ who. create_object s.hierarchy who path words brackets object)
path_request_leaves s p ring (ask.CreateLink path target) e = change_leaves s p ring (λ who. create_link s.hierarchy who path target)
path_request_leaves s p ring (ask.Rename path name) e = change_leaves s p ring (λ who. rename s.hierarchy who path name)
path_request_leaves s p ring (ask.Delete path) e = change_leaves s p ring (λ who. delete s.hierarchy who path)
path_request_leaves s p ring (ask.SetAcl path id modes) e = change_leaves s p ring (λ who. set_acl s.hierarchy who path id modes)
path_request_leaves s p ring (ask.DelAcl path id) e = change_leaves s p ring (λ who. del_acl s.hierarchy who path id)
path_request_leaves s p ring (ask.SetIacl path kind id modes) e = change_leaves s p ring (λ who. set_iacl s.hierarchy who path kind id modes)
path_request_leaves s p ring (ask.DelIacl path kind id) e = change_leaves s p ring (λ who. del_iacl s.hierarchy who path kind id)
path_request_leaves s p ring (ask.SetBrackets path brackets) e = change_leaves s p ring (λ who. set_brackets s.hierarchy who path brackets)
path_request_leaves s p ring (ask.SetDirBrackets path d1 d2) e = change_leaves s p ring (λ who. set_dir_brackets s.hierarchy who path d1 d2)
path_request_leaves s p ring (ask.SetClass path class) e = change_leaves s p ring (λ who. set_class s.hierarchy who path class)
path_request_leaves s p ring (ask.Status path) e = asking_leaves s p ring (λ told. reply.Status (shown s.version told)) (λ who. status s.hierarchy who path)
path_request_leaves s p ring (ask.List path) e = asking_leaves s p ring reply.Names (λ who. list s.hierarchy who path)
path_request_leaves s p ring (ask.ChangeWdir path) e = cc
path_request_leaves s p ring (ask.SetRules rules) e = cc
path_request_leaves s p ring (ask.Initiate path name) e = cc
path_request_leaves s p ring (ask.Terminate segno) e = cc
path_request_leaves s p ring (ask.Wakeup to word) e = cc
path_request_leaves s p ring ask.Block e = cc
path_request_leaves s p ring (ask.Link segno word) e = cc
path_request_leaves s p ring ask.Resume e = cc
path_request_leaves s p ring ask.Logout e = cc

-- so a request that was refused has left the state, and changed no descriptor
pub refused_serves_still : (old new : Plain) (p ring : ℕ) (request : Request) (applied : Applied) → Serves old new (plain old p ring request) applied
    → (why : Refusal) → applied.reply ≡ reply.Refused why → (new ≡ old) × (applied.changes ≡ [])
refused_serves_still old new p ring request applied serves why e =
    let told : (plain old p ring request).reply ≡ reply.Refused why = ap (λ (a : Answer). a.reply) serves.as_meant ∙ e in
    let still : new ≡ old = sym (ap (λ (a : Answer). a.state) serves.as_meant) ∙ refusal_leaves old p ring request why told in
    (still, nothing_told old applied.changes (subst (λ s. AreChanges old s applied.changes) still serves.changes))
