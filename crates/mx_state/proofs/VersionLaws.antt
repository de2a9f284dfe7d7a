-- Only `status` asks the version.
use Rattle.std.proofs.Common.{◌≡◌, ℕ, Bool, true, false, cond, List, Option, Some, None, Result, Ok, Err, refl, ap}
use Rattle.mx_hier.specs.Branches.{Hierarchy}
use Rattle.mx_hier.specs.Callers.{Caller}
use Rattle.mx_hier.specs.ChangeWorkingDirectory.{directory}
use Rattle.mx_hier.specs.CreateDirectory.{create_dir}
use Rattle.mx_hier.specs.CreateLink.{create_link}
use Rattle.mx_hier.specs.CreateObject.{create_object}
use Rattle.mx_hier.specs.CreateSegment.{create_seg}
use Rattle.mx_hier.specs.Delete.{delete}
use Rattle.mx_hier.specs.DeleteAclEntry.{del_acl}
use Rattle.mx_hier.specs.InitialLists.{set_iacl, del_iacl}
use Rattle.mx_hier.specs.Initiate.{segment}
use Rattle.mx_hier.specs.List.{list}
use Rattle.mx_hier.specs.Rename.{rename}
use Rattle.mx_hier.specs.SetAcl.{set_acl}
use Rattle.mx_hier.specs.SetBrackets.{set_brackets}
use Rattle.mx_hier.specs.SetClass.{set_class}
use Rattle.mx_hier.specs.SetDirectoryBrackets.{set_dir_brackets}
use Rattle.mx_hier.specs.Rules.{first_of, onward, unless}
use Rattle.mx_hier.specs.Status.{status}
use Rattle.mx_hier.specs.declared.asking.Status.{Status}
use Rattle.mx_hier.specs.declared.asking.Status.TheVariants as stand
use Rattle.mx_hier.specs.declared.refusals.Refusal.{Refusal}
use Rattle.mx_kst.specs.KnownSegments.{KnownSegments}
use Rattle.mx_kst.specs.Terminating as kst
use Rattle.mx_link.specs.declared.resolving.LinkError.{LinkError}
use Rattle.mx_link.specs.declared.resolving.LinkError.TheVariants as error
use Rattle.mx_link.specs.declared.resolving.Target.{Target}
use Rattle.mx_mail.specs.Processes as mail
use Rattle.mx_mail.specs.Processes.{PlainProcess}
use Rattle.mx_mail.specs.Sending.{deliver}
use Rattle.mx_request.specs.Versions.{has_classes}
use Rattle.mx_request.specs.declared.requests.Request.{Request}
use Rattle.mx_request.specs.declared.requests.Request.TheVariants as ask
use Rattle.mx_request.specs.declared.replies.Reply.{Reply}
use Rattle.mx_request.specs.declared.replies.Reply.TheVariants as reply
use Rattle.mx_state.specs.declared.linking.Link.{Link}
use Rattle.mx_state.specs.declared.states.ProcessState.{ProcessState}
use Rattle.mx_state.specs.Askers.{Asker, Initializer, Process, Nobody, asker, initial_caller, caller, answered_caller, answered_process}
use Rattle.mx_state.specs.Connecting.{Connected, connect}
use Rattle.mx_state.specs.Knowing.{free_name, given, initiate, link, link_by, link_to, link_towards, linked, terminate}
use Rattle.mx_state.specs.Laws.{IsSameAt, VersionLaw, at_version, reply_without_class}
use Rattle.mx_state.specs.Linking.{found_uid, link_at, link_target}
use Rattle.mx_state.specs.Messages.{block, logout, sent, wakeup, wakeup_refusals}
use Rattle.mx_state.specs.OwnState.{change_wdir, set_rules}
use Rattle.mx_state.specs.Plain.{Plain, Answer}
use Rattle.mx_state.specs.Requests.{changed, told, plain}
use Rattle.mx_state.specs.Sections.{section_page}
use Rattle.mx_state.specs.Shown.{shown, without_class}

-- the same answer, where the state has another version
record IsSame (version : ℕ) (given other : Answer) : Type 0 where
  state : given.state ≡ at_version other.state version
  reply : given.reply ≡ other.reply

module _ (s : Plain) (version : ℕ) where
  abbrev t : Plain
  t = at_version s version

  path_same : (a : Asker) (ring : ℕ) (given other : Caller → Answer) → ((who : Caller) → IsSame version (given who) (other who))
      → IsSame version (answered_caller t a ring given) (answered_caller s a ring other)
  path_same Initializer ring given other same = same (initial_caller ring)
  path_same (Process process) ring given other same = same (caller process ring)
  path_same Nobody ring given other same = record { state = refl; reply = refl }

  process_same : (a : Asker) (given other : ProcessState → Answer) → ((process : ProcessState) → IsSame version (given process) (other process))
      → IsSame version (answered_process t a given) (answered_process s a other)
  process_same Initializer given other same = record { state = refl; reply = refl }
  process_same (Process process) given other same = same process
  process_same Nobody given other same = record { state = refl; reply = refl }

  changed_same : (meant : Result Hierarchy Refusal) → IsSame version (changed t meant) (changed s meant)
  changed_same (Ok h) = record { state = refl; reply = refl }
  changed_same (Err why) = record { state = refl; reply = refl }

  told_same : {A : Type 0} (as_reply : A → Reply) (meant : Result A Refusal) → IsSame version (told t as_reply meant) (told s as_reply meant)
  told_same as_reply (Ok value) = record { state = refl; reply = refl }
  told_same as_reply (Err why) = record { state = refl; reply = refl }

  given_same : (p : ℕ) (process : ProcessState) (meant : Result Connected Refusal) → IsSame version (given t p process meant) (given s p process meant)
  given_same p process (Ok known) = record { state = refl; reply = refl }
  given_same p process (Err why) = record { state = refl; reply = refl }

  linked_same : (p : ℕ) (process : ProcessState) (word : ℕ) (meant : Result Connected Refusal)
      → IsSame version (linked t p process word meant) (linked s p process word meant)
  linked_same p process word (Ok known) = record { state = refl; reply = refl }
  linked_same p process word (Err why) = record { state = refl; reply = refl }

  link_same : (p ring : ℕ) (process : ProcessState) (o : Option Link) → IsSame version (link_by t p ring process o) (link_by s p ring process o)
  link_same p ring process None = record { state = refl; reply = refl }
  link_same p ring process (Some it) = by_target (link_target s.hierarchy process ring it)
    where
      by_uid : (word : ℕ) (o : Option ℕ) → IsSame version (link_to t p ring process it word o) (link_to s p ring process it word o)
      by_uid word (Some uid) =
          linked_same p process word (connect s.hierarchy process.known ring (free_name process.known ring it.segment) uid)
      by_uid word None = record { state = refl; reply = refl }

      by_target : (r : Result Target LinkError) → IsSame version (link_towards t p ring process it r) (link_towards s p ring process it r)
      by_target (Ok to) = by_uid to.word (found_uid process.known to.found)
      by_target (Err error.SegmentNotFound) = record { state = refl; reply = refl }
      by_target (Err error.NotObject) = record { state = refl; reply = refl }
      by_target (Err error.NoDefinition) = record { state = refl; reply = refl }
      by_target (Err error.Memory) = record { state = refl; reply = refl }

  terminate_same : (p : ℕ) (process : ProcessState) (page : Option ℕ) (meant : Option KnownSegments)
      → IsSame version (terminate t p process page meant) (terminate s p process page meant)
  terminate_same p process page None = record { state = refl; reply = refl }
  terminate_same p process page (Some known) = record { state = refl; reply = refl }

  change_wdir_same : (p : ℕ) (process : ProcessState) (meant : Result (List (List ℕ)) Refusal)
      → IsSame version (change_wdir t p process meant) (change_wdir s p process meant)
  change_wdir_same p process (Ok path) = record { state = refl; reply = refl }
  change_wdir_same p process (Err why) = record { state = refl; reply = refl }

  sent_same : (meant : Result (List PlainProcess) Refusal) → IsSame version (sent t meant) (sent s meant)
  sent_same (Ok after) = record { state = refl; reply = refl }
  sent_same (Err why) = record { state = refl; reply = refl }

  change : (p ring : ℕ) (meant : Caller → Result Hierarchy Refusal)
      → IsSame version (answered_caller t (asker s.processes p) ring (λ who. changed t (meant who)))
      (answered_caller s (asker s.processes p) ring (λ who. changed s (meant who)))
  change p ring meant =
      path_same (asker s.processes p) ring (λ who. changed t (meant who)) (λ who. changed s (meant who)) (λ who. changed_same (meant who))

  own : (p : ℕ) (given other : ProcessState → Answer) → ((process : ProcessState) → IsSame version (given process) (other process))
      → IsSame version (answered_process t (asker s.processes p) given) (answered_process s (asker s.processes p) other)
  own p given other same = process_same (asker s.processes p) given other same

  -- what is told without its class
  class_left : (a b : Bool) (x : Status) → without_class (cond a x (without_class x)) ≡ without_class (cond b x (without_class x))
  class_left true true x = refl
  class_left false false x = refl
  class_left true false (stand.Segment words brackets modes class) = refl
  class_left true false (stand.Object words brackets gate definitions links modes class) = refl
  class_left true false (stand.Directory d1 d2 modes) = refl
  class_left true false (stand.Link target) = refl
  class_left false true (stand.Segment words brackets modes class) = refl
  class_left false true (stand.Object words brackets gate definitions links modes class) = refl
  class_left false true (stand.Directory d1 d2 modes) = refl
  class_left false true (stand.Link target) = refl

  record IsAlike (given other : Answer) : Type 0 where
    state : given.state ≡ at_version other.state version
    reply : reply_without_class given.reply ≡ reply_without_class other.reply

  status_alike : (meant : Result Status Refusal)
      → IsAlike (told t (λ x. reply.Status (shown version x)) meant) (told s (λ x. reply.Status (shown s.version x)) meant)
  status_alike (Ok x) = record { state = refl; reply = ap reply.Status (class_left (has_classes version) (has_classes s.version) x) }
  status_alike (Err why) = record { state = refl; reply = refl }

  asked_alike : (a : Asker) (ring : ℕ) (meant : Caller → Result Status Refusal)
      → IsAlike (answered_caller t a ring (λ who. told t (λ x. reply.Status (shown version x)) (meant who)))
      (answered_caller s a ring (λ who. told s (λ x. reply.Status (shown s.version x)) (meant who)))
  asked_alike Initializer ring meant = status_alike (meant (initial_caller ring))
  asked_alike (Process process) ring meant = status_alike (meant (caller process ring))
  asked_alike Nobody ring meant = record { state = refl; reply = refl }

  at : (p ring : ℕ) (request : Request) → IsSame version (plain t p ring request) (plain s p ring request) → IsSameAt s version p ring request
  at p ring request same = record {
    state = same.state;
    reply = λ other. same.reply;
    status = ap reply_without_class same.reply;
  }

pub version_law : VersionLaw
version_law s v p ring (ask.CreateDir path d1 d2) = at s v p ring _ (change s v p ring (λ who. create_dir s.hierarchy who path d1 d2))
version_law s v p ring (ask.CreateSeg path words brackets) =
    at s v p ring _ (change s v p ring (λ who. create_seg s.hierarchy who path words brackets))
version_law s v p ring (ask.CreateObject path words brackets object) =
    at s v p ring _ (change s v p ring (λ who. create_object s.hierarchy who path words brackets object))
version_law s v p ring (ask.CreateLink path target) = at s v p ring _ (change s v p ring (λ who. create_link s.hierarchy who path target))
version_law s v p ring (ask.Rename path name) = at s v p ring _ (change s v p ring (λ who. rename s.hierarchy who path name))
version_law s v p ring (ask.Delete path) = at s v p ring _ (change s v p ring (λ who. delete s.hierarchy who path))
version_law s v p ring (ask.SetAcl path id modes) = at s v p ring _ (change s v p ring (λ who. set_acl s.hierarchy who path id modes))
version_law s v p ring (ask.DelAcl path id) = at s v p ring _ (change s v p ring (λ who. del_acl s.hierarchy who path id))
version_law s v p ring (ask.SetIacl path kind id modes) =
    at s v p ring _ (change s v p ring (λ who. set_iacl s.hierarchy who path kind id modes))
version_law s v p ring (ask.DelIacl path kind id) = at s v p ring _ (change s v p ring (λ who. del_iacl s.hierarchy who path kind id))
version_law s v p ring (ask.SetBrackets path brackets) =
    at s v p ring _ (change s v p ring (λ who. set_brackets s.hierarchy who path brackets))
version_law s v p ring (ask.SetDirBrackets path d1 d2) =
    at s v p ring _ (change s v p ring (λ who. set_dir_brackets s.hierarchy who path d1 d2))
version_law s v p ring (ask.SetClass path class) = at s v p ring _ (change s v p ring (λ who. set_class s.hierarchy who path class))
version_law s v p ring (ask.Status path) =
    let alike = asked_alike s v (asker s.processes p) ring (λ who. status s.hierarchy who path) in
    record { state = alike.state; reply = λ other. absurd (other path refl); status = alike.reply }
version_law s v p ring (ask.List path) =
    at s v p ring _ (path_same s v (asker s.processes p) ring (λ who. told (at_version s v) reply.Names (list s.hierarchy who path))
    (λ who. told s reply.Names (list s.hierarchy who path)) (λ who. told_same s v reply.Names (list s.hierarchy who path)))
version_law s v p ring (ask.ChangeWdir path) =
    at s v p ring _ (own s v p (λ process. change_wdir (at_version s v) p process (directory s.hierarchy (caller process ring) path))
    (λ process. change_wdir s p process (directory s.hierarchy (caller process ring) path))
    (λ process. change_wdir_same s v p process (directory s.hierarchy (caller process ring) path)))
version_law s v p ring (ask.SetRules rules) =
    at s v p ring _ (own s v p (λ process. set_rules (at_version s v) p process rules) (λ process. set_rules s p process rules)
    (λ process. record { state = refl; reply = refl }))
version_law s v p ring (ask.Initiate path name) =
    at s v p ring _ (own s v p
    (λ process. initiate (at_version s v) p ring process name (segment s.hierarchy (caller process ring) path))
    (λ process. initiate s p ring process name (segment s.hierarchy (caller process ring) path))
    (λ process. given_same s v p process
    (onward (segment s.hierarchy (caller process ring) path) (connect s.hierarchy process.known ring name))))
version_law s v p ring (ask.Terminate segno) =
    at s v p ring _ (own s v p
    (λ process. terminate (at_version s v) p process (section_page process.known segno) (kst.terminate process.known segno))
    (λ process. terminate s p process (section_page process.known segno) (kst.terminate process.known segno))
    (λ process. terminate_same s v p process (section_page process.known segno) (kst.terminate process.known segno)))
version_law s v p ring (ask.Wakeup to word) =
    let receiver = mail.process_at s.mail to in
    at s v p ring _ (own s v p (λ process. wakeup (at_version s v) p to word) (λ process. wakeup s p to word)
    (λ process. sent_same s v (unless (first_of (wakeup_refusals receiver)) (deliver s.mail to receiver (p, word)))))
version_law s v p ring ask.Block =
    at s v p ring _ (own s v p (λ process. block (at_version s v) p) (λ process. block s p) (λ process. record { state = refl; reply = refl }))
version_law s v p ring (ask.Link segno word) =
    at s v p ring _ (own s v p (λ process. link (at_version s v) p ring process segno word) (λ process. link s p ring process segno word)
    (λ process. link_same s v p ring process (link_at s.hierarchy process.known segno word)))
version_law s v p ring ask.Resume =
    at s v p ring _ (own s v p (λ process. block (at_version s v) p) (λ process. block s p) (λ process. record { state = refl; reply = refl }))
version_law s v p ring ask.Logout =
    at s v p ring _ (own s v p (λ process. logout (at_version s v) p) (λ process. logout s p) (λ process. record { state = refl; reply = refl }))
