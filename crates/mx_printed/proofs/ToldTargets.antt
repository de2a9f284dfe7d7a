-- What the plain supervisor tells of a link is a path: each state that a journal leads to has links of at most 168 bytes alone.
use Rattle.std.proofs.Common.{◌≡◌, ℕ, Bool, true, false, if◌then◌else◌, List, [], ◌∷◌, Option, Some, None, Result, Ok, Err, refl, subst}
use Rattle.std.specs.List.{list_all}
use Rattle.mx_acl.specs.declared.modes.Modes.TheVariants.{Re, Rw}
use Rattle.mx_hier.specs.Branches.{Hierarchy, object_at}
use Rattle.mx_hier.specs.Callers.{Caller, Subject}
use Rattle.mx_hier.specs.ChangeWorkingDirectory.{directory}
use Rattle.mx_hier.specs.CreateDirectory.{create_dir}
use Rattle.mx_hier.specs.CreateLink.{create_link}
use Rattle.mx_hier.specs.CreateObject.{create_object}
use Rattle.mx_hier.specs.CreateSegment.{create_seg}
use Rattle.mx_hier.specs.Delete.{delete}
use Rattle.mx_hier.specs.DeleteAclEntry.{del_acl}
use Rattle.mx_hier.specs.InitialLists.{del_iacl, set_iacl}
use Rattle.mx_hier.specs.Initiate.{segment}
use Rattle.mx_hier.specs.List.{list}
use Rattle.mx_hier.specs.Rename.{rename}
use Rattle.mx_hier.specs.Rules.{first_of, required, unless}
use Rattle.mx_hier.specs.SetAcl.{set_acl}
use Rattle.mx_hier.specs.SetBrackets.{set_brackets}
use Rattle.mx_hier.specs.SetClass.{set_class}
use Rattle.mx_hier.specs.SetDirectoryBrackets.{set_dir_brackets}
use Rattle.mx_hier.specs.Status.{directory_status, node_at, segment_status, status, status_of, status_refusals}
use Rattle.mx_hier.specs.Walks.{entry}
use Rattle.mx_hier.specs.declared.asking.Status as said
use Rattle.mx_hier.specs.declared.asking.Status.TheVariants as told_of
use Rattle.mx_hier.specs.declared.branches.Node.{Node}
use Rattle.mx_hier.specs.declared.branches.Node.TheVariants.{Directory as IsDirectory, Segment as IsSegment, Link as IsLink}
use Rattle.mx_hier.specs.declared.refusals.Refusal.{Refusal}
use Rattle.mx_hier.specs.declared.refusals.Refusal.TheVariants.{NoInfo}
use Rattle.mx_kst.specs.KnownSegments.{KnownSegments}
use Rattle.mx_kst.specs.Sections.{PlainSection}
use Rattle.mx_kst.specs.Terminating as kst
use Rattle.mx_link.specs.declared.resolving.LinkError.{LinkError}
use Rattle.mx_link.specs.declared.resolving.LinkError.TheVariants as error
use Rattle.mx_link.specs.declared.resolving.Target.{Target}
use Rattle.mx_mail.specs.Processes.{PlainProcess}
use Rattle.mx_mail.specs.Taking.{take_message}
use Rattle.mx_mail.specs.declared.mail.Taken.{Taken}
use Rattle.mx_mail.specs.declared.mail.Taken.TheVariants as taken
use Rattle.mx_object.specs.Objects.{PlainObjectMap}
use Rattle.mx_request.proofs.StepLaws.{both_hold}
use Rattle.mx_request.specs.Versions.{has_classes}
use Rattle.mx_request.specs.declared.replies.Reply.{Reply}
use Rattle.mx_request.specs.declared.replies.Reply.TheVariants as reply
use Rattle.mx_request.specs.declared.requests.Request.{Request}
use Rattle.mx_request.specs.declared.requests.Request.TheVariants as ask
use Rattle.mx_state.specs.Askers.{Asker, Initializer, Process, Nobody, answered_caller, answered_process, asker, caller, initial_caller}
use Rattle.mx_state.specs.Connecting.{Connected, connect, connect_refusals, connected, with_section_page}
use Rattle.mx_state.specs.History.{IsRight}
use Rattle.mx_state.specs.Knowing.{free_name, given, initiate, link, link_by, link_to, link_towards, linked, terminate}
use Rattle.mx_state.specs.Linking.{found_uid, link_at, link_target}
use Rattle.mx_state.specs.Messages.{block, logout, sent, taken_reply, wakeup}
use Rattle.mx_state.specs.OwnState.{change_wdir, set_rules}
use Rattle.mx_state.specs.Plain.{Answer, Plain}
use Rattle.mx_state.specs.Requests.{changed, plain, told}
use Rattle.mx_state.specs.Sections.{section_made, section_page, with_page_back}
use Rattle.mx_state.specs.Shown.{shown, without_class}
use Rattle.mx_state.specs.declared.journal.Entry as journaled
use Rattle.mx_state.specs.declared.linking.Link.{Link}
use Rattle.mx_state.specs.declared.states.ProcessState.{ProcessState}
use Rattle.mx_printed.proofs.LinkTargets.{HasShort, IfTold, IsShort, create_dir_short, create_link_short, del_acl_short, del_iacl_short, delete_short, is_short_path, make_segment_short, node_short, onward_told, rename_short, required_some, set_acl_short, set_brackets_short, set_class_short, set_dir_brackets_short, set_iacl_short, unless_told}

-- a reply that tells of no other links
abbrev pub is_short_status : said.Status → Bool
is_short_status (told_of.Link target) = is_short_path target
is_short_status (told_of.Segment words brackets modes class) = true
is_short_status (told_of.Object words brackets gate definitions links modes class) = true
is_short_status (told_of.Directory d1 d2 modes) = true

abbrev pub is_short_reply : Reply → Bool
is_short_reply (reply.Status status) = is_short_status status
is_short_reply reply.Done = true
is_short_reply (reply.Refused why) = true
is_short_reply (reply.Names names) = true
is_short_reply (reply.Segno known) = true
is_short_reply (reply.Linked segno word fresh linkage) = true
is_short_reply reply.Sent = true
is_short_reply (reply.Message sender word) = true
is_short_reply reply.Nobody = true
is_short_reply reply.Waiting = true

abbrev pub is_short_entry : journaled.Entry → Bool
is_short_entry entry = is_short_reply entry.reply

-- `status`, with the class of a segment or without
status_short : (version : ℕ) (who : Subject) (object : Option PlainObjectMap) (node : Node) → IsShort node
    → is_short_status (shown version (status_of who object node)) ≡ true
status_short version who object (IsDirectory directory) is = by_classes (has_classes version)
  where
    by_classes : (classes : Bool)
        → is_short_status (if classes then directory_status who directory else without_class (directory_status who directory)) ≡ true
    by_classes true = refl
    by_classes false = refl
status_short version who object (IsLink target) is = by_classes (has_classes version)
  where
    by_classes : (classes : Bool) → is_short_status (if classes then told_of.Link target else without_class (told_of.Link target)) ≡ true
    by_classes true = is
    by_classes false = is
status_short version who None (IsSegment segment) is = by_classes (has_classes version)
  where
    by_classes : (classes : Bool)
        → is_short_status (if classes then segment_status who segment None else without_class (segment_status who segment None)) ≡ true
    by_classes true = refl
    by_classes false = refl
status_short version who (Some object) (IsSegment segment) is = by_classes (has_classes version)
  where
    by_classes : (classes : Bool)
        → is_short_status (if classes then segment_status who segment (Some object) else without_class (segment_status who segment (Some object))) ≡ true
    by_classes true = refl
    by_classes false = refl

abbrev IsShortStatus : ℕ → said.Status → Type 0
IsShortStatus version status = is_short_status (shown version status) ≡ true

status_told : (version : ℕ) (h : Hierarchy) (who : Caller) (text : List ℕ) → HasShort h → IfTold (IsShortStatus version) (status h who text)
status_told version h who text are =
    onward_told (IsShortStatus version) (entry h who text false) _
    (λ at e. onward_told (IsShortStatus version) (unless (first_of (status_refusals h who.subject at)) at) _
    (λ uid f. onward_told (IsShortStatus version) (required NoInfo (node_at h uid)) _
    (λ node g. status_short version who.subject (object_at h uid) node
    (node_short h uid node are (required_some NoInfo (node_at h uid) node g)))))

-- a page given out, and one that goes back
paged : (h : Hierarchy) (section : Option PlainSection) → HasShort h → HasShort (with_section_page h section)
paged h None are = are
paged h (Some section) are = are

back : (h : Hierarchy) (page : Option ℕ) → HasShort h → HasShort (with_page_back h page)
back h None are = are
back h (Some page) are = are

abbrev LeavesShort : Connected → Type 0
LeavesShort c = HasShort c.hierarchy

connect_short : (h : Hierarchy) (known : KnownSegments) (uid ring : ℕ) (name : Option (List ℕ)) → HasShort h
    → IfTold LeavesShort (connect h known ring name uid)
connect_short h known uid ring name are =
    unless_told LeavesShort (first_of (connect_refusals h known uid ring name)) (connected h known uid ring name)
    (paged h (section_made h known uid) are)

taken_short : (t : Taken) → is_short_reply (taken_reply t) ≡ true
taken_short (taken.Message sender word) = refl
taken_short taken.Nobody = refl
taken_short taken.Waiting = refl

-- an answer
record IsShortAnswer (given : Answer) : Type 0 where
  state : HasShort given.state.hierarchy
  said : is_short_reply given.reply ≡ true

module _ (s : Plain) (p ring : ℕ) (are : HasShort s.hierarchy) where
  abbrev who_asks : Asker
  who_asks = asker s.processes p

  on_path : (a : Asker) (given : Caller → Answer) → ((who : Caller) → IsShortAnswer (given who)) → IsShortAnswer (answered_caller s a ring given)
  on_path Initializer given each = each (initial_caller ring)
  on_path (Process process) given each = each (caller process ring)
  on_path Nobody given each = record { state = are; said = refl }

  own : (a : Asker) (given : ProcessState → Answer) → ((process : ProcessState) → IsShortAnswer (given process)) → IsShortAnswer (answered_process s a given)
  own Initializer given each = record { state = are; said = refl }
  own (Process process) given each = each process
  own Nobody given each = record { state = are; said = refl }

  change : (meant : Result Hierarchy Refusal) → IfTold HasShort meant → IsShortAnswer (changed s meant)
  change (Ok h) own = record { state = own; said = refl }
  change (Err why) own = record { state = are; said = refl }

  changing : (meant : Caller → Result Hierarchy Refusal) → ((who : Caller) → IfTold HasShort (meant who))
      → IsShortAnswer (answered_caller s who_asks ring (λ who. changed s (meant who)))
  changing meant each = on_path who_asks (λ who. changed s (meant who)) (λ who. change (meant who) (each who))

  tell : {A : Type 0} (as_reply : A → Reply) (meant : Result A Refusal) → IfTold (λ value. is_short_reply (as_reply value) ≡ true) meant
      → IsShortAnswer (told s as_reply meant)
  tell as_reply (Ok value) own = record { state = are; said = own }
  tell as_reply (Err why) own = record { state = are; said = refl }

  names_told : (meant : Result (List (List ℕ)) Refusal) → IsShortAnswer (told s reply.Names meant)
  names_told (Ok names) = record { state = are; said = refl }
  names_told (Err why) = record { state = are; said = refl }

  sent_short : (meant : Result (List PlainProcess) Refusal) → IsShortAnswer (sent s meant)
  sent_short (Ok after) = record { state = are; said = refl }
  sent_short (Err why) = record { state = are; said = refl }

  block_short : IsShortAnswer (block s p)
  block_short = record { state = are; said = taken_short (take_message s.mail p).taken }

  module _ (process : ProcessState) where
    moved : (meant : Result (List (List ℕ)) Refusal) → IsShortAnswer (change_wdir s p process meant)
    moved (Ok path) = record { state = are; said = refl }
    moved (Err why) = record { state = are; said = refl }

    given_short : (meant : Result Connected Refusal) → IfTold LeavesShort meant → IsShortAnswer (given s p process meant)
    given_short (Ok c) own = record { state = own; said = refl }
    given_short (Err why) own = record { state = are; said = refl }

    initiated : (name : Option (List ℕ)) (found : Result ℕ Refusal) → IsShortAnswer (initiate s p ring process name found)
    initiated name (Ok uid) =
        given_short (connect s.hierarchy process.known ring name uid) (connect_short s.hierarchy process.known uid ring name are)
    initiated name (Err why) = record { state = are; said = refl }

    ended : (page : Option ℕ) (meant : Option KnownSegments) → IsShortAnswer (terminate s p process page meant)
    ended page (Some known) = record { state = back s.hierarchy page are; said = refl }
    ended page None = record { state = are; said = refl }

    linked_short : (word : ℕ) (meant : Result Connected Refusal) → IfTold LeavesShort meant → IsShortAnswer (linked s p process word meant)
    linked_short word (Ok c) own = record { state = own; said = refl }
    linked_short word (Err why) own = record { state = are; said = refl }

    link_short : (o : Option Link) → IsShortAnswer (link_by s p ring process o)
    link_short None = record { state = are; said = refl }
    link_short (Some it) = by_target (link_target s.hierarchy process ring it)
      where
        by_uid : (word : ℕ) (o : Option ℕ) → IsShortAnswer (link_to s p ring process it word o)
        by_uid word (Some uid) =
            linked_short word (connect s.hierarchy process.known ring (free_name process.known ring it.segment) uid)
            (connect_short s.hierarchy process.known uid ring (free_name process.known ring it.segment) are)
        by_uid word None = record { state = are; said = refl }

        by_target : (r : Result Target LinkError) → IsShortAnswer (link_towards s p ring process it r)
        by_target (Ok to) = by_uid to.word (found_uid process.known to.found)
        by_target (Err error.SegmentNotFound) = record { state = are; said = refl }
        by_target (Err error.NotObject) = record { state = are; said = refl }
        by_target (Err error.NoDefinition) = record { state = are; said = refl }
        by_target (Err error.Memory) = record { state = are; said = refl }

  -- each request
  answer_short : (request : Request) → IsShortAnswer (plain s p ring request)
  answer_short (ask.CreateDir path d1 d2) =
      changing (λ who. create_dir s.hierarchy who path d1 d2) (λ who. create_dir_short s.hierarchy are who path d1 d2)
  answer_short (ask.CreateSeg path words brackets) =
      changing (λ who. create_seg s.hierarchy who path words brackets)
      (λ who. make_segment_short s.hierarchy are who path (record { words = words; rings = brackets; modes = Rw; object = None }))
  answer_short (ask.CreateObject path words brackets object) =
      changing (λ who. create_object s.hierarchy who path words brackets object)
      (λ who. make_segment_short s.hierarchy are who path (record { words = words; rings = brackets; modes = Re; object = Some object }))
  answer_short (ask.CreateLink path target) =
      changing (λ who. create_link s.hierarchy who path target) (λ who. create_link_short s.hierarchy are who path target)
  answer_short (ask.Rename path name) =
      changing (λ who. rename s.hierarchy who path name) (λ who. rename_short s.hierarchy are who path name)
  answer_short (ask.Delete path) = changing (λ who. delete s.hierarchy who path) (λ who. delete_short s.hierarchy are who path)
  answer_short (ask.SetAcl path id modes) =
      changing (λ who. set_acl s.hierarchy who path id modes) (λ who. set_acl_short s.hierarchy are who path id modes)
  answer_short (ask.DelAcl path id) = changing (λ who. del_acl s.hierarchy who path id) (λ who. del_acl_short s.hierarchy are who path id)
  answer_short (ask.SetIacl path kind id modes) =
      changing (λ who. set_iacl s.hierarchy who path kind id modes) (λ who. set_iacl_short s.hierarchy are who path kind id modes)
  answer_short (ask.DelIacl path kind id) =
      changing (λ who. del_iacl s.hierarchy who path kind id) (λ who. del_iacl_short s.hierarchy are who path kind id)
  answer_short (ask.SetBrackets path brackets) =
      changing (λ who. set_brackets s.hierarchy who path brackets) (λ who. set_brackets_short s.hierarchy are who path brackets)
  answer_short (ask.SetDirBrackets path d1 d2) =
      changing (λ who. set_dir_brackets s.hierarchy who path d1 d2) (λ who. set_dir_brackets_short s.hierarchy are who path d1 d2)
  answer_short (ask.SetClass path class) =
      changing (λ who. set_class s.hierarchy who path class) (λ who. set_class_short s.hierarchy are who path class)
  answer_short (ask.Status path) =
      on_path who_asks (λ who. told s (λ status. reply.Status (shown s.version status)) (status s.hierarchy who path))
      (λ who. tell (λ status. reply.Status (shown s.version status)) (status s.hierarchy who path)
      (status_told s.version s.hierarchy who path are))
  answer_short (ask.List path) =
      on_path who_asks (λ who. told s reply.Names (list s.hierarchy who path)) (λ who. names_told (list s.hierarchy who path))
  answer_short (ask.ChangeWdir path) =
      own who_asks (λ process. change_wdir s p process (directory s.hierarchy (caller process ring) path))
      (λ process. moved process (directory s.hierarchy (caller process ring) path))
  answer_short (ask.SetRules rules) = own who_asks (λ process. set_rules s p process rules) (λ process. record { state = are; said = refl })
  answer_short (ask.Initiate path name) =
      own who_asks (λ process. initiate s p ring process name (segment s.hierarchy (caller process ring) path))
      (λ process. initiated process name (segment s.hierarchy (caller process ring) path))
  answer_short (ask.Terminate segno) =
      own who_asks (λ process. terminate s p process (section_page process.known segno) (kst.terminate process.known segno))
      (λ process. ended process (section_page process.known segno) (kst.terminate process.known segno))
  answer_short (ask.Wakeup to word) = own who_asks (λ process. wakeup s p to word) (λ process. sent_short _)
  answer_short ask.Block = own who_asks (λ process. block s p) (λ process. block_short)
  answer_short (ask.Link segno word) =
      own who_asks (λ process. link s p ring process segno word)
      (λ process. link_short process (link_at s.hierarchy process.known segno word))
  answer_short ask.Resume = own who_asks (λ process. block s p) (λ process. block_short)
  answer_short ask.Logout = own who_asks (λ process. logout s p) (λ process. record { state = are; said = refl })

-- each reply of a right journal
pub replies_short : (s : Plain) (journal : List journaled.Entry) → HasShort s.hierarchy → IsRight s journal → list_all is_short_entry journal ≡ true
replies_short s [] are right = refl
replies_short s (entry ∷ journal) are right =
    let here = answer_short s entry.process entry.ring are entry.request in
    both_hold (is_short_entry entry) (list_all is_short_entry journal)
    (subst (λ (r : Reply). is_short_reply r ≡ true) right.0.reply here.said)
    (replies_short (plain s entry.process entry.ring entry.request).state journal here.state right.1)
