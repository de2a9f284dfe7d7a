-- Every request keeps each page of memory held once, or free and held by none; so no page of a segment is free.
use Rattle.std.proofs.Common.{◌≡◌, ℕ, ◌-◌, ◌≤◌, eqb, Bool, true, false, cond, List, [], ◌∷◌, map, Option, Some, None, IfSome, Result, Ok, Err, IfOk, OnErr, option_and_then, slice_get, slice_set, refl, sym, ap, subst, arith}
use Rattle.std.proofs.lemmas.List.Sums.{sum_by-cons}
use Rattle.std.specs.declared.alloc.AllocError.{AllocError}
use Rattle.mx_hier.specs.Branches.{Hierarchy, as_segment, branch_of, segment_in}
use Rattle.mx_hier.specs.Callers.{Caller, Subject}
use Rattle.mx_hier.specs.ChangeWorkingDirectory as wdir
use Rattle.mx_hier.specs.CreateDirectory.{create_dir}
use Rattle.mx_hier.specs.CreateLink.{create_link}
use Rattle.mx_hier.specs.CreateObject.{create_object}
use Rattle.mx_hier.specs.CreateSegment.{create_seg}
use Rattle.mx_hier.specs.Delete.{delete_at}
use Rattle.mx_hier.specs.DeleteAclEntry.{del_acl_at}
use Rattle.mx_hier.specs.InitialLists.{del_iacl_at, set_iacl_at}
use Rattle.mx_hier.specs.Initiate as initiating
use Rattle.mx_hier.specs.Linkage.{linkage_brackets_at, links_at, page_given}
use Rattle.mx_hier.specs.List.{list}
use Rattle.mx_hier.specs.Rename.{rename_at}
use Rattle.mx_hier.specs.Rules.{onward}
use Rattle.mx_hier.specs.SetAcl.{set_acl_at}
use Rattle.mx_hier.specs.SetBrackets.{set_brackets_at}
use Rattle.mx_hier.specs.SetClass.{set_class_at}
use Rattle.mx_hier.specs.SetDirectoryBrackets.{set_dir_brackets_at}
use Rattle.mx_hier.specs.Status.{status}
use Rattle.mx_hier.specs.Walks.{entry}
use Rattle.mx_hier.specs.declared.branches.Branch.{Branch}
use Rattle.mx_hier.specs.declared.branches.Node.{Node}
use Rattle.mx_hier.specs.declared.branches.Node.TheVariants.{Directory as IsDirectory, Segment as IsSegment, Link as IsLink}
use Rattle.mx_hier.specs.declared.branches.Segment.{Segment}
use Rattle.mx_hier.specs.declared.refusals.Refusal.{Refusal}
use Rattle.mx_kst.specs.Initiating.{initiated}
use Rattle.mx_kst.specs.KnownSegments.{KnownSegments}
use Rattle.mx_kst.specs.Lots.{is_branch, lot_of}
use Rattle.mx_kst.specs.Sections.{PlainSection}
use Rattle.mx_kst.specs.Terminating as kst
use Rattle.mx_kst.specs.Terminating.{lots_without, names_without}
use Rattle.mx_link.specs.declared.resolving.LinkError.{LinkError}
use Rattle.mx_link.specs.declared.resolving.LinkError.TheVariants as error
use Rattle.mx_link.specs.declared.resolving.Target.{Target}
use Rattle.mx_mail.specs.Processes.{PlainProcess}
use Rattle.mx_pages.proofs.RunLaws.{in_run}
use Rattle.mx_pages.specs.Runs.{is_in_run, pages_for}
use Rattle.mx_request.specs.declared.entrants.Entrant.{Entrant}
use Rattle.mx_request.specs.declared.requests.Request.{Request}
use Rattle.mx_request.specs.declared.requests.Request.TheVariants as ask
use Rattle.mx_request.specs.declared.replies.Reply.{Reply}
use Rattle.mx_request.specs.declared.replies.Reply.TheVariants as reply
use Rattle.mx_sdw.specs.Rings.{Bracketing}
use Rattle.mx_state.specs.declared.linking.Link.{Link}
use Rattle.mx_state.specs.declared.states.ProcessState.{ProcessState}
use Rattle.mx_state.specs.Askers.{Asker, Initializer, Process, Nobody, answered_caller, answered_process, asker, caller, initial_caller, process_or_nobody}
use Rattle.mx_state.specs.Connecting.{Connected, connect}
use Rattle.mx_state.specs.History.{opening}
use Rattle.mx_state.specs.Knowing.{free_name, given, initiate, knowing_more, link, link_by, link_to, link_towards, linked, terminate}
use Rattle.mx_state.specs.Linking.{found_uid, link_at, link_target}
use Rattle.mx_state.specs.Messages.{block, logout, sent, wakeup}
use Rattle.mx_state.specs.OwnState.{change_wdir, set_rules}
use Rattle.mx_state.specs.Pages.{ArePagesHeldOnce, free_count, lies_on, segments_at}
use Rattle.mx_state.specs.Plain.{Plain, Answer, answer}
use Rattle.mx_state.specs.Requests.{changed, plain, told}
use Rattle.mx_state.specs.Sections.{needs_section, section_by, section_made, section_page, with_page_back}
use Rattle.mx_state.specs.Shown.{shown}
use Rattle.mx_state.proofs.ConnectingLaws.{granted}
use Rattle.mx_state.proofs.GivenLaws.{Ends, ends_onward}
use Rattle.mx_state.proofs.PageLaws.{counted, grown_once, kept_once, known_once, once, opened_once, replaced_once, section_ended_count}
use Rattle.mx_state.proofs.SegmentLaws.{Leaves, create_dir_leaves, create_link_leaves, create_object_leaves, create_seg_leaves, del_acl_leaves, del_iacl_leaves, delete_leaves, rename_leaves, set_acl_leaves, set_brackets_leaves, set_class_leaves, set_dir_brackets_leaves, set_iacl_leaves}
use Rattle.mx_fresh.specs.Runs.{AreSegmentsTaken}
use Rattle.mx_fresh.specs.declared.answered.Answered.{Answered}

-- a segment holds its pages
segment_holds : (branches : List Branch) (uid page : ℕ) (segment : Segment) → segment_in branches uid ≡ Some segment
    → is_in_run (pages_for segment.words) segment.page page ≡ true → 1 ≤ segments_at branches page
segment_holds [] uid page segment is inside = absurd (cc)
segment_holds (branch ∷ branches) uid page segment is inside =
    by_test (eqb branch.uid uid) (λ e. segment_holds branches uid page segment e inside) is
  where
    lies : (node : Node) → as_segment node ≡ Some segment → lies_on page node ≡ true
    lies (IsSegment other) e =
        let same : other ≡ segment = cc in
        subst (λ (x : Segment). is_in_run (pages_for x.words) x.page page ≡ true) (sym same) inside
    lies (IsDirectory directory) e = absurd (cc)
    lies (IsLink target) e = absurd (cc)

    by_test : (b : Bool) → (segment_in branches uid ≡ Some segment → 1 ≤ segments_at branches page)
        → option_and_then (λ (branch : Branch). as_segment branch.node) (cond b (Some branch) (branch_of branches uid)) ≡ Some segment
        → 1 ≤ segments_at (branch ∷ branches) page
    by_test true rest e = omega (arith, sum_by-cons (λ (x : Branch). cond (lies_on page x.node) 1 0) branch branches, ap once (lies branch.node e))
    by_test false rest e = omega (arith, sum_by-cons (λ (x : Branch). cond (lies_on page x.node) 1 0) branch branches, rest e)

pub segments_taken : (s : Plain) → ArePagesHeldOnce s → AreSegmentsTaken s.hierarchy
segments_taken s held uid segment at page below inside free =
    let one = segment_holds s.hierarchy.branches uid page segment at (in_run (pages_for segment.words) segment.page page inside) in
    let most = held page below in
    let count : free_count s page ≡ 1 = ap once free in absurd (omega arith)

pub opened_held : (version : ℕ) (entrants : List Entrant) → ArePagesHeldOnce (opening version entrants)
opened_held version entrants =
    let s : Plain = opening version entrants in
    opened_once version s.hierarchy entrants s.processes s.mail refl refl

-- a section that is made is on the page that is given out
made_on : (h : Hierarchy) (k : KnownSegments) (uid : ℕ) → IfSome (section_made h k uid) (λ s. page_given h ≡ Some s.page)
made_on h k uid = by_need (needs_section h k uid)
  where
    by_parts : (brackets : Option Bracketing) (page : Option ℕ) → page_given h ≡ page
        → IfSome (section_by (links_at h uid) brackets page) (λ s. page_given h ≡ Some s.page)
    by_parts (Some brackets) (Some page) given = given
    by_parts (Some brackets) None given = tt
    by_parts None page given = tt

    by_need : (needs : Bool) → IfSome (cond needs (section_by (links_at h uid) (linkage_brackets_at h uid) (page_given h)) None) (λ s. page_given h ≡ Some s.page)
    by_need true = by_parts (linkage_brackets_at h uid) (page_given h) refl
    by_need false = tt

-- by the state that a request leaves
abbrev Keeps : Plain → Answer → Type 0
Keeps s given = ArePagesHeldOnce s → ArePagesHeldOnce given.state

-- at no page more counts than before
abbrev HoldsNoMore : Hierarchy → Hierarchy → Type 0
HoldsNoMore h k = (page : ℕ) → counted k page ≤ counted h page

leaves_no_more : (but : ℕ → Type 0) (h : Hierarchy) (meant : Result Hierarchy Refusal) → Leaves but h meant → Ends (HoldsNoMore h) meant
leaves_no_more but h meant leaves k e page = (leaves k e).pages page

abbrev Nothing : ℕ → Type 0
Nothing uid = ⊥

abbrev Only : ℕ → ℕ → Type 0
Only uid other = other ≡ uid

module _ (s : Plain) (p ring : ℕ) where
  on_path : (a : Asker) (given : Caller → Answer) → ((who : Caller) → Keeps s (given who)) → Keeps s (answered_caller s a ring given)
  on_path Initializer given keeps = keeps (initial_caller ring)
  on_path (Process process) given keeps = keeps (caller process ring)
  on_path Nobody given keeps = λ held. held

  changed_keeps : (meant : Result Hierarchy Refusal) → Ends (HoldsNoMore s.hierarchy) meant → Keeps s (changed s meant)
  changed_keeps (Ok h) ends = grown_once s.version s.hierarchy h s.mail s.processes (ends h refl)
  changed_keeps (Err why) ends = λ held. held

  told_keeps : {A : Type 0} (as_reply : A → Reply) (meant : Result A Refusal) → Keeps s (told s as_reply meant)
  told_keeps as_reply (Ok value) = λ held. held
  told_keeps as_reply (Err why) = λ held. held

  created : (but : ℕ → Type 0) (meant : Caller → Result Hierarchy Refusal) → ((who : Caller) → Leaves but s.hierarchy (meant who))
      → Keeps s (answered_caller s (asker s.processes p) ring (λ who. changed s (meant who)))
  created but meant leaves = on_path (asker s.processes p) (λ who. changed s (meant who))
      (λ who. changed_keeps (meant who) (leaves_no_more but s.hierarchy (meant who) (leaves who)))

  -- the entry at a path is changed
  entered : (path : List ℕ) (follow : Bool) (but : ℕ → ℕ → Type 0) (meant : Subject → ℕ → Result Hierarchy Refusal)
      → ((who : Subject) (uid : ℕ) → Leaves (but uid) s.hierarchy (meant who uid))
      → Keeps s (answered_caller s (asker s.processes p) ring (λ who. changed s
      (onward (entry s.hierarchy who path follow) (λ uid. meant who.subject uid))))
  entered path follow but meant leaves = on_path (asker s.processes p)
      (λ who. changed s (onward (entry s.hierarchy who path follow) (λ uid. meant who.subject uid)))
      (λ who. changed_keeps (onward (entry s.hierarchy who path follow) (λ uid. meant who.subject uid))
      (ends_onward (HoldsNoMore s.hierarchy) (entry s.hierarchy who path follow) (λ uid. meant who.subject uid)
      (λ uid. leaves_no_more (but uid) s.hierarchy (meant who.subject uid) (leaves who.subject uid))))

  -- a process that is there
  own : (given : ProcessState → Answer)
      → ((process : ProcessState) → slice_get s.processes (p - 1) ≡ Some process → Keeps s (given process))
      → Keeps s (answered_process s (asker s.processes p) given)
  own given keeps = by_zero (eqb p 0)
    where
      by_place : (o : Option ProcessState) → slice_get s.processes (p - 1) ≡ o → Keeps s (answered_process s (process_or_nobody o) given)
      by_place (Some process) e = keeps process e
      by_place None e = λ held. held

      by_zero : (b : Bool) → Keeps s (answered_process s (cond b Initializer (process_or_nobody (cond b None (slice_get s.processes (p - 1))))) given)
      by_zero true = λ held. held
      by_zero false = by_place (slice_get s.processes (p - 1)) refl

  module _ (process : ProcessState) (there : slice_get s.processes (p - 1) ≡ Some process) where
    same_known : (other : ProcessState) → other.known ≡ process.known
        → ArePagesHeldOnce s → ArePagesHeldOnce (record s { processes = slice_set s.processes (p - 1) other })
    same_known other known = kept_once s.version s.hierarchy s.mail s.processes (p - 1) process other there known

    change_wdir_keeps : (meant : Result (List (List ℕ)) Refusal) → Keeps s (change_wdir s p process meant)
    change_wdir_keeps (Ok path) = same_known (record process { working_directory = path }) refl
    change_wdir_keeps (Err why) = λ held. held

    -- a segment becomes known
    known_keeps : (uid : ℕ) (name : Option (List ℕ)) (c : Connected) → connect s.hierarchy process.known ring name uid ≡ Ok c
        → ArePagesHeldOnce s → ArePagesHeldOnce (knowing_more s p process c)
    known_keeps uid name c e held =
        let section : Option PlainSection = section_made s.hierarchy process.known uid in
        subst (λ (c : Connected). ArePagesHeldOnce (knowing_more s p process c)) (granted s.hierarchy process.known uid ring name c e).is
        (known_once s.version s.hierarchy s.mail s.processes (p - 1) process
        (record process { known = (initiated process.known uid ring name section).after })
        (initiated process.known uid ring name section).known uid section there refl (made_on s.hierarchy process.known uid) held)

    given_keeps : (uid : ℕ) (name : Option (List ℕ)) (meant : Result Connected Refusal)
        → connect s.hierarchy process.known ring name uid ≡ meant → Keeps s (given s p process meant)
    given_keeps uid name (Ok c) e = known_keeps uid name c e
    given_keeps uid name (Err why) e = λ held. held

    initiate_keeps : (name : Option (List ℕ)) (found : Result ℕ Refusal) → Keeps s (initiate s p ring process name found)
    initiate_keeps name (Ok uid) = given_keeps uid name (connect s.hierarchy process.known ring name uid) refl
    initiate_keeps name (Err why) = λ held. held

    linked_keeps : (uid word : ℕ) (name : Option (List ℕ)) (meant : Result Connected Refusal)
        → connect s.hierarchy process.known ring name uid ≡ meant → Keeps s (linked s p process word meant)
    linked_keeps uid word name (Ok c) e = known_keeps uid name c e
    linked_keeps uid word name (Err why) e = λ held. held

    link_keeps : (o : Option Link) → Keeps s (link_by s p ring process o)
    link_keeps None = λ held. held
    link_keeps (Some it) = by_target (link_target s.hierarchy process ring it)
      where
        by_uid : (word : ℕ) (o : Option ℕ) → Keeps s (link_to s p ring process it word o)
        by_uid word (Some uid) =
            linked_keeps uid word (free_name process.known ring it.segment)
            (connect s.hierarchy process.known ring (free_name process.known ring it.segment) uid) refl
        by_uid word None = λ held. held

        by_target : (r : Result Target LinkError) → Keeps s (link_towards s p ring process it r)
        by_target (Ok to) = by_uid to.word (found_uid process.known to.found)
        by_target (Err error.SegmentNotFound) = λ held. held
        by_target (Err error.NotObject) = λ held. held
        by_target (Err error.NoDefinition) = λ held. held
        by_target (Err error.Memory) = λ held. held

    -- it is known no longer
    terminate_keeps : (segno : ℕ) → Keeps s (terminate s p process (section_page process.known segno) (kst.terminate process.known segno))
    terminate_keeps segno = by_test (is_branch (lot_of process.known.lots segno))
      where
        left : KnownSegments
        left = record process.known { lots = lots_without segno process.known.lots; names = map (names_without segno) process.known.names }

        by_test : (b : Bool) → Keeps s (terminate s p process (section_page process.known segno) (cond b (Some left) None))
        by_test true = replaced_once s.version s.hierarchy (with_page_back s.hierarchy (section_page process.known segno)) s.mail s.processes (p - 1)
            process (record process { known = left }) there
            (λ page. section_ended_count s.hierarchy process.known segno page)
        by_test false = λ held. held

  sent_keeps : (meant : Result (List PlainProcess) Refusal) → Keeps s (sent s meant)
  sent_keeps (Ok after) = λ held. held
  sent_keeps (Err why) = λ held. held

  request_keeps : (request : Request) → Keeps s (plain s p ring request)
  request_keeps (ask.CreateDir path d1 d2) = created Nothing (λ who. create_dir s.hierarchy who path d1 d2)
      (λ who. create_dir_leaves s.hierarchy who path d1 d2)
  request_keeps (ask.CreateSeg path words brackets) = created Nothing (λ who. create_seg s.hierarchy who path words brackets)
      (λ who. create_seg_leaves s.hierarchy who path words brackets)
  request_keeps (ask.CreateObject path words brackets object) = created Nothing (λ who. create_object s.hierarchy who path words brackets object)
      (λ who. create_object_leaves s.hierarchy who path words brackets object)
  request_keeps (ask.CreateLink path target) = created Nothing (λ who. create_link s.hierarchy who path target)
      (λ who. create_link_leaves s.hierarchy who path target)
  request_keeps (ask.Rename path name) = entered path false (λ uid. Nothing) (λ who uid. rename_at s.hierarchy who uid name)
      (λ who uid. rename_leaves s.hierarchy who uid name)
  request_keeps (ask.Delete path) = entered path false Only (λ who uid. delete_at s.hierarchy who uid)
      (λ who uid. delete_leaves s.hierarchy who uid)
  request_keeps (ask.SetAcl path id modes) = entered path true Only (λ who uid. set_acl_at s.hierarchy who uid id modes)
      (λ who uid. set_acl_leaves s.hierarchy who uid id modes)
  request_keeps (ask.DelAcl path id) = entered path true Only (λ who uid. del_acl_at s.hierarchy who uid id)
      (λ who uid. del_acl_leaves s.hierarchy who uid id)
  request_keeps (ask.SetIacl path kind id modes) = entered path true (λ uid. Nothing) (λ who uid. set_iacl_at s.hierarchy who uid kind id modes)
      (λ who uid. set_iacl_leaves s.hierarchy who uid kind id modes)
  request_keeps (ask.DelIacl path kind id) = entered path true (λ uid. Nothing) (λ who uid. del_iacl_at s.hierarchy who uid kind id)
      (λ who uid. del_iacl_leaves s.hierarchy who uid kind id)
  request_keeps (ask.SetBrackets path brackets) = entered path true Only (λ who uid. set_brackets_at s.hierarchy who uid brackets)
      (λ who uid. set_brackets_leaves s.hierarchy who uid brackets)
  request_keeps (ask.SetDirBrackets path d1 d2) = entered path true (λ uid. Nothing) (λ who uid. set_dir_brackets_at s.hierarchy who uid d1 d2)
      (λ who uid. set_dir_brackets_leaves s.hierarchy who uid d1 d2)
  request_keeps (ask.SetClass path class) = entered path true Only (λ who uid. set_class_at s.hierarchy who uid class)
      (λ who uid. set_class_leaves s.hierarchy who uid class)
  request_keeps (ask.Status path) =
      on_path (asker s.processes p) (λ who. told s (λ status. reply.Status (shown s.version status)) (status s.hierarchy who path))
      (λ who. told_keeps (λ status. reply.Status (shown s.version status)) (status s.hierarchy who path))
  request_keeps (ask.List path) =
      on_path (asker s.processes p) (λ who. told s reply.Names (list s.hierarchy who path))
      (λ who. told_keeps reply.Names (list s.hierarchy who path))
  request_keeps (ask.ChangeWdir path) =
      own (λ process. change_wdir s p process (wdir.directory s.hierarchy (caller process ring) path))
      (λ process there. change_wdir_keeps process there (wdir.directory s.hierarchy (caller process ring) path))
  request_keeps (ask.SetRules rules) = own (λ process. set_rules s p process rules)
      (λ process there. same_known process there (record process { rules = rules }) refl)
  request_keeps (ask.Initiate path name) =
      own (λ process. initiate s p ring process name (initiating.segment s.hierarchy (caller process ring) path))
      (λ process there. initiate_keeps process there name (initiating.segment s.hierarchy (caller process ring) path))
  request_keeps (ask.Terminate segno) =
      own (λ process. terminate s p process (section_page process.known segno) (kst.terminate process.known segno))
      (λ process there. terminate_keeps process there segno)
  request_keeps (ask.Wakeup to word) = own (λ process. wakeup s p to word) (λ process there. sent_keeps _)
  request_keeps ask.Block = own (λ process. block s p) (λ process there held. held)
  request_keeps (ask.Link segno word) = own (λ process. link s p ring process segno word)
      (λ process there. link_keeps process there (link_at s.hierarchy process.known segno word))
  request_keeps ask.Resume = own (λ process. block s p) (λ process there held. held)
  request_keeps ask.Logout = own (λ process. logout s p) (λ process there held. held)

-- whatever comes of it
pub held_after : (s t : Plain) (p ring : ℕ) (request : Request) (result : Result Answered AllocError)
    → IfOk result (λ given. plain s p ring request ≡ answer given.reply t) → OnErr result (t ≡ s) → ArePagesHeldOnce s → ArePagesHeldOnce t
held_after s t p ring request (Ok given) is same held =
    subst (λ (a : Answer). ArePagesHeldOnce a.state) is (request_keeps s p ring request held)
held_after s t p ring request (Err error) is same held = subst ArePagesHeldOnce (sym same) held
