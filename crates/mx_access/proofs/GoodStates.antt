-- Every request leaves descriptors that a table may hold.
use Rattle.std.proofs.Common.{◌≡◌, ℕ, zero, suc, ◌+◌, ◌-◌, ◌*◌, ◌<◌, ◌≤◌, nat_le, nat_lt, eqb, Bool, true, false, cond, ◌&&◌, ◌||◌, List, [], ◌∷◌, ◌++◌, map, take, length, Option, Some, None, is_none, IfSome, Result, Ok, Err, refl, subst, arith}
use Rattle.std.proofs.lemmas.Bool.{ltb-false, ltb-true}
use Rattle.std.proofs.lemmas.List.{length-map, length-set}
use Rattle.std.proofs.lemmas.Option.{none-some, same_Some, slice_get_within}
use Rattle.std.specs.List.{slice_get, slice_set, list_all, range_with_len}
use Rattle.std.specs.Option.{option_map}
use Rattle.mx_access.specs.Admissible.{AdmissibleLaw}
use Rattle.mx_access.proofs.GoodHierarchies.{Gives, GoodBrackets, GoodHierarchy, acl_good, branch_admissible, brackets_good, class_good, create_dir_good, create_link_good, delete_good, directory_good, gives_onward, make_segment_good, object_good, opening_good, rename_good, run_length, after_length, run_within, segment_good}
use Rattle.mx_access.proofs.RowLaws.{unknown_admissible}
use Rattle.mx_hier.specs.Branches.{Hierarchy, segment_at}
use Rattle.mx_hier.specs.Callers.{Caller, Subject}
use Rattle.mx_hier.specs.ChangeWorkingDirectory as wdir
use Rattle.mx_hier.specs.CreateDirectory.{create_dir}
use Rattle.mx_hier.specs.CreateLink.{create_link}
use Rattle.mx_hier.specs.CreateObject.{create_object}
use Rattle.mx_hier.specs.CreateSegment.{create_seg}
use Rattle.mx_hier.specs.Delete.{delete_at}
use Rattle.mx_acl.specs.Access.{with_entry, without_entry}
use Rattle.mx_hier.specs.DeleteAclEntry.{del_acl_at, del_acl_refusals}
use Rattle.mx_hier.specs.InitialLists.{del_iacl_at, del_iacl_refusals, initial_changed, set_iacl_at, set_iacl_refusals}
use Rattle.mx_hier.specs.Initiate as initiating
use Rattle.mx_hier.specs.Linkage.{linkage_brackets, linkage_brackets_at, links_at, page_given}
use Rattle.mx_hier.specs.List.{list}
use Rattle.mx_hier.specs.Rename.{rename_at}
use Rattle.mx_hier.specs.Rules.{first_of, onward}
use Rattle.mx_hier.specs.SetAcl.{set_acl_at, set_acl_refusals}
use Rattle.mx_hier.specs.SetBrackets.{set_brackets_at}
use Rattle.mx_hier.specs.SetClass.{set_class_at}
use Rattle.mx_hier.specs.SetDirectoryBrackets.{dir_bracketed, set_dir_brackets_at, set_dir_brackets_refusals}
use Rattle.mx_hier.specs.Status.{status}
use Rattle.mx_hier.specs.Walks.{entry}
use Rattle.mx_hier.specs.declared.branches.Segment.{Segment}
use Rattle.mx_hier.specs.declared.refusals.Refusal.{Refusal}
use Rattle.mx_kst.specs.Initiating.{initiated, lots_given, lots_with}
use Rattle.mx_kst.specs.KnownSegments.{KnownSegments}
use Rattle.mx_kst.specs.Lots.{is_branch, is_section_of, lot_of, number_of}
use Rattle.mx_kst.specs.Sections.{IsWithinPage, PlainSection}
use Rattle.mx_kst.specs.Terminating as kst
use Rattle.mx_kst.specs.Terminating.{lot_without, lots_without, names_without}
use Rattle.mx_kst.specs.declared.lots.Lot.{Lot}
use Rattle.mx_kst.specs.declared.lots.Lot.TheVariants.{Free, Stack, Branch, Linkage}
use Rattle.mx_kst.specs.declared.segments.Known.{Known}
use Rattle.mx_link.specs.declared.resolving.LinkError.{LinkError}
use Rattle.mx_link.specs.declared.resolving.LinkError.TheVariants as error
use Rattle.mx_link.specs.declared.resolving.Target.{Target}
use Rattle.mx_mail.specs.Processes.{PlainProcess}
use Rattle.mx_acl.specs.declared.modes.Modes.TheVariants.{Re, Rw}
use Rattle.mx_object.specs.declared.objects.ObjectError.TheVariants.{Twice, TooMany}
use Rattle.mx_object.specs.Objects.{PlainObjectMap, has_twice, map_fault, symbols_of}
use Rattle.mx_request.proofs.StepLaws.{both, faultless}
use Rattle.mx_request.specs.ObjectTexts.{fits_object, is_definition, is_link}
use Rattle.mx_request.specs.RequestTexts.{are_brackets, fits_request, is_pathname, is_ring}
use Rattle.mx_request.specs.declared.entrants.Entrant.{Entrant}
use Rattle.mx_request.specs.declared.requests.Request.{Request}
use Rattle.mx_request.specs.declared.requests.Request.TheVariants as ask
use Rattle.mx_request.specs.declared.replies.Reply.{Reply}
use Rattle.mx_request.specs.declared.replies.Reply.TheVariants as reply
use Rattle.mx_sdw.specs.Admissible.{IsAdmissible}
use Rattle.mx_sdw.specs.Rings.{Bracketing}
use Rattle.mx_spelling.specs.Spelling.{bounds_reply, fits_entry, is_process}
use Rattle.mx_state.proofs.ConnectingLaws.{granted}
use Rattle.mx_state.proofs.SectionLaws.{section_admissible}
use Rattle.mx_state.specs.Askers.{Asker, Initializer, Process, Nobody, answered_caller, answered_process, asker, caller, initial_caller, process_or_nobody}
use Rattle.mx_state.specs.Connecting.{Connected, connect, with_section_page}
use Rattle.mx_state.specs.History.{fresh, replay}
use Rattle.mx_state.specs.Knowing.{free_name, given, initiate, knowing_more, link, link_by, link_to, link_towards, linked, terminate}
use Rattle.mx_state.specs.Linking.{found_uid, link_at, link_target}
use Rattle.mx_state.specs.Messages.{block, logout, sent, wakeup}
use Rattle.mx_state.specs.Numbers.{stands_for}
use Rattle.mx_state.specs.OwnState.{change_wdir, set_rules}
use Rattle.mx_state.specs.Plain.{Plain, Answer}
use Rattle.mx_state.specs.Requests.{changed, plain, told}
use Rattle.mx_state.specs.Sections.{has_links, needs_section, section_by, section_made, section_page, with_page_back}
use Rattle.mx_state.specs.Shown.{shown}
use Rattle.mx_state.specs.Table.{descriptor, process_desc, standing_desc}
use Rattle.mx_state.specs.declared.journal.Entry as journaled
use Rattle.mx_state.specs.declared.linking.Link.{Link}
use Rattle.mx_state.specs.declared.states.ProcessState.{ProcessState}
use Rattle.mx_transcript.specs.Opened.{opening_of}

abbrev GoodLot : Lot → Type 0
GoodLot (Linkage of page brackets words) = IsWithinPage page words × GoodBrackets brackets
GoodLot (Stack ring) = ring ≤ 7
GoodLot Free = Unit {0}
GoodLot (Branch uid) = Unit {0}

abbrev GoodLots : List Lot → Type 0
GoodLots [] = Unit {0}
GoodLots (lot ∷ lots) = GoodLot lot × GoodLots lots

abbrev GoodProcesses : List ProcessState → Type 0
GoodProcesses [] = Unit {0}
GoodProcesses (process ∷ processes) = GoodLots process.known.lots × GoodProcesses processes

record GoodState (s : Plain) : Type 0 where
  hierarchy : GoodHierarchy s.hierarchy
  processes : GoodProcesses s.processes
  count : length s.processes ≤ 15

abbrev GoodSection : PlainSection → Type 0
GoodSection section = IsWithinPage section.page section.words × GoodBrackets section.brackets

lot_good : (lots : List Lot) (n : ℕ) → GoodLots lots → GoodLot (lot_of lots n)
lot_good [] n good = tt
lot_good (lot ∷ lots) zero good = good.0
lot_good (lot ∷ lots) (suc n) good = lot_good lots n good.1

lots_append : (front back : List Lot) → GoodLots front → GoodLots back → GoodLots (front ++ back)
lots_append [] back good more = more
lots_append (lot ∷ front) back good more = (good.0, lots_append front back good.1 more)

lots_freed : (lots : List Lot) (n : ℕ) → GoodLots lots → GoodLots (slice_set lots n Free)
lots_freed [] n good = tt
lots_freed (lot ∷ lots) zero good = (tt, good.1)
lots_freed (lot ∷ lots) (suc n) good = (good.0, lots_freed lots n good.1)

lots_ended : (lots : List Lot) (segno : ℕ) → GoodLots lots → GoodLots (map (lot_without segno) lots)
lots_ended [] segno good = tt
lots_ended (lot ∷ lots) segno good = (by_test (is_section_of segno lot), lots_ended lots segno good.1)
  where
    by_test : (b : Bool) → GoodLot (cond b Free lot)
    by_test true = tt
    by_test false = good.0

given_good : (segno uid : ℕ) (section : Option PlainSection) → IfSome section GoodSection → GoodLots (lots_given segno uid section)
given_good segno uid None good = (tt, tt)
given_good segno uid (Some section) good = (tt, (good, tt))

with_good : (lots : List Lot) (known : Known) (uid : ℕ) (section : Option PlainSection) → GoodLots lots → IfSome section GoodSection
    → GoodLots (lots_with lots known uid section)
with_good lots known uid section good one = by_fresh known.fresh
  where
    by_fresh : (b : Bool) → GoodLots (cond b (lots ++ lots_given known.segno uid section) lots)
    by_fresh true = lots_append lots (lots_given known.segno uid section) good (given_good known.segno uid section one)
    by_fresh false = good

process_good : (processes : List ProcessState) (i : ℕ) (process : ProcessState) → GoodProcesses processes
    → slice_get processes i ≡ Some process → GoodLots process.known.lots
process_good [] i process good is = absurd (none-some process is)
process_good (first ∷ processes) zero process good is =
    subst (λ (x : ProcessState). GoodLots x.known.lots) (same_Some first process is) good.0
process_good (first ∷ processes) (suc i) process good is = process_good processes i process good.1 is

set_good : (processes : List ProcessState) (i : ℕ) (other : ProcessState) → GoodProcesses processes → GoodLots other.known.lots
    → GoodProcesses (slice_set processes i other)
set_good [] i other good one = tt
set_good (first ∷ processes) zero other good one = (one, good.1)
set_good (first ∷ processes) (suc i) other good one = (good.0, set_good processes i other good.1 one)

-- a section that is made lies on a page that there is, with a word for each link
section_good : (h : Hierarchy) (k : KnownSegments) (uid : ℕ) → GoodHierarchy h → IfSome (section_made h k uid) GoodSection
section_good h k uid good = by_need (needs_section h k uid) refl
  where
    of_segment : (o : Option Segment) (brackets : Bracketing) → segment_at h uid ≡ o
        → option_map (λ (segment : Segment). linkage_brackets segment.brackets) o ≡ Some brackets → GoodBrackets brackets
    of_segment None brackets e is = absurd cc
    of_segment (Some segment) brackets e is =
        let rings = (segment_good h uid segment good e).rings in
        let same : linkage_brackets segment.brackets ≡ brackets = cc in
        subst GoodBrackets same (record { first = rings.first; second = omega arith; ring = omega (arith, rings.second, rings.ring) })

    by_parts : 1 ≤ links_at h uid → (brackets : Option Bracketing) (page : Option ℕ) → linkage_brackets_at h uid ≡ brackets
        → page_given h ≡ page → IfSome (section_by (links_at h uid) brackets page) GoodSection
    by_parts some (Some brackets) (Some page) e given = (
      record {
        some = some;
        most = (object_good h uid good).links;
        last_page = omega (arith, run_within h.pages 1 page good.pages (omega arith) given);
      },
      of_segment (segment_at h uid) brackets refl e,
    )
    by_parts some (Some brackets) None e given = tt
    by_parts some None page e given = tt

    by_need : (b : Bool) → needs_section h k uid ≡ b
        → IfSome (cond b (section_by (links_at h uid) (linkage_brackets_at h uid) (page_given h)) None) GoodSection
    by_need true e =
        by_parts (ltb-true 0 (links_at h uid) (both (is_none (number_of k.lots uid)) (has_links h uid) e).1)
        (linkage_brackets_at h uid) (page_given h) refl refl
    by_need false e = tt

page_taken : (h : Hierarchy) (section : Option PlainSection) → GoodHierarchy h → GoodHierarchy (with_section_page h section)
page_taken h None good = good
page_taken h (Some section) good = record {
  branches = good.branches;
  objects = good.objects;
  pages = after_length h.pages 1 (page_given h) good.pages;
}

page_back : (h : Hierarchy) (page : Option ℕ) → GoodHierarchy h → GoodHierarchy (with_page_back h page)
page_back h None good = good
page_back h (Some page) good =
    record { branches = good.branches; objects = good.objects; pages = run_length true h.pages page 1 }

few_links : (object : PlainObjectMap) → fits_object object ≡ true → length object.links ≤ 64
few_links object fits =
    let one = (both (nat_le object.gate 9999) _ fits).1 in
    let two = (both (list_all is_definition object.definitions) _ one).1 in
    let three = (both (list_all is_link object.links) (is_none (map_fault object)) two).1 in
    by_tests (has_twice (symbols_of object.definitions)) (nat_lt 64 (length object.definitions)) (nat_lt 64 (length object.links)) refl
    (faultless (map_fault object) three)
  where
    by_tests : (a b c : Bool) → nat_lt 64 (length object.links) ≡ c
        → cond a (Some Twice) (cond (b || c) (Some TooMany) None) ≡ None → length object.links ≤ 64
    by_tests true b c e is = absurd cc
    by_tests false true c e is = absurd cc
    by_tests false false true e is = absurd cc
    by_tests false false false e is = ltb-false 64 (length object.links) e

module _ (s : Plain) (good : GoodState s) (p ring : ℕ) where
  on_path : (a : Asker) (given : Caller → Answer) → ((who : Caller) → GoodState (given who).state) → GoodState (answered_caller s a ring given).state
  on_path Initializer given keeps = keeps (initial_caller ring)
  on_path (Process process) given keeps = keeps (caller process ring)
  on_path Nobody given keeps = good

  changed_good : (meant : Result Hierarchy Refusal) → Gives meant → GoodState (changed s meant).state
  changed_good (Ok h) gives = record { hierarchy = gives; processes = good.processes; count = good.count }
  changed_good (Err why) gives = good

  told_good : {A : Type 0} (as_reply : A → Reply) (meant : Result A Refusal) → GoodState (told s as_reply meant).state
  told_good as_reply (Ok value) = good
  told_good as_reply (Err why) = good

  created : (meant : Caller → Result Hierarchy Refusal) → ((who : Caller) → Gives (meant who))
      → GoodState (answered_caller s (asker s.processes p) ring (λ who. changed s (meant who))).state
  created meant gives = on_path (asker s.processes p) (λ who. changed s (meant who)) (λ who. changed_good (meant who) (gives who))

  entered : (path : List ℕ) (follow : Bool) (meant : Subject → ℕ → Result Hierarchy Refusal) → ((who : Subject) (uid : ℕ) → Gives (meant who uid))
      → GoodState (answered_caller s (asker s.processes p) ring (λ who. changed s
      (onward (entry s.hierarchy who path follow) (λ uid. meant who.subject uid)))).state
  entered path follow meant gives = on_path (asker s.processes p)
      (λ who. changed s (onward (entry s.hierarchy who path follow) (λ uid. meant who.subject uid)))
      (λ who. changed_good (onward (entry s.hierarchy who path follow) (λ uid. meant who.subject uid))
      (gives_onward (entry s.hierarchy who path follow) (λ uid. meant who.subject uid) (gives who.subject)))

  -- a process that is there
  own : (given : ProcessState → Answer)
      → ((process : ProcessState) → slice_get s.processes (p - 1) ≡ Some process → GoodState (given process).state)
      → GoodState (answered_process s (asker s.processes p) given).state
  own given keeps = by_zero (eqb p 0)
    where
      by_place : (o : Option ProcessState) → slice_get s.processes (p - 1) ≡ o → GoodState (answered_process s (process_or_nobody o) given).state
      by_place (Some process) e = keeps process e
      by_place None e = good

      by_zero : (b : Bool) → GoodState (answered_process s (cond b Initializer (process_or_nobody (cond b None (slice_get s.processes (p - 1))))) given).state
      by_zero true = good
      by_zero false = by_place (slice_get s.processes (p - 1)) refl

  module _ (process : ProcessState) (there : slice_get s.processes (p - 1) ≡ Some process) where
    replaced : (h : Hierarchy) (other : ProcessState) → GoodHierarchy h → GoodLots other.known.lots
        → GoodState (record s { hierarchy = h; processes = slice_set s.processes (p - 1) other })
    replaced h other gives one = record {
      hierarchy = gives;
      processes = set_good s.processes (p - 1) other good.processes one;
      count = omega (arith, length-set s.processes (p - 1) other, good.count);
    }

    own_lots : GoodLots process.known.lots
    own_lots = process_good s.processes (p - 1) process good.processes there

    change_wdir_good : (meant : Result (List (List ℕ)) Refusal) → GoodState (change_wdir s p process meant).state
    change_wdir_good (Ok path) = replaced s.hierarchy (record process { working_directory = path }) good.hierarchy own_lots
    change_wdir_good (Err why) = good

    known_good : (uid : ℕ) (name : Option (List ℕ)) (c : Connected) → connect s.hierarchy process.known ring name uid ≡ Ok c
        → GoodState (knowing_more s p process c)
    known_good uid name c e =
        let section : Option PlainSection = section_made s.hierarchy process.known uid in
        let one = section_good s.hierarchy process.known uid good.hierarchy in
        subst (λ (c : Connected). GoodState (knowing_more s p process c)) (granted s.hierarchy process.known uid ring name c e).is
        (replaced (with_section_page s.hierarchy section)
        (record process { known = (initiated process.known uid ring name section).after })
        (page_taken s.hierarchy section good.hierarchy)
        (with_good process.known.lots (initiated process.known uid ring name section).known uid section own_lots one))

    given_keeps : (uid : ℕ) (name : Option (List ℕ)) (meant : Result Connected Refusal)
        → connect s.hierarchy process.known ring name uid ≡ meant → GoodState (given s p process meant).state
    given_keeps uid name (Ok c) e = known_good uid name c e
    given_keeps uid name (Err why) e = good

    initiate_good : (name : Option (List ℕ)) (found : Result ℕ Refusal) → GoodState (initiate s p ring process name found).state
    initiate_good name (Ok uid) = given_keeps uid name (connect s.hierarchy process.known ring name uid) refl
    initiate_good name (Err why) = good

    linked_good : (uid word : ℕ) (name : Option (List ℕ)) (meant : Result Connected Refusal)
        → connect s.hierarchy process.known ring name uid ≡ meant → GoodState (linked s p process word meant).state
    linked_good uid word name (Ok c) e = known_good uid name c e
    linked_good uid word name (Err why) e = good

    link_good : (o : Option Link) → GoodState (link_by s p ring process o).state
    link_good None = good
    link_good (Some it) = by_target (link_target s.hierarchy process ring it)
      where
        by_uid : (word : ℕ) (o : Option ℕ) → GoodState (link_to s p ring process it word o).state
        by_uid word (Some uid) =
            linked_good uid word (free_name process.known ring it.segment)
            (connect s.hierarchy process.known ring (free_name process.known ring it.segment) uid) refl
        by_uid word None = good

        by_target : (r : Result Target LinkError) → GoodState (link_towards s p ring process it r).state
        by_target (Ok to) = by_uid to.word (found_uid process.known to.found)
        by_target (Err error.SegmentNotFound) = good
        by_target (Err error.NotObject) = good
        by_target (Err error.NoDefinition) = good
        by_target (Err error.Memory) = good

    terminate_good : (segno : ℕ)
        → GoodState (terminate s p process (section_page process.known segno) (kst.terminate process.known segno)).state
    terminate_good segno = by_test (is_branch (lot_of process.known.lots segno))
      where
        left : KnownSegments
        left = record process.known { lots = lots_without segno process.known.lots; names = map (names_without segno) process.known.names }

        by_test : (b : Bool) → GoodState (terminate s p process (section_page process.known segno) (cond b (Some left) None)).state
        by_test true = replaced (with_page_back s.hierarchy (section_page process.known segno)) (record process { known = left })
            (page_back s.hierarchy (section_page process.known segno) good.hierarchy)
            (lots_ended (slice_set process.known.lots segno Free) segno (lots_freed process.known.lots segno own_lots))
        by_test false = good

  sent_good : (meant : Result (List PlainProcess) Refusal) → GoodState (sent s meant).state
  sent_good (Ok after) = record { hierarchy = good.hierarchy; processes = good.processes; count = good.count }
  sent_good (Err why) = good

  request_good : (request : Request) → fits_request request ≡ true → GoodState (plain s p ring request).state
  request_good (ask.CreateDir path d1 d2) fits = created (λ who. create_dir s.hierarchy who path d1 d2)
      (λ who. create_dir_good s.hierarchy good.hierarchy who path d1 d2)
  request_good (ask.CreateSeg path words brackets) fits =
      let rings = (both (nat_le words 99999) (are_brackets brackets) (both (is_pathname path) _ fits).1).1 in
      created (λ who. create_seg s.hierarchy who path words brackets)
      (λ who. make_segment_good s.hierarchy good.hierarchy who path
      (record { words = words; rings = brackets; modes = Rw; object = None }) rings (omega arith))
  request_good (ask.CreateObject path words brackets object) fits =
      let rest = (both (nat_le words 99999) (are_brackets brackets && fits_object object) (both (is_pathname path) _ fits).1).1 in
      let parts = both (are_brackets brackets) (fits_object object) rest in
      created (λ who. create_object s.hierarchy who path words brackets object)
      (λ who. make_segment_good s.hierarchy good.hierarchy who path
      (record { words = words; rings = brackets; modes = Re; object = Some object }) parts.0 (few_links object parts.1))
  request_good (ask.CreateLink path target) fits = created (λ who. create_link s.hierarchy who path target)
      (λ who. create_link_good s.hierarchy good.hierarchy who path target)
  request_good (ask.Rename path name) fits = entered path false (λ who uid. rename_at s.hierarchy who uid name)
      (λ who uid. rename_good s.hierarchy good.hierarchy who uid name)
  request_good (ask.Delete path) fits = entered path false (λ who uid. delete_at s.hierarchy who uid)
      (λ who uid. delete_good s.hierarchy good.hierarchy who uid)
  request_good (ask.SetAcl path id modes) fits = entered path true (λ who uid. set_acl_at s.hierarchy who uid id modes)
      (λ who uid. acl_good s.hierarchy good.hierarchy (first_of (set_acl_refusals s.hierarchy who uid id modes)) uid
      (λ acl. with_entry acl id modes))
  request_good (ask.DelAcl path id) fits = entered path true (λ who uid. del_acl_at s.hierarchy who uid id)
      (λ who uid. acl_good s.hierarchy good.hierarchy (first_of (del_acl_refusals s.hierarchy who uid id)) uid
      (λ acl. without_entry acl id))
  request_good (ask.SetIacl path kind id modes) fits = entered path true (λ who uid. set_iacl_at s.hierarchy who uid kind id modes)
      (λ who uid. directory_good s.hierarchy good.hierarchy (first_of (set_iacl_refusals s.hierarchy who uid kind id modes)) uid
      (initial_changed kind (λ initial. with_entry initial id modes)))
  request_good (ask.DelIacl path kind id) fits = entered path true (λ who uid. del_iacl_at s.hierarchy who uid kind id)
      (λ who uid. directory_good s.hierarchy good.hierarchy (first_of (del_iacl_refusals s.hierarchy who uid kind id)) uid
      (initial_changed kind (λ initial. without_entry initial id)))
  request_good (ask.SetBrackets path brackets) fits = entered path true (λ who uid. set_brackets_at s.hierarchy who uid brackets)
      (λ who uid. brackets_good s.hierarchy good.hierarchy who uid brackets (both (is_pathname path) (are_brackets brackets) fits).1)
  request_good (ask.SetDirBrackets path d1 d2) fits = entered path true (λ who uid. set_dir_brackets_at s.hierarchy who uid d1 d2)
      (λ who uid. directory_good s.hierarchy good.hierarchy (first_of (set_dir_brackets_refusals s.hierarchy who uid d1 d2)) uid
      (dir_bracketed d1 d2))
  request_good (ask.SetClass path class) fits = entered path true (λ who uid. set_class_at s.hierarchy who uid class)
      (λ who uid. class_good s.hierarchy good.hierarchy _ uid class)
  request_good (ask.Status path) fits =
      on_path (asker s.processes p) (λ who. told s (λ status. reply.Status (shown s.version status)) (status s.hierarchy who path))
      (λ who. told_good (λ status. reply.Status (shown s.version status)) (status s.hierarchy who path))
  request_good (ask.List path) fits =
      on_path (asker s.processes p) (λ who. told s reply.Names (list s.hierarchy who path))
      (λ who. told_good reply.Names (list s.hierarchy who path))
  request_good (ask.ChangeWdir path) fits =
      own (λ process. change_wdir s p process (wdir.directory s.hierarchy (caller process ring) path))
      (λ process there. change_wdir_good process there (wdir.directory s.hierarchy (caller process ring) path))
  request_good (ask.SetRules rules) fits = own (λ process. set_rules s p process rules)
      (λ process there. replaced process there s.hierarchy (record process { rules = rules }) good.hierarchy (own_lots process there))
  request_good (ask.Initiate path name) fits =
      own (λ process. initiate s p ring process name (initiating.segment s.hierarchy (caller process ring) path))
      (λ process there. initiate_good process there name (initiating.segment s.hierarchy (caller process ring) path))
  request_good (ask.Terminate segno) fits =
      own (λ process. terminate s p process (section_page process.known segno) (kst.terminate process.known segno))
      (λ process there. terminate_good process there segno)
  request_good (ask.Wakeup to word) fits = own (λ process. wakeup s p to word) (λ process there. sent_good _)
  request_good ask.Block fits = own (λ process. block s p)
      (λ process there. record { hierarchy = good.hierarchy; processes = good.processes; count = good.count })
  request_good (ask.Link segno word) fits = own (λ process. link s p ring process segno word)
      (λ process there. link_good process there (link_at s.hierarchy process.known segno word))
  request_good ask.Resume fits = own (λ process. block s p)
      (λ process there. record { hierarchy = good.hierarchy; processes = good.processes; count = good.count })
  request_good ask.Logout fits = own (λ process. logout s p)
      (λ process there. record { hierarchy = good.hierarchy; processes = good.processes; count = good.count })

-- the descriptors of a good state
descriptor_good : (s : Plain) (p segno : ℕ) → GoodState s → IsAdmissible (descriptor s p segno)
descriptor_good s p segno good = by_zero (eqb p 0)
  where
    by_lot : (process : ProcessState) (lot : Lot) → p - 1 < 15 → GoodLot lot → IsAdmissible (standing_desc s.hierarchy p process lot)
    by_lot process Free few one = unknown_admissible
    by_lot process (Stack ring) few one =
        section_admissible (record { r1 = ring; r2 = ring; r3 = ring }) (8 * (p - 1) + ring) 64 (omega arith) (omega arith) one
        (record { some = omega arith; most = omega arith; last_page = omega (arith, few, one) })
    by_lot process (Branch uid) few one = branch_admissible s.hierarchy uid process.principal process.authorization good.hierarchy
    by_lot process (Linkage of page brackets words) few one =
        section_admissible brackets page words one.1.first one.1.second one.1.ring one.0

    stands_good : (process : ProcessState) → GoodLots process.known.lots → (b : Bool)
        → GoodLot (cond b Free (lot_of process.known.lots segno))
    stands_good process lots true = tt
    stands_good process lots false = lot_good process.known.lots segno lots

    by_place : (o : Option ProcessState) → slice_get s.processes (p - 1) ≡ o → IsAdmissible (process_desc s.hierarchy p o segno)
    by_place None e = unknown_admissible
    by_place (Some process) e =
        by_lot process (stands_for process.known segno)
        (omega (arith, slice_get_within s.processes (p - 1) process e, good.count))
        (stands_good process (process_good s.processes (p - 1) process good.processes e) (nat_lt process.known.last segno))

    by_zero : (b : Bool) → IsAdmissible (process_desc s.hierarchy p (cond b None (slice_get s.processes (p - 1))) segno)
    by_zero true = unknown_admissible
    by_zero false = by_place (slice_get s.processes (p - 1)) refl

-- at the start the stacks are known
stacks_good : (first n : ℕ) → first + n ≤ 8 → GoodLots (map Stack (range_with_len first n))
stacks_good first zero within = tt
stacks_good first (suc n) within = (omega (arith, within), stacks_good (first + 1) n (omega (arith, within)))

fresh_good : (version : ℕ) (entrants : List Entrant) → GoodProcesses (map (fresh version) entrants)
fresh_good version [] = tt
fresh_good version (entrant ∷ entrants) = (stacks_good 0 8 (omega arith), fresh_good version entrants)

replay_good : (s : Plain) (n : ℕ) (journal : List journaled.Entry) → GoodState s → list_all fits_entry journal ≡ true
    → GoodState (replay s (take n journal))
replay_good s zero journal good fits = good
replay_good s (suc n) [] good fits = good
replay_good s (suc n) (entry ∷ journal) good fits =
    let parts = both (fits_entry entry) (list_all fits_entry journal) fits in
    let one = (both (is_process entry.process) _ parts.0).1 in
    let two = (both (is_ring entry.ring) _ one).1 in
    let asked = (both (fits_request entry.request) (bounds_reply entry.reply) two).0 in
    replay_good (plain s entry.process entry.ring entry.request).state n journal
    (request_good s good entry.process entry.ring entry.request asked) parts.1

pub admissible : AdmissibleLaw
admissible session journal is fits = record {
  each = λ point p segno. descriptor_good _ p segno (replay_good (opening_of session) point journal start fits);
}
  where
    start : GoodState (opening_of session)
    start = record {
      hierarchy = opening_good (8 * length session.principals);
      processes = fresh_good session.version session.principals;
      count = omega (arith, length-map session.principals (fresh session.version), is.most);
    }
