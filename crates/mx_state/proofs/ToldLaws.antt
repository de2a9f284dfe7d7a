-- What replies tell of linkage sections and links.
use Rattle.std.proofs.Common.{◌≡◌, ◌≢◌, ◌⊎◌, ◌≤◌, ◌<◌, ◌-◌, ℕ, Bool, true, false, cond, ltb, List, length, Option, Some, None, Result, Ok, Err, inl, inr, refl, sym, ap, ◌∙◌, subst, slice_get, arith}
use Rattle.std.proofs.lemmas.Bool.{cases_eq, cases_lt, ltb-true, ne_eqb}
use Rattle.mx_hier.specs.Branches.{Hierarchy}
use Rattle.mx_hier.specs.Callers.{Caller}
use Rattle.mx_hier.specs.ChangeWorkingDirectory.{directory}
use Rattle.mx_hier.specs.CreateDirectory.{create_dir}
use Rattle.mx_hier.specs.CreateLink.{create_link}
use Rattle.mx_hier.specs.CreateObject.{create_object}
use Rattle.mx_hier.specs.CreateSegment.{create_seg}
use Rattle.mx_hier.specs.Delete.{delete}
use Rattle.mx_hier.specs.DeleteAclEntry.{del_acl}
use Rattle.mx_hier.specs.Initiate.{segment}
use Rattle.mx_hier.specs.List.{list}
use Rattle.mx_hier.specs.Rename.{rename}
use Rattle.mx_hier.specs.InitialLists.{set_iacl, del_iacl}
use Rattle.mx_hier.specs.SetAcl.{set_acl}
use Rattle.mx_hier.specs.SetBrackets.{set_brackets}
use Rattle.mx_hier.specs.SetClass.{set_class}
use Rattle.mx_hier.specs.SetDirectoryBrackets.{set_dir_brackets}
use Rattle.mx_hier.specs.Status.{status}
use Rattle.mx_hier.specs.declared.refusals.Refusal.{Refusal}
use Rattle.mx_hier.specs.declared.refusals.Refusal.TheVariants as refusal
use Rattle.mx_kst.specs.KnownSegments.{KnownSegments}
use Rattle.mx_kst.specs.Terminating as kst
use Rattle.mx_kst.specs.declared.lots.Lot.{Lot}
use Rattle.mx_kst.specs.declared.lots.Lot.TheVariants.{Free, Stack, Branch, Linkage}
use Rattle.mx_link.specs.Targets.{target}
use Rattle.mx_link.specs.declared.resolving.LinkError.{LinkError}
use Rattle.mx_link.specs.declared.resolving.LinkError.TheVariants as error
use Rattle.mx_link.specs.declared.resolving.Target.{Target}
use Rattle.mx_mail.specs.Processes.{PlainProcess}
use Rattle.mx_mail.specs.declared.mail.Taken.{Taken}
use Rattle.mx_mail.specs.declared.mail.Taken.TheVariants as taken
use Rattle.mx_request.specs.Classes.{class_of}
use Rattle.mx_request.specs.Sections.{section_in}
use Rattle.mx_request.specs.declared.classes.RequestClass.TheVariants.{OfPath}
use Rattle.mx_request.specs.declared.replies.Reply.{Reply}
use Rattle.mx_request.specs.declared.replies.Reply.TheVariants as reply
use Rattle.mx_request.specs.declared.requests.Request.{Request}
use Rattle.mx_request.specs.declared.requests.Request.TheVariants as ask
use Rattle.mx_sdw.specs.Descriptors.{segment_desc}
use Rattle.mx_sdw.specs.Rings.{Bracketing}
use Rattle.mx_search.specs.Searching.{answers, first_found}
use Rattle.mx_state.specs.declared.linking.Link.{Link}
use Rattle.mx_state.specs.declared.states.ProcessState.{ProcessState}
use Rattle.mx_state.specs.Askers.{Asker, Initializer, Process, Nobody, answered_caller, asker, caller, initial_caller, on_path, on_process, unmade}
use Rattle.mx_state.specs.Connecting.{Connected, connect}
use Rattle.mx_state.specs.Knowing.{free_name, given, initiate, knowing_more, link, link_by, link_to, link_towards, linked, terminate}
use Rattle.mx_state.specs.Linking as linking
use Rattle.mx_state.specs.Linking.{branch_found, found_uid, known_uid, link_at, link_in, link_target, rule_finds, standing}
use Rattle.mx_state.specs.Messages.{block, logout, sent, taken_reply, wakeup}
use Rattle.mx_state.specs.Numbers.{stands_for}
use Rattle.mx_state.specs.OwnState.{change_wdir, set_rules}
use Rattle.mx_state.specs.Plain.{Plain, Answer, process_at, with_process}
use Rattle.mx_state.specs.Requests.{changed, plain, told}
use Rattle.mx_state.specs.Shown.{shown}
use Rattle.mx_state.specs.Table.{process_desc, standing_desc}
use Rattle.mx_state.specs.Sections.{section_page}
use Rattle.mx_state.specs.Told.{HasLinkWord, HasSection, IsLinked, IsLinkedWithin, IsRefused, IsSection, LinkRepliesLaw, NewSectionLaw, OnlyLinkLaw, OthersLaw, PathTellsLaw, ResolvedLaw, SectionDescLaw, SectionsStayLaw, lot_by, lot_in}
use Rattle.mx_state.proofs.ConnectingLaws.{SectionAt, given_below, section_is_there, stands_still}
use Rattle.mx_state.proofs.LeavingLaws.{path_request_leaves}
use Rattle.mx_state.proofs.LinkingLaws.{remembers, target_stands}
use Rattle.mx_state.proofs.Lists.{some_in}
use Rattle.mx_state.proofs.NumberLaws.{nothing_beyond, stands_within}
use Rattle.mx_state.proofs.ProcessLaws.{elsewhere, there_again, to_process}

-- a reply that is neither that a segment is known nor that a link leads to a word
abbrev is_plain : Reply → Bool
is_plain reply.Done = true
is_plain (reply.Refused why) = true
is_plain (reply.Status status) = true
is_plain (reply.Names names) = true
is_plain (reply.Segno known) = false
is_plain (reply.Linked segno word fresh linkage) = false
is_plain reply.Sent = true
is_plain (reply.Message sender word) = true
is_plain reply.Nobody = true
is_plain reply.Waiting = true

-- it tells of no linkage section
tells_nothing : (given : Reply) → is_plain given ≡ true → section_in given ≡ None
tells_nothing reply.Done e = refl
tells_nothing (reply.Refused why) e = refl
tells_nothing (reply.Status status) e = refl
tells_nothing (reply.Names names) e = refl
tells_nothing (reply.Segno known) e = cc
tells_nothing (reply.Linked segno word fresh linkage) e = cc
tells_nothing reply.Sent e = refl
tells_nothing (reply.Message sender word) e = refl
tells_nothing reply.Nobody e = refl
tells_nothing reply.Waiting e = refl

-- what a request of process p leaves to the other processes, and what its reply tells
record IsTold (s : Plain) (p : ℕ) (given : Answer) : Type 0 where
  others : (q : ℕ) → q ≢ p → process_at given.state.processes q ≡ process_at s.processes q
  section : (n : ℕ) → section_in given.reply ≡ Some n → HasSection given.state p n

plainly_told : (s : Plain) (p : ℕ) (given : Answer) → is_plain given.reply ≡ true
    → ((q : ℕ) → q ≢ p → process_at given.state.processes q ≡ process_at s.processes q) → IsTold s p given
plainly_told s p given quiet others = record {
  others = others;
  section = λ n e. let none = sym (tells_nothing given.reply quiet) ∙ e in absurd (cc);
}

-- the processes are left
left_told : (s : Plain) (p : ℕ) (given : Answer) → is_plain given.reply ≡ true → given.state.processes ≡ s.processes → IsTold s p given
left_told s p given quiet same = plainly_told s p given quiet (λ q apart. ap (λ xs. process_at xs q) same)

-- requests on a path
plain_changed : (s : Plain) (meant : Result Hierarchy Refusal) → is_plain (changed s meant).reply ≡ true
plain_changed s (Ok h) = refl
plain_changed s (Err why) = refl

plain_answer : (s : Plain) (a : Asker) (ring : ℕ) (given : Caller → Answer) → ((who : Caller) → is_plain (given who).reply ≡ true)
    → is_plain (answered_caller s a ring given).reply ≡ true
plain_answer s Initializer ring given quiet = quiet (initial_caller ring)
plain_answer s (Process process) ring given quiet = quiet (caller process ring)
plain_answer s Nobody ring given quiet = refl

change_answer : (s : Plain) (p ring : ℕ) (meant : Caller → Result Hierarchy Refusal)
    → is_plain (on_path s p ring (λ who. changed s (meant who))).reply ≡ true
change_answer s p ring meant =
    plain_answer s (asker s.processes p) ring (λ who. changed s (meant who)) (λ who. plain_changed s (meant who))

told_answer : {A : Type 0} (s : Plain) (p ring : ℕ) (as_reply : A → Reply) (meant : Caller → Result A Refusal)
    → ((value : A) → is_plain (as_reply value) ≡ true)
    → is_plain (on_path s p ring (λ who. told s as_reply (meant who))).reply ≡ true
told_answer {A = A} s p ring as_reply meant quiet =
    plain_answer s (asker s.processes p) ring (λ who. told s as_reply (meant who)) (λ who. by_meant (meant who))
  where
    by_meant : (r : Result A Refusal) → is_plain (told s as_reply r).reply ≡ true
    by_meant (Ok value) = quiet value
    by_meant (Err why) = refl

plain_on_path : (s : Plain) (p ring : ℕ) (request : Request) → class_of request ≡ OfPath → is_plain (plain s p ring request).reply ≡ true
plain_on_path s p ring (ask.CreateDir path d1 d2) e = change_answer s p ring (λ who. create_dir s.hierarchy who path d1 d2)
plain_on_path s p ring (ask.CreateSeg path words brackets) e = change_answer s p ring (λ who. create_seg s.hierarchy who path words brackets)
plain_on_path s p ring (ask.CreateObject path words brackets object) e =
    change_answer s p ring (λ who. create_object s.hierarchy who path words brackets object)
plain_on_path s p ring (ask.CreateLink path to) e = change_answer s p ring (λ who. create_link s.hierarchy who path to)
plain_on_path s p ring (ask.Rename path name) e = change_answer s p ring (λ who. rename s.hierarchy who path name)
plain_on_path s p ring (ask.Delete path) e = change_answer s p ring (λ who. delete s.hierarchy who path)
plain_on_path s p ring (ask.SetAcl path id modes) e = change_answer s p ring (λ who. set_acl s.hierarchy who path id modes)
plain_on_path s p ring (ask.DelAcl path id) e = change_answer s p ring (λ who. del_acl s.hierarchy who path id)
plain_on_path s p ring (ask.SetIacl path kind id modes) e = change_answer s p ring (λ who. set_iacl s.hierarchy who path kind id modes)
plain_on_path s p ring (ask.DelIacl path kind id) e = change_answer s p ring (λ who. del_iacl s.hierarchy who path kind id)
plain_on_path s p ring (ask.SetBrackets path brackets) e = change_answer s p ring (λ who. set_brackets s.hierarchy who path brackets)
plain_on_path s p ring (ask.SetDirBrackets path d1 d2) e = change_answer s p ring (λ who. set_dir_brackets s.hierarchy who path d1 d2)
plain_on_path s p ring (ask.SetClass path class) e = change_answer s p ring (λ who. set_class s.hierarchy who path class)
plain_on_path s p ring (ask.Status path) e = told_answer s p ring (λ told. reply.Status (shown s.version told)) (λ who. status s.hierarchy who path) (λ value. refl)
plain_on_path s p ring (ask.List path) e = told_answer s p ring reply.Names (λ who. list s.hierarchy who path) (λ value. refl)
plain_on_path s p ring (ask.ChangeWdir path) e = cc
plain_on_path s p ring (ask.SetRules rules) e = cc
plain_on_path s p ring (ask.Initiate path name) e = cc
plain_on_path s p ring (ask.Terminate segno) e = cc
plain_on_path s p ring (ask.Wakeup to word) e = cc
plain_on_path s p ring ask.Block e = cc
plain_on_path s p ring (ask.Link segno word) e = cc
plain_on_path s p ring ask.Resume e = cc
plain_on_path s p ring ask.Logout e = cc

pub path_tells_law : PathTellsLaw
path_tells_law s p ring request of = tells_nothing (plain s p ring request).reply (plain_on_path s p ring request of)

path_told : (s : Plain) (p ring : ℕ) (request : Request) → class_of request ≡ OfPath → IsTold s p (plain s p ring request)
path_told s p ring request of =
    left_told s p (plain s p ring request) (plain_on_path s p ring request of) (path_request_leaves s p ring request of).0

-- requests on what a process has of its own
pub by_process : (P : Answer → Type 0) (s : Plain) (p : ℕ) (given : ProcessState → Answer) → P (unmade s)
    → ((process : ProcessState) → 1 ≤ p → slice_get s.processes (p - 1) ≡ Some process → P (given process)) → P (on_process s p given)
by_process P s p given none some = by_zero (cases_eq p 0)
  where
    by_place : (o : Option ProcessState) → 1 ≤ p → slice_get s.processes (p - 1) ≡ o → P (on_process s p given)
    by_place None low e = subst P (sym (nobody low e)) none
      where
        nobody : 1 ≤ p → slice_get s.processes (p - 1) ≡ None → on_process s p given ≡ unmade s
        nobody low e = rw (ne_eqb p 0 (λ z. omega (arith, z, low)), e) refl
    by_place (Some process) low e = subst P (sym (to_process s p (p - 1) process given low refl e)) (some process low e)

    by_zero : (p ≡ 0) ⊎ (p ≡ 0 → ⊥) → P (on_process s p given)
    by_zero (inl zero) = subst P (sym (setup zero)) none
      where
        setup : p ≡ 0 → on_process s p given ≡ unmade s
        setup zero = rw zero refl
    by_zero (inr more) = by_place (slice_get s.processes (p - 1)) (omega arith) refl

unmade_told : (s : Plain) (p : ℕ) → IsTold s p (unmade s)
unmade_told s p = left_told s p (unmade s) refl refl

-- one process is another now
replaced : (s : Plain) (p q : ℕ) (other : ProcessState) → 1 ≤ p → q ≢ p
    → process_at (with_process s p other).processes q ≡ process_at s.processes q
replaced s p q other low apart = elsewhere s.processes q (p - 1) other (λ both. apart (omega (arith, both.0, both.1, low)))

plain_taken : (given : Taken) → is_plain (taken_reply given) ≡ true
plain_taken (taken.Message sender word) = refl
plain_taken taken.Nobody = refl
plain_taken taken.Waiting = refl

plain_sent : (s : Plain) (p : ℕ) (meant : Result (List PlainProcess) Refusal) → IsTold s p (sent s meant)
plain_sent s p (Ok after) = left_told s p (sent s (Ok after)) refl refl
plain_sent s p (Err why) = left_told s p (sent s (Err why)) refl refl

module _ (s : Plain) (p ring : ℕ) (process : ProcessState) (low : 1 ≤ p) (at : slice_get s.processes (p - 1) ≡ Some process) where
  change_wdir_told : (meant : Result (List (List ℕ)) Refusal) → IsTold s p (change_wdir s p process meant)
  change_wdir_told (Ok path) = plainly_told s p (change_wdir s p process (Ok path)) refl (λ q apart. replaced s p q _ low apart)
  change_wdir_told (Err why) = left_told s p (change_wdir s p process (Err why)) refl refl

  terminate_told : (page : Option ℕ) (meant : Option KnownSegments) → IsTold s p (terminate s p process page meant)
  terminate_told page (Some known) = plainly_told s p (terminate s p process page (Some known)) refl (λ q apart. replaced s p q _ low apart)
  terminate_told page None = left_told s p (terminate s p process page None) refl refl

  -- what a number of the process stands for afterwards
  now_stands : (c : Connected) (n : ℕ) → lot_in (knowing_more s p process c) p n ≡ stands_for c.after n
  now_stands c n =
      ap (λ o. lot_by o n) (there_again s.processes p (p - 1) process (record process { known = c.after }) low refl at)

  told_section : (c : Connected) (n : ℕ) → SectionAt c.after n → HasSection (knowing_more s p process c) p n
  told_section c n there =
      record { words = there.words; section = subst (λ lot. IsSection lot there.words) (sym (now_stands c n)) there.section }

  given_told : (uid : ℕ) (name : Option (List ℕ)) (meant : Result Connected Refusal) → connect s.hierarchy process.known ring name uid ≡ meant
      → IsTold s p (given s p process meant)
  given_told uid name (Ok c) e = record {
    others = λ q apart. replaced s p q _ low apart;
    section = λ n f. told_section c n (section_is_there s.hierarchy process.known uid ring n name c e f);
  }
  given_told uid name (Err why) e = left_told s p (given s p process (Err why)) refl refl

  initiate_told : (name : Option (List ℕ)) (found : Result ℕ Refusal) → IsTold s p (initiate s p ring process name found)
  initiate_told name (Ok uid) = given_told uid name (connect s.hierarchy process.known ring name uid) refl
  initiate_told name (Err why) = left_told s p (initiate s p ring process name (Err why)) refl refl

  linked_told : (uid word : ℕ) (name : Option (List ℕ)) (meant : Result Connected Refusal) → connect s.hierarchy process.known ring name uid ≡ meant
      → IsTold s p (linked s p process word meant)
  linked_told uid word name (Ok c) e = record {
    others = λ q apart. replaced s p q _ low apart;
    section = λ n f. told_section c n (section_is_there s.hierarchy process.known uid ring n name c e f);
  }
  linked_told uid word name (Err why) e = left_told s p (linked s p process word (Err why)) refl refl

  link_told : (o : Option Link) → IsTold s p (link_by s p ring process o)
  link_told None = left_told s p (link_by s p ring process None) refl refl
  link_told (Some it) = by_target (link_target s.hierarchy process ring it)
    where
      by_uid : (word : ℕ) (o : Option ℕ) → IsTold s p (link_to s p ring process it word o)
      by_uid word (Some uid) =
          linked_told uid word (free_name process.known ring it.segment)
          (connect s.hierarchy process.known ring (free_name process.known ring it.segment) uid) refl
      by_uid word None = unmade_told s p

      by_target : (r : Result Target LinkError) → IsTold s p (link_towards s p ring process it r)
      by_target (Ok to) = by_uid to.word (found_uid process.known to.found)
      by_target (Err error.SegmentNotFound) = left_told s p (link_towards s p ring process it (Err error.SegmentNotFound)) refl refl
      by_target (Err error.NotObject) = left_told s p (link_towards s p ring process it (Err error.NotObject)) refl refl
      by_target (Err error.NoDefinition) = left_told s p (link_towards s p ring process it (Err error.NoDefinition)) refl refl
      by_target (Err error.Memory) = unmade_told s p

is_told : (s : Plain) (p ring : ℕ) (request : Request) → IsTold s p (plain s p ring request)
is_told s p ring (ask.CreateDir path d1 d2) = path_told s p ring (ask.CreateDir path d1 d2) refl
is_told s p ring (ask.CreateSeg path words brackets) = path_told s p ring (ask.CreateSeg path words brackets) refl
is_told s p ring (ask.CreateObject path words brackets object) = path_told s p ring (ask.CreateObject path words brackets object) refl
is_told s p ring (ask.CreateLink path to) = path_told s p ring (ask.CreateLink path to) refl
is_told s p ring (ask.Rename path name) = path_told s p ring (ask.Rename path name) refl
is_told s p ring (ask.Delete path) = path_told s p ring (ask.Delete path) refl
is_told s p ring (ask.SetAcl path id modes) = path_told s p ring (ask.SetAcl path id modes) refl
is_told s p ring (ask.DelAcl path id) = path_told s p ring (ask.DelAcl path id) refl
is_told s p ring (ask.SetIacl path kind id modes) = path_told s p ring (ask.SetIacl path kind id modes) refl
is_told s p ring (ask.DelIacl path kind id) = path_told s p ring (ask.DelIacl path kind id) refl
is_told s p ring (ask.SetBrackets path brackets) = path_told s p ring (ask.SetBrackets path brackets) refl
is_told s p ring (ask.SetDirBrackets path d1 d2) = path_told s p ring (ask.SetDirBrackets path d1 d2) refl
is_told s p ring (ask.SetClass path class) = path_told s p ring (ask.SetClass path class) refl
is_told s p ring (ask.Status path) = path_told s p ring (ask.Status path) refl
is_told s p ring (ask.List path) = path_told s p ring (ask.List path) refl
is_told s p ring (ask.ChangeWdir path) =
    by_process (IsTold s p) s p (λ process. change_wdir s p process (directory s.hierarchy (caller process ring) path)) (unmade_told s p)
    (λ process low at. change_wdir_told s p ring process low at (directory s.hierarchy (caller process ring) path))
is_told s p ring (ask.SetRules rules) =
    by_process (IsTold s p) s p (λ process. set_rules s p process rules) (unmade_told s p)
    (λ process low at. plainly_told s p (set_rules s p process rules) refl (λ q apart. replaced s p q _ low apart))
is_told s p ring (ask.Initiate path name) =
    by_process (IsTold s p) s p (λ process. initiate s p ring process name (segment s.hierarchy (caller process ring) path)) (unmade_told s p)
    (λ process low at. initiate_told s p ring process low at name (segment s.hierarchy (caller process ring) path))
is_told s p ring (ask.Terminate segno) =
    by_process (IsTold s p) s p (λ process. terminate s p process (section_page process.known segno) (kst.terminate process.known segno)) (unmade_told s p)
    (λ process low at. terminate_told s p ring process low at (section_page process.known segno) (kst.terminate process.known segno))
is_told s p ring (ask.Wakeup to word) =
    by_process (IsTold s p) s p (λ process. wakeup s p to word) (unmade_told s p) (λ process low at. plain_sent s p _)
is_told s p ring ask.Block =
    by_process (IsTold s p) s p (λ process. block s p) (unmade_told s p)
    (λ process low at. left_told s p (block s p) (plain_taken _) refl)
is_told s p ring (ask.Link segno word) =
    by_process (IsTold s p) s p (λ process. link s p ring process segno word) (unmade_told s p)
    (λ process low at. link_told s p ring process low at (link_at s.hierarchy process.known segno word))
is_told s p ring ask.Resume =
    by_process (IsTold s p) s p (λ process. block s p) (unmade_told s p)
    (λ process low at. left_told s p (block s p) (plain_taken _) refl)
is_told s p ring ask.Logout =
    by_process (IsTold s p) s p (λ process. logout s p) (unmade_told s p)
    (λ process low at. left_told s p (logout s p) refl refl)

pub new_section_law : NewSectionLaw
new_section_law s p ring n request e = (is_told s p ring request).section n e

pub others_law : OthersLaw
others_law s p q ring request apart = (is_told s q ring request).others p (λ same. apart (sym same))

-- the descriptor of a linkage section, which is computed from its process alone
section_desc : (h : Hierarchy) (p segno words : ℕ) (o : Option ProcessState) (is : IsSection (lot_by o segno) words)
    → (brackets : Bracketing) × (page : ℕ) × (process_desc h p o segno ≡ segment_desc brackets true false true 0 page words)
section_desc h p segno words None is = let none = is.is in absurd (cc)
section_desc h p segno words (Some process) is = (is.brackets, is.page, ap (standing_desc h p process) is.is)

pub section_desc_law : SectionDescLaw
section_desc_law s p segno words is = section_desc s.hierarchy p segno words (process_at s.processes p) is

section_stays : (h k : Hierarchy) (p segno words : ℕ) (o : Option ProcessState) → IsSection (lot_by o segno) words
    → process_desc k p o segno ≡ process_desc h p o segno
section_stays h k p segno words None is = refl
section_stays h k p segno words (Some process) is =
    ap (standing_desc k p process) is.is ∙ sym (ap (standing_desc h p process) is.is)

pub sections_stay_law : SectionsStayLaw
sections_stay_law s p q ring segno request apart has =
    let after = (plain s q ring request).state in
    ap (λ o. process_desc after.hierarchy p o segno) (others_law s p q ring request apart)
    ∙ section_stays s.hierarchy after.hierarchy p segno has.words (process_at s.processes p) has.section

-- a reply that a link leads to a word
abbrev is_linked : Reply → Bool
is_linked (reply.Linked segno word fresh linkage) = true
is_linked reply.Done = false
is_linked (reply.Refused why) = false
is_linked (reply.Status status) = false
is_linked (reply.Names names) = false
is_linked (reply.Segno known) = false
is_linked reply.Sent = false
is_linked (reply.Message sender word) = false
is_linked reply.Nobody = false
is_linked reply.Waiting = false

-- is given to no other request
unlinked : (given : Reply) → is_plain given ≡ true → is_linked given ≡ false
unlinked reply.Done e = refl
unlinked (reply.Refused why) e = refl
unlinked (reply.Status status) e = refl
unlinked (reply.Names names) e = refl
unlinked (reply.Segno known) e = refl
unlinked (reply.Linked segno word fresh linkage) e = cc
unlinked reply.Sent e = refl
unlinked (reply.Message sender word) e = refl
unlinked reply.Nobody e = refl
unlinked reply.Waiting e = refl

abbrev IsUnlinked : Answer → Type 0
IsUnlinked given = is_linked given.reply ≡ false

unlinked_path : (s : Plain) (p ring : ℕ) (request : Request) → class_of request ≡ OfPath → IsUnlinked (plain s p ring request)
unlinked_path s p ring request of = unlinked (plain s p ring request).reply (plain_on_path s p ring request of)

unlinked_wdir : (s : Plain) (p : ℕ) (process : ProcessState) (meant : Result (List (List ℕ)) Refusal) → IsUnlinked (change_wdir s p process meant)
unlinked_wdir s p process (Ok path) = refl
unlinked_wdir s p process (Err why) = refl

unlinked_given : (s : Plain) (p : ℕ) (process : ProcessState) (meant : Result Connected Refusal) → IsUnlinked (given s p process meant)
unlinked_given s p process (Ok c) = refl
unlinked_given s p process (Err why) = refl

unlinked_end : (s : Plain) (p : ℕ) (process : ProcessState) (page : Option ℕ) (meant : Option KnownSegments) → IsUnlinked (terminate s p process page meant)
unlinked_end s p process page (Some known) = refl
unlinked_end s p process page None = refl

unlinked_sent : (s : Plain) (meant : Result (List PlainProcess) Refusal) → IsUnlinked (sent s meant)
unlinked_sent s (Ok after) = refl
unlinked_sent s (Err why) = refl

unlinked_block : (s : Plain) (p : ℕ) → IsUnlinked (block s p)
unlinked_block s p = unlinked (block s p).reply (plain_taken _)

-- the request is `link`
record IsLink (request : Request) : Type 0 where
  segno : ℕ
  word : ℕ
  is : request ≡ ask.Link segno word

link_or_unlinked : (s : Plain) (p ring : ℕ) (request : Request) → IsUnlinked (plain s p ring request) ⊎ IsLink request
link_or_unlinked s p ring (ask.CreateDir path d1 d2) = inl (unlinked_path s p ring (ask.CreateDir path d1 d2) refl)
link_or_unlinked s p ring (ask.CreateSeg path words brackets) = inl (unlinked_path s p ring (ask.CreateSeg path words brackets) refl)
link_or_unlinked s p ring (ask.CreateObject path words brackets object) =
    inl (unlinked_path s p ring (ask.CreateObject path words brackets object) refl)
link_or_unlinked s p ring (ask.CreateLink path to) = inl (unlinked_path s p ring (ask.CreateLink path to) refl)
link_or_unlinked s p ring (ask.Rename path name) = inl (unlinked_path s p ring (ask.Rename path name) refl)
link_or_unlinked s p ring (ask.Delete path) = inl (unlinked_path s p ring (ask.Delete path) refl)
link_or_unlinked s p ring (ask.SetAcl path id modes) = inl (unlinked_path s p ring (ask.SetAcl path id modes) refl)
link_or_unlinked s p ring (ask.DelAcl path id) = inl (unlinked_path s p ring (ask.DelAcl path id) refl)
link_or_unlinked s p ring (ask.SetIacl path kind id modes) = inl (unlinked_path s p ring (ask.SetIacl path kind id modes) refl)
link_or_unlinked s p ring (ask.DelIacl path kind id) = inl (unlinked_path s p ring (ask.DelIacl path kind id) refl)
link_or_unlinked s p ring (ask.SetBrackets path brackets) = inl (unlinked_path s p ring (ask.SetBrackets path brackets) refl)
link_or_unlinked s p ring (ask.SetDirBrackets path d1 d2) = inl (unlinked_path s p ring (ask.SetDirBrackets path d1 d2) refl)
link_or_unlinked s p ring (ask.SetClass path class) = inl (unlinked_path s p ring (ask.SetClass path class) refl)
link_or_unlinked s p ring (ask.Status path) = inl (unlinked_path s p ring (ask.Status path) refl)
link_or_unlinked s p ring (ask.List path) = inl (unlinked_path s p ring (ask.List path) refl)
link_or_unlinked s p ring (ask.ChangeWdir path) =
    inl (by_process IsUnlinked s p (λ process. change_wdir s p process (directory s.hierarchy (caller process ring) path)) refl
    (λ process low at. unlinked_wdir s p process _))
link_or_unlinked s p ring (ask.SetRules rules) =
    inl (by_process IsUnlinked s p (λ process. set_rules s p process rules) refl (λ process low at. refl))
link_or_unlinked s p ring (ask.Initiate path name) =
    inl (by_process IsUnlinked s p (λ process. initiate s p ring process name (segment s.hierarchy (caller process ring) path)) refl
    (λ process low at. unlinked_given s p process _))
link_or_unlinked s p ring (ask.Terminate segno) =
    inl (by_process IsUnlinked s p (λ process. terminate s p process (section_page process.known segno) (kst.terminate process.known segno)) refl
    (λ process low at. unlinked_end s p process _ _))
link_or_unlinked s p ring (ask.Wakeup to word) =
    inl (by_process IsUnlinked s p (λ process. wakeup s p to word) refl (λ process low at. unlinked_sent s _))
link_or_unlinked s p ring ask.Block =
    inl (by_process IsUnlinked s p (λ process. block s p) refl (λ process low at. unlinked_block s p))
link_or_unlinked s p ring (ask.Link segno word) = inr (record { segno = segno; word = word; is = refl })
link_or_unlinked s p ring ask.Resume =
    inl (by_process IsUnlinked s p (λ process. block s p) refl (λ process low at. unlinked_block s p))
link_or_unlinked s p ring ask.Logout =
    inl (by_process IsUnlinked s p (λ process. logout s p) refl (λ process low at. refl))

pub only_link_law : OnlyLinkLaw
only_link_law s p ring request to at fresh linkage e =
    elim (link_or_unlinked s p ring request) [
      | inl none ↦ let clash : true ≡ false = sym (ap is_linked e) ∙ none in absurd (cc)
      | inr link ↦ (link.segno, link.word, link.is)
    ]

-- any other reply names no place
unlinked_within : (given : Reply) → is_linked given ≡ false → IsLinkedWithin given
unlinked_within reply.Done e = tt
unlinked_within (reply.Refused why) e = tt
unlinked_within (reply.Status value) e = tt
unlinked_within (reply.Names names) e = tt
unlinked_within (reply.Segno known) e = tt
unlinked_within (reply.Linked segno word fresh linkage) e = absurd (cc)
unlinked_within reply.Sent e = tt
unlinked_within (reply.Message sender word) e = tt
unlinked_within reply.Nobody e = tt
unlinked_within reply.Waiting e = tt

pub linked_within : (s : Plain) (p ring : ℕ) (request : Request) (given : Answer) → plain s p ring request ≡ given
    → ((segno word : ℕ) → request ≡ ask.Link segno word → IsLinkedWithin given.reply) → IsLinkedWithin given.reply
linked_within s p ring request given e within =
    elim (link_or_unlinked s p ring request) [
      | inl none ↦ unlinked_within given.reply (sym (ap (λ (a : Answer). is_linked a.reply) e) ∙ none)
      | inr link ↦ within link.segno link.word link.is
    ]

-- a link is that of a word of a linkage section
link_is : (h : Hierarchy) (known : KnownSegments) (word : ℕ) (lot : Lot) (it : Link) → link_in h known word lot ≡ Some it
    → (words : ℕ) × IsSection lot words × (word < words)
link_is h known word Free it e = cc
link_is h known word (Stack ring) it e = cc
link_is h known word (Branch uid) it e = cc
link_is h known word (Linkage of page brackets words) it e = by_test (ltb word words) refl e
  where
    by_test : (b : Bool) → ltb word words ≡ b → cond b (linking.link_by h word (known_uid known of)) None ≡ Some it
        → (words' : ℕ) × IsSection (Linkage of page brackets words) words' × (word < words')
    by_test true t e = (words, record { of = of; page = page; brackets = brackets; is = refl }, ltb-true word words t)
    by_test false t e = cc

-- a section that stands for a number within the last is given
section_below : (k : KnownSegments) (segno words : ℕ) → IsSection (stands_for k segno) words → segno < length k.lots
section_below k segno words is = by_number (cases_lt k.last segno)
  where
    by_number : (k.last < segno) ⊎ (segno ≤ k.last) → segno < length k.lots
    by_number (inl beyond) = let none = sym (nothing_beyond k segno beyond) ∙ is.is in absurd (cc)
    by_number (inr within) =
        given_below k.lots segno (Linkage is.of is.page is.brackets words) (sym (stands_within k segno within) ∙ is.is) (λ f. cc)

module _ (s : Plain) (p ring segno word to at : ℕ) (fresh : Bool) (linkage : Option ℕ) where
  abbrev ToWord : Answer → Type 0
  ToWord given = given.reply ≡ reply.Linked to at fresh linkage → HasLinkWord given.state p segno word

  module _ (process : ProcessState) (low : 1 ≤ p) (place : slice_get s.processes (p - 1) ≡ Some process) (words : ℕ)
      (is : IsSection (stands_for process.known segno) words) (within : word < words) where
    still_there : (uid : ℕ) (name : Option (List ℕ)) (c : Connected) → connect s.hierarchy process.known ring name uid ≡ Ok c
        → HasLinkWord (knowing_more s p process c) p segno word
    still_there uid name c e = record {
      words = words;
      section = subst (λ lot. IsSection lot words)
          (sym (now_stands s p ring process low place c segno
          ∙ stands_still s.hierarchy process.known uid ring segno name c e (section_below process.known segno words is))) is;
      within = within;
    }

    linked_word : (uid target : ℕ) (name : Option (List ℕ)) (meant : Result Connected Refusal)
        → connect s.hierarchy process.known ring name uid ≡ meant → ToWord (linked s p process target meant)
    linked_word uid target name (Ok c) e f = still_there uid name c e
    linked_word uid target name (Err why) e f = cc

    towards_word : (it : Link) (r : Result Target LinkError) → ToWord (link_towards s p ring process it r)
    towards_word it (Ok found) f = by_uid (found_uid process.known found.found) f
      where
        by_uid : (o : Option ℕ) → ToWord (link_to s p ring process it found.word o)
        by_uid (Some uid) =
            linked_word uid found.word (free_name process.known ring it.segment)
            (connect s.hierarchy process.known ring (free_name process.known ring it.segment) uid) refl
        by_uid None = λ f. cc
    towards_word it (Err error.SegmentNotFound) f = cc
    towards_word it (Err error.NotObject) f = cc
    towards_word it (Err error.NoDefinition) f = cc
    towards_word it (Err error.Memory) f = cc

  by_word : (process : ProcessState) → 1 ≤ p → slice_get s.processes (p - 1) ≡ Some process → (o : Option Link)
      → link_at s.hierarchy process.known segno word ≡ o → ToWord (link_by s p ring process o)
  by_word process low place None e = λ f. cc
  by_word process low place (Some it) e =
      let is = link_is s.hierarchy process.known word (stands_for process.known segno) it e in
      towards_word process low place is.0 is.1 is.2 it (link_target s.hierarchy process ring it)

pub resolved_law : ResolvedLaw
resolved_law s p ring segno word to at fresh linkage =
    by_process (ToWord s p ring segno word to at fresh linkage) s p (λ process. link s p ring process segno word) (λ f. cc)
    (λ process low place. by_word s p ring segno word to at fresh linkage process low place (link_at s.hierarchy process.known segno word) refl)

-- a link is resolved or refused
abbrev IsAnswered : Answer → Type 0
IsAnswered given = IsRefused given.reply ⊎ IsLinked given.reply

linked_answered : (s : Plain) (p : ℕ) (process : ProcessState) (word : ℕ) (meant : Result Connected Refusal)
    → IsAnswered (linked s p process word meant)
linked_answered s p process word (Ok c) = inr (c.known.segno, word, c.known.fresh, c.known.linkage, refl)
linked_answered s p process word (Err why) = inl (why, refl)

link_answered : (s : Plain) (p ring : ℕ) (process : ProcessState) (o : Option Link) → IsAnswered (link_by s p ring process o)
link_answered s p ring process None = inl (refusal.NotLinkage, refl)
link_answered s p ring process (Some it) = by_target (link_target s.hierarchy process ring it) refl
  where
    by_uid : (word : ℕ) (o : Option ℕ) → (uid : ℕ) × (o ≡ Some uid) → IsAnswered (link_to s p ring process it word o)
    by_uid word (Some uid) some =
        linked_answered s p process word
        (connect s.hierarchy process.known ring (free_name process.known ring it.segment) uid)
    by_uid word None some = let e = some.1 in absurd (cc)

    by_target : (r : Result Target LinkError) → link_target s.hierarchy process ring it ≡ r → IsAnswered (link_towards s p ring process it r)
    by_target (Ok to) e =
        let stands = target_stands s.hierarchy process ring it to e in
        by_uid to.word (found_uid process.known to.found) (stands.uid, stands.found)
    by_target (Err error.SegmentNotFound) e = inl (refusal.SegmentNotFound, refl)
    by_target (Err error.NotObject) e = inl (refusal.NotObject, refl)
    by_target (Err error.NoDefinition) e = inl (refusal.NoDefinition, refl)
    by_target (Err error.Memory) e =
        absurd (remembers (linking.found_object s.hierarchy process.known) it.symbol
        (first_found (answers (rule_finds s.hierarchy process ring it.object) process.rules it.segment)) e)

pub link_replies_law : LinkRepliesLaw
link_replies_law s p ring segno word low within =
    let w = some_in s.processes (p - 1) (omega (arith, low, within)) in
    subst IsAnswered (sym (to_process s p (p - 1) w.0 (λ process. link s p ring process segno word) low refl w.1))
    (link_answered s p ring w.0 (link_at s.hierarchy w.0.known segno word))
