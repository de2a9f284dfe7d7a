-- Each request that is of its grammar, or asks to have a link snapped, leaves a state that can be spelled, and so is its reply.
use Rattle.std.proofs.Common.{◌≡◌, ℕ, ◌-◌, ◌==◌, ◌≤◌, nat_le, Bool, true, false, ◌&&◌, if◌then◌else◌, List, [], ◌∷◌, Option, Some, None, Result, Ok, Err, refl, arith, slice_get, slice_set, length-set}
use Rattle.std.specs.List.{All, list_all}
use Rattle.std.proofs.lemmas.List.Elements.{All-nil, All-cons, All-head, All-tail, All-append, All-set}
use Rattle.mx_acl.specs.declared.modes.Modes.TheVariants.{Re, Rw}
use Rattle.mx_hier.specs.Branches.{Hierarchy, object_at}
use Rattle.mx_hier.specs.Callers.{Caller}
use Rattle.mx_hier.specs.ChangeWorkingDirectory.{directory, directory_refusals}
use Rattle.mx_hier.specs.CreateDirectory.{create_dir}
use Rattle.mx_hier.specs.CreateLink.{create_link}
use Rattle.mx_hier.specs.CreateObject.{create_object}
use Rattle.mx_hier.specs.CreateSegment.{create_seg}
use Rattle.mx_hier.specs.Delete.{delete}
use Rattle.mx_hier.specs.DeleteAclEntry.{del_acl}
use Rattle.mx_hier.specs.InitialLists.{del_iacl, set_iacl}
use Rattle.mx_hier.specs.Initiate.{segment}
use Rattle.mx_hier.specs.List.{list}
use Rattle.mx_hier.specs.Rename.{rename}
use Rattle.mx_hier.specs.Rules.{first_of, unless}
use Rattle.mx_hier.specs.SetAcl.{set_acl}
use Rattle.mx_hier.specs.SetBrackets.{set_brackets}
use Rattle.mx_hier.specs.SetClass.{set_class}
use Rattle.mx_hier.specs.SetDirectoryBrackets.{set_dir_brackets}
use Rattle.mx_hier.specs.Status.{status}
use Rattle.mx_hier.specs.Walks.{reached, resolved}
use Rattle.mx_hier.specs.declared.refusals.Refusal.{Refusal}
use Rattle.mx_hier.specs.declared.refusals.Refusal.TheVariants.{NoDefinition, NotLinkage, NotObject, SegmentNotFound, UnknownSegno}
use Rattle.mx_kst.specs.KnownSegments.{KnownSegments}
use Rattle.mx_kst.specs.Terminating as kst
use Rattle.mx_link.specs.declared.resolving.LinkError.{LinkError}
use Rattle.mx_link.specs.declared.resolving.LinkError.TheVariants as error
use Rattle.mx_link.specs.declared.resolving.Target.{Target}
use Rattle.mx_mail.specs.Processes as mail
use Rattle.mx_mail.specs.Processes.{PlainProcess, process_in}
use Rattle.mx_mail.specs.Sending.{deliver, with_message}
use Rattle.mx_mail.specs.Taking.{messages_in, messages_of, nobody_else, process_after, taken_from}
use Rattle.mx_mail.specs.declared.processes.ExecutionState.TheVariants.{Ended}
use Rattle.mx_request.proofs.FieldLaws.{at_most_test}
use Rattle.mx_request.proofs.StepLaws.{both, both_hold}
use Rattle.mx_request.specs.Fields.{is_name}
use Rattle.mx_request.specs.ObjectTexts.{fits_object}
use Rattle.mx_request.specs.RequestTexts.{are_brackets, fits_request, is_class, is_pathname, is_process_number, is_ring, is_word}
use Rattle.mx_request.specs.declared.replies.Reply.{Reply}
use Rattle.mx_request.specs.declared.replies.Reply.TheVariants as reply
use Rattle.mx_request.specs.declared.requests.Request.{Request}
use Rattle.mx_request.specs.declared.requests.Request.TheVariants as ask
use Rattle.mx_search.specs.declared.rules.Rule.{Rule}
use Rattle.mx_state.proofs.LinkingLaws.{found_word}
use Rattle.mx_state.proofs.ToldLaws.{by_process}
use Rattle.mx_state.specs.Askers.{Initializer, answered_caller, caller, initial_caller, on_path, on_process, process_or_nobody}
use Rattle.mx_state.specs.Connecting.{Connected, connect}
use Rattle.mx_state.specs.Knowing.{free_name, given, initiate, link, link_by, link_to, link_towards, linked, terminate}
use Rattle.mx_state.specs.Linking.{found_uid, link_at, link_target}
use Rattle.mx_state.specs.Messages.{block, logout, sent, taken_reply, wakeup, wakeup_refusals}
use Rattle.mx_state.specs.OwnState.{change_wdir, set_rules}
use Rattle.mx_state.specs.Plain.{Answer, Plain, with_process}
use Rattle.mx_state.specs.Requests.{changed, plain, told}
use Rattle.mx_state.specs.Sections.{section_page, with_page_back}
use Rattle.mx_state.specs.Shown.{shown}
use Rattle.mx_state.specs.declared.linking.Link.{Link}
use Rattle.mx_state.specs.declared.states.ProcessState.{ProcessState}
use Rattle.mx_spelling.proofs.HierarchyBounds.{Keeps, create_dir_keeps, create_link_keeps, del_acl_keeps, del_iacl_keeps, delete_keeps, make_segment_keeps, rename_keeps, resolved_names, set_acl_keeps, set_brackets_keeps, set_class_keeps, set_dir_brackets_keeps, set_iacl_keeps}
use Rattle.mx_spelling.proofs.KnownBounds.{back_spelled, connected_spelled, terminated_spelled}
use Rattle.mx_spelling.proofs.NextBounds.{address_test}
use Rattle.mx_spelling.proofs.ReplyBounds.{AllTold, IsSaid, IsSaidStatus, defined_low, list_said, object_spelled, onward_told, status_said, unless_told}
use Rattle.mx_spelling.proofs.StateBounds.{IsSpelled, IsSpelledHierarchy, IsSpelledKnown, IsSpelledMail, IsSpelledMessage, IsSpelledProcess}
use Rattle.mx_spelling.proofs.WalkBounds.{at_place, place_below}

-- a request that a journal has: one of its grammar, or one that asks to have a link snapped
abbrev pub IsFitting : Request → Type 0
IsFitting (ask.Link segno word) = Unit {0}
IsFitting request = fits_request request ≡ true

-- an answer that can be spelled
pub record IsSpelledAnswer (given : Answer) : Type 0 where
  pub state : IsSpelled given.state
  pub said : IsSaid given.reply

-- who asks
record IsSpelledCaller (who : Caller) : Type 0 where
  authorization : is_class who.subject.authorization ≡ true
  base : list_all is_name who.base ≡ true

module _ (s : Plain) (p ring : ℕ) (is : IsSpelled s) where
  plainly : (why : Reply) → IsSaid why → IsSpelledAnswer (record { reply = why; state = s })
  plainly why said = record { state = is; said = said }

  -- requests on a path
  path_answer : (given : Caller → Answer) → ((who : Caller) → IsSpelledCaller who → IsSpelledAnswer (given who)) → IsSpelledAnswer (on_path s p ring given)
  path_answer given each = by_zero (p == 0)
    where
      by_place : (o : Option ProcessState) → slice_get s.processes (p - 1) ≡ o → IsSpelledAnswer (answered_caller s (process_or_nobody o) ring given)
      by_place None e = plainly reply.Done refl
      by_place (Some process) e =
          let own = at_place IsSpelledProcess s.processes (p - 1) process is.processes e in
          each (caller process ring) (record { authorization = own.authorization; base = own.directory })

      by_zero : (zero : Bool) → IsSpelledAnswer (answered_caller s
          (if zero then Initializer else process_or_nobody (if zero then None else slice_get s.processes (p - 1))) ring given)
      by_zero true = each (initial_caller ring) (record { authorization = refl; base = refl })
      by_zero false = by_place (slice_get s.processes (p - 1)) refl

  change : (meant : Result Hierarchy Refusal) → Keeps meant → IsSpelledAnswer (changed s meant)
  change (Ok h) own = record {
    state = record { count = is.count; hierarchy = own; processes = is.processes; mail = is.mail };
    said = refl;
  }
  change (Err why) own = plainly (reply.Refused why) refl

  changing : (meant : Caller → Result Hierarchy Refusal) → ((who : Caller) → IsSpelledCaller who → Keeps (meant who))
      → IsSpelledAnswer (on_path s p ring (λ who. changed s (meant who)))
  changing meant each = path_answer (λ who. changed s (meant who)) (λ who own. change (meant who) (each who own))

  tell : {A : Type 0} (P : A → Type 0) (as_reply : A → Reply) → ((value : A) → P value → IsSaid (as_reply value)) → (meant : Result A Refusal)
      → AllTold P meant → IsSpelledAnswer (told s as_reply meant)
  tell P as_reply each (Ok value) own = plainly (as_reply value) (each value own)
  tell P as_reply each (Err why) own = plainly (reply.Refused why) refl

  -- messages
  mail_changed : (q : ℕ) (process : PlainProcess) → IsSpelledMail process → All IsSpelledMail (mail.with_process s.mail q process)
  mail_changed q process own = by_zero (q == 0)
    where
      by_zero : (zero : Bool) → All IsSpelledMail (if zero then s.mail else slice_set s.mail (q - 1) process)
      by_zero true = is.mail
      by_zero false = All-set IsSpelledMail s.mail (q - 1) process own is.mail

  with_mail : (after : List PlainProcess) → All IsSpelledMail after → IsSpelled (record s { mail = after })
  with_mail after own = record { count = is.count; hierarchy = is.hierarchy; processes = is.processes; mail = own }

  waiting : All IsSpelledMessage (messages_of s.mail p)
  waiting = by_zero (p == 0)
    where
      by_place : (o : Option PlainProcess) → slice_get s.mail (p - 1) ≡ o → All IsSpelledMessage (messages_in o)
      by_place None e = All-nil IsSpelledMessage
      by_place (Some process) e = at_place IsSpelledMail s.mail (p - 1) process is.mail e

      by_zero : (zero : Bool) → All IsSpelledMessage (messages_in (if zero then None else slice_get s.mail (p - 1)))
      by_zero true = All-nil IsSpelledMessage
      by_zero false = by_place (slice_get s.mail (p - 1)) refl

  taken_said : (nobody : Bool) (messages : List (ℕ × ℕ)) → All IsSpelledMessage messages → IsSaid (taken_reply (taken_from nobody messages))
  taken_said nobody (message ∷ later) all =
      let own = All-head IsSpelledMessage message later all in
      both_hold _ _ (at_most_test message.0 15 own.sender) own.word
  taken_said true [] all = refl
  taken_said false [] all = refl

  left_waiting : (nobody : Bool) (messages : List (ℕ × ℕ)) → All IsSpelledMessage messages → IsSpelledMail (process_after nobody messages)
  left_waiting nobody (message ∷ later) all = All-tail IsSpelledMessage message later all
  left_waiting true [] all = All-nil IsSpelledMessage
  left_waiting false [] all = All-nil IsSpelledMessage

  blocked : IsSpelledAnswer (block s p)
  blocked =
      let nobody : Bool = nobody_else s.mail p in
      let messages : List (ℕ × ℕ) = messages_of s.mail p in
      record {
        state = with_mail (mail.with_process s.mail p (process_after nobody messages))
            (mail_changed p (process_after nobody messages) (left_waiting nobody messages waiting));
        said = taken_said nobody messages waiting;
      }

  ended : IsSpelledAnswer (logout s p)
  ended = record {
    state = with_mail (mail.end_process s.mail p) (mail_changed p (process_in Ended []) (All-nil IsSpelledMessage));
    said = refl;
  }

  delivered : (to word : ℕ) → p ≤ 15 → is_word word ≡ true → All IsSpelledMail (deliver s.mail to (mail.process_at s.mail to) (p, word))
  delivered to word low fits = by_zero (to == 0)
    where
      by_place : (o : Option PlainProcess) → slice_get s.mail (to - 1) ≡ o → All IsSpelledMail (deliver s.mail to o (p, word))
      by_place None e = is.mail
      by_place (Some process) e =
          mail_changed to (with_message process (p, word))
          (All-append IsSpelledMessage process.messages ((p, word) ∷ []) (at_place IsSpelledMail s.mail (to - 1) process is.mail e)
          (All-cons IsSpelledMessage (p, word) [] (record { sender = low; word = fits }) (All-nil IsSpelledMessage)))

      by_zero : (zero : Bool) → All IsSpelledMail (deliver s.mail to (if zero then None else slice_get s.mail (to - 1)) (p, word))
      by_zero true = is.mail
      by_zero false = by_place (slice_get s.mail (to - 1)) refl

  send : (meant : Result (List PlainProcess) Refusal) → AllTold (All IsSpelledMail) meant → IsSpelledAnswer (sent s meant)
  send (Ok after) own = record { state = with_mail after own; said = refl }
  send (Err why) own = plainly (reply.Refused why) refl

  -- what a process has of its own
  module _ (process : ProcessState) (low : 1 ≤ p) (at : slice_get s.processes (p - 1) ≡ Some process) where
    own : IsSpelledProcess process
    own = at_place IsSpelledProcess s.processes (p - 1) process is.processes at

    few : p ≤ 15
    few =
        let below = place_below s.processes (p - 1) process at in
        let count = is.count in
        omega (arith, low, below, count)

    replaced : (other : ProcessState) (h : Hierarchy) → IsSpelledProcess other → IsSpelledHierarchy h
        → IsSpelled (record (with_process s p other) { hierarchy = h })
    replaced other h other_is h_is = record {
      count = let same = length-set s.processes (p - 1) other in
          let count = is.count in
          omega (arith, same, count);
      hierarchy = h_is;
      processes = All-set IsSpelledProcess s.processes (p - 1) other other_is is.processes;
      mail = is.mail;
    }

    knowing : (known : KnownSegments) → IsSpelledKnown known → IsSpelledProcess (record process { known = known })
    knowing known known_is = record { authorization = own.authorization; directory = own.directory; known = known_is }

    moved : (meant : Result (List (List ℕ)) Refusal) → AllTold (λ path. list_all is_name path ≡ true) meant → IsSpelledAnswer (change_wdir s p process meant)
    moved (Ok path) names = record {
      state = replaced (record process { working_directory = path }) s.hierarchy
          (record { authorization = own.authorization; directory = names; known = own.known }) is.hierarchy;
      said = refl;
    }
    moved (Err why) names = plainly (reply.Refused why) refl

    directory_names : (text : List ℕ) → is_pathname text ≡ true
        → AllTold (λ path. list_all is_name path ≡ true) (directory s.hierarchy (caller process ring) text)
    directory_names text fits =
        onward_told (λ path. list_all is_name path ≡ true) (resolved (caller process ring) text) _
        (λ path e. onward_told (λ path. list_all is_name path ≡ true) (reached s.hierarchy (caller process ring).subject true path) _
        (λ uid f. unless_told (λ path. list_all is_name path ≡ true) (first_of (directory_refusals s.hierarchy (caller process ring).subject uid)) path
        (resolved_names (caller process ring) text path own.directory fits e)))

    ruled : (rules : List Rule) → IsSpelledAnswer (set_rules s p process rules)
    ruled rules = record {
      state = replaced (record process { rules = rules }) s.hierarchy
          (record { authorization = own.authorization; directory = own.directory; known = own.known }) is.hierarchy;
      said = refl;
    }

    ends : (segno : ℕ) (page : Option ℕ) (meant : Option KnownSegments) → kst.terminate process.known segno ≡ meant
        → IsSpelledAnswer (terminate s p process page meant)
    ends segno page (Some known) e = record {
      state = replaced (record process { known = known }) (with_page_back s.hierarchy page)
          (knowing known (terminated_spelled process.known known segno own.known e)) (back_spelled s.hierarchy page is.hierarchy);
      said = refl;
    }
    ends segno page None e = plainly (reply.Refused UnknownSegno) refl

    known_more : (uid : ℕ) (name : Option (List ℕ)) (meant : Result Connected Refusal) → connect s.hierarchy process.known ring name uid ≡ meant
        → IsSpelledAnswer (given s p process meant)
    known_more uid name (Ok c) e =
        let made = connected_spelled s.hierarchy process.known uid ring name c is.hierarchy own.known e in
        record {
          state = replaced (record process { known = c.after }) c.hierarchy (knowing c.after made.known) made.hierarchy;
          said = both_hold _ _ (at_most_test c.known.segno 4095 made.segno) made.linkage;
        }
    known_more uid name (Err why) e = plainly (reply.Refused why) refl

    initiated : (name : Option (List ℕ)) (found : Result ℕ Refusal) → IsSpelledAnswer (initiate s p ring process name found)
    initiated name (Ok uid) = known_more uid name (connect s.hierarchy process.known ring name uid) refl
    initiated name (Err why) = plainly (reply.Refused why) refl

    snapped : (uid word : ℕ) (name : Option (List ℕ)) → word ≤ 16383 → (meant : Result Connected Refusal)
        → connect s.hierarchy process.known ring name uid ≡ meant → IsSpelledAnswer (linked s p process word meant)
    snapped uid word name short (Ok c) e =
        let made = connected_spelled s.hierarchy process.known uid ring name c is.hierarchy own.known e in
        record {
          state = replaced (record process { known = c.after }) c.hierarchy (knowing c.after made.known) made.hierarchy;
          said = both_hold _ _ (address_test c.known.segno word made.segno short) made.linkage;
        }
    snapped uid word name short (Err why) e = plainly (reply.Refused why) refl

    linking : (o : Option Link) → IsSpelledAnswer (link_by s p ring process o)
    linking None = plainly (reply.Refused NotLinkage) refl
    linking (Some it) = by_target (link_target s.hierarchy process ring it) refl
      where
        by_uid : (to : Target) → link_target s.hierarchy process ring it ≡ Ok to → (o : Option ℕ) → found_uid process.known to.found ≡ o
            → IsSpelledAnswer (link_to s p ring process it to.word o)
        by_uid to e (Some uid) f =
            snapped uid to.word (free_name process.known ring it.segment)
            (defined_low (object_at s.hierarchy uid) it.symbol to.word (object_spelled s.hierarchy uid is.hierarchy)
            (found_word s.hierarchy process ring it to uid e f))
            (connect s.hierarchy process.known ring (free_name process.known ring it.segment) uid) refl
        by_uid to e None f = plainly reply.Done refl

        by_target : (r : Result Target LinkError) → link_target s.hierarchy process ring it ≡ r → IsSpelledAnswer (link_towards s p ring process it r)
        by_target (Ok to) e = by_uid to e (found_uid process.known to.found) refl
        by_target (Err error.SegmentNotFound) e = plainly (reply.Refused SegmentNotFound) refl
        by_target (Err error.NotObject) e = plainly (reply.Refused NotObject) refl
        by_target (Err error.NoDefinition) e = plainly (reply.Refused NoDefinition) refl
        by_target (Err error.Memory) e = plainly reply.Done refl

    woken : (to word : ℕ) → is_word word ≡ true → IsSpelledAnswer (wakeup s p to word)
    woken to word fits =
        send (unless (first_of (wakeup_refusals (mail.process_at s.mail to))) (deliver s.mail to (mail.process_at s.mail to) (p, word)))
        (unless_told (All IsSpelledMail) (first_of (wakeup_refusals (mail.process_at s.mail to)))
        (deliver s.mail to (mail.process_at s.mail to) (p, word)) (delivered to word few fits))

  own_answer : (given : ProcessState → Answer)
      → ((process : ProcessState) → 1 ≤ p → slice_get s.processes (p - 1) ≡ Some process → IsSpelledAnswer (given process))
      → IsSpelledAnswer (on_process s p given)
  own_answer given each = by_process IsSpelledAnswer s p given (plainly reply.Done refl) each

  -- each request
  pub answer_spelled : (request : Request) → IsFitting request → IsSpelledAnswer (plain s p ring request)
  answer_spelled (ask.CreateDir path d1 d2) fits =
      let f = both (is_pathname path) (is_ring d1 && is_ring d2) fits in
      let g = both (is_ring d1) (is_ring d2) f.1 in
      changing (λ who. create_dir s.hierarchy who path d1 d2)
      (λ who own. create_dir_keeps s.hierarchy who path is.hierarchy own.base f.0 d1 d2 g.0 g.1)
  answer_spelled (ask.CreateSeg path words brackets) fits =
      let f = both (is_pathname path) (nat_le words 99999 && are_brackets brackets) fits in
      let g = both (nat_le words 99999) (are_brackets brackets) f.1 in
      changing (λ who. create_seg s.hierarchy who path words brackets)
      (λ who own. make_segment_keeps s.hierarchy who path is.hierarchy own.base f.0 own.authorization
      (record { words = words; rings = brackets; modes = Rw; object = None }) g.1 tt)
  answer_spelled (ask.CreateObject path words brackets object) fits =
      let f = both (is_pathname path) (nat_le words 99999 && (are_brackets brackets && fits_object object)) fits in
      let g = both (nat_le words 99999) (are_brackets brackets && fits_object object) f.1 in
      let k = both (are_brackets brackets) (fits_object object) g.1 in
      changing (λ who. create_object s.hierarchy who path words brackets object)
      (λ who own. make_segment_keeps s.hierarchy who path is.hierarchy own.base f.0 own.authorization
      (record { words = words; rings = brackets; modes = Re; object = Some object }) k.0 k.1)
  answer_spelled (ask.CreateLink path target) fits =
      let f = both (is_pathname path) (is_pathname target) fits in
      changing (λ who. create_link s.hierarchy who path target)
      (λ who own. create_link_keeps s.hierarchy who path is.hierarchy own.base f.0 target f.1)
  answer_spelled (ask.Rename path name) fits =
      changing (λ who. rename s.hierarchy who path name)
      (λ who own. rename_keeps s.hierarchy who path is.hierarchy name (both (is_pathname path) (is_name name) fits).1)
  answer_spelled (ask.Delete path) fits =
      changing (λ who. delete s.hierarchy who path) (λ who own. delete_keeps s.hierarchy who path is.hierarchy)
  answer_spelled (ask.SetAcl path id modes) fits =
      changing (λ who. set_acl s.hierarchy who path id modes) (λ who own. set_acl_keeps s.hierarchy who path is.hierarchy id modes)
  answer_spelled (ask.DelAcl path id) fits =
      changing (λ who. del_acl s.hierarchy who path id) (λ who own. del_acl_keeps s.hierarchy who path is.hierarchy id)
  answer_spelled (ask.SetIacl path kind id modes) fits =
      changing (λ who. set_iacl s.hierarchy who path kind id modes)
      (λ who own. set_iacl_keeps s.hierarchy who path is.hierarchy kind id modes)
  answer_spelled (ask.DelIacl path kind id) fits =
      changing (λ who. del_iacl s.hierarchy who path kind id) (λ who own. del_iacl_keeps s.hierarchy who path is.hierarchy kind id)
  answer_spelled (ask.SetBrackets path brackets) fits =
      changing (λ who. set_brackets s.hierarchy who path brackets)
      (λ who own. set_brackets_keeps s.hierarchy who path is.hierarchy brackets (both (is_pathname path) (are_brackets brackets) fits).1)
  answer_spelled (ask.SetDirBrackets path d1 d2) fits =
      let g = both (is_ring d1) (is_ring d2) (both (is_pathname path) (is_ring d1 && is_ring d2) fits).1 in
      changing (λ who. set_dir_brackets s.hierarchy who path d1 d2)
      (λ who own. set_dir_brackets_keeps s.hierarchy who path is.hierarchy d1 d2 g.0 g.1)
  answer_spelled (ask.SetClass path class) fits =
      changing (λ who. set_class s.hierarchy who path class)
      (λ who own. set_class_keeps s.hierarchy who path is.hierarchy class (both (is_pathname path) (is_class class) fits).1)
  answer_spelled (ask.Status path) fits =
      path_answer (λ who. told s (λ status. reply.Status (shown s.version status)) (status s.hierarchy who path))
      (λ who own. tell (λ status. IsSaidStatus (shown s.version status)) (λ status. reply.Status (shown s.version status)) (λ status said. said)
      (status s.hierarchy who path) (status_said s.version s.hierarchy who path is.hierarchy))
  answer_spelled (ask.List path) fits =
      path_answer (λ who. told s reply.Names (list s.hierarchy who path))
      (λ who own. tell (λ names. list_all is_name names ≡ true) reply.Names (λ names said. said)
      (list s.hierarchy who path) (list_said s.hierarchy who path is.hierarchy))
  answer_spelled (ask.ChangeWdir path) fits =
      own_answer (λ process. change_wdir s p process (directory s.hierarchy (caller process ring) path))
      (λ process low at. moved process low at (directory s.hierarchy (caller process ring) path) (directory_names process low at path fits))
  answer_spelled (ask.SetRules rules) fits = own_answer (λ process. set_rules s p process rules) (λ process low at. ruled process low at rules)
  answer_spelled (ask.Initiate path name) fits =
      own_answer (λ process. initiate s p ring process name (segment s.hierarchy (caller process ring) path))
      (λ process low at. initiated process low at name (segment s.hierarchy (caller process ring) path))
  answer_spelled (ask.Terminate segno) fits =
      own_answer (λ process. terminate s p process (section_page process.known segno) (kst.terminate process.known segno))
      (λ process low at. ends process low at segno (section_page process.known segno) (kst.terminate process.known segno) refl)
  answer_spelled (ask.Wakeup to word) fits =
      own_answer (λ process. wakeup s p to word)
      (λ process low at. woken process low at to word (both (is_process_number to) (is_word word) fits).1)
  answer_spelled ask.Block fits = own_answer (λ process. block s p) (λ process low at. blocked)
  answer_spelled (ask.Link segno word) fits =
      own_answer (λ process. link s p ring process segno word)
      (λ process low at. linking process low at (link_at s.hierarchy process.known segno word))
  answer_spelled ask.Resume fits = own_answer (λ process. block s p) (λ process low at. blocked)
  answer_spelled ask.Logout fits = own_answer (λ process. logout s p) (λ process low at. ended)
