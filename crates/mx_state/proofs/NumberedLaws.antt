-- In every state that requests lead to, each process has the numbers of the version.
use Rattle.std.proofs.Common.{◌≡◌, ◌-◌, ℕ, zero, suc, List, [], ◌∷◌, map, Option, Some, None, Result, Ok, Err, refl, ap, sym, ◌∙◌, subst, slice_get, slice_set}
use Rattle.mx_hier.specs.Branches.{Hierarchy}
use Rattle.mx_hier.specs.ChangeWorkingDirectory.{directory}
use Rattle.mx_hier.specs.Initiate.{segment}
use Rattle.mx_hier.specs.declared.refusals.Refusal.{Refusal}
use Rattle.mx_kst.specs.KnownSegments.{KnownSegments}
use Rattle.mx_kst.specs.Terminating as kst
use Rattle.mx_link.specs.declared.resolving.LinkError.{LinkError}
use Rattle.mx_link.specs.declared.resolving.LinkError.TheVariants as error
use Rattle.mx_link.specs.declared.resolving.Target.{Target}
use Rattle.mx_mail.specs.Processes.{PlainProcess}
use Rattle.mx_request.specs.Classes.{class_of}
use Rattle.mx_request.specs.declared.classes.RequestClass.TheVariants.{OfPath}
use Rattle.mx_request.specs.declared.entrants.Entrant.{Entrant}
use Rattle.mx_request.specs.declared.requests.Request.{Request}
use Rattle.mx_request.specs.declared.requests.Request.TheVariants as ask
use Rattle.mx_request.specs.Versions.{last_number}
use Rattle.mx_state.specs.declared.journal.Entry.{Entry}
use Rattle.mx_state.specs.declared.linking.Link.{Link}
use Rattle.mx_state.specs.declared.states.ProcessState.{ProcessState}
use Rattle.mx_state.specs.Askers.{caller}
use Rattle.mx_state.specs.Connecting.{Connected, connect}
use Rattle.mx_state.specs.History.{fresh, opening, replay}
use Rattle.mx_state.specs.Sections.{section_page}
use Rattle.mx_state.specs.Knowing.{free_name, given, initiate, link, link_by, link_to, link_towards, linked, terminate}
use Rattle.mx_state.specs.Laws.{UnknownLaw}
use Rattle.mx_state.specs.Linking.{found_uid, link_at, link_target}
use Rattle.mx_state.specs.Messages.{block, logout, sent, wakeup}
use Rattle.mx_state.specs.OwnState.{change_wdir, set_rules}
use Rattle.mx_state.specs.Plain.{Plain, Answer}
use Rattle.mx_state.specs.Requests.{plain}
use Rattle.mx_state.proofs.ConnectingLaws.{granted}
use Rattle.mx_state.proofs.Descriptors.{AreNumbered, unknown_beyond}
use Rattle.mx_state.proofs.KnowingLaws.{ended_lots}
use Rattle.mx_state.proofs.LeavingLaws.{path_request_leaves}
use Rattle.mx_state.proofs.ProcessLaws.{replaced_numbered}
use Rattle.mx_state.proofs.ToldLaws.{by_process}

abbrev StaysNumbered : ℕ → Answer → Type 0
StaysNumbered last given = AreNumbered last given.state.processes

-- a segment that becomes known leaves the last number
connected_last : (h : Hierarchy) (k : KnownSegments) (uid ring : ℕ) (name : Option (List ℕ)) (c : Connected) → connect h k ring name uid ≡ Ok c
    → c.after.last ≡ k.last
connected_last h k uid ring name c e = ap (λ (c : Connected). c.after.last) (sym (granted h k uid ring name c e).is)

module _ (last : ℕ) (s : Plain) (p ring : ℕ) (numbered : AreNumbered last s.processes) where
  -- a request on a path leaves the processes
  on_path : (request : Request) → class_of request ≡ OfPath → StaysNumbered last (plain s p ring request)
  on_path request of = subst (AreNumbered last) (sym (path_request_leaves s p ring request of).0) numbered

  sent_numbered : (meant : Result (List PlainProcess) Refusal) → StaysNumbered last (sent s meant)
  sent_numbered (Ok after) = numbered
  sent_numbered (Err why) = numbered

  -- a process that is another now, with the numbers of before
  module _ (process : ProcessState) (at : slice_get s.processes (p - 1) ≡ Some process) where
    own : process.known.last ≡ last
    own = numbered (p - 1) process at

    knowing : (known : KnownSegments) → known.last ≡ process.known.last
        → AreNumbered last (slice_set s.processes (p - 1) (record process { known = known }))
    knowing known same = replaced_numbered last s.processes (p - 1) (record process { known = known }) numbered (same ∙ own)

    change_wdir_numbered : (meant : Result (List (List ℕ)) Refusal) → StaysNumbered last (change_wdir s p process meant)
    change_wdir_numbered (Ok path) = replaced_numbered last s.processes (p - 1) (record process { working_directory = path }) numbered own
    change_wdir_numbered (Err why) = numbered

    terminate_numbered : (segno : ℕ) (page : Option ℕ) (meant : Option KnownSegments) → kst.terminate process.known segno ≡ meant
        → StaysNumbered last (terminate s p process page meant)
    terminate_numbered segno page (Some known) e = knowing known (ended_lots process.known known segno e).2
    terminate_numbered segno page None e = numbered

    given_numbered : (uid : ℕ) (name : Option (List ℕ)) (meant : Result Connected Refusal)
        → connect s.hierarchy process.known ring name uid ≡ meant → StaysNumbered last (given s p process meant)
    given_numbered uid name (Ok c) e = knowing c.after (connected_last s.hierarchy process.known uid ring name c e)
    given_numbered uid name (Err why) e = numbered

    initiate_numbered : (name : Option (List ℕ)) (found : Result ℕ Refusal) → StaysNumbered last (initiate s p ring process name found)
    initiate_numbered name (Ok uid) = given_numbered uid name (connect s.hierarchy process.known ring name uid) refl
    initiate_numbered name (Err why) = numbered

    linked_numbered : (uid word : ℕ) (name : Option (List ℕ)) (meant : Result Connected Refusal)
        → connect s.hierarchy process.known ring name uid ≡ meant → StaysNumbered last (linked s p process word meant)
    linked_numbered uid word name (Ok c) e = knowing c.after (connected_last s.hierarchy process.known uid ring name c e)
    linked_numbered uid word name (Err why) e = numbered

    link_numbered : (o : Option Link) → StaysNumbered last (link_by s p ring process o)
    link_numbered None = numbered
    link_numbered (Some it) = by_target (link_target s.hierarchy process ring it)
      where
        by_uid : (word : ℕ) (o : Option ℕ) → StaysNumbered last (link_to s p ring process it word o)
        by_uid word (Some uid) =
            linked_numbered uid word (free_name process.known ring it.segment)
            (connect s.hierarchy process.known ring (free_name process.known ring it.segment) uid) refl
        by_uid word None = numbered

        by_target : (r : Result Target LinkError) → StaysNumbered last (link_towards s p ring process it r)
        by_target (Ok to) = by_uid to.word (found_uid process.known to.found)
        by_target (Err error.SegmentNotFound) = numbered
        by_target (Err error.NotObject) = numbered
        by_target (Err error.NoDefinition) = numbered
        by_target (Err error.Memory) = numbered

  stays_numbered : (request : Request) → StaysNumbered last (plain s p ring request)
  stays_numbered (ask.CreateDir path d1 d2) = on_path (ask.CreateDir path d1 d2) refl
  stays_numbered (ask.CreateSeg path words brackets) = on_path (ask.CreateSeg path words brackets) refl
  stays_numbered (ask.CreateObject path words brackets object) = on_path (ask.CreateObject path words brackets object) refl
  stays_numbered (ask.CreateLink path target) = on_path (ask.CreateLink path target) refl
  stays_numbered (ask.Rename path name) = on_path (ask.Rename path name) refl
  stays_numbered (ask.Delete path) = on_path (ask.Delete path) refl
  stays_numbered (ask.SetAcl path id modes) = on_path (ask.SetAcl path id modes) refl
  stays_numbered (ask.DelAcl path id) = on_path (ask.DelAcl path id) refl
  stays_numbered (ask.SetIacl path kind id modes) = on_path (ask.SetIacl path kind id modes) refl
  stays_numbered (ask.DelIacl path kind id) = on_path (ask.DelIacl path kind id) refl
  stays_numbered (ask.SetBrackets path brackets) = on_path (ask.SetBrackets path brackets) refl
  stays_numbered (ask.SetDirBrackets path d1 d2) = on_path (ask.SetDirBrackets path d1 d2) refl
  stays_numbered (ask.SetClass path class) = on_path (ask.SetClass path class) refl
  stays_numbered (ask.Status path) = on_path (ask.Status path) refl
  stays_numbered (ask.List path) = on_path (ask.List path) refl
  stays_numbered (ask.ChangeWdir path) =
      by_process (StaysNumbered last) s p (λ process. change_wdir s p process (directory s.hierarchy (caller process ring) path)) numbered
      (λ process low at. change_wdir_numbered process at (directory s.hierarchy (caller process ring) path))
  stays_numbered (ask.SetRules rules) =
      by_process (StaysNumbered last) s p (λ process. set_rules s p process rules) numbered
      (λ process low at. replaced_numbered last s.processes (p - 1) (record process { rules = rules }) numbered (own process at))
  stays_numbered (ask.Initiate path name) =
      by_process (StaysNumbered last) s p (λ process. initiate s p ring process name (segment s.hierarchy (caller process ring) path)) numbered
      (λ process low at. initiate_numbered process at name (segment s.hierarchy (caller process ring) path))
  stays_numbered (ask.Terminate segno) =
      by_process (StaysNumbered last) s p (λ process. terminate s p process (section_page process.known segno) (kst.terminate process.known segno)) numbered
      (λ process low at. terminate_numbered process at segno (section_page process.known segno) (kst.terminate process.known segno) refl)
  stays_numbered (ask.Wakeup to word) =
      by_process (StaysNumbered last) s p (λ process. wakeup s p to word) numbered (λ process low at. sent_numbered _)
  stays_numbered ask.Block = by_process (StaysNumbered last) s p (λ process. block s p) numbered (λ process low at. numbered)
  stays_numbered (ask.Link segno word) =
      by_process (StaysNumbered last) s p (λ process. link s p ring process segno word) numbered
      (λ process low at. link_numbered process at (link_at s.hierarchy process.known segno word))
  stays_numbered ask.Resume = by_process (StaysNumbered last) s p (λ process. block s p) numbered (λ process low at. numbered)
  stays_numbered ask.Logout = by_process (StaysNumbered last) s p (λ process. logout s p) numbered (λ process low at. numbered)

opening_numbered : (version : ℕ) (entrants : List Entrant) → AreNumbered (last_number version) (map (fresh version) entrants)
opening_numbered version [] i process e = cc
opening_numbered version (who ∷ others) zero process e =
    let same : fresh version who ≡ process = cc in ap (λ (p : ProcessState). p.known.last) (sym same)
opening_numbered version (who ∷ others) (suc i) process e = opening_numbered version others i process e

replay_numbered : (last : ℕ) (s : Plain) (entries : List Entry) → AreNumbered last s.processes → AreNumbered last (replay s entries).processes
replay_numbered last s [] numbered = numbered
replay_numbered last s (entry ∷ entries) numbered =
    replay_numbered last (plain s entry.process entry.ring entry.request).state entries
    (stays_numbered last s entry.process entry.ring numbered entry.request)

pub unknown_law : UnknownLaw
unknown_law version entrants entries p segno beyond =
    unknown_beyond (replay (opening version entrants) entries) (last_number version) p segno
    (replay_numbered (last_number version) (opening version entrants) entries (opening_numbered version entrants)) beyond
