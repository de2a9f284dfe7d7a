-- A number becomes a linkage section only where it stood for nothing.
use Rattle.std.proofs.Common.{◌≡◌, ◌⊎◌, ◌≤◌, ◌-◌, ℕ, zero, suc, Bool, true, false, cond, ltb, ◌||◌, ◌==◌, List, [], ◌∷◌, ◌++◌, map, length, get_or, Option, Some, None, Result, Ok, Err, inl, inr, refl, sym, ap, ◌∙◌, subst, slice_get, slice_set, arith}
use Rattle.std.proofs.lemmas.Bool.{cases_eq, cases_lt, ltb-true}
use Rattle.std.proofs.lemmas.List.{get_or-append_right, get_or_past}
use Rattle.std.specs.List.{range_with_len}
use Rattle.mx_hier.specs.Branches.{Hierarchy}
use Rattle.mx_hier.specs.ChangeWorkingDirectory.{directory}
use Rattle.mx_hier.specs.Initiate.{segment}
use Rattle.mx_hier.specs.Linkage.{linkage_brackets_at, links_at, page_given}
use Rattle.mx_hier.specs.declared.refusals.Refusal.{Refusal}
use Rattle.mx_kst.proofs.LotLaws.{freed}
use Rattle.mx_kst.specs.Initiating.{known_by, lots_given, lots_with}
use Rattle.mx_kst.specs.KnownSegments.{KnownSegments, at_first}
use Rattle.mx_kst.specs.Lots.{lot_of, number_of, is_branch, is_section_of}
use Rattle.mx_kst.specs.Sections.{PlainSection}
use Rattle.mx_kst.specs.Terminating as kst
use Rattle.mx_kst.specs.declared.lots.Lot.{Lot}
use Rattle.mx_kst.specs.declared.lots.Lot.TheVariants.{Free, Stack, Linkage}
use Rattle.mx_link.specs.declared.resolving.LinkError.{LinkError}
use Rattle.mx_link.specs.declared.resolving.LinkError.TheVariants as error
use Rattle.mx_link.specs.declared.resolving.Target.{Target}
use Rattle.mx_mail.specs.Processes.{PlainProcess}
use Rattle.mx_request.specs.Classes.{class_of}
use Rattle.mx_request.specs.Versions.{last_number}
use Rattle.mx_request.specs.declared.classes.RequestClass.TheVariants.{OfPath}
use Rattle.mx_request.specs.declared.entrants.Entrant.{Entrant}
use Rattle.mx_request.specs.declared.requests.Request.{Request}
use Rattle.mx_request.specs.declared.requests.Request.TheVariants as ask
use Rattle.mx_sdw.specs.Rings.{Bracketing}
use Rattle.mx_state.specs.declared.journal.Entry.{Entry}
use Rattle.mx_state.specs.declared.linking.Link.{Link}
use Rattle.mx_state.specs.declared.states.ProcessState.{ProcessState}
use Rattle.mx_state.specs.Askers.{caller, unmade}
use Rattle.mx_state.specs.Coming.{SectionComesLaw, SectionWordsLaw}
use Rattle.mx_state.specs.Connecting.{Connected, connect, connected}
use Rattle.mx_state.specs.History.{fresh, opening, replay}
use Rattle.mx_state.specs.Knowing.{free_name, given, initiate, link, link_by, link_to, link_towards, linked, terminate}
use Rattle.mx_state.specs.Linking.{found_uid, link_at, link_target}
use Rattle.mx_state.specs.Messages.{block, logout, sent, wakeup}
use Rattle.mx_state.specs.Numbers.{stands_for}
use Rattle.mx_state.specs.OwnState.{change_wdir, set_rules}
use Rattle.mx_state.specs.Plain.{Plain, Answer, process_at}
use Rattle.mx_state.specs.Requests.{plain}
use Rattle.mx_state.specs.Sections.{has_links, section_by, section_page}
use Rattle.mx_state.specs.Told.{IsSection, lot_by, lot_in}
use Rattle.mx_state.proofs.ConnectingLaws.{granted, section_with, stands_still}
use Rattle.mx_state.proofs.Descriptors.{process_at_place}
use Rattle.mx_state.proofs.LeavingLaws.{path_request_leaves}
use Rattle.mx_state.proofs.NumberLaws.{nothing_beyond, stands_within}
use Rattle.mx_state.proofs.ProcessLaws.{there_again}
use Rattle.mx_state.proofs.ToldLaws.{by_process, others_law}

-- where a section comes from
abbrev ComesFrom : Lot → ℕ → Type 0
ComesFrom before words = IsSection before words ⊎ ((before ≡ Free) × (1 ≤ words))

nothing_is : (words : ℕ) → IsSection Free words → ⊥
nothing_is words is = let none = is.is in cc

-- a section that stands is that of its lot
lot_stands : (k : KnownSegments) (n words : ℕ) → IsSection (stands_for k n) words
    → (n ≤ k.last) × IsSection (lot_of k.lots n) words
lot_stands k n words is = elim (cases_lt k.last n) [
  | inl beyond ↦ absurd (nothing_is words (subst (λ l. IsSection l words) (nothing_beyond k n beyond) is))
  | inr within ↦ (within, subst (λ l. IsSection l words) (stands_within k n within) is)
]

stands_free : (k : KnownSegments) (n : ℕ) → length k.lots ≤ n → stands_for k n ≡ Free
stands_free k n past = elim (cases_lt k.last n) [
  | inl beyond ↦ nothing_beyond k n beyond
  | inr within ↦ stands_within k n within ∙ get_or_past k.lots n Free past
]

given_none : (segno uid i of page words : ℕ) (brackets : Bracketing)
    → lot_of (lots_given segno uid None) i ≡ Linkage of page brackets words → ⊥
given_none segno uid zero of page words brackets e = cc
given_none segno uid (suc i) of page words brackets e = cc

given_words : (segno uid i of page words : ℕ) (brackets : Bracketing) (section : PlainSection)
    → lot_of (lots_given segno uid (Some section)) i ≡ Linkage of page brackets words → section.words ≡ words
given_words segno uid zero of page words brackets section e = absurd cc
given_words segno uid (suc zero) of page words brackets section e = cc
given_words segno uid (suc (suc i)) of page words brackets section e = absurd cc

-- a section that a segment brings with it has a word for each of its links
module _ (h : Hierarchy) (k : KnownSegments) (uid n words : ℕ) (past : length k.lots ≤ n) where
  nothing_old : IsSection (lot_of k.lots n) words → ⊥
  nothing_old is = nothing_is words (subst (λ l. IsSection l words) (get_or_past k.lots n Free past) is)

  at_end : (section : Option PlainSection) (is : IsSection (lot_of (k.lots ++ lots_given (length k.lots) uid section) n) words)
      → lot_of (lots_given (length k.lots) uid section) (n - length k.lots) ≡ Linkage is.of is.page is.brackets words
  at_end section is =
      sym (get_or-append_right k.lots (lots_given (length k.lots) uid section) (length k.lots) n Free refl past) ∙ is.is

  by_made : (links : Bool) → ltb 0 (links_at h uid) ≡ links → (brackets : Option Bracketing) (page : Option ℕ)
      → IsSection (lot_of (k.lots ++ lots_given (length k.lots) uid (cond links (section_by (links_at h uid) brackets page) None)) n) words
      → 1 ≤ words
  by_made false t brackets page is =
      absurd (given_none (length k.lots) uid (n - length k.lots) is.of is.page words is.brackets (at_end None is))
  by_made true t None page is =
      absurd (given_none (length k.lots) uid (n - length k.lots) is.of is.page words is.brackets (at_end None is))
  by_made true t (Some brackets) None is =
      absurd (given_none (length k.lots) uid (n - length k.lots) is.of is.page words is.brackets (at_end None is))
  by_made true t (Some brackets) (Some page) is =
      let made : PlainSection = record { page = page; brackets = brackets; words = links_at h uid } in
      let count : links_at h uid ≡ words =
      given_words (length k.lots) uid (n - length k.lots) is.of is.page words is.brackets made (at_end (Some made) is) in
      let some = ltb-true 0 (links_at h uid) t in omega arith

  new_words : (o : Option ℕ)
      → IsSection (lot_of (lots_with k.lots (known_by o (length k.lots) (section_with h uid o)) uid (section_with h uid o)) n) words
      → 1 ≤ words
  new_words (Some own) is = absurd (nothing_old is)
  new_words None is = by_made (has_links h uid) refl (linkage_brackets_at h uid) (page_given h) is

connected_comes : (h : Hierarchy) (k : KnownSegments) (uid ring : ℕ) (name : Option (List ℕ)) (c : Connected)
    → connect h k ring name uid ≡ Ok c → (n words : ℕ) → IsSection (stands_for c.after n) words
    → ComesFrom (stands_for k n) words
connected_comes h k uid ring name c e n words is = elim (cases_lt n (length k.lots)) [
  | inl below ↦ inl (subst (λ l. IsSection l words) (stands_still h k uid ring n name c e below) is)
  | inr past ↦
      let g = granted h k uid ring name c e in
      let before : KnownSegments = (connected h k uid ring name).after in
      let there = lot_stands before n words (subst (λ (d : Connected). IsSection (stands_for d.after n) words) (sym g.is) is) in
      inr (stands_free k n past, new_words h k uid n words past (number_of k.lots uid) there.1)
]

-- where a number and its section are taken away, no other comes
ended_comes : (k after : KnownSegments) (segno : ℕ) → kst.terminate k segno ≡ Some after → (n words : ℕ)
    → IsSection (stands_for after n) words → ComesFrom (stands_for k n) words
ended_comes k after segno e n words is = by_test (is_branch (lot_of k.lots segno)) e
  where
    stood : (b : Bool) → IsSection (cond b Free (lot_of k.lots n)) words → IsSection (lot_of k.lots n) words
    stood true there = absurd (nothing_is words there)
    stood false there = there

    by_test : (b : Bool) → cond b (Some (record k { lots = kst.lots_without segno k.lots; names = map (kst.names_without segno) k.names })) None ≡ Some after
        → ComesFrom (stands_for k n) words
    by_test false f = absurd cc
    by_test true f =
        let same : record k { lots = kst.lots_without segno k.lots; names = map (kst.names_without segno) k.names } ≡ after = cc in
        let there = lot_stands (record k { lots = kst.lots_without segno k.lots; names = map (kst.names_without segno) k.names }) n words
        (subst (λ (t : KnownSegments). IsSection (stands_for t n) words) (sym same) is) in
        inl (subst (λ l. IsSection l words) (sym (stands_within k n there.0))
        (stood (n == segno || is_section_of segno (lot_of k.lots n)) (subst (λ l. IsSection l words) (freed k.lots segno n) there.1)))

Comes : Plain → ℕ → Answer → Type 0
Comes s p given = (n words : ℕ) → IsSection (lot_in given.state p n) words → ComesFrom (lot_in s p n) words

left_comes : (s : Plain) (p : ℕ) (given : Answer) → given.state.processes ≡ s.processes → Comes s p given
unfolding Comes
left_comes s p given same n words is =
    inl (subst (λ (xs : List ProcessState). IsSection (lot_by (process_at xs p) n) words) same is)

sent_comes : (s : Plain) (p : ℕ) (meant : Result (List PlainProcess) Refusal) → Comes s p (sent s meant)
sent_comes s p (Ok after) = left_comes s p (sent s (Ok after)) refl
sent_comes s p (Err why) = left_comes s p (sent s (Err why)) refl

module _ (s : Plain) (p ring : ℕ) (process : ProcessState) (low : 1 ≤ p) (at : slice_get s.processes (p - 1) ≡ Some process) where
  -- the process is another now
  replaced_comes : (given : Answer) (other : ProcessState) → given.state.processes ≡ slice_set s.processes (p - 1) other
      → ((n words : ℕ) → IsSection (stands_for other.known n) words → ComesFrom (stands_for process.known n) words)
      → Comes s p given
  unfolding Comes
  replaced_comes given other is comes n words has =
      let now : process_at given.state.processes p ≡ Some other = ap (λ xs. process_at xs p) is
      ∙ there_again s.processes p (p - 1) process other low refl at in
      let was : process_at s.processes p ≡ Some process = process_at_place s.processes p low ∙ at in
      elim (comes n words (subst (λ (o : Option ProcessState). IsSection (lot_by o n) words) now has)) [
        | inl old ↦ inl (subst (λ (o : Option ProcessState). IsSection (lot_by o n) words) (sym was) old)
        | inr new ↦ inr (ap (λ (o : Option ProcessState). lot_by o n) was ∙ new.0, new.1)
      ]

  change_wdir_comes : (meant : Result (List (List ℕ)) Refusal) → Comes s p (change_wdir s p process meant)
  change_wdir_comes (Ok path) =
      replaced_comes (change_wdir s p process (Ok path)) (record process { working_directory = path }) refl (λ n words is. inl is)
  change_wdir_comes (Err why) = left_comes s p (change_wdir s p process (Err why)) refl

  terminate_comes : (segno : ℕ) (page : Option ℕ) (meant : Option KnownSegments) → kst.terminate process.known segno ≡ meant
      → Comes s p (terminate s p process page meant)
  terminate_comes segno page (Some known) e =
      replaced_comes (terminate s p process page (Some known)) (record process { known = known }) refl (ended_comes process.known known segno e)
  terminate_comes segno page None e = left_comes s p (terminate s p process page None) refl

  given_comes : (uid : ℕ) (name : Option (List ℕ)) (meant : Result Connected Refusal) → connect s.hierarchy process.known ring name uid ≡ meant
      → Comes s p (given s p process meant)
  given_comes uid name (Ok c) e =
      replaced_comes (given s p process (Ok c)) (record process { known = c.after }) refl (connected_comes s.hierarchy process.known uid ring name c e)
  given_comes uid name (Err why) e = left_comes s p (given s p process (Err why)) refl

  initiate_comes : (name : Option (List ℕ)) (found : Result ℕ Refusal) → Comes s p (initiate s p ring process name found)
  initiate_comes name (Ok uid) = given_comes uid name (connect s.hierarchy process.known ring name uid) refl
  initiate_comes name (Err why) = left_comes s p (initiate s p ring process name (Err why)) refl

  linked_comes : (uid word : ℕ) (name : Option (List ℕ)) (meant : Result Connected Refusal) → connect s.hierarchy process.known ring name uid ≡ meant
      → Comes s p (linked s p process word meant)
  linked_comes uid word name (Ok c) e =
      replaced_comes (linked s p process word (Ok c)) (record process { known = c.after }) refl (connected_comes s.hierarchy process.known uid ring name c e)
  linked_comes uid word name (Err why) e = left_comes s p (linked s p process word (Err why)) refl

  link_comes : (o : Option Link) → Comes s p (link_by s p ring process o)
  link_comes None = left_comes s p (link_by s p ring process None) refl
  link_comes (Some it) = by_target (link_target s.hierarchy process ring it)
    where
      by_uid : (word : ℕ) (o : Option ℕ) → Comes s p (link_to s p ring process it word o)
      by_uid word (Some uid) =
          linked_comes uid word (free_name process.known ring it.segment)
          (connect s.hierarchy process.known ring (free_name process.known ring it.segment) uid) refl
      by_uid word None = left_comes s p (unmade s) refl

      by_target : (r : Result Target LinkError) → Comes s p (link_towards s p ring process it r)
      by_target (Ok to) = by_uid to.word (found_uid process.known to.found)
      by_target (Err error.SegmentNotFound) = left_comes s p (link_towards s p ring process it (Err error.SegmentNotFound)) refl
      by_target (Err error.NotObject) = left_comes s p (link_towards s p ring process it (Err error.NotObject)) refl
      by_target (Err error.NoDefinition) = left_comes s p (link_towards s p ring process it (Err error.NoDefinition)) refl
      by_target (Err error.Memory) = left_comes s p (unmade s) refl

path_comes : (s : Plain) (p ring : ℕ) (request : Request) → class_of request ≡ OfPath → Comes s p (plain s p ring request)
path_comes s p ring request of = left_comes s p (plain s p ring request) (path_request_leaves s p ring request of).0

own_comes : (s : Plain) (p ring : ℕ) (request : Request) → Comes s p (plain s p ring request)
own_comes s p ring (ask.CreateDir path d1 d2) = path_comes s p ring (ask.CreateDir path d1 d2) refl
own_comes s p ring (ask.CreateSeg path words brackets) = path_comes s p ring (ask.CreateSeg path words brackets) refl
own_comes s p ring (ask.CreateObject path words brackets object) = path_comes s p ring (ask.CreateObject path words brackets object) refl
own_comes s p ring (ask.CreateLink path to) = path_comes s p ring (ask.CreateLink path to) refl
own_comes s p ring (ask.Rename path name) = path_comes s p ring (ask.Rename path name) refl
own_comes s p ring (ask.Delete path) = path_comes s p ring (ask.Delete path) refl
own_comes s p ring (ask.SetAcl path id modes) = path_comes s p ring (ask.SetAcl path id modes) refl
own_comes s p ring (ask.DelAcl path id) = path_comes s p ring (ask.DelAcl path id) refl
own_comes s p ring (ask.SetIacl path kind id modes) = path_comes s p ring (ask.SetIacl path kind id modes) refl
own_comes s p ring (ask.DelIacl path kind id) = path_comes s p ring (ask.DelIacl path kind id) refl
own_comes s p ring (ask.SetBrackets path brackets) = path_comes s p ring (ask.SetBrackets path brackets) refl
own_comes s p ring (ask.SetDirBrackets path d1 d2) = path_comes s p ring (ask.SetDirBrackets path d1 d2) refl
own_comes s p ring (ask.SetClass path class) = path_comes s p ring (ask.SetClass path class) refl
own_comes s p ring (ask.Status path) = path_comes s p ring (ask.Status path) refl
own_comes s p ring (ask.List path) = path_comes s p ring (ask.List path) refl
own_comes s p ring (ask.ChangeWdir path) =
    by_process (Comes s p) s p (λ process. change_wdir s p process (directory s.hierarchy (caller process ring) path)) (left_comes s p (unmade s) refl)
    (λ process low at. change_wdir_comes s p ring process low at (directory s.hierarchy (caller process ring) path))
own_comes s p ring (ask.SetRules rules) =
    by_process (Comes s p) s p (λ process. set_rules s p process rules) (left_comes s p (unmade s) refl)
    (λ process low at. replaced_comes s p ring process low at (set_rules s p process rules) (record process { rules = rules }) refl (λ n words is. inl is))
own_comes s p ring (ask.Initiate path name) =
    by_process (Comes s p) s p (λ process. initiate s p ring process name (segment s.hierarchy (caller process ring) path)) (left_comes s p (unmade s) refl)
    (λ process low at. initiate_comes s p ring process low at name (segment s.hierarchy (caller process ring) path))
own_comes s p ring (ask.Terminate segno) =
    by_process (Comes s p) s p (λ process. terminate s p process (section_page process.known segno) (kst.terminate process.known segno))
    (left_comes s p (unmade s) refl)
    (λ process low at. terminate_comes s p ring process low at segno (section_page process.known segno) (kst.terminate process.known segno) refl)
own_comes s p ring (ask.Wakeup to word) =
    by_process (Comes s p) s p (λ process. wakeup s p to word) (left_comes s p (unmade s) refl) (λ process low at. sent_comes s p _)
own_comes s p ring ask.Block =
    by_process (Comes s p) s p (λ process. block s p) (left_comes s p (unmade s) refl) (λ process low at. left_comes s p (block s p) refl)
own_comes s p ring (ask.Link segno word) =
    by_process (Comes s p) s p (λ process. link s p ring process segno word) (left_comes s p (unmade s) refl)
    (λ process low at. link_comes s p ring process low at (link_at s.hierarchy process.known segno word))
own_comes s p ring ask.Resume =
    by_process (Comes s p) s p (λ process. block s p) (left_comes s p (unmade s) refl) (λ process low at. left_comes s p (block s p) refl)
own_comes s p ring ask.Logout =
    by_process (Comes s p) s p (λ process. logout s p) (left_comes s p (unmade s) refl) (λ process low at. left_comes s p (logout s p) refl)

pub section_comes_law : SectionComesLaw
unfolding Comes
section_comes_law s p q ring segno words request is = elim (cases_eq p q) [
  | inl own ↦ subst (λ (u : ℕ). IsSection (lot_in (plain s u ring request).state p segno) words → ComesFrom (lot_in s p segno) words) own
      (own_comes s p ring request segno words) is
  | inr apart ↦ inl (subst (λ (o : Option ProcessState). IsSection (lot_by o segno) words)
      (others_law s p q ring request (λ same. apart (sym same))) is)
]

-- every section has a word
stack_none : (rings : List ℕ) (n words : ℕ) → IsSection (get_or (map Stack rings) n Free) words → ⊥
stack_none [] n words is = nothing_is words is
stack_none (ring ∷ rings) zero words is = let none = is.is in cc
stack_none (ring ∷ rings) (suc n) words is = stack_none rings n words is

fresh_none : (version : ℕ) (entrants : List Entrant) (i n words : ℕ)
    → IsSection (lot_by (slice_get (map (fresh version) entrants) i) n) words → ⊥
fresh_none version [] i n words is = nothing_is words is
fresh_none version (entrant ∷ entrants) zero n words is =
    stack_none (range_with_len 0 8) n words (lot_stands (at_first (last_number version)) n words is).1
fresh_none version (entrant ∷ entrants) (suc i) n words is = fresh_none version entrants i n words is

HaveWords : Plain → Type 0
HaveWords s = (p n words : ℕ) → IsSection (lot_in s p n) words → 1 ≤ words

opening_words : (version : ℕ) (entrants : List Entrant) → HaveWords (opening version entrants)
unfolding HaveWords
opening_words version entrants p n words is = elim (cases_eq p 0) [
  | inl nobody ↦ absurd (nothing_is words
      (subst (λ (k : ℕ). IsSection (lot_by (process_at (map (fresh version) entrants) k) n) words) nobody is))
  | inr some ↦
      let low : 1 ≤ p = omega arith in
      absurd (fresh_none version entrants (p - 1) n words
      (subst (λ (o : Option ProcessState). IsSection (lot_by o n) words) (process_at_place (map (fresh version) entrants) p low) is))
]

replayed_words : (s : Plain) (journal : List Entry) → HaveWords s → HaveWords (replay s journal)
unfolding HaveWords
replayed_words s [] have = have
replayed_words s (entry ∷ journal) have =
    replayed_words (plain s entry.process entry.ring entry.request).state journal (λ p n words is.
    elim (section_comes_law s p entry.process entry.ring n words entry.request is) [
      | inl old ↦ have p n words old
      | inr new ↦ new.1
    ])

pub section_words_law : SectionWordsLaw
unfolding HaveWords
section_words_law version entrants journal p segno words is =
    replayed_words (opening version entrants) journal (opening_words version entrants) p segno words is
