-- What a process knows after a segment became known or was terminated, and which descriptors that changes.
use Rattle.std.proofs.Common.{◌≡◌, ◌⊎◌, ◌≤◌, ◌<◌, ◌+◌, ◌-◌, ◌==◌, ◌||◌, ℕ, List, map, length, Option, Some, None, IfSome, Ok, Bool, true, false, cond, inl, inr, refl, ap, sym, ◌∙◌, subst, slice_get, slice_set, length-set, arith}
use Rattle.std.specs.List.{All}
use Rattle.std.specs.Option.{option_map}
use Rattle.std.proofs.lemmas.Bool.{ne_eqb}
use Rattle.mx_core.specs.declared.changes.Change.{Change}
use Rattle.mx_name.specs.Principals.{PlainPrincipal}
use Rattle.mx_sdw.specs.Admissible.{IsAdmissible}
use Rattle.mx_sdw.specs.Rings.{Bracketing}
use Rattle.mx_hier.specs.Branches.{Hierarchy}
use Rattle.mx_hier.specs.Linkage.{links_at, linkage_brackets_at, page_given, with_page_given}
use Rattle.mx_hier.specs.Rules.{first_of, unless}
use Rattle.mx_hier.specs.declared.refusals.Refusal.{Refusal}
use Rattle.mx_kst.proofs.InitiateLaws.{sound_initiated}
use Rattle.mx_kst.proofs.LotLaws.{freed}
use Rattle.mx_kst.proofs.TerminateLaws.{sound_terminated}
use Rattle.mx_kst.specs.Initiating as kst
use Rattle.mx_kst.specs.Initiating.{Initiated}
use Rattle.mx_kst.specs.Sections.{IsWithinPage, PlainSection}
use Rattle.mx_kst.specs.KnownSegments as known
use Rattle.mx_kst.specs.KnownSegments.{KnownSegments}
use Rattle.mx_kst.specs.Lots.{numbers_left, lot_of, is_branch, is_section_of}
use Rattle.mx_kst.specs.Terminating as end
use Rattle.mx_kst.specs.declared.lots.Lot.{Lot}
use Rattle.mx_kst.specs.declared.lots.Lot.TheVariants.{Free, Stack, Branch, Linkage}
use Rattle.mx_mail.specs.Processes.{PlainProcess}
use Rattle.mx_pages.specs.declared.pages.PageRun.{PageRun}
use Rattle.mx_request.specs.Versions.{last_number}
use Rattle.mx_request.specs.declared.replies.Reply.TheVariants.{Done}
use Rattle.mx_state.specs.declared.states.ProcessState.{ProcessState}
use Rattle.mx_state.specs.Askers.{on_process}
use Rattle.mx_state.specs.Changes.{AreChanges}
use Rattle.mx_state.specs.Connecting.{connect, connect_refusals, with_section_page}
use Rattle.mx_state.specs.Known.{IsConnected, knowing, section_or_refusal}
use Rattle.mx_state.specs.Knowing.{terminate}
use Rattle.mx_state.specs.Plain.{Plain, Answer, answer, process_at}
use Rattle.mx_state.specs.NextRun.{IsApart, IsFreed, one_page, section_run}
use Rattle.mx_state.specs.Renewing.{held_two, renewed}
use Rattle.mx_state.specs.Replies.{telling}
use Rattle.mx_state.specs.Sections.{needs_section, section_by, section_made, section_page, with_page_back}
use Rattle.mx_state.specs.Serving.{Serves}
use Rattle.mx_state.specs.Sound.{IsSound, IsSoundProcess, HoldsSound}
use Rattle.mx_state.specs.Table.{descriptor}
use Rattle.mx_state.proofs.ConnectingLaws.{connect_granted, connected_by, initiated_last, initiated_lots, lots_apart, made_by}
use Rattle.mx_state.proofs.AnswerLaws.{plain_state}
use Rattle.mx_state.proofs.Descriptors.{AreNumbered, process_at_place, changes_are_bounded, sound_numbered}
use Rattle.mx_state.proofs.GivenLaws.{freeing_gives_none, run_freed, section_freed, section_next}
use Rattle.mx_state.proofs.PageLaws.{known_once, ended_once}
use Rattle.mx_state.proofs.ProcessLaws.{in_place, replaced_is_sound, replaced_numbered, others_stay, to_process}
use Rattle.mx_state.proofs.RenewingLaws.{renewing_two}

-- a process that knows this
abbrev pub knower : ProcessState → KnownSegments → ProcessState
knower process k = record process { known = k }

-- a section that is made is on the page that is given out
section_on : (h : Hierarchy) (links : ℕ) (brackets : Option Bracketing) (page : Option ℕ) → page_given h ≡ page
    → IfSome (section_by links brackets page) (λ s. page_given h ≡ Some s.page)
section_on h links (Some brackets) (Some page) given = given
section_on h links (Some brackets) None given = tt
section_on h links None page given = tt

section_made_on : (h : Hierarchy) (k : KnownSegments) (uid : ℕ) → IfSome (section_made h k uid) (λ s. page_given h ≡ Some s.page)
section_made_on h k uid = by_need (needs_section h k uid)
  where
    by_need : (needs : Bool) → IfSome (cond needs (section_by (links_at h uid) (linkage_brackets_at h uid) (page_given h)) None) (λ s. page_given h ≡ Some s.page)
    by_need true = section_on h (links_at h uid) (linkage_brackets_at h uid) (page_given h) refl
    by_need false = tt

on_page_given : (h : Hierarchy) (k : KnownSegments) (uid ring : ℕ) (name : Option (List ℕ)) (section : Option PlainSection)
    → section_or_refusal h k uid ring name ≡ Ok section → IfSome section (λ s. page_given h ≡ Some s.page)
on_page_given h k uid ring name section e = by_refusals (first_of (connect_refusals h k uid ring name)) e
  where
    by_refusals : (why : Option Refusal) → unless why (section_made h k uid) ≡ Ok section → IfSome section (λ s. page_given h ≡ Some s.page)
    by_refusals None e =
        let same : section_made h k uid ≡ section = cc in
        subst (λ o. IfSome o (λ s. page_given h ≡ Some s.page)) same (section_made_on h k uid)
    by_refusals (Some why) e = absurd (cc)

-- a page that is given out keeps a state sound
paged_is_sound : (version : ℕ) (h : Hierarchy) (mail : List PlainProcess) (processes : List ProcessState) → IsSound (plain_state version h mail processes)
    → IsSound (plain_state version (with_page_given h) mail processes)
paged_is_sound version h mail processes sound =
    record { process_count = sound.process_count; mail_count = sound.mail_count; processes = sound.processes }

-- a segment becomes known, or gets a further name
module _ (version : ℕ) (h : Hierarchy) (mail : List PlainProcess) (processes : List ProcessState) (i : ℕ) (process : ProcessState) (uid ring : ℕ)
    (name : Option (List ℕ)) (section : Option PlainSection) (given : Initiated) (e : slice_get processes i ≡ Some process)
    (asked : kst.initiate process.known uid ring name section ≡ Ok given) where
  -- where its page is given out, the hierarchy differs in its pages alone
  abbrev paged : Hierarchy
  paged = with_section_page h section

  with_page : (P : Hierarchy → Type 0) → P h → P (with_page_given h) → P paged
  with_page P before after = by_section section
    where
      by_section : (o : Option PlainSection) → P (with_section_page h o)
      by_section None = before
      by_section (Some section) = after

  knower_is_sound : (next : ℕ) → IsSoundProcess version next process → IfSome section (λ s. IsWithinPage s.page s.words) → uid < next
      → IsSoundProcess version next (knower process given.after)
  knower_is_sound next own within below = record {
    known = sound_initiated process.known uid ring name section given.known given.after own.known within asked;
    last = initiated_last process.known uid ring name section given asked ∙ own.last;
    made = λ n v f.
        made_by process.known.lots given.known uid next section below own.made n v
        (ap (λ lots. lot_of lots n) (sym (initiated_lots process.known uid ring name section given asked)) ∙ f);
  }

  pub known_holds : (principal : PlainPrincipal) (root : List (List ℕ)) → HoldsSound principal root (plain_state version h mail processes)
      → IfSome section (λ s. IsWithinPage s.page s.words) → uid < h.next → section_or_refusal h process.known uid ring name ≡ Ok section
      → HoldsSound principal root (plain_state version paged mail (knowing processes i process given.after))
  known_holds principal root holds within below meant =
      let sound = replaced_is_sound (plain_state version h mail processes) i (knower process given.after) holds.sound
      (knower_is_sound h.next (holds.sound.processes i process e) within below) in
      record {
        initializer_is = holds.initializer_is;
        root_is = holds.root_is;
        sound = with_page (λ k. IsSound (plain_state version k mail (knowing processes i process given.after))) sound
            (paged_is_sound version h mail (knowing processes i process given.after) sound);
        held_once = known_once version h mail processes i process (knower process given.after) given.known uid section e
            (initiated_lots process.known uid ring name section given asked) (on_page_given h process.known uid ring name section meant) holds.held_once;
      }

  -- only the descriptors of the numbers that are given now change
  module _ (p : ℕ) (first : 1 ≤ p) (here : p - 1 ≡ i) where
    abbrev old : Plain
    old = plain_state version h mail processes

    others_as_before : (q m : ℕ) → ((q ≡ p) × ((m ≡ length process.known.lots) ⊎ (m ≡ length process.known.lots + 1)) → ⊥)
        → descriptor old q m ≡ descriptor (plain_state version paged mail (knowing processes i process given.after)) q m
    others_as_before q m apart =
        let stays : descriptor old q m ≡ descriptor (in_place old i (knower process given.after)) q m =
        others_stay old p i process (knower process given.after) first here e (refl, refl)
        (initiated_last process.known uid ring name section given asked) q m
        (λ own. ap (λ lots. lot_of lots m) (initiated_lots process.known uid ring name section given asked)
        ∙ lots_apart process.known.lots given.known uid m section (λ f. apart (own, inl f)) (λ f. apart (own, inr f))) in
        with_page (λ k. descriptor old q m ≡ descriptor (plain_state version k mail (knowing processes i process given.after)) q m) stays stays

    pub known_changes : (next : ℕ) (held changes : List Change) → next ≡ length process.known.lots → held ≡ held_two h processes p next
        → changes ≡ renewed paged (knowing processes i process given.after) held
        → AreChanges old (plain_state version paged mail (knowing processes i process given.after)) changes
    known_changes next held changes at was now =
        rw (now, was, at) (renewing_two old (plain_state version paged mail (knowing processes i process given.after)) p
        (length process.known.lots) others_as_before)

    pub known_as_meant : (next : ℕ) (held changes : List Change) → next ≡ length process.known.lots → held ≡ held_two h processes p next
        → changes ≡ renewed paged (knowing processes i process given.after) held → All (λ c. IsAdmissible c.desc) changes
        → IsSound old → section_or_refusal h process.known uid ring name ≡ Ok section → IfSome section (λ s. IsWithinPage s.page s.words)
        → IsConnected old (plain_state version paged mail (knowing processes i process given.after)) p process
        (connect h process.known ring name uid) (record { known = given.known; changes = changes; given = section_run h section })
    known_as_meant next held changes at was now admissible sound meant within =
        let are = known_changes next held changes at was now in
        let count = length-set processes i (knower process given.after) in
        let numbered = replaced_numbered (last_number version) processes i (knower process given.after) (sound_numbered old sound)
        (initiated_last process.known uid ring name section given asked ∙ (sound.processes i process e).last) in
        record {
          after = connected_by h section given;
          as_meant = connect_granted h process.known uid ring name section given meant asked;
          known = refl;
          state = ap (λ k. plain_state version paged mail (slice_set processes k (knower process given.after))) (sym here);
          changes = are;
          given = section_next h section (on_page_given h process.known uid ring name section meant) within;
          bounded = changes_are_bounded old (plain_state version paged mail (knowing processes i process given.after)) changes sound numbered refl count are admissible;
          count = count;
        }

-- of the process that is there
pub same_process : (processes : List ProcessState) (p i : ℕ) (process own : ProcessState) → 1 ≤ p → p - 1 ≡ i
    → process_at processes p ≡ Some process → slice_get processes i ≡ Some own → process ≡ own
same_process processes p i process own first here e f =
    let there : slice_get processes i ≡ Some process = ap (slice_get processes) (sym here) ∙ sym (process_at_place processes p first) ∙ e in
    cc

-- the same as the program's steps
pub known_next : (k : KnownSegments) (last left : ℕ) → known.IsSound k → last ≡ k.last → left ≡ numbers_left k.last k.lots
    → last + 1 - left ≡ length k.lots
known_next k last left sound same e = omega (arith, same, e, sound.within)

pub connected_as : (version : ℕ) (h after : Hierarchy) (mail : List PlainProcess) (processes new : List ProcessState) (old : Plain) (p i : ℕ) (process own : ProcessState)
    (uid ring next : ℕ) (name : Option (List ℕ)) (section : Option PlainSection) (given : Initiated) (held changes : List Change) (run : Option PageRun)
    → plain_state version h mail processes ≡ old → IsSound (plain_state version h mail processes) → 1 ≤ p → p - 1 ≡ i → slice_get processes i ≡ Some own
    → process_at old.processes p ≡ Some process → section_or_refusal h own.known uid ring name ≡ Ok section
    → kst.initiate own.known uid ring name section ≡ Ok given → new ≡ knowing processes i own given.after → after ≡ with_section_page h section
    → run ≡ section_run h section → IfSome section (λ s. IsWithinPage s.page s.words) → next ≡ length own.known.lots → held ≡ held_two h processes p next → changes ≡ renewed after new held → All (λ c. IsAdmissible c.desc) changes
    → IsConnected old (plain_state version after mail new) p process (connect old.hierarchy process.known ring name uid)
    (record { known = given.known; changes = changes; given = run })
connected_as version h after mail processes new old p i process own uid ring next name section given held changes run view sound first here place there meant asked set paged taken within at was now admissible =
    let same : process ≡ own =
    same_process processes p i process own first here (ap (λ (t : Plain). process_at t.processes p) view ∙ there) place in
    let is : IsConnected (plain_state version h mail processes) (plain_state version after mail new) p process (connect h process.known ring name uid)
    (record { known = given.known; changes = changes; given = run }) =
    rw (same, paged, set, taken) (known_as_meant version h mail processes i own uid ring name section given place asked p first here next held changes at was
    (now ∙ (λ k. renewed (paged k) (set k) held)) admissible sound meant within) in
    subst (λ (t : Plain). IsConnected t (plain_state version after mail new) p process (connect t.hierarchy process.known ring name uid)
    (record { known = given.known; changes = changes; given = run })) view is

-- `terminate`: a segment's number, and its linkage section's, stand for nothing more
pub ended_lots : (k after : KnownSegments) (segno : ℕ) → end.terminate k segno ≡ Some after
    → (is_branch (lot_of k.lots segno) ≡ true) × (after.lots ≡ end.lots_without segno k.lots) × (after.last ≡ k.last)
ended_lots k after segno e = by_test (is_branch (lot_of k.lots segno)) refl e
  where
    by_test : (b : Bool) → is_branch (lot_of k.lots segno) ≡ b
        → cond b (Some (record k { lots = end.lots_without segno k.lots; names = map (end.names_without segno) k.names })) None ≡ Some after
        → (is_branch (lot_of k.lots segno) ≡ true) × (after.lots ≡ end.lots_without segno k.lots) × (after.last ≡ k.last)
    by_test true t e =
        let same : record k { lots = end.lots_without segno k.lots; names = map (end.names_without segno) k.names } ≡ after = cc in
        (t, ap (λ (k : KnownSegments). k.lots) (sym same), ap (λ (k : KnownSegments). k.last) (sym same))
    by_test false t e = absurd (cc)

-- a segment that stands there stood there
stood : (lots : List Lot) (segno n v : ℕ) → lot_of (end.lots_without segno lots) n ≡ Branch v → lot_of lots n ≡ Branch v
stood lots segno n v e = by_test (n == segno || is_section_of segno (lot_of lots n)) (sym (freed lots segno n) ∙ e)
  where
    by_test : (b : Bool) → cond b Free (lot_of lots n) ≡ Branch v → lot_of lots n ≡ Branch v
    by_test true f = absurd (cc)
    by_test false f = f

-- a lot that is neither the number's nor the next stays
stays_apart : (k : KnownSegments) (segno m : ℕ) → known.IsSound k → (m ≡ segno → ⊥) → (m ≡ segno + 1 → ⊥)
    → lot_of (end.lots_without segno k.lots) m ≡ lot_of k.lots m
stays_apart k segno m sound apart beyond =
    freed k.lots segno m
    ∙ ap (λ b. cond b Free (lot_of k.lots m))
    (either (m == segno) (is_section_of segno (lot_of k.lots m)) (ne_eqb m segno apart) (no_section (lot_of k.lots m) refl))
  where
    either : (a b : Bool) → a ≡ false → b ≡ false → (a || b) ≡ false
    either a b e f = rw (e, f) refl

    no_section : (lot : Lot) → lot_of k.lots m ≡ lot → is_section_of segno lot ≡ false
    no_section Free e = refl
    no_section (Stack ring) e = refl
    no_section (Branch uid) e = refl
    no_section (Linkage of page brackets words) e =
        let next = (sound.section_next m of page words brackets e).0 in
        ne_eqb of segno (λ same. beyond (next ∙ ap (λ n. n + 1) same))

-- a page that is freed keeps a state sound, and its descriptors
back_is_sound : (version : ℕ) (h : Hierarchy) (page : Option ℕ) (mail : List PlainProcess) (processes : List ProcessState)
    → IsSound (plain_state version h mail processes) → IsSound (plain_state version (with_page_back h page) mail processes)
back_is_sound version h None mail processes sound = sound
back_is_sound version h (Some page) mail processes sound =
    record { process_count = sound.process_count; mail_count = sound.mail_count; processes = sound.processes }

back_shows : (version : ℕ) (h : Hierarchy) (page : Option ℕ) (mail : List PlainProcess) (processes : List ProcessState) (q m : ℕ)
    → descriptor (plain_state version h mail processes) q m ≡ descriptor (plain_state version (with_page_back h page) mail processes) q m
back_shows version h None mail processes q m = refl
back_shows version h (Some page) mail processes q m = refl

pub ended_holds : (version : ℕ) (h k : Hierarchy) (mail : List PlainProcess) (processes new : List ProcessState) (i : ℕ) (process : ProcessState) (segno : ℕ)
    (page : Option ℕ) (after : KnownSegments) (principal : PlainPrincipal) (root : List (List ℕ)) → HoldsSound principal root (plain_state version h mail processes)
    → slice_get processes i ≡ Some process → end.terminate process.known segno ≡ Some after → new ≡ knowing processes i process after
    → page ≡ section_page process.known segno → k ≡ with_page_back h page
    → HoldsSound principal root (plain_state version k mail new)
ended_holds version h k mail processes new i process segno page after principal root holds e ends set goes back =
    let own = holds.sound.processes i process e in
    let is = ended_lots process.known after segno ends in
    let gone : k ≡ with_page_back h (section_page process.known segno) = back ∙ ap (with_page_back h) goes in
    record {
      initializer_is = holds.initializer_is;
      root_is = holds.root_is;
      sound = rw (gone, set) (back_is_sound version h (section_page process.known segno) mail (knowing processes i process after)
          (replaced_is_sound (plain_state version h mail processes) i (knower process after) holds.sound (record {
            known = sound_terminated process.known after segno own.known ends;
            last = is.2 ∙ own.last;
            made = λ n v f. own.made n v (stood process.known.lots segno n v (ap (λ (lots : List Lot). lot_of lots n) (sym is.1) ∙ f));
          })));
      held_once = rw (gone, set) (ended_once version h mail processes i segno process (knower process after) e is.1 holds.held_once);
    }

pub ended_serves : (version : ℕ) (h k : Hierarchy) (mail : List PlainProcess) (processes new : List ProcessState) (p i : ℕ) (process : ProcessState) (segno : ℕ)
    (page : Option ℕ) (after : KnownSegments) (held changes : List Change) (freed : Option PageRun) (ask : ProcessState → Answer)
    → IsSound (plain_state version h mail processes) → IfSome page (IsApart h) → 1 ≤ p → p - 1 ≡ i → slice_get processes i ≡ Some process
    → ask process ≡ terminate (plain_state version h mail processes) p process (section_page process.known segno) (end.terminate process.known segno)
    → end.terminate process.known segno ≡ Some after → new ≡ knowing processes i process after
    → page ≡ section_page process.known segno → k ≡ with_page_back h page → freed ≡ option_map one_page page
    → held ≡ held_two h processes p segno → changes ≡ renewed k new held → All (λ c. IsAdmissible c.desc) changes
    → Serves (plain_state version h mail processes) (plain_state version k mail new) (on_process (plain_state version h mail processes) p ask)
    (telling Done changes freed)
ended_serves version h k mail processes new p i process segno page after held changes freed ask sound apart_page first here e meant ends set goes back frees was now admissible =
    let s = plain_state version h mail processes in
    let own = sound.processes i process e in
    let is = ended_lots process.known after segno ends in
    let t = plain_state version (with_page_back h page) mail (knowing processes i process after) in
    let two : AreChanges s t (renewed (with_page_back h page) (knowing processes i process after) (held_two h processes p segno)) =
    renewing_two s t p segno
    (λ q m apart. others_stay s p i process (knower process after) first here e (refl, refl) is.2 q m
    (λ at. ap (λ (lots : List Lot). lot_of lots m) is.1
    ∙ stays_apart process.known segno m own.known (λ f. apart (at, inl f)) (λ f. apart (at, inr f)))
    ∙ back_shows version h page mail (knowing processes i process after) q m) in
    let are : AreChanges s (plain_state version k mail new) changes = rw (now, was, back, set) two in
    let run : IsFreed h.pages k.pages freed = rw (back, frees) (section_freed h page apart_page) in
    let count : length new ≡ length processes = ap length set ∙ length-set processes i (knower process after) in
    let numbered : AreNumbered (last_number version) new =
    rw set (replaced_numbered (last_number version) processes i (knower process after) (sound_numbered s sound) (is.2 ∙ own.last)) in
    record {
      as_meant = to_process s p i process ask first here e ∙ meant ∙ ap (terminate s p process (section_page process.known segno)) ends
          ∙ ap (λ i. answer Done (plain_state version (with_page_back h (section_page process.known segno)) mail (slice_set processes i (knower process after)))) here
          ∙ ap (λ (k : Hierarchy). answer Done (plain_state version k mail (knowing processes i process after))) (sym (back ∙ ap (with_page_back h) goes))
          ∙ ap (λ xs. answer Done (plain_state version k mail xs)) (sym set);
      changes = are;
      given = freeing_gives_none s (plain_state version k mail new) freed run;
      freed = run_freed s (plain_state version k mail new) freed run;
      bounded = changes_are_bounded s (plain_state version k mail new) changes sound numbered refl count are admissible;
      version = refl;
      count = count;
    }
