-- What the office keeps under its lock holds again after an entry.
use Rattle.std.proofs.Common.{◌≡◌, ◌≢◌, ◌⊎◌, inl, inr, ℕ, zero, suc, ◌+◌, ◌-◌, ◌*◌, ◌/◌, ◌<◌, ◌≤◌, Bool, true, false, not, List, [], ◌∷◌, ◌++◌, length, map, take, Option, Some, None, IfSome, slice_get, refl, sym, ap, ◌∙◌, subst, arith, nat_le, nat_lt, length-append}
use Rattle.std.proofs.lemmas.Bool.{cases_eq, cases_lt}
use Rattle.std.proofs.lemmas.Bool.Decides.{nat_tests}
use Rattle.std.proofs.lemmas.List.{length-map, map-append}
use Rattle.std.proofs.lemmas.Option.{slice_get_past}
use Rattle.std.specs.Prelude.{IsTrue, ◌&&◌, ◌||◌}
use Rattle.mx_core.proofs.Puts.{put_all, put_else, put_here}
use Rattle.mx_core.specs.Append.{with_changes}
use Rattle.mx_core.specs.Pages.{covered_anew, covers, gives, page_of}
use Rattle.mx_core.specs.declared.changes.Change.{Change}
use Rattle.mx_core.specs.declared.changes.Run.{Run}
use Rattle.mx_pages.specs.Runs.{IsPageRun, is_free, page_count}
use Rattle.mx_pages.specs.declared.pages.PageRun.{PageRun}
use Rattle.mx_request.specs.Versions.{last_number}
use Rattle.mx_rule.specs.Appending.{MayAppend}
use Rattle.mx_rule.specs.Notes.{noting_view}
use Rattle.mx_rule.specs.Shown.{clean_of, first_clean, office_of, ready_of, reported_of}
use Rattle.mx_rule.specs.Telling.{AreRightWords}
use Rattle.mx_rule.specs.declared.layout.Layout.{Layout}
use Rattle.mx_rule.specs.declared.views.Cleaning.{Cleaning}
use Rattle.mx_rule.specs.declared.views.Cleaning.TheVariants.{Covered}
use Rattle.mx_rule.specs.declared.views.EntryView.{EntryView}
use Rattle.mx_rule.specs.declared.views.PassView.{PassView}
use Rattle.mx_rule.specs.declared.views.ReportView.{ReportView}
use Rattle.mx_rule.specs.declared.views.SuperView.{SuperView}
use Rattle.mx_script.specs.Sessions.{Outline}
use Rattle.mx_sdw.specs.Admissible.{IsAdmissible}
use Rattle.mx_sdw.specs.Descriptors.{Descriptor, unknown_desc}
use Rattle.mx_state.proofs.Descriptors.{process_at_place}
use Rattle.mx_state.proofs.NumberedLaws.{unknown_law}
use Rattle.mx_state.specs.Changes.{IsBounded}
use Rattle.mx_state.specs.Given.{frees, is_page_of}
use Rattle.mx_state.specs.Given as given
use Rattle.mx_state.specs.History.{replay}
use Rattle.mx_state.specs.Pages.{AreFreePagesBare}
use Rattle.mx_state.specs.Plain.{Plain}
use Rattle.mx_state.specs.Table.{descriptor, process_desc}
use Rattle.mx_state.specs.declared.journal.Entry as journaled
use Rattle.mx_state.specs.declared.states.ProcessState.{ProcessState}
use Rattle.mx_sup.specs.Entering.{HasCome}
use Rattle.mx_sup.specs.Supervised.{IsHistory, Supervised, state_of, supervised}
use Rattle.mx_sup.specs.declared.supervisors.Entered.{Entered}
use Rattle.mx_ties.specs.Closed.{entry_in, followed}
use Rattle.mx_ties.specs.Views.{Marked}
use Rattle.mx_transcript.specs.Access.{descriptor_at}
use Rattle.mx_transcript.specs.Misses.{IsChanged}
use Rattle.mx_office.specs.Revoking.{IsListed}
use Rattle.mx_transcript.specs.Opened.{opening_of}
use Rattle.mx_office.specs.Announcing.{Coming, MayAnnounce, announced_view, came_view, coming}
use Rattle.mx_office.specs.Clearing.{cleaned, cleaned_pages}
use Rattle.mx_office.specs.Locked.{ArePages, IsLocked, state_at}
use Rattle.mx_closing.proofs.Covering.{covers_within}
use Rattle.mx_closing.specs.Views.{marked_in}
use Rattle.mx_office.specs.Serving.{runs_of}
use Rattle.mx_office.proofs.Comings.{admissible_new, all_at, both_true, covered_by, each_new, from_true, listed_new, not_true, or_left, or_right, pairs_once, run_within, runs_give, table_new, to_true}

-- an entry of a history with its mark
abbrev pub marked_of : EntryView journaled.Entry → Marked
marked_of e = record { entry = e.entry; mark = e.mark }

-- what is reported, or noted, changes nothing of it
pub locked_as : (x : Outline) (setup : List journaled.Entry) (y : Layout) (s : Supervised)
    (v : SuperView journaled.Entry) (total : ℕ) (reported : List ReportView) (made : ℕ) → IsLocked x setup y s v total
    → IsLocked x setup y s (record v { reported = reported; made = made }) total
locked_as x setup y s v total reported made l = record {
  session = l.session;
  history = l.history;
  opened = l.opened;
  laid = l.laid;
  rest = l.rest;
  journal = l.journal;
  start = l.start;
  makers = l.makers;
  tables = l.tables;
  admissible = l.admissible;
  words = l.words;
  pages = record { clean = l.pages.clean; ready = l.pages.ready; given = l.pages.given };
  counted = l.counted;
  dealt = l.dealt;
  out = l.out;
}

take_all : {X : Type 0} (xs : List X) → take (length xs) xs ≡ xs
take_all [] = refl
take_all (x ∷ xs) = ap (λ ys. x ∷ ys) (take_all xs)

take_old : {X : Type 0} (xs ys : List X) (n : ℕ) → n ≤ length xs → take n (xs ++ ys) ≡ take n xs
take_old [] ys zero low = refl
take_old [] ys (suc n) low = absurd (omega arith)
take_old (x ∷ xs) ys zero low = refl
take_old (x ∷ xs) ys (suc n) low = ap (λ zs. x ∷ zs) (take_old xs ys n (omega arith))

pub marked_length : (h : List (EntryView journaled.Entry)) → length (marked_in h) ≡ length h
marked_length [] = refl
marked_length (e ∷ es) = length-append (marked_in es) (marked_of e ∷ []) ∙ (let z = marked_length es in omega arith)

followed_length : (setup : List journaled.Entry) (m : List Marked) → length (followed setup m) ≡ length setup + length m
followed_length setup m = length-append setup (map entry_in m) ∙ (let z = length-map m entry_in in omega arith)

pub append_one : {X : Type 0} (xs ys : List X) (z : X) → xs ++ (ys ++ z ∷ []) ≡ (xs ++ ys) ++ z ∷ []
append_one [] ys z = refl
append_one (x ∷ xs) ys z = ap (λ zs. x ∷ zs) (append_one xs ys z)

followed_more : (setup : List journaled.Entry) (m : List Marked) (e : Marked)
    → followed setup (m ++ e ∷ []) ≡ followed setup m ++ e.entry ∷ []
followed_more setup m e = ap (λ (z : List journaled.Entry). setup ++ z) (map-append entry_in m (e ∷ []))
    ∙ append_one setup (map entry_in m) e.entry

-- the journal is as long as the supervisor at the shared words knows it
pub journal_length : (x : Outline) (setup : List journaled.Entry) (y : Layout) (s : Supervised)
    (v : SuperView journaled.Entry) (total : ℕ) → IsLocked x setup y s v total → v.start + length v.history ≡ v.length
    → length s.journal ≡ v.length
journal_length x setup y s v total l counted =
    let a = ap (λ (j : List journaled.Entry). length j) l.journal in
    let b = followed_length setup (marked_in v.history) in
    let c = marked_length v.history in
    let d = l.start in omega arith

pub nobody_beyond : (s : Plain) (p n : ℕ) → length s.processes < p → descriptor s p n ≡ unknown_desc
nobody_beyond s p n past = ap (λ (o : Option ProcessState). process_desc s.hierarchy p o n)
    (process_at_place s.processes p (omega arith) ∙ slice_get_past s.processes (p - 1) (omega arith))

-- cells that are cleared are clean, others stay so; pages without such a cell stay ready
cleaned_here : (first : ℕ → Bool) (low count cell : ℕ) (xs : List Cleaning) → low ≤ cell → cell < low + count
    → IsTrue (clean_of first (cleaned low count xs) cell)
cleaned_here first low zero cell xs from to = absurd (omega arith)
cleaned_here first low (suc count) cell xs from to = put_all
    (λ j (b : Bool). low ≤ j → j < low + suc count → IsTrue b) (clean_of first (cleaned low count xs)) (low + count) true
    (λ a b. to_true true refl) (λ j ne a b. cleaned_here first low count j xs a (omega arith)) cell from to

cleaned_stays : (first : ℕ → Bool) (low count cell : ℕ) (xs : List Cleaning) → IsTrue (clean_of first xs cell)
    → IsTrue (clean_of first (cleaned low count xs) cell)
cleaned_stays first low zero cell xs h = h
cleaned_stays first low (suc count) cell xs h = put_all (λ j (b : Bool). IsTrue (clean_of first xs j) → IsTrue b)
    (clean_of first (cleaned low count xs)) (low + count) true (λ k. to_true true refl)
    (λ j ne k. cleaned_stays first low count j xs k) cell h

ready_stays : (low count page : ℕ) (xs : List Cleaning) → ((cell : ℕ) → low ≤ cell → cell < low + count → page_of cell ≢ page)
    → ready_of (cleaned low count xs) page ≡ ready_of xs page
ready_stays low zero page xs apart = refl
ready_stays low (suc count) page xs apart =
    put_else (ready_of (cleaned low count xs)) (page_of (low + count)) false page
    (λ e. apart (low + count) (omega arith) (omega arith) (sym e))
    ∙ ready_stays low count page xs (λ cell a b. apart cell a (omega arith))

pages_cleaned : (first : ℕ → Bool) (run : Option PageRun) (cell : ℕ) (xs : List Cleaning)
    → is_page_of run (page_of cell) ≡ true → IsTrue (clean_of first (cleaned_pages run xs) cell)
pages_cleaned first None cell xs has = cc
pages_cleaned first (Some run) cell xs has =
    let parts = both_true (nat_le run.first (page_of cell)) (nat_lt (page_of cell) (run.first + run.count)) has in
    let low : run.first ≤ cell / 64 = (let t = parts.0 in grind (arith, nat_tests)) in
    let high : cell / 64 < run.first + run.count = (let t = parts.1 in grind (arith, nat_tests)) in
    cleaned_here first (64 * run.first) (64 * run.count) cell xs (omega arith) (omega arith)

pages_stay_clean : (first : ℕ → Bool) (run : Option PageRun) (cell : ℕ) (xs : List Cleaning)
    → IsTrue (clean_of first xs cell) → IsTrue (clean_of first (cleaned_pages run xs) cell)
pages_stay_clean first None cell xs h = h
pages_stay_clean first (Some run) cell xs h = cleaned_stays first (64 * run.first) (64 * run.count) cell xs h

pages_stay_ready : (run : Option PageRun) (page : ℕ) (xs : List Cleaning) → is_page_of run page ≡ false
    → ready_of (cleaned_pages run xs) page ≡ ready_of xs page
pages_stay_ready None page xs out = refl
pages_stay_ready (Some run) page xs out = ready_stays (64 * run.first) (64 * run.count) page xs (λ cell from to is.
    (let low : run.first ≤ cell / 64 = omega arith in
    let high : cell / 64 < run.first + run.count = omega arith in
    let here : cell / 64 ≡ page = is in
    let first : nat_le run.first page ≡ true = grind (arith, nat_tests) in
    let last : nat_lt page (run.first + run.count) ≡ true = grind (arith, nat_tests) in
    absurd (true_false (sym (ap (λ (z : Bool × Bool). z.0 && z.1) (λ i. (first i, last i))) ∙ out))))
  where
    true_false : true ≡ false → ⊥
    true_false e = cc

module _ (x : Outline) (setup : List journaled.Entry) (y : Layout) (s s' : Supervised) (v : SuperView journaled.Entry)
    (total : ℕ) (l : IsLocked x setup y s v total) (entry : journaled.Entry) (came : Entered) (come : HasCome s s' came)
    (more : s' ≡ supervised s.session (s.journal ++ entry ∷ [])) (bare : AreFreePagesBare (state_of s'))
    (few : length (state_of s).processes ≡ length s.session.principals)
    (few' : length (state_of s').processes ≡ length s'.session.principals)
    (counted : v.start + length v.history ≡ v.length) where
  abbrev old : Plain
  old = state_of s

  abbrev new : Plain
  new = state_of s'

  abbrev pub e : Coming journaled.Entry
  e = coming entry.process came.changes (runs_of came.given) came.freed entry

  pub length_is : length s.journal ≡ v.length
  length_is = journal_length x setup y s v total l counted

  journal_is : s'.journal ≡ s.journal ++ entry ∷ []
  journal_is = ap (λ (z : Supervised). z.journal) more

  session_is : s'.session ≡ s.session
  session_is = ap (λ (z : Supervised). z.session) more

  -- the states at the ends of the journals
  old_at : state_at x s.journal v.length ≡ old
  old_at = (λ i. replay (opening_of (sym l.session i)) ((ap (λ (n : ℕ). take n s.journal) (sym length_is) ∙ take_all s.journal) i))

  new_length : length s'.journal ≡ v.length + 1
  new_length = (let a = ap (λ (j : List journaled.Entry). length j) journal_is in
      let b = length-append s.journal (entry ∷ []) in let c = length_is in omega arith)

  new_at : state_at x s'.journal (v.length + 1) ≡ new
  new_at = (λ i. replay (opening_of ((sym l.session ∙ sym session_is) i))
      ((ap (λ (n : ℕ). take n s'.journal) (sym new_length) ∙ take_all s'.journal) i))

  still_at : (q : ℕ) → q ≤ v.length → state_at x s'.journal q ≡ state_at x s.journal q
  still_at q low = ap (replay (opening_of x)) (ap (take q) journal_is
      ∙ take_old s.journal (entry ∷ []) q (let z = length_is in omega arith))

  now_is : (p n : ℕ) → (office_of v).table v.length p n ≡ descriptor old p n
  now_is p n = l.tables v.length p n (omega arith) (omega arith) ∙ ap (λ (z : Plain). descriptor z p n) old_at

  next_is : (p n : ℕ) → with_changes came.changes ((office_of v).table v.length) p n ≡ descriptor new p n
  next_is p n = table_new old new came.changes come.changes ((office_of v).table v.length) now_is p n

  old_admissible : (p n : ℕ) → IsAdmissible (descriptor old p n)
  old_admissible p n = subst IsAdmissible (now_is p n) (l.admissible v.length p n (omega arith) (omega arith))

  new_admissible : (p n : ℕ) → IsAdmissible (descriptor new p n)
  new_admissible = admissible_new old new came.changes come.changes (last_number old.version) come.bounded old_admissible

  came_table : (office_of (came_view e v)).table (v.length + 1) ≡ with_changes came.changes ((office_of v).table v.length)
  came_table = put_here (office_of v).table (v.length + 1) (with_changes came.changes ((office_of v).table v.length))

  -- what is covered afterwards is not free
  covered_taken : (p n page : ℕ) → IsTrue (covers (descriptor new p n) page) → is_free new.hierarchy.pages page ≡ false
  covered_taken p n page h = by_test (is_free new.hierarchy.pages page) refl
    where
      by_test : (b : Bool) → is_free new.hierarchy.pages page ≡ b → b ≡ false
      by_test true is = absurd (bare p n page (new_admissible p n)
          (covers_within (descriptor new p n) page (new_admissible p n) h) is h)
      by_test false is = refl

  -- a page that is free after, and was not freed, was free; one that is not free after, and not given, was not free
  page_before : (page : ℕ) → page < page_count → is_page_of came.freed page ≡ false → is_free new.hierarchy.pages page ≡ true
      → is_free old.hierarchy.pages page ≡ true
  page_before page low kept free = by_test (is_free old.hierarchy.pages page) refl
    where
      by_test : (b : Bool) → is_free old.hierarchy.pages page ≡ b → b ≡ true
      by_test true is = refl
      by_test false is =
          let each = come.freed.each page low in
          let t = ap (λ (z : Bool × Bool). not z.0 && z.1) (λ i. (is i, free i)) in cc

  given_or_ready : (page : ℕ) → page < page_count → is_free new.hierarchy.pages page ≡ false
      → IsTrue (gives (runs_of came.given) page || (office_of v).ready page)
  given_or_ready page low taken = by_test (is_free old.hierarchy.pages page) refl
    where
      by_test : (b : Bool) → is_free old.hierarchy.pages page ≡ b
          → IsTrue (gives (runs_of came.given) page || (office_of v).ready page)
      by_test true is =
          let t = ap (λ (z : Bool × Bool). z.0 && not z.1) (λ i. (is i, taken i)) in
          or_left (gives (runs_of came.given) page) ((office_of v).ready page)
          (runs_give came.given page ∙ come.given.each page low ∙ t)
      by_test false is = or_right (gives (runs_of came.given) page) ((office_of v).ready page)
          (from_true ((office_of v).ready page) (l.pages.ready page low is))

  not_covered_anew : (page : ℕ) → is_free new.hierarchy.pages page ≡ true → covered_anew came.changes page ≡ false
  not_covered_anew page free = by_test (covered_anew came.changes page) refl
    where
      true_false : true ≡ false → ⊥
      true_false is = cc

      by_test : (b : Bool) → covered_anew came.changes page ≡ b → b ≡ false
      by_test false is = refl
      by_test true is =
          let found = covered_by came.changes page is in
          let c : Change = found.1.0 in
          let covered = subst (λ (d : Descriptor). IsTrue (covers d page))
          (sym (each_new old new came.changes come.changes found.0 c found.1.1.0).0) found.1.1.1 in
          absurd (true_false (sym free ∙ covered_taken c.process c.segno page covered))

  given_free : (page : ℕ) → IsTrue (gives (runs_of came.given) page)
      → (page < page_count) × (is_free old.hierarchy.pages page ≡ true)
  given_free page has =
      let mine : is_page_of came.given page ≡ true =
      sym (runs_give came.given page) ∙ from_true (gives (runs_of came.given) page) has in
      let low = run_within came.given page come.given.some mine in (
        low,
        (both_true (is_free old.hierarchy.pages page) (not (is_free new.hierarchy.pages page))
            (sym (come.given.each page low) ∙ mine)).0,
      )

  changed_range : (i : ℕ) (c : Change) → slice_get came.changes i ≡ Some c
      → (c.process ≤ length x.principals) × (c.segno < last_number x.version + 1)
  changed_range i c at = (
    elim (cases_lt (length x.principals) c.process) [
      | inl past ↦ absurd (differs (nobody_beyond old c.process c.segno
          (let a = few in let b = ap (λ (z : Outline). length z.principals) l.session in omega arith))
          (nobody_beyond new c.process c.segno (let a = few' in
          let b = ap (λ (z : Outline). length z.principals) (session_is ∙ l.session) in omega arith)))
      | inr within ↦ within
    ],
    elim (cases_lt (last_number x.version) c.segno) [
      | inl beyond ↦ absurd (differs (unknown_at s l.session beyond) (unknown_at s' (session_is ∙ l.session) beyond))
      | inr within ↦ omega arith
    ],
  )
    where
      differs : descriptor old c.process c.segno ≡ unknown_desc → descriptor new c.process c.segno ≡ unknown_desc → ⊥
      differs a b = let each = each_new old new came.changes come.changes i c at in each.1 (a ∙ sym b ∙ each.0)

      unknown_at : (z : Supervised) → z.session ≡ x → last_number x.version < c.segno
          → descriptor (state_of z) c.process c.segno ≡ unknown_desc
      unknown_at z same beyond = unknown_law z.session.version z.session.principals z.journal c.process c.segno
          (subst (λ (o : Outline). last_number o.version < c.segno) (sym same) beyond)

  may_append : v.processes ≡ y.processes → v.numbers ≡ y.numbers → 1 ≤ entry.process → entry.process ≤ length x.principals
      → v.length < 262143 → MayAppend (office_of v) entry.process came.changes (runs_of came.given)
  may_append processes numbers some most limit = record {
    low = some;
    high = (let a = l.laid.processes in omega arith);
    each = λ i c at.
        let b = all_at (IsBounded (last_number old.version)) came.changes i c come.bounded at in
        let range = changed_range i c at in (
          b.first,
          (let a = l.laid.processes in let r = range.0 in omega arith),
          (let a = l.laid.numbers in let r = range.1 in omega arith),
          b.admissible,
        );
    pair_once = pairs_once old new came.changes come.changes;
    pages = λ i r at. run_fits came.given come.given.some i r at;
    page_once = λ i j page a b at at' h h'. run_once came.given i j a b at at';
    limit = limit;
    rest = l.rest;
    clear = λ page has cell is.
        let free = given_free page has in
        l.pages.clean cell (subst (λ (k : ℕ). k < page_count) (sym is) free.0)
        (ap (is_free old.hierarchy.pages) is ∙ free.1);
    covered = λ page has.
        let found = covered_by came.changes page (from_true (covered_anew came.changes page) has) in
        let c : Change = found.1.0 in
        let covered = subst (λ (d : Descriptor). IsTrue (covers d page))
        (sym (each_new old new came.changes come.changes found.0 c found.1.1.0).0) found.1.1.1 in
        given_or_ready page
        (covers_within (descriptor new c.process c.segno) page (new_admissible c.process c.segno) covered)
        (covered_taken c.process c.segno page covered);
  }
    where
      same_run : (a b : Run) → Some a ≡ Some b → a ≡ b
      same_run a b is = cc

      run_fits : (run : Option PageRun) → IfSome run IsPageRun → (i : ℕ) (r : Run) → slice_get (runs_of run) i ≡ Some r
          → r.page + r.pages ≤ 1024
      run_fits None is i r at = cc
      run_fits (Some run) is zero r at = subst (λ (z : Run). z.page + z.pages ≤ 1024) (same_run _ r at) is.within
      run_fits (Some run) is (suc i) r at = cc

      run_once : (run : Option PageRun) (i j : ℕ) (a b : Run) → slice_get (runs_of run) i ≡ Some a
          → slice_get (runs_of run) j ≡ Some b → i ≡ j
      run_once None i j a b at at' = cc
      run_once (Some run) zero zero a b at at' = refl
      run_once (Some run) zero (suc j) a b at at' = cc
      run_once (Some run) (suc i) j a b at at' = cc

  pub may_announce : (u : PassView journaled.Entry) → v.processes ≡ y.processes → v.numbers ≡ y.numbers
      → entry.process ≡ u.process → 1 ≤ entry.process → entry.process ≤ length x.principals → v.length < 262143
      → u.floor ≤ v.answered → length u.trace ≤ reported_of v.reported u.process → MayAnnounce e v u
  may_announce u processes numbers own some most limit floor reported = record {
    own = own;
    rest = l.rest;
    floor = floor;
    reported = reported;
    may = may_append processes numbers some most limit;
    news = λ i c at is. (each_new old new came.changes come.changes i c at).1 (sym (now_is c.process c.segno) ∙ is);
    run = come.freed.some;
    bare = λ page has p n covered.
        let low = run_within came.freed page come.freed.some has in
        let free = (both_true (not (is_free old.hierarchy.pages page)) (is_free new.hierarchy.pages page)
        (sym (come.freed.each page low) ∙ has)).1 in
        let now = subst (λ (d : Descriptor). IsTrue (covers d page))
        (ap (λ (t : ℕ → ℕ → Descriptor). t p n) came_table ∙ next_is p n) covered in
        bare p n page (new_admissible p n) low free now;
  }

  abbrev after : SuperView journaled.Entry
  after = noting_view (announced_view e v)

  after_pages : ArePages s' after
  after_pages = record {
    clean = λ cell low free. by_freed cell low free (is_page_of came.freed (page_of cell)) refl;
    ready = λ page low taken.
        let kept : is_page_of came.freed page ≡ false = come.freed.each page low
        ∙ ap (λ (b : Bool). not (is_free old.hierarchy.pages page) && b) taken ∙ and_none (not (is_free old.hierarchy.pages page)) in
        subst IsTrue (sym (pages_stay_ready came.freed page
        (Covered came.changes (runs_of came.given) ∷ v.cleanings) kept)) (given_or_ready page low taken);
    given = λ q page from below low. by_place q page from below low (cases_eq q v.length);
  }
    where
      and_none : (b : Bool) → (b && false) ≡ false
      and_none true = refl
      and_none false = refl

      and_both : (a b : Bool) → IsTrue a → b ≡ false → IsTrue (a && not b)
      and_both true false h is = h
      and_both true true h is = cc
      and_both false b h is = absurd (not_true h)

      by_freed : (cell : ℕ) → page_of cell < page_count → is_free new.hierarchy.pages (page_of cell) ≡ true → (b : Bool)
          → is_page_of came.freed (page_of cell) ≡ b → IsTrue ((office_of after).clean cell)
      by_freed cell low free true is = pages_cleaned (first_clean v) came.freed cell
          (Covered came.changes (runs_of came.given) ∷ v.cleanings) is
      by_freed cell low free false is = pages_stay_clean (first_clean v) came.freed cell
          (Covered came.changes (runs_of came.given) ∷ v.cleanings)
          (and_both ((office_of v).clean cell) (covered_anew came.changes (page_of cell))
          (l.pages.clean cell low (page_before (page_of cell) low is free)) (not_covered_anew (page_of cell) free))

      still_by : (q : ℕ) → q ≤ v.length → state_at s.session s'.journal q ≡ state_at s.session s.journal q
      still_by q low = subst (λ (o : Outline). state_at o s'.journal q ≡ state_at o s.journal q) (sym l.session) (still_at q low)

      by_place : (q page : ℕ) → v.start ≤ q → q < v.length + 1 → page < page_count → (q ≡ v.length) ⊎ (q ≢ v.length)
          → (office_of after).given (q + 1) page
          ≡ given.gives (state_at s'.session s'.journal q) (state_at s'.session s'.journal (q + 1)) page
      by_place q page from below low (inl is) =
          subst (λ (k : ℕ). (office_of after).given (k + 1) page
          ≡ given.gives (state_at s'.session s'.journal k) (state_at s'.session s'.journal (k + 1)) page) (sym is)
          (ap (λ (f : ℕ → Bool). f page) (put_here (office_of v).given (v.length + 1) (gives (runs_of came.given)))
          ∙ runs_give came.given page ∙ come.given.each page low
          ∙ sym (λ i. given.gives ((ap (λ (o : Outline). state_at o s'.journal v.length) (session_is ∙ l.session)
          ∙ still_at v.length (omega arith) ∙ old_at) i)
          ((ap (λ (o : Outline). state_at o s'.journal (v.length + 1)) (session_is ∙ l.session) ∙ new_at) i) page))
      by_place q page from below low (inr ne) =
          ap (λ (f : ℕ → Bool). f page) (put_else (office_of v).given (v.length + 1) (gives (runs_of came.given)) (q + 1)
          (λ is. ne (omega arith)))
          ∙ l.pages.given q page from (omega arith) low
          ∙ sym (λ i. given.gives ((ap (λ (o : Outline). state_at o s'.journal q) session_is ∙ still_by q (omega arith)) i)
          ((ap (λ (o : Outline). state_at o s'.journal (q + 1)) session_is ∙ still_by (q + 1) (omega arith)) i) page)

  pub journal_after : (mark : ℕ)
      → s'.journal ≡ followed setup (marked_in v.history ++ record { entry = entry; mark = mark } ∷ [])
  journal_after mark = journal_is ∙ ap (λ (j : List journaled.Entry). j ++ entry ∷ []) l.journal
      ∙ sym (followed_more setup (marked_in v.history) (record { entry = entry; mark = mark }))

  -- a pair that the entry changed is listed
  pub changed_listed : (p n by : ℕ) → by ≡ v.length + 1 → IsChanged x s'.journal p n by → IsListed came.changes p n
  changed_listed p n by is changed = listed_new old new came.changes come.changes p n (λ same. changed.differs
      (ap (λ (k : ℕ). descriptor_at x s'.journal k p n) is ∙ ap (λ (z : Plain). descriptor z p n) new_at ∙ sym same
      ∙ sym (ap (λ (z : Plain). descriptor z p n) (still_at v.length (omega arith) ∙ old_at))
      ∙ ap (λ (k : ℕ). descriptor_at x s'.journal k p n) (let a = changed.next in omega arith)))

  -- with the entry in it
  pub locked_after : IsHistory s' → AreRightWords (office_of after) → IsLocked x setup y s' after (total + 1)
  locked_after history words = record {
    session = session_is ∙ l.session;
    history = history;
    opened = l.opened;
    laid = l.laid;
    rest = omega arith;
    journal = journal_after (reported_of v.reported entry.process);
    start = l.start;
    makers = (refl, sym counted, l.makers);
    tables = λ q p n from to. by_table q p n from to (cases_eq q (v.length + 1));
    admissible = λ q p n from to. by_point q p n from to (cases_eq q (v.length + 1));
    words = words;
    pages = after_pages;
    counted = (let a = l.counted in omega arith);
    dealt = l.dealt;
    out = l.out;
  }
    where
      by_point : (q p n : ℕ) → v.start ≤ q → q ≤ v.length + 1 → (q ≡ v.length + 1) ⊎ (q ≢ v.length + 1)
          → IsAdmissible ((office_of after).table q p n)
      by_point q p n from to (inl is) =
          subst (λ (k : ℕ). IsAdmissible ((office_of after).table k p n)) (sym is)
          (subst IsAdmissible (sym (ap (λ (t : ℕ → ℕ → Descriptor). t p n) came_table ∙ next_is p n)) (new_admissible p n))
      by_point q p n from to (inr ne) =
          subst IsAdmissible (sym (ap (λ (t : ℕ → ℕ → Descriptor). t p n)
          (put_else (office_of v).table (v.length + 1) (with_changes came.changes ((office_of v).table v.length)) q ne)))
          (l.admissible q p n from (omega arith))

      by_table : (q p n : ℕ) → v.start ≤ q → q ≤ v.length + 1 → (q ≡ v.length + 1) ⊎ (q ≢ v.length + 1)
          → (office_of after).table q p n ≡ descriptor_at x s'.journal q p n
      by_table q p n from to (inl is) =
          subst (λ (k : ℕ). (office_of after).table k p n ≡ descriptor_at x s'.journal k p n) (sym is)
          (ap (λ (t : ℕ → ℕ → Descriptor). t p n) came_table ∙ next_is p n
          ∙ sym (ap (λ (z : Plain). descriptor z p n) new_at))
      by_table q p n from to (inr ne) =
          ap (λ (t : ℕ → ℕ → Descriptor). t p n)
          (put_else (office_of v).table (v.length + 1) (with_changes came.changes ((office_of v).table v.length)) q ne)
          ∙ l.tables q p n from (omega arith) ∙ sym (ap (λ (z : Plain). descriptor z p n) (still_at q (omega arith)))
