-- A run whose processes have all run, and whose office is closed, is legal.
use Rattle.std.proofs.Common.{◌≡◌, inl, inr, ℕ, zero, suc, ◌+◌, ◌<◌, ◌≤◌, List, [], ◌++◌, map, length, ap, sym, ◌∙◌, subst, Option, Some, None, arith}
use Rattle.std.specs.List.{slice_get}
use Rattle.std.proofs.lemmas.Bool.{cases_lt}
use Rattle.std.proofs.lemmas.Option.{slice_get_within}
use Rattle.mx_upcall.specs.Control.{Control}
use Rattle.mx_state.specs.declared.journal.Entry as journaled
use Rattle.mx_script.specs.Sessions.{Outline, limit_of}
use Rattle.mx_core.specs.declared.elements.Element.{Element}
use Rattle.mx_core.specs.declared.elements.Event.TheVariants.{Missing}
use Rattle.mx_transcript.specs.declared.transcripts.Event2.{Event2}
use Rattle.mx_transcript.specs.declared.transcripts.Event2.TheVariants.{Entry}
use Rattle.mx_transcript.specs.Access.{descriptor_of}
use Rattle.mx_reads.specs.Deeds.{CellUse, Deed, Deeds, Misses}
use Rattle.mx_transcript.specs.FullJournal.{HasNoneAfterFull}
use Rattle.mx_transcript.specs.Legal.{IsLegal, deeds, setting_of, setup_entries}
use Rattle.mx_transcript.specs.Misses.{IsChanged, IsRightMiss, AreRightMisses}
use Rattle.mx_transcript.specs.Openings.{opening_control}
use Rattle.mx_transcript.specs.Parts.{AreLines}
use Rattle.mx_transcript.specs.Points.{ArePoints}
use Rattle.mx_transcript.specs.Reads.{IsKnown}
use Rattle.mx_transcript.specs.References.{cell_of}
use Rattle.mx_transcript.specs.Scripts.{lines_of}
use Rattle.mx_transcript.specs.Settings.{entry_at}
use Rattle.mx_transcript.specs.Standing.{AgreesWith}
use Rattle.mx_transcript.specs.Uses.{use_of}
use Rattle.mx_transcript.specs.Transcripts.{Step, part, events_of, entries_named, numbers_of}
use Rattle.mx_transcript.proofs.Growing.{promise_law}
use Rattle.mx_ties.specs.Acts.{IsAct, acts, acts_before}
use Rattle.mx_ties.specs.Closed.{IsClosed, entry_in, maker, followed, traces}
use Rattle.mx_ties.specs.Fronts.{front_after}
use Rattle.mx_ties.specs.Finished.{FinishedLaw}
use Rattle.mx_ties.specs.Ran.{IsOwnEntry, HasRun, IsSetUp}
use Rattle.mx_ties.specs.Matching.{Matches}
use Rattle.mx_ties.specs.Uses.{renamed, same_use}
use Rattle.mx_ties.specs.Views.{Kept, Marked, View, deed_kept, judged_in, cores, cores_before}
use Rattle.mx_ties.proofs.ActLists.{act_at, before_grows, before_rises}
use Rattle.mx_ties.proofs.Transport.{transport_law}
use Rattle.mx_ties.proofs.EventLists.{IsEntryAt, judged_back, before_same, entry_back, entry_forth, miss_back, kept_event, missed, named_at, line_entry, no_core}
use Rattle.mx_ties.proofs.NumberLists.{among, process_at}
use Rattle.mx_ties.proofs.JournalLists.{by_cases, there, no_number, followed_more, points_within, no_points}
use Rattle.mx_ties.proofs.Fronts.{covered, fronted}
use Rattle.mx_ties.proofs.Places.{map_at}
use Rattle.mx_ties.proofs.Naming as naming

module _ (x : Outline) (setup : List journaled.Entry) (history : List Marked) (transcripts : List (List Step))
    (views : ℕ → View)
    (parts : length transcripts ≡ 1 + length x.principals)
    (closed : IsClosed x setup history views)
    (set_up : IsSetUp x setup (part transcripts 0))
    (ran : (p : ℕ) → 1 ≤ p → p ≤ length x.principals → HasRun x setup p (part transcripts p) (views p)) where
  abbrev count : ℕ
  count = length x.principals

  abbrev journal : List journaled.Entry
  journal = followed setup history

  abbrev events : ℕ → List Event2
  events p = events_of (part transcripts p)

  abbrev done : Deeds
  done = deeds x journal transcripts

  abbrev owners : List ℕ
  owners = map maker (map entry_in history)

  abbrev cells : ℕ → Element → Option CellUse
  cells p = cell_of (use_of x journal) (descriptor_of x journal p)

  kept : (p : ℕ) → 1 ≤ p → p ≤ length x.principals → naming.HasKept x setup p (part transcripts p) (views p)
  kept p some most = naming.kept_of x setup p (part transcripts p) (views p) (ran p some most)

  empty : (p : ℕ) → count < p → part transcripts p ≡ []
  empty = naming.empty x setup history transcripts views parts closed set_up kept

  long : length journal ≡ length setup + length history
  long = naming.long x setup history transcripts views parts closed set_up kept

  own_entry : (p : ℕ) → 1 ≤ p → (place number : ℕ) → slice_get (events p) place ≡ Some (Entry number)
      → IsOwnEntry (length setup) history p number (cores_before (events p) place)
  own_entry = naming.own_entry x setup history transcripts views parts closed set_up kept

  traced : (p : ℕ) → map (renamed same_use) (acts (done p)) ≡ traces (use_of x journal) views p
  traced = naming.traced x setup history transcripts views parts closed set_up kept

  calls : (p : ℕ) → entries_named (events p) ≡ numbers_of p journal
  calls = naming.calls x setup history transcripts views parts closed set_up kept

  -- the same stores are known
  acting : (u place : ℕ) (d : Deed) → IsAct d → slice_get (done u) place ≡ Some d → 1 ≤ u
  acting zero place d a h = absurd
      (nothing (subst (λ (l : List Deed). slice_get l (acts_before (done 0) place) ≡ Some (renamed same_use d))
      (traced 0 ∙ ap (λ (l : List Kept). map (deed_kept (use_of x journal)) l) closed.quiet)
      (map_at (renamed same_use) (acts (done 0)) (acts_before (done 0) place) d (act_at (done 0) place d a h))))
    where
      nothing : None ≡ Some (renamed same_use d) → ⊥
      nothing h = cc
  acting (suc u) place d a h = omega arith

  known_to : (u place q : ℕ) (d : Deed) → IsAct d → slice_get (done u) place ≡ Some d → IsKnown done u place q
      → acts_before (done u) place < front_after (length setup) history u q
  known_to u place q d a h k =
      let at = entry_back (cells u) (events u) k.later k.number k.entry in
      let o = own_entry u (acting u place d a h) k.later k.number at in
      let less = before_rises (done u) place k.later d a h k.after in
      let same = before_same (cells u) (events u) k.later in
      let mark = o.mark in
      let is = o.is in
      let within = k.within in
      fronted (length setup) history u (acts_before (done u) place) q o.place o.marked o.at o.own (omega arith)
      (omega arith)

  entry_of : (u : ℕ) → 1 ≤ u → u ≤ count → (i : ℕ) → slice_get owners i ≡ Some u
      → IsEntryAt (events u) (length setup + suc i)
  entry_of u some most i h =
      let k = among owners (length setup + 1) u i h in
      subst (λ (n : ℕ). IsEntryAt (events u) n) (omega arith)
      (named_at (events u) k.i (length setup + 1 + i)
      (subst (λ (l : List ℕ). slice_get l k.i ≡ Some (length setup + 1 + i))
      (sym (naming.all_named x setup history transcripts views parts closed set_up kept u some most)) k.at))

  same_entry : (u : ℕ) (i : ℕ) (a b : Marked) → slice_get history i ≡ Some a → slice_get history i ≡ Some b → a ≡ b
  same_entry u i a b h k = some_same (sym h ∙ k)
    where
      some_same : Some a ≡ Some b → a ≡ b
      some_same e = cc

  known_from : (u place q : ℕ) (d : Deed) → IsAct d → slice_get (done u) place ≡ Some d
      → acts_before (done u) place < front_after (length setup) history u q → IsKnown done u place q
  known_from u place q d a h l =
      let c = covered (length setup) history u (acts_before (done u) place) q l in
      let some = acting u place d a h in
      let owned = naming.owner_at x setup history transcripts views parts closed set_up kept c.place c.marked c.at
      ∙ ap Some c.own in
      let within_count = process_at count owners closed.makers c.place u owned in
      let n = entry_of u some within_count.1 c.place owned in
      let o = own_entry u some n.place (length setup + suc c.place) n.at in
      let is = o.is in
      let same_place : o.place ≡ c.place = omega arith in
      let same_marked = same_entry u c.place o.marked c.marked
      (subst (λ (i : ℕ). slice_get history i ≡ Some o.marked) same_place o.at) c.at in
      let same_mark = ap (λ (m : Marked). m.mark) same_marked in
      let same = before_same (cells u) (events u) n.place in
      let mark = o.mark in
      let under = c.under in record {
        later = n.place;
        number = length setup + suc c.place;
        after = elim (cases_lt place n.place) [
          | inl low ↦ low
          | inr high ↦ let more = before_grows (done u) n.place place high in absurd (omega arith)
        ];
        entry = entry_forth (cells u) (events u) n.place (length setup + suc c.place) n.at;
        within = c.within;
      }

  matches : Matches same_use done (traces (use_of x journal) views) (front_after (length setup) history)
  matches = record {
    apart = λ a b here there same. same;
    traced = traced;
    known_to = known_to;
    known_from = known_from;
  }

  -- the journal as a process's own front of it
  front : (p : ℕ) (some : 1 ≤ p) (most : p ≤ count)
      → journal ≡ followed setup (views p).history ++ map entry_in (closed.retired p some most).later
  front p some most = let r = closed.retired p some most in followed_more setup history (views p).history r.later r.told

  agrees : (p : ℕ) → 1 ≤ p → p ≤ count → AgreesWith (descriptor_of x journal p) (judged_in (views p).trace)
  agrees p some most place j h =
      let b = judged_back (views p).trace place j h in sym ((closed.retired p some most).elements b.0 j b.1)

  lines : (p : ℕ) → p < length transcripts
      → (after : Control) × AreLines (setting_of x journal p) (opening_control x p) (lines_of x p)
      (part transcripts p) after
  lines = by_cases count
      (λ (p : ℕ). p < length transcripts → (after : Control)
      × AreLines (setting_of x journal p) (opening_control x p) (lines_of x p) (part transcripts p) after)
      (λ low. (
        set_up.after,
        promise_law x setup (map entry_in history) (length setup) 0 [] (part transcripts 0) set_up.after set_up.lines
            (let l = long in omega arith) closed.within_limit (λ place j h. cc),
      ))
      (λ p some most low.
      let r = ran p some most in
      let own = closed.retired p some most in
      let same = front p some most in (
        r.after,
        subst (λ (j : List journaled.Entry). AreLines (setting_of x j p) (opening_control x p) (lines_of x p)
            (part transcripts p) r.after) (sym same)
            (promise_law x (followed setup (views p).history) (map entry_in own.later) (views p).floor p
            (judged_in (views p).trace) (part transcripts p) r.after r.lines
            (subst (λ (j : List journaled.Entry). (views p).floor ≤ length j) same own.floor)
            (subst (λ (j : List journaled.Entry). length j ≤ limit_of x) same closed.within_limit)
            (subst (λ (j : List journaled.Entry). AgreesWith (descriptor_of x j p) (judged_in (views p).trace)) same
            (agrees p some most))),
      ))
      (λ p above low. absurd (omega arith))

  points : (p : ℕ) → ArePoints (setup_entries x) (length journal) (done p)
  points = by_cases count (λ (p : ℕ). ArePoints (setup_entries x) (length journal) (done p))
      (λ place deed q h e. absurd (no_points (cells 0) (events 0) set_up.quiet place deed q h e))
      (λ p some most. points_within (setup_entries x) (views p).floor (length journal) (done p)
      (closed.retired p some most).floor
      ((ran p some most).points (cells p)))
      (λ p above place deed q h e. absurd (no_points (cells p) (events p)
      (ap (λ (l : List Step). cores (events_of l)) (empty p above)) place deed q h e))

  -- a process's own entries stand in its own front
  misses_of : (p : ℕ) → 1 ≤ p → p ≤ count → (place segno by : ℕ) → slice_get (done p) place ≡ Some (Misses segno by)
      → IsRightMiss journal (IsChanged x journal p) p (done p) place segno by
  misses_of p some most place segno by h =
      let r = closed.retired p some most in
      let m = (ran p some most).misses (cells p) in
      let k = kept_event (events p) (views p).trace
      (naming.cored x setup history transcripts views parts closed set_up kept p) place (Missing segno by)
      (miss_back (cells p) (events p) place segno by h) in
      let c = r.misses k.i segno by (missed (views p).trace segno by k) in
      let low = c.0 in
      let next = c.1.next in
      let t = there journal c.1.before (omega arith) in
      record {
        entry = t.0;
        at = subst (λ (n : ℕ). entry_at journal n ≡ Some t.0) (sym next) t.1;
        other = naming.not_own x setup history transcripts views parts closed set_up kept p some most place segno by
            c.1.before next h c.1 t.0 t.1;
        changed = c.1;
        rising = λ before earlier b g. m.rising place segno by before earlier h b g;
        before_next = λ number n. m.before_next place segno by number h n;
      }

  misses : (p : ℕ) → AreRightMisses journal (IsChanged x journal p) p (done p)
  misses = by_cases count (λ (p : ℕ). AreRightMisses journal (IsChanged x journal p) p (done p))
      (λ place segno by h. absurd
      (no_core (events 0) set_up.quiet place (Missing segno by)
      (miss_back (cells 0) (events 0) place segno by h)))
      misses_of
      (λ p above place segno by h. absurd
      (no_core (events p) (ap (λ (l : List Step). cores (events_of l)) (empty p above)) place (Missing segno by)
      (miss_back (cells p) (events p) place segno by h)))

  none_after : (p : ℕ) → HasNoneAfterFull (part transcripts p)
  none_after = by_cases count (λ (p : ℕ). HasNoneAfterFull (part transcripts p))
      set_up.none_after_full
      (λ p some most. record {
        none = λ place later full step h f l g. no_number (entries_named step.1) (λ i n a.
            let high = (ran p some most).full place later full step i n h f l g a in
            let e = line_entry (part transcripts p) later step n g (named_at step.1 i n a) in
            let o = own_entry p some e.place n e.at in
            let is = o.is in
            let short = slice_get_within history o.place o.marked o.at in
            let all = long in
            let within = closed.within_limit in absurd (omega arith));
      })
      (λ p above. subst (λ (l : List Step). HasNoneAfterFull l) (sym (empty p above))
      (record { none = λ place later full step h f l g. cc }))

  pub legal : IsLegal x journal transcripts
  legal = record {
    within_limit = closed.within_limit;
    right = closed.right;
    setup_first = closed.setup_first;
    setup_full = set_up.full;
    parts = parts;
    each_call_once = calls;
    lines = lines;
    none_after_full = none_after;
    misses = misses;
    points = points;
    reads = transport_law same_use done (traces (use_of x journal) views) (front_after (length setup) history) matches closed.reads;
  }

pub finished_law : FinishedLaw
finished_law x setup history transcripts views parts closed set_up ran =
    legal x setup history transcripts views parts closed set_up ran
