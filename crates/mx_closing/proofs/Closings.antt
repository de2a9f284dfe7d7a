-- Where all passes came back, the run is closed.
use Rattle.std.proofs.Common.{◌≡◌, ℕ, zero, suc, ◌+◌, ◌<◌, ◌≤◌, Bool, List, [], ◌∷◌, ◌++◌, map, take, length, refl, ap, sym, ◌∙◌, subst, Some, arith}
use Rattle.std.specs.Prelude.{IsTrue}
use Rattle.std.specs.List.{slice_get}
use Rattle.std.specs.Option.{option_map}
use Rattle.std.proofs.lemmas.Option.{slice_get-map, slice_get_within}
use Rattle.mx_core.specs.Pages.{covers, use_at}
use Rattle.mx_core.specs.Deeds.{deed_of, front}
use Rattle.mx_core.specs.RightWords.{IsWord}
use Rattle.mx_core.specs.Traces.{IsGoodTrace}
use Rattle.mx_core.specs.Words.{number_of}
use Rattle.mx_core.specs.declared.words.DescriptorWord.{DescriptorWord}
use Rattle.mx_core.specs.declared.words.DescriptorWord.TheVariants.{Valid, Fault}
use Rattle.mx_desc.specs.Passes.{PassValue}
use Rattle.mx_reads.specs.Deeds.{Deeds}
use Rattle.mx_reads.specs.ReadRule.{Fronts, known_by, AreRightReads}
use Rattle.mx_pages.specs.Runs.{page_count}
use Rattle.mx_request.specs.declared.requests.Request.{Request}
use Rattle.mx_rule.specs.Ending.{IsRightEnd}
use Rattle.mx_rule.specs.Shown.{office_of, given_of, entries_of}
use Rattle.mx_rule.specs.declared.views.PassView.{PassView}
use Rattle.mx_rule.specs.declared.views.SuperView.{SuperView}
use Rattle.mx_script.specs.Sessions.{Outline}
use Rattle.mx_sdw.specs.Descriptors.{Descriptor}
use Rattle.mx_state.specs.declared.journal.Entry as journaled
use Rattle.mx_ties.specs.Closed.{IsClosed, IsRetired, entry_in, maker, followed, traces}
use Rattle.mx_ties.specs.Counting.{AreProcesses, total}
use Rattle.mx_ties.specs.Fronts.{front_after}
use Rattle.mx_ties.specs.Uses.{renamed}
use Rattle.mx_ties.specs.Views.{Marked, View, deed_kept}
use Rattle.mx_ties.proofs.JournalLists.{by_cases, followed_length}
use Rattle.mx_transcript.specs.Legal.{Call, call_of, setup_call, setup_entries}
use Rattle.mx_transcript.specs.Uses.{given_by, use_of}
use Rattle.mx_closing.proofs.Covering.{covers_within}
use Rattle.mx_closing.proofs.Deeds.{deeds_same}
use Rattle.mx_closing.proofs.Histories.{marked_append, marked_length, front_is}
use Rattle.mx_closing.proofs.Renaming.{reads_from}
use Rattle.mx_closing.proofs.Uses.{in_use, swapped, swapped_use, uses_apart}
use Rattle.mx_closing.proofs.PassLists.{IsFound, found, has_pass, no_pass, all_amounts, referred, missed}
use Rattle.mx_closing.specs.Closing.{AreBack, ClosingLaw}
use Rattle.mx_closing.specs.Keeping.{KeepsJournal}
use Rattle.mx_closing.specs.Views.{kept_in, marked_in, idle_view, view_in, views_in}

-- the number in a right word is within the journal
word_most : (start answered length : ℕ) (h : ℕ → Descriptor) (told : ℕ) (w : DescriptorWord) → answered ≤ length
    → IsWord start answered length h told w → number_of w ≤ length
word_most start answered length h told (Valid k d) within is = let high = is.high in omega (arith, within, high)
word_most start answered length h told (Fault k) within is = is.high

after_front : {A : Type 0} (xs ys : List A) (place i : ℕ) → place ≡ length xs + i
    → slice_get (xs ++ ys) place ≡ slice_get ys i
after_front [] ys place i e = ap (slice_get ys) (omega (arith, e))
after_front (x ∷ xs) ys zero i e = absurd (omega (arith, e))
after_front (x ∷ xs) ys (suc place) i e = after_front xs ys place i (omega (arith, e))

-- the setup's entries are the initializer's
called : (n : ℕ) (setup rest : List journaled.Entry) (i : ℕ) (entry : journaled.Entry) → i < n
    → slice_get setup i ≡ Some entry
    → slice_get (take n (map call_of (setup ++ rest))) i ≡ Some (call_of entry)
called zero setup rest i entry l e = absurd (omega (arith, l))
called (suc n) [] rest i entry l e = absurd (nothing e)
  where
    nothing : slice_get {X = journaled.Entry} [] i ≡ Some entry → ⊥
    nothing e = cc
called (suc n) (first ∷ setup) rest zero entry l e = ap (λ (f : journaled.Entry). Some (call_of f)) (is e)
  where
    is : Some first ≡ Some entry → first ≡ entry
    is e = cc
called (suc n) (first ∷ setup) rest (suc i) entry l e = called n setup rest i entry (omega (arith, l)) e

by_nobody : (n : ℕ) (requests : List Request) (i : ℕ) (call : Call)
    → slice_get (take n (map setup_call requests)) i ≡ Some call → call.process ≡ 0
by_nobody zero requests i call e = absurd (nothing e)
  where
    nothing : slice_get {X = Call} [] i ≡ Some call → ⊥
    nothing e = cc
by_nobody (suc n) [] i call e = absurd (nothing e)
  where
    nothing : slice_get {X = Call} [] i ≡ Some call → ⊥
    nothing e = cc
by_nobody (suc n) (request ∷ requests) zero call e = ap (λ (c : Call). c.process) (sym (is e))
  where
    is : Some (setup_call request) ≡ Some call → setup_call request ≡ call
    is e = cc
by_nobody (suc n) (request ∷ requests) (suc i) call e = by_nobody n requests i call e

pub setup_makers : (x : Outline) (setup rest : List journaled.Entry) → length setup ≡ setup_entries x
    → take (setup_entries x) (map call_of (setup ++ rest)) ≡ take (setup_entries x) (map setup_call x.setup)
    → (i : ℕ) (entry : journaled.Entry) → slice_get setup i ≡ Some entry → entry.process ≡ 0
setup_makers x setup rest many first i entry at =
    let within = slice_get_within setup i entry at in
    by_nobody (setup_entries x) x.setup i (call_of entry)
    (ap (λ (calls : List Call). slice_get calls i) (sym first)
    ∙ called (setup_entries x) setup rest i entry (omega (arith, many, within)) at)

-- those after them are processes'
all_processes : (count : ℕ) (history : List Marked)
    → ((i : ℕ) (m : Marked) → slice_get history i ≡ Some m → (1 ≤ m.entry.process) × (m.entry.process ≤ count))
    → AreProcesses count (map maker (map entry_in history))
all_processes count [] each = tt
all_processes count (m ∷ history) each =
    let first = each 0 m refl in
    (first.0, first.1, all_processes count history (λ i n at. each (suc i) n at))

-- a process's pass, and where it came back
record IsPassed (v : SuperView journaled.Entry) (passes : List (PassValue journaled.Entry)) (p : ℕ) : Type 0 where
  pass : PassValue journaled.Entry
  seen : views_in passes p ≡ view_in pass
  own : pass.view.process ≡ p
  there : IsFound v.retired pass.view

module _ (x : Outline) (setup : List journaled.Entry) (v : SuperView journaled.Entry)
    (passes : List (PassValue journaled.Entry)) (keeps : KeepsJournal x setup v) (came : AreBack v passes)
    (ending : IsRightEnd v) where
  abbrev history : List Marked
  history = marked_in v.history

  abbrev journal : List journaled.Entry
  journal = followed setup history

  abbrev word_at : ℕ → ℕ → DescriptorWord
  word_at = (office_of v).word

  abbrev given : ℕ → ℕ → Bool
  given = given_of v.history

  journal_length : length journal ≡ v.length
  journal_length =
      let all = followed_length setup history in
      let many = marked_length v.history in
      let begun = keeps.begun in
      let counted = keeps.counted in omega (arith, all, many, begun, counted)

  makers : AreProcesses (length x.principals) (map maker (map entry_in history))
  makers = all_processes (length x.principals) history (λ i m at.
      keeps.history.makers (length setup + i) m.entry (let n = keeps.setup_length in omega (arith, n))
      (after_front setup (map entry_in history) (length setup + i) i refl
      ∙ slice_get-map entry_in history i
      ∙ ap (option_map entry_in) at))

  passed : (p : ℕ) → 1 ≤ p → p ≤ length x.principals → IsPassed v passes p
  passed p some most =
      let all = came.all.count in
      let same = keeps.processes in
      let has = has_pass passes p some (omega (arith, all, same, most)) in record {
        pass = has.pass;
        seen = has.seen;
        own = came.all.owners has.place has.pass has.at ∙ sym has.next;
        there = found v.retired has.pass.view (came.back has.place has.pass has.at);
      }

  good : (p : ℕ) (u : PassView journaled.Entry) → IsFound v.retired u → u.process ≡ p
      → IsGoodTrace v.start u.floor (λ q n. (office_of v).table q p n) (word_at p) u.trace
  good p u is own = subst
      (λ (o : ℕ). IsGoodTrace v.start u.floor (λ q n. (office_of v).table q o n) (word_at o) u.trace) own
      (ending.passes is.place u is.at).trace

  floor_within : (u : PassView journaled.Entry) → IsFound v.retired u → u.floor ≤ length journal
  floor_within u is =
      let floor = (ending.passes is.place u is.at).floor in
      let answered = keeps.answered in
      let all = journal_length in omega (arith, floor, answered, all)

  retired_pass : (p : ℕ) → 1 ≤ p → p ≤ length x.principals → (pass : PassValue journaled.Entry)
      → pass.view.process ≡ p → IsFound v.retired pass.view → IsRetired x setup history p (view_in pass)
  retired_pass p some most pass own is =
      let u : PassView journaled.Entry = pass.view in
      let told = ending.told is.place u is.at in
      let trace = good p u is own in record {
        later = marked_in told.later;
        told = ap marked_in told.is ∙ marked_append told.later u.history;
        floor = floor_within u is;
        elements = λ i j at.
            let kept = referred (slice_get u.trace i) j (sym (slice_get-map kept_in u.trace i) ∙ at) in
            let right = trace.elements i j.element kept.op j.desc kept.at in
            let high = right.high in
            let all = journal_length in
            let within = floor_within u is in
            right.stands
            ∙ keeps.tables j.element.point p j.element.segno right.low (omega (arith, high, all, within)) some most;
        misses = λ i segno by at.
            let right = trace.misses i segno by
            (missed (slice_get u.trace i) segno by (sym (slice_get-map kept_in u.trace i) ∙ at)) in
            let altered = right.altered in
            let after = right.after in
            let most_by = right.most in
            let next = altered.next in
            let word = word_most v.start v.answered v.length (λ q. (office_of v).table q p segno)
            ((office_of v).told p segno) (word_at p segno) keeps.answered (ending.words p segno) in
            let all = journal_length in (
              omega (arith, most_by, word, all),
              record {
                before = altered.before;
                next = omega (arith, next);
                differs = λ same. altered.differs
                    (keeps.tables by p segno (omega (arith, after)) (omega (arith, most_by, word)) some most
                    ∙ same
                    ∙ sym (keeps.tables altered.before p segno (omega (arith, after, next))
                    (omega (arith, most_by, word, next)) some most));
              },
            );
      }

  -- which pages entries gave out, by the journal, and the use of each page at the start
  abbrev mine : ℕ → ℕ → Bool
  mine = given_by x journal

  abbrev base : ℕ → ℕ
  base page = use_at 0 mine page v.start

  given_same : (page : ℕ) → page < page_count → (q : ℕ) → v.start ≤ q → q < v.length
      → given (suc q) page ≡ mine (suc q) page
  given_same page within q low under =
      let next : suc q ≡ q + 1 = omega (arith) in
      ap (λ (n : ℕ). given n page) next
      ∙ keeps.given q page low under within
      ∙ sym (ap (λ (n : ℕ). mine n page) next)

  used : (p : ℕ) → 1 ≤ p → p ≤ length x.principals → (floor : ℕ) → floor ≤ v.length → (q n page : ℕ) → v.start ≤ q
      → q ≤ floor → IsTrue (covers ((office_of v).table q p n) page)
      → swapped (base page) (use_at 0 mine page q) ≡ use_at v.start given page q
  used p some most floor within q n page low high covered =
      let under : q ≤ v.length = omega (arith, within, high) in
      swapped_use v.start v.length page given mine
      (given_same page (covers_within ((office_of v).table q p n) page (keeps.admissible q p n low under some most) covered))
      q low under

  -- what each did, as the views show it and as the seats have it
  abbrev IsSameTrace : ℕ → Type 0
  IsSameTrace p =
      map (renamed (in_use base)) (traces (use_of x journal) (views_in passes) p)
      ≡ map (deed_of v.start given) (ending.trace p)

  idle_same : (p : ℕ) → ending.trace p ≡ [] → views_in passes p ≡ idle_view → IsSameTrace p
  idle_same p idle is =
      ap (λ (w : View). map (renamed (in_use base)) (map (deed_kept (use_of x journal)) w.trace)) is
      ∙ ap (map (deed_of v.start given)) (sym idle)

  trace_same : (p : ℕ) → IsSameTrace p
  trace_same = by_cases (length x.principals) IsSameTrace
      (idle_same 0 ending.nobody refl)
      (λ p some most.
      let is = passed p some most in
      let u : PassView journaled.Entry = is.pass.view in
      let within = floor_within u is.there in
      let all = journal_length in
      ap (λ (w : View). map (renamed (in_use base)) (map (deed_kept (use_of x journal)) w.trace)) is.seen
      ∙ deeds_same v.start u.floor given mine base (λ q n. (office_of v).table q p n)
      (used p some most u.floor (omega (arith, within, all))) u.trace (good p u is.there is.own).elements
      ∙ ap (map (deed_of v.start given)) (sym (ending.shown is.there.place u is.there.at))
      ∙ ap (λ (o : ℕ). map (deed_of v.start given) (ending.trace o)) is.own)
      (λ p beyond.
      let same = keeps.processes in
      let all = came.all.count in
      idle_same p (ending.more p (omega (arith, beyond, same)))
      (no_pass passes p (omega (arith, beyond, same, all))))

  front_same : (u q : ℕ) → front v.start (entries_of v.history) u q ≡ front_after (length setup) history u q
  front_same u q =
      front_is v.start v.history keeps.makers u q ∙ ap (λ (n : ℕ). front_after n history u q) keeps.begun

  abbrev deeds_done : Deeds
  deeds_done p = map (deed_of v.start given) (ending.trace p)

  reads : AreRightReads (traces (use_of x journal) (views_in passes)) (known_by (front_after (length setup) history))
  reads = reads_from (in_use base) (uses_apart base) (traces (use_of x journal) (views_in passes)) deeds_done
      (front_after (length setup) history) trace_same
      (subst (λ (known : Fronts). AreRightReads deeds_done (known_by known)) (λ i u q. front_same u q i) ending.reads)

  closed : IsClosed x setup history (views_in passes)
  closed = record {
    within_limit = keeps.history.within_limit;
    right = keeps.history.right;
    setup_first = keeps.history.setup_first;
    setup_length = keeps.setup_length;
    setup_makers = setup_makers x setup (map entry_in history) keeps.setup_length keeps.history.setup_first;
    makers = makers;
    quiet = refl;
    beyond = λ p beyond. ap (λ (w : View). w.trace) (no_pass passes p
        (let same = keeps.processes in let all = came.all.count in omega (arith, beyond, same, all)));
    retired = λ p some most. let is = passed p some most in
        subst (IsRetired x setup history p) (sym is.seen) (retired_pass p some most is.pass is.own is.there);
    reads = reads;
    counted =
        ap (λ (n : ℕ). total n (λ p. (views_in passes p).amount)) (sym (came.all.count ∙ keeps.processes))
        ∙ all_amounts passes ∙ came.amounts ∙ sym (marked_length v.history);
  }

pub closing_law : ClosingLaw
closing_law x setup v passes keeps came ending = closed x setup v passes keeps came ending
