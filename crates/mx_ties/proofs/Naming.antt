-- Where the office is closed and each process has run, each process names all of its entries.
use Rattle.std.proofs.Common.{◌≡◌, ◌≢◌, inl, inr, ℕ, zero, suc, ◌+◌, ◌<◌, ◌≤◌, List, [], ◌++◌, map, length, ap, sym, ◌∙◌, subst, Option, Some, None, arith}
use Rattle.std.specs.List.{slice_get}
use Rattle.std.proofs.lemmas.Bool.{cases_lt}
use Rattle.std.proofs.lemmas.Option.{slice_get_within}
use Rattle.std.proofs.lemmas.List.{map-append, append-nil, length-map}
use Rattle.mx_sdw.specs.Descriptors.{Descriptor}
use Rattle.mx_state.specs.declared.journal.Entry as journaled
use Rattle.mx_script.specs.Sessions.{Outline}
use Rattle.mx_core.specs.declared.elements.Element.{Element}
use Rattle.mx_transcript.specs.declared.transcripts.Event2.{Event2}
use Rattle.mx_transcript.specs.declared.transcripts.Event2.TheVariants.{Entry}
use Rattle.mx_transcript.specs.Access.{descriptor_of}
use Rattle.mx_reads.specs.Deeds.{CellUse, Deeds, Misses}
use Rattle.mx_transcript.specs.Legal.{setup_entries, deeds}
use Rattle.mx_transcript.specs.Misses.{IsChanged}
use Rattle.mx_transcript.specs.Points.{ArePoints}
use Rattle.mx_transcript.specs.References.{deed_by, cell_by, cell_of}
use Rattle.mx_transcript.specs.Uses.{use_of}
use Rattle.mx_transcript.specs.Transcripts.{Step, part, events_of, entries_named, numbers_of}
use Rattle.mx_ties.specs.Acts.{acts}
use Rattle.mx_ties.specs.Closed.{IsClosed, entry_in, maker, followed, traces}
use Rattle.mx_ties.specs.Counting.{numbers_in, IsRising, IsOwn, AreOwn, total}
use Rattle.mx_ties.specs.Ran.{IsOwnEntry, AreMisses, HasRun, IsSetUp}
use Rattle.mx_ties.specs.Uses.{renamed, same_use}
use Rattle.mx_ties.specs.Views.{Kept, Referred, Marked, View, event_of, cores, cores_before}
use Rattle.mx_ties.proofs.Counts.{counting_law}
use Rattle.mx_ties.proofs.EventLists.{HasCells, acts_kept, renamed_same, named_at, entry_forth}
use Rattle.mx_ties.proofs.NumberLists.{numbers_same, numbers_both, numbers_none, all_own, among, process_at}
use Rattle.mx_ties.proofs.JournalLists.{by_cases, part_beyond, followed_more, followed_length, changed_front, total_alike}
use Rattle.mx_ties.proofs.Places.{place_kept, map_at, map_back}

-- what a process tells when it has run, but for its lines
pub record HasKept (x : Outline) (setup : List journaled.Entry) (p : ℕ) (steps : List Step) (v : View) : Type 0 where
  pub traced : cores (events_of steps) ≡ map event_of v.trace
  pub own : (place number : ℕ) → slice_get (events_of steps) place ≡ Some (Entry number)
      → IsOwnEntry (length setup) v.history p number (cores_before (events_of steps) place)
  pub rising : IsRising (length setup + 1) (entries_named (events_of steps))
  pub amount : length (entries_named (events_of steps)) ≡ v.amount
  pub points : (cell : Element → Option CellUse) → ArePoints (setup_entries x) v.floor
      (map (deed_by cell) (events_of steps))
  pub misses : (cell : Element → Option CellUse) → AreMisses x (followed setup v.history) p
      (map (deed_by cell) (events_of steps))

pub kept_of : (x : Outline) (setup : List journaled.Entry) (p : ℕ) (steps : List Step) (v : View)
    → HasRun x setup p steps v → HasKept x setup p steps v
kept_of x setup p steps v r = record {
  traced = r.traced;
  own = r.own;
  rising = r.rising;
  amount = r.amount;
  points = r.points;
  misses = r.misses;
}

module _ (x : Outline) (setup : List journaled.Entry) (history : List Marked) (transcripts : List (List Step))
    (views : ℕ → View)
    (parts : length transcripts ≡ 1 + length x.principals)
    (closed : IsClosed x setup history views)
    (set_up : IsSetUp x setup (part transcripts 0))
    (ran : (p : ℕ) → 1 ≤ p → p ≤ length x.principals → HasKept x setup p (part transcripts p) (views p)) where
  abbrev count : ℕ
  count = length x.principals

  abbrev journal : List journaled.Entry
  journal = followed setup history

  abbrev events : ℕ → List Event2
  events p = events_of (part transcripts p)

  abbrev done : Deeds
  done = deeds x journal transcripts

  abbrev owners : List ℕ
  owners = map maker (map entry_in history)

  abbrev cells : ℕ → Element → Option CellUse
  cells p = cell_of (use_of x journal) (descriptor_of x journal p)

  pub empty : (p : ℕ) → count < p → part transcripts p ≡ []
  empty p above = part_beyond transcripts p (omega arith)

  pub long : length journal ≡ length setup + length history
  long = followed_length setup history

  -- each trace is the transcript's elements and misses
  pub cored : (p : ℕ) → cores (events p) ≡ map event_of (views p).trace
  cored = by_cases count (λ (p : ℕ). cores (events p) ≡ map event_of (views p).trace)
      (set_up.quiet ∙ sym (ap (λ (l : List Kept). map event_of l) closed.quiet))
      (λ p some most. (ran p some most).traced)
      (λ p above. ap (λ (l : List Step). cores (events_of l)) (empty p above)
      ∙ sym (ap (λ (l : List Kept). map event_of l) (closed.beyond p above)))

  nowhere : (p i : ℕ) (kept : Kept) → (views p).trace ≡ [] → slice_get (views p).trace i ≡ Some kept → ⊥
  nowhere p i kept e h = nothing (subst (λ (l : List Kept). slice_get l i ≡ Some kept) e h)
    where
      nothing : None ≡ Some kept → ⊥
      nothing h = cc

  cells_kept : (p : ℕ) → HasCells (use_of x journal) (cells p) (views p).trace
  cells_kept = by_cases count (λ (p : ℕ). HasCells (use_of x journal) (cells p) (views p).trace)
      (λ i j h. absurd (nowhere 0 i (Referred j) closed.quiet h))
      (λ p some most i j h. ap (λ (d : Descriptor). cell_by (λ at. use_of x journal at j.element.point) d j.element.kind j.element.ring j.element.word)
      (sym ((closed.retired p some most).elements i j h)))
      (λ p above i j h. absurd (nowhere p i (Referred j) (closed.beyond p above) h))

  pub traced : (p : ℕ) → map (renamed same_use) (acts (done p)) ≡ traces (use_of x journal) views p
  traced p = renamed_same (acts (done p)) ∙ acts_kept (use_of x journal) (cells p) (events p) (views p).trace (cored p) (cells_kept p)

  -- own entries
  pub history_at : (p : ℕ) → 1 ≤ p → p ≤ count → (i : ℕ) (marked : Marked) → slice_get (views p).history i ≡ Some marked
      → slice_get history i ≡ Some marked
  history_at p some most i marked h =
      let r = closed.retired p some most in
      subst (λ (l : List Marked). slice_get l i ≡ Some marked) (sym r.told)
      (place_kept (views p).history r.later i marked h)

  pub own_entry : (p : ℕ) → 1 ≤ p → (place number : ℕ) → slice_get (events p) place ≡ Some (Entry number)
      → IsOwnEntry (length setup) history p number (cores_before (events p) place)
  own_entry p some place number h = elim (cases_lt count p) [
    | inl above ↦ absurd
        (nothing (subst (λ (l : List Step). slice_get (events_of l) place ≡ Some (Entry number)) (empty p above) h))
    | inr most ↦ let o = (ran p some most).own place number h in record {
      place = o.place;
      is = o.is;
      marked = o.marked;
      at = history_at p some most o.place o.marked o.at;
      own = o.own;
      mark = o.mark;
    }
  ]
    where
      nothing : None ≡ Some (Entry number) → ⊥
      nothing h = cc

  pub owner_at : (i : ℕ) (marked : Marked) → slice_get history i ≡ Some marked
      → slice_get owners i ≡ Some marked.entry.process
  owner_at i marked h = map_at maker (map entry_in history) i marked.entry (map_at entry_in history i marked h)

  -- each process names all of its entries
  abbrev named : ℕ → List ℕ
  named zero = []
  named (suc p) = entries_named (events (suc p))

  named_rise : (p : ℕ) → IsRising (length setup + 1) (named p)
  named_rise = by_cases count (λ (p : ℕ). IsRising (length setup + 1) (named p))
      tt
      (λ p some most. at p some (λ (is : 1 ≤ p). (ran p is most).rising))
      (λ p above. beyond p above)
    where
      at : (p : ℕ) → 1 ≤ p → (1 ≤ p → IsRising (length setup + 1) (entries_named (events p)))
          → IsRising (length setup + 1) (named p)
      at zero some h = tt
      at (suc p) some h = h some

      beyond : (p : ℕ) → count < p → IsRising (length setup + 1) (named p)
      beyond zero above = tt
      beyond (suc p) above = subst (λ (l : List Step). IsRising (length setup + 1) (entries_named (events_of l)))
          (sym (empty (suc p) above)) tt

  is_own : (p : ℕ) → 1 ≤ p → (i number : ℕ) → slice_get (entries_named (events p)) i ≡ Some number
      → IsOwn (length setup + 1) p owners number
  is_own p some i number h =
      let n = named_at (events p) i number h in
      let o = own_entry p some n.place number n.at in
      let is = o.is in record {
        place = o.place;
        is = omega arith;
        owner = owner_at o.place o.marked o.at ∙ ap Some o.own;
      }

  named_own : (p : ℕ) → AreOwn (length setup + 1) p owners (named p)
  named_own zero = tt
  named_own (suc p) = all_own (length setup + 1) (suc p) owners (entries_named (events (suc p)))
      (is_own (suc p) (omega arith))

  named_sum : total count (λ p. length (named p)) ≡ length owners
  named_sum =
      total_alike count (λ p. length (named p)) (λ p. (views p).amount) (λ p some most. at p some most)
      ∙ closed.counted ∙ sym (length-map history entry_in) ∙ sym (length-map (map entry_in history) maker)
    where
      at : (p : ℕ) → 1 ≤ p → p ≤ count → length (named p) ≡ (views p).amount
      at zero some most = absurd (omega arith)
      at (suc p) some most = (ran (suc p) some most).amount

  pub all_named : (p : ℕ) → 1 ≤ p → p ≤ count → entries_named (events p) ≡ numbers_in (length setup + 1) p owners
  all_named zero some most = absurd (omega arith)
  all_named (suc p) some most = counting_law count
      (length setup + 1) owners named closed.makers named_rise named_own named_sum (suc p) some most

  -- the journal's numbers are those of the setup and those after it
  numbers_split : (p : ℕ) → numbers_of p journal ≡ numbers_in 1 p (map maker setup) ++ numbers_in
      (length setup + 1) p owners
  numbers_split p =
      numbers_same 1 p journal
      ∙ ap (numbers_in 1 p) (map-append maker setup (map entry_in history))
      ∙ numbers_both 1 p (map maker setup) owners
      ∙ ap (λ (n : ℕ). numbers_in 1 p (map maker setup) ++ numbers_in n p owners) (first_same (length-map setup maker))
    where
      first_same : length (map maker setup) ≡ length setup → 1 + length (map maker setup) ≡ length setup + 1
      first_same e = omega arith

  setup_none : (p : ℕ) → 1 ≤ p → numbers_in 1 p (map maker setup) ≡ []
  setup_none p some = numbers_none 1 p (map maker setup) (λ i owner h e.
      let b = map_back maker setup i owner h in
      let is = closed.setup_makers i b.0 b.1 in
      let same : b.0.process ≡ owner = b.2 in absurd (omega arith))

  owners_none : (p : ℕ) → ((owner : ℕ) → 1 ≤ owner → owner ≤ count → owner ≢ p)
      → numbers_in (length setup + 1) p owners ≡ []
  owners_none p other = numbers_none (length setup + 1) p owners
      (λ i owner h. let k = process_at count owners closed.makers i owner h in other owner k.0 k.1)

  pub calls : (p : ℕ) → entries_named (events p) ≡ numbers_of p journal
  calls = by_cases count (λ (p : ℕ). entries_named (events p) ≡ numbers_of p journal)
      (set_up.calls ∙ numbers_same 1 0 setup ∙ sym (append-nil (numbers_in 1 0 (map maker setup)))
      ∙ ap (λ (l : List ℕ). numbers_in 1 0 (map maker setup) ++ l)
      (sym (owners_none 0 (λ owner some most e. absurd (omega arith))))
      ∙ sym (numbers_split 0))
      (λ p some most. all_named p some most
      ∙ ap (λ (l : List ℕ). l ++ numbers_in (length setup + 1) p owners) (sym (setup_none p some))
      ∙ sym (numbers_split p))
      (λ p above. ap (λ (l : List Step). entries_named (events_of l)) (empty p above)
      ∙ ap (λ (l : List ℕ). [] ++ l) (sym (owners_none p (λ owner some most e. absurd (omega arith))))
      ∙ ap (λ (l : List ℕ). l ++ numbers_in (length setup + 1) p owners) (sym (setup_none p (omega arith)))
      ∙ sym (numbers_split p))

  -- own entries of the journal are named among the events
  pub record IsNamed (p number : ℕ) : Type 0 where
    pub at : ℕ
    pub is : slice_get (events p) at ≡ Some (Entry number)

  pub own_named : (p i : ℕ) (entry : journaled.Entry) → slice_get journal i ≡ Some entry → entry.process ≡ p
      → IsNamed p (suc i)
  own_named p i entry h own =
      let owned : slice_get (map maker journal) i ≡ Some p = map_at maker journal i entry h ∙ ap Some own in
      let a = among (map maker journal) 1 p i owned in
      let here : slice_get (entries_named (events p)) a.i ≡ Some (1 + i) =
      subst (λ (l : List ℕ). slice_get l a.i ≡ Some (1 + i)) (sym (calls p ∙ numbers_same 1 p journal)) a.at in
      let n = named_at (events p) a.i (1 + i) here in
      record {
        at = n.place;
        is = subst (λ (k : ℕ). slice_get (events p) n.place ≡ Some (Entry k))
            (let e : 1 + i ≡ suc i = omega arith in e) n.at;
      }

  -- what changed a descriptor changed it in the process's own front too, where it stands there
  pub own_front : (p : ℕ) → 1 ≤ p → p ≤ count → (segno number : ℕ)
      → number ≤ length (followed setup (views p).history) → IsChanged x journal p segno number
      → IsChanged x (followed setup (views p).history) p segno number
  own_front p some most segno number low c =
      let r = closed.retired p some most in
      changed_front x (followed setup (views p).history) (map entry_in r.later) p segno number low
      (subst (λ (j : List journaled.Entry). IsChanged x j p segno number)
      (followed_more setup history (views p).history r.later r.told) c)

  pub own_within : (p : ℕ) → 1 ≤ p → p ≤ count → (at number : ℕ) → slice_get (events p) at ≡ Some (Entry number)
      → number ≤ length (followed setup (views p).history)
  own_within p some most at number h =
      let o = (ran p some most).own at number h in
      let is = o.is in
      let short = slice_get_within (views p).history o.place o.marked o.at in
      let long = followed_length setup (views p).history in omega arith

  -- the entry by which a process missed is not its own
  pub not_own : (p : ℕ) → 1 ≤ p → p ≤ count → (place segno by before : ℕ) → by ≡ suc before
      → slice_get (done p) place ≡ Some (Misses segno by) → IsChanged x journal p segno by
      → (entry : journaled.Entry) → slice_get journal before ≡ Some entry → entry.process ≢ p
  not_own p some most place segno by before next missed changed entry h own =
      let n = own_named p before entry h own in
      let is = subst (λ (k : ℕ). slice_get (events p) n.at ≡ Some (Entry k)) (sym next) n.is in
      ((ran p some most).misses (cells p)).others place segno by n.at missed
      (entry_forth (cells p) (events p) n.at by is)
      (own_front p some most segno by (own_within p some most n.at by is) changed)
