-- Where one seat of a running world is replaced, the others show what they showed.
use Rattle.std.proofs.Common.{◌≡◌, ◌≢◌, ◌⊎◌, inl, inr, ℕ, zero, suc, ◌+◌, ◌<◌, ◌≤◌, List, [], ◌∷◌, ◌++◌, length, Bool, true, false, Option, refl, ap, sym, ◌∙◌, subst, Some, None, arith}
use Rattle.std.specs.Prelude.{slice_index_or, slice_set, nat_le, nat_lt, max}
use Rattle.std.specs.List.{slice_get}
use Rattle.std.proofs.lemmas.List.{length-append}
use Rattle.std.proofs.lemmas.Option.{slice_get-get_or, slice_get_within}
use Rattle.mx_reads.proofs.Places.{place_kept, place_last}
use Rattle.mx_sdw.specs.Descriptors.{Descriptor}
use Rattle.mx_reads.specs.Held.{Held}
use Rattle.mx_core.specs.Acknowledging.{after_connect}
use Rattle.mx_core.specs.Append.{with_changes, after_append}
use Rattle.mx_core.specs.AssociativeMemory.{recalled, remembered}
use Rattle.mx_core.specs.Cells.{cell_loaded, after_load_cell, cell_stored, after_store_cell}
use Rattle.mx_core.specs.Judging.{at_once}
use Rattle.mx_core.specs.Loading.{with_event, element_of, based, judged_to, judged, missed, found, loaded, after_load_desc, recalling, after_recall}
use Rattle.mx_core.specs.Notes.{after_split, told_by, joined, after_join}
use Rattle.mx_worlds.specs.Marking.{AllShow, with_present}
use Rattle.mx_core.specs.Notions.{IsProcess, IsPending, NothingPending, with_process}
use Rattle.mx_core.specs.Pages.{cell_at}
use Rattle.mx_core.specs.Put.{pick, put}
use Rattle.mx_worlds.specs.Seating.{traced, judged_by, judged_columns, remembering_columns, missed_columns, loaded_by, loaded_columns, read_columns, written_columns}
use Rattle.mx_core.specs.Lists.{Lists}
use Rattle.mx_worlds.specs.Shows.{Columns, columns, Counts, counts_of, floor_of, ShowsSeat, ShowsSeats, ShowsMemory, ShowsNotes, ShowsParts}
use Rattle.mx_core.specs.Striking.{with_word, after_strike, settled, after_settle}
use Rattle.mx_core.specs.declared.words.DescriptorWord.{DescriptorWord}
use Rattle.mx_core.specs.declared.words.DescriptorWord.TheVariants.{Valid, Fault}
use Rattle.mx_core.specs.declared.words.Triple.{Triple}
use Rattle.mx_core.specs.declared.words.Asked.{Asked}
use Rattle.mx_core.specs.World.{Process, Note, World}
use Rattle.mx_core.specs.declared.elements.Kept.{Kept}
use Rattle.mx_core.specs.declared.elements.Kept.TheVariants.{Judged, Missed}
use Rattle.mx_core.specs.declared.changes.Change.{Change}
use Rattle.mx_core.specs.declared.changes.Run.{Run}
use Rattle.mx_core.specs.declared.elements.Outcome.{Outcome}
use Rattle.mx_core.specs.declared.elements.Outcome.TheVariants as outcome
use Rattle.mx_worlds.specs.declared.seats.Seat.{Seat}
use Rattle.mx_core.proofs.Puts.{put_all, put_here, put_else}

-- what stands in a list with one item replaced
pub set_found : {A : Type 0} (xs : List A) (i j : ℕ) (x y : A) → slice_get (slice_set xs i x) j ≡ Some y
    → ((j ≡ i) × (y ≡ x)) ⊎ ((j ≢ i) × (slice_get xs j ≡ Some y))
set_found [] i j x y h = cc
set_found (z ∷ xs) zero zero x y h = inl (refl, cc)
set_found (z ∷ xs) zero (suc j) x y h = inr (λ e. absurd (omega arith), h)
set_found (z ∷ xs) (suc i) zero x y h = inr (λ e. absurd (omega arith), h)
set_found (z ∷ xs) (suc i) (suc j) x y h = elim (set_found xs i j x y h) [
  | inl a ↦ inl (ap suc a.0, a.1)
  | inr b ↦ inr (λ e. b.0 (omega arith), b.1)
]

-- the item that stands at a place
pub at_place : {A : Type 0} (xs : List A) (place : ℕ) (x : A) → place < length xs → x ≡ slice_index_or xs place x
    → slice_get xs place ≡ Some x
at_place xs place x under is = slice_get-get_or xs place x under ∙ ap Some (sym is)

-- the seat at the place of a process
pub seat_shown : (seats : List Seat) (w : World) (place p : ℕ) (s : Seat) → place ≡ p → place < length seats
    → s ≡ slice_index_or seats place s → ShowsSeats seats w → ShowsSeat w.numbers s (columns w p)
seat_shown seats w place p s here under is shows =
    subst (λ (q : ℕ). ShowsSeat w.numbers s (columns w q)) here (shows place s (at_place seats place s under is))

pub seats_moved : (seats : List Seat) (w w' : World) (place p : ℕ) (u u' : Seat) → place ≡ p → place < length seats
    → u ≡ slice_index_or seats place u → w'.numbers ≡ w.numbers → ((q : ℕ) → q ≢ p → columns w' q ≡ columns w q)
    → (ShowsSeat w.numbers u (columns w p) → ShowsSeat w.numbers u' (columns w' p)) → ShowsSeats seats w
    → ShowsSeats (slice_set seats place u') w'
seats_moved seats w w' place p u u' here under is same others own shows j s at =
    subst (λ (many : ℕ). ShowsSeat many s (columns w' j)) (sym same) (elim (set_found seats place j u' s at) [
      | inl a ↦
          subst (λ (x : Seat). ShowsSeat w.numbers x (columns w' j)) (sym a.1)
          (subst (λ (q : ℕ). ShowsSeat w.numbers u' (columns w' q)) (sym (a.0 ∙ here))
          (own (seat_shown seats w place p u here under is shows)))
      | inr b ↦
          subst (λ (c : Columns). ShowsSeat w.numbers s c) (sym (others j (λ e. b.0 (e ∙ sym here))))
          (shows j s b.1)
    ])

-- a process replaced
pub process_moved : (seats : List Seat) (w : World) (place p : ℕ) (o : Process) (u u' : Seat) → place ≡ p
    → place < length seats → u ≡ slice_index_or seats place u
    → (ShowsSeat w.numbers u (columns w p) → ShowsSeat w.numbers u' (record (columns w p) { process = o }))
    → ShowsSeats seats w → ShowsSeats (slice_set seats place u') (with_process w p o)
process_moved seats w place p o u u' here under is own shows =
    seats_moved seats w (with_process w p o) place p u u' here under is refl
    (λ q n. ap (λ (x : Process). columns (record w { process = λ r. x }) q) (put_else w.process p o q n))
    (λ h. subst (λ (x : Process). ShowsSeat w.numbers u' (record (columns w p) { process = x }))
    (sym (put_here w.process p o)) (own h)) shows

-- a process that a running world has
pub process_is : (counts : Counts) (w : World) (p : ℕ) → counts_of w ≡ counts → (p ≡ 0 → ⊥) → p ≤ counts.processes
    → IsProcess w p
process_is counts w p same some most =
    let e = ap (λ (c : Counts). c.processes) same in record { low = omega arith; high = omega arith }

pub pending_is : (counts : Counts) (w : World) → counts_of w ≡ counts → counts.answered < counts.length → IsPending w
pending_is counts w same pending =
    let answered = ap (λ (c : Counts). c.answered) same in
    let length = ap (λ (c : Counts). c.length) same in omega arith

pub resting_is : (counts : Counts) (w : World) → counts_of w ≡ counts → counts.length ≤ counts.answered
    → NothingPending w
resting_is counts w same rest =
    let answered = ap (λ (c : Counts). c.answered) same in
    let length = ap (λ (c : Counts). c.length) same in omega arith

pub answered_is : (counts : Counts) (w : World) → counts_of w ≡ counts → w.answered ≡ counts.answered
answered_is counts w same = ap (λ (c : Counts). c.answered) same

pub length_is : (counts : Counts) (w : World) → counts_of w ≡ counts → w.length ≡ counts.length
length_is counts w same = ap (λ (c : Counts). c.length) same

-- the note of a floor
pub record IsNoteOf (o : Option Note) (floor : ℕ) : Type 0 where
  pub note : Note
  pub is : o ≡ Some note
  pub floor_is : note.floor ≡ floor

note_by : (o : Option Note) (floor : ℕ) → floor_of o ≡ Some floor → IsNoteOf o floor
note_by None floor e = cc
note_by (Some note) floor e = record { note = note; is = refl; floor_is = cc }

some_again : {A : Type 0} (x y : A) → Some x ≡ Some y → x ≡ y
some_again x y e = cc

pub note_found : (floors : List (Option ℕ)) (made : ℕ) (note : ℕ → Option Note) (i floor : ℕ)
    → ShowsNotes floors made note → slice_get floors i ≡ Some (Some floor) → IsNoteOf (note i) floor
note_found floors made note i floor shows at =
    note_by (note i) floor (some_again (floor_of (note i)) (Some floor)
    (sym (shows.notes i (slice_get_within floors i (Some floor) at)) ∙ at))

set_here : {A : Type 0} (xs : List A) (i : ℕ) (x : A) → i < length (slice_set xs i x)
    → slice_get (slice_set xs i x) i ≡ Some x
set_here [] i x under = absurd (omega arith)
set_here (y ∷ ys) zero x under = refl
set_here (y ∷ ys) (suc i) x under = set_here ys i x (omega arith)

set_else : {A : Type 0} (xs : List A) (i j : ℕ) (x : A) → j ≢ i → slice_get (slice_set xs i x) j ≡ slice_get xs j
set_else [] i j x n = refl
set_else (y ∷ ys) zero zero x n = absurd (n refl)
set_else (y ∷ ys) zero (suc j) x n = refl
set_else (y ∷ ys) (suc i) zero x n = refl
set_else (y ∷ ys) (suc i) (suc j) x n = set_else ys i j x (λ e. n (ap suc e))

set_length : {A : Type 0} (xs : List A) (i : ℕ) (x : A) → length (slice_set xs i x) ≡ length xs
set_length [] i x = refl
set_length (y ∷ ys) zero x = refl
set_length (y ∷ ys) (suc i) x = ap suc (set_length ys i x)

pub notes_split : (floors : List (Option ℕ)) (made : ℕ) (note : ℕ → Option Note) (new : Note)
    → ShowsNotes floors made note → ShowsNotes (floors ++ Some new.floor ∷ []) (made + 1) (put note made (Some new))
notes_split floors made note new shows = record {
  many = let e = length-append floors (Some new.floor ∷ []) in let many = shows.many in omega arith;
  notes = put_all (λ j (b : Option Note). j < length (floors ++ Some new.floor ∷ [])
      → slice_get (floors ++ Some new.floor ∷ []) j ≡ Some (floor_of b)) note made (Some new)
      (λ l. ap (slice_get (floors ++ Some new.floor ∷ [])) shows.many ∙ place_last floors (Some new.floor))
      (λ j n l.
      let e = length-append floors (Some new.floor ∷ []) in
      let many = shows.many in
      place_kept floors (Some new.floor ∷ []) j (floor_of (note j)) (shows.notes j (omega arith)));
}

pub notes_joined : (floors : List (Option ℕ)) (made : ℕ) (note : ℕ → Option Note) (i : ℕ)
    → ShowsNotes floors made note → ShowsNotes (slice_set floors i None) made (put note i None)
notes_joined floors made note i shows = record {
  many = shows.many ∙ sym (set_length floors i None);
  notes = put_all (λ j (b : Option Note). j < length (slice_set floors i None)
      → slice_get (slice_set floors i None) j ≡ Some (floor_of b)) note i None
      (set_here floors i None)
      (λ j n l. set_else floors i j None n ∙ shows.notes j (let e = set_length floors i None in omega arith));
}

-- what stands in a list is the function's value
pub value_is : {A : Type 0} (xs : List A) (f : ℕ → A) (i : ℕ) (x : A) → Lists xs f → i < length xs
    → x ≡ slice_index_or xs i x → x ≡ f i
value_is xs f i x has under is = some_again x (f i) (sym (at_place xs i x under is) ∙ has i under)

-- a value of a function and of its list replaced
pub lists_set : {A : Type 0} (xs : List A) (f : ℕ → A) (i : ℕ) (x : A) → Lists xs f
    → Lists (slice_set xs i x) (put f i x)
lists_set xs f i x has = put_all (λ j b. j < length (slice_set xs i x) → slice_get (slice_set xs i x) j ≡ Some b) f i x
    (set_here xs i x)
    (λ j n l. set_else xs i j x n ∙ has j (let e = set_length xs i x in omega arith))

-- a process of a running world replaced
module _ (counts : Counts) (seats : List Seat) (held : List Held) (cleans readies : List Bool)
    (floors : List (Option ℕ))
    (w : World) (place p : ℕ) (u u' : Seat) (here : place ≡ p) (under : place < length seats)
    (is : u ≡ slice_index_or seats place u) (parts : ShowsParts counts seats held cleans readies floors w) where
  pub process_parts : (o : Process)
      → (ShowsSeat w.numbers u (columns w p) → ShowsSeat w.numbers u' (record (columns w p) { process = o }))
      → ShowsParts counts (slice_set seats place u') held cleans readies floors (with_process w p o)
  process_parts o own = record {
    same = parts.same;
    shows = process_moved seats w place p o u u' here under is own parts.shows;
    memory = parts.memory;
    notes = parts.notes;
  }

  -- its words replaced, whatever the supervisor knows settled
  words_parts : (f : ℕ → DescriptorWord) (told : ℕ → ℕ → ℕ)
      → (ShowsSeat w.numbers u (columns w p) → ShowsSeat w.numbers u' (record (columns w p) { words = f }))
      → ShowsParts counts (slice_set seats place u') held cleans readies floors
      (record w { word = put w.word p f; told = told })
  words_parts f told own = record {
    same = parts.same;
    shows = seats_moved seats w (record w { word = put w.word p f; told = told }) place p u u' here under is refl
        (λ q n. ap (λ (x : ℕ → DescriptorWord). columns (record w { word = λ r. x }) q) (put_else w.word p f q n))
        (λ h. subst (λ (x : ℕ → DescriptorWord). ShowsSeat w.numbers u' (record (columns w p) { words = x }))
        (sym (put_here w.word p f)) (own h)) parts.shows;
    memory = parts.memory;
    notes = parts.notes;
  }

  -- the length of its trace that the supervisor knows replaced
  pub reported_parts : (k : ℕ)
      → (ShowsSeat w.numbers u (columns w p) → ShowsSeat w.numbers u' (record (columns w p) { reported = k }))
      → ShowsParts counts (slice_set seats place u') held cleans readies floors
      (record w { reported = put w.reported p k })
  reported_parts k own = record {
    same = parts.same;
    shows = seats_moved seats w (record w { reported = put w.reported p k }) place p u u' here under is refl
        (λ q n. ap (λ (x : ℕ). columns (record w { reported = λ r. x }) q) (put_else w.reported p k q n))
        (λ h. subst (λ (x : ℕ). ShowsSeat w.numbers u' (record (columns w p) { reported = x }))
        (sym (put_here w.reported p k)) (own h)) parts.shows;
    memory = parts.memory;
    notes = parts.notes;
  }

  -- and a note joined
  joined_parts : (o : Process) (i : ℕ)
      → (ShowsSeat w.numbers u (columns w p) → ShowsSeat w.numbers u' (record (columns w p) { process = o }))
      → ShowsParts counts (slice_set seats place u') held cleans readies (slice_set floors i None)
      (record w { process = put w.process p o; note = put w.note i None })
  joined_parts o i own = record {
    same = parts.same;
    shows = process_moved seats w place p o u u' here under is own parts.shows;
    memory = parts.memory;
    notes = notes_joined floors w.made w.note i parts.notes;
  }

  pub strike_parts : (n : ℕ) → (ShowsSeat w.numbers u (columns w p)
      → ShowsSeat w.numbers u' (record (columns w p) { words = put (w.word p) n (Fault counts.length) }))
      → ShowsParts counts (slice_set seats place u') held cleans readies floors (after_strike w p n)
  strike_parts n own =
      subst (λ (k : ℕ). ShowsParts counts (slice_set seats place u') held cleans readies floors
      (with_word w p n (Fault k))) (sym (length_is counts w parts.same))
      (words_parts (put (w.word p) n (Fault counts.length)) w.told own)

  pub settle_parts : (n by : ℕ) → w.word p n ≡ Fault by → (ShowsSeat w.numbers u (columns w p)
      → ShowsSeat w.numbers u' (record (columns w p) { words = put (w.word p) n (Valid by (w.table w.length p n)) }))
      → ShowsParts counts (slice_set seats place u') held cleans readies floors (after_settle w p n)
  settle_parts n by at own =
      subst (λ (x : DescriptorWord). ShowsParts counts (slice_set seats place u') held cleans readies floors
      (settled w p n x)) (sym at)
      (words_parts (put (w.word p) n (Valid by (w.table w.length p n)))
      (put w.told p (put (w.told p) n by)) own)

  pub join_parts : (i : ℕ) (note : Note) → w.note i ≡ Some note → (ShowsSeat w.numbers u (columns w p)
      → ShowsSeat w.numbers u' (record (columns w p) { process = told_by (w.process p) note }))
      → ShowsParts counts (slice_set seats place u') held cleans readies (slice_set floors i None) (after_join w p i)
  join_parts i note at own =
      subst (λ (o : Option Note). ShowsParts counts (slice_set seats place u') held cleans readies
      (slice_set floors i None) (joined w p i o)) (sym at) (joined_parts (told_by (w.process p) note) i own)

  -- a seat replaced that shows the same
  pub same_parts : (ShowsSeat w.numbers u (columns w p) → ShowsSeat w.numbers u' (columns w p))
      → ShowsParts counts (slice_set seats place u') held cleans readies floors w
  same_parts own = record {
    same = parts.same;
    shows = seats_moved seats w w place p u u' here under is refl (λ q n. refl) own parts.shows;
    memory = parts.memory;
    notes = parts.notes;
  }

  -- a process replaced and an event added to its trace, whatever the cells then hold
  pub event_parts : (o : Process) (event : Kept) (held' : List Held) (cell : ℕ → Held)
      → ShowsMemory held' cleans readies cell w.clean w.ready
      → (ShowsSeat w.numbers u (columns w p)
      → ShowsSeat w.numbers u' (traced (record (columns w p) { process = o }) event))
      → ShowsParts counts (slice_set seats place u') held' cleans readies floors
      (record (with_event (with_process w p o) p event) { cell = cell })
  event_parts o event held' cell memory own = record {
    same = parts.same;
    shows = seats_moved seats w (with_event (with_process w p o) p event) place p u u' here under is refl
        (λ q n i. record (columns w q) {
          process = put_else w.process p o q n i;
          trace = put_else w.trace p (w.trace p ++ event ∷ []) q n i;
        })
        (λ h. subst (ShowsSeat w.numbers u') (sym (λ i. record (columns w p) {
          process = put_here w.process p o i;
          trace = put_here w.trace p (w.trace p ++ event ∷ []) i;
        })) (own h)) parts.shows;
    memory = memory;
    notes = parts.notes;
  }

  judged_by_parts : (o : Process) (t : Triple) (a : Asked) (x : Option Outcome)
      → (ShowsSeat w.numbers u (columns w p)
      → ShowsSeat w.numbers u' (judged_by (record (columns w p) { process = o }) t a x))
      → ShowsParts counts (slice_set seats place u') held cleans readies floors (judged_to w p o t a x)
  judged_by_parts o t a None own = process_parts (based o t (Some a)) own
  judged_by_parts o t a (Some x) own =
      event_parts (based o t None) (Judged (element_of t.segno a o.floor x) a.op t.desc) held w.cell parts.memory own

  loaded_parts_by : (n : ℕ) (a : Asked) (number : ℕ) (desc : Descriptor) (told known : Bool)
      → (ShowsSeat w.numbers u (columns w p)
      → ShowsSeat w.numbers u' (pick told (judged_columns (pick known
      (remembering_columns (columns w p) (record { segno = n; number = number; desc = desc })) (columns w p))
      (record { segno = n; number = number; desc = desc }) a) (missed_columns (columns w p) n number)))
      → ShowsParts counts (slice_set seats place u') held cleans readies floors
      (pick told (judged w p (record (w.process p) {
        memory = pick known
            (remembered (record { segno = n; number = number; desc = desc }) (w.process p).memory) (w.process p).memory;
      })
      (record { segno = n; number = number; desc = desc }) a) (missed w p n number))
  loaded_parts_by n a number desc false known own =
      event_parts (record (w.process p) { basis = None; hold = None }) (Missed n number) held w.cell parts.memory own
  loaded_parts_by n a number desc true false own =
      judged_by_parts (w.process p) (record { segno = n; number = number; desc = desc }) a (at_once desc a) own
  loaded_parts_by n a number desc true true own =
      let t : Triple = record { segno = n; number = number; desc = desc } in
      judged_by_parts (record (w.process p) { memory = remembered t (w.process p).memory }) t a (at_once desc a) own

  loaded_word_parts : (n : ℕ) (a : Asked) (word : DescriptorWord) → (ShowsSeat w.numbers u (columns w p)
      → ShowsSeat w.numbers u' (loaded_by w.numbers (columns w p) n a word))
      → ShowsParts counts (slice_set seats place u') held cleans readies floors (loaded w p n a word)
  loaded_word_parts n a (Fault number) own =
      event_parts (record (w.process p) { basis = None; hold = None }) (Missed n number) held w.cell parts.memory own
  loaded_word_parts n a (Valid number desc) own =
      loaded_parts_by n a number desc (nat_le number (w.process p).floor) (nat_lt n w.numbers) own

  pub loaded_parts : (n : ℕ) (a : Asked) → (ShowsSeat w.numbers u (columns w p)
      → ShowsSeat w.numbers u' (loaded_columns w.numbers counts.start (columns w p) n a))
      → ShowsParts counts (slice_set seats place u') held cleans readies floors (after_load_desc w p n a)
  loaded_parts n a own =
      loaded_word_parts n a (found w p n) (λ h. subst (λ (start : ℕ). ShowsSeat w.numbers u'
      (loaded_columns w.numbers start (columns w p) n a)) (sym (ap (λ (x : Counts). x.start) parts.same)) (own h))

  pub recalled_parts : (n : ℕ) (a : Asked) (t : Triple) → recalled n (w.process p).memory ≡ Some t
      → (ShowsSeat w.numbers u (columns w p) → ShowsSeat w.numbers u' (judged_columns (columns w p) t a))
      → ShowsParts counts (slice_set seats place u') held cleans readies floors (after_recall w p n a)
  recalled_parts n a t at own =
      subst (λ (x : Option Triple). ShowsParts counts (slice_set seats place u') held cleans readies floors
      (recalling w p a x)) (sym at) (judged_by_parts (w.process p) t a (at_once t.desc a) own)

  pub read_parts : (t : Triple) (a : Asked) → (w.process p).basis ≡ Some t → (w.process p).hold ≡ Some a
      → (ShowsSeat w.numbers u (columns w p)
      → ShowsSeat w.numbers u' (read_columns (columns w p) t a (w.cell (cell_at t.desc a.word))))
      → ShowsParts counts (slice_set seats place u') held cleans readies floors (after_load_cell w p)
  read_parts t a basis hold own =
      subst (λ (x : Option Triple). ShowsParts counts (slice_set seats place u') held cleans readies floors
      (cell_loaded w p x (w.process p).hold)) (sym basis)
      (subst (λ (x : Option Asked). ShowsParts counts (slice_set seats place u') held cleans readies floors
      (cell_loaded w p (Some t) x)) (sym hold)
      (event_parts (record (w.process p) {
        floor = max (w.process p).floor (w.cell (cell_at t.desc a.word)).stamp;
        hold = None;
      }) (Judged (element_of t.segno a (w.process p).floor (outcome.Read (w.cell (cell_at t.desc a.word)).value
      (w.cell (cell_at t.desc a.word)).writer (w.cell (cell_at t.desc a.word)).stamp)) a.op t.desc) held w.cell
      parts.memory own))

  pub written_parts : (t : Triple) (a : Asked) (value cell stamp : ℕ) → cell ≡ cell_at t.desc a.word
      → stamp ≡ (w.process p).floor → (w.process p).basis ≡ Some t → (w.process p).hold ≡ Some a
      → (ShowsSeat w.numbers u (columns w p) → ShowsSeat w.numbers u' (written_columns (columns w p) t a value))
      → ShowsParts counts (slice_set seats place u')
      (slice_set held cell (record { value = value; writer = p; stamp = stamp })) cleans readies floors
      (after_store_cell w p value)
  written_parts t a value cell stamp at now basis hold own =
      let new : Held = record { value = value; writer = p; stamp = stamp } in
      let last : Held = record { value = value; writer = p; stamp = (w.process p).floor } in
      subst (λ (x : Option Triple). ShowsParts counts (slice_set seats place u') (slice_set held cell new) cleans
      readies floors (cell_stored w p value x (w.process p).hold)) (sym basis)
      (subst (λ (x : Option Asked). ShowsParts counts (slice_set seats place u') (slice_set held cell new) cleans
      readies floors (cell_stored w p value (Some t) x)) (sym hold)
      (event_parts (record (w.process p) { hold = None })
      (Judged (element_of t.segno a (w.process p).floor (outcome.Written value)) a.op t.desc)
      (slice_set held cell new) (put w.cell (cell_at t.desc a.word) last) (record {
        cells = subst (λ (k : ℕ). Lists (slice_set held cell new) (put w.cell k last)) at
            (subst (λ (k : ℕ). Lists (slice_set held cell new)
            (put w.cell cell (record { value = value; writer = p; stamp = k }))) now
            (lists_set held w.cell cell new parts.memory.cells));
        clean_cells = parts.memory.clean_cells;
        ready_pages = parts.memory.ready_pages;
      }) own))

  pub connect_parts : (ShowsSeat w.numbers u (columns w p) → ShowsSeat w.numbers u' (record (columns w p) {
    process = record (w.process p) { connect = counts.length; look = 0 };
  }))
      → ShowsParts counts (slice_set seats place u') held cleans readies floors (after_connect w p)
  connect_parts own =
      process_parts (record (w.process p) { connect = w.length; look = 0 })
      (λ h. subst (λ (k : ℕ). ShowsSeat w.numbers u' (record (columns w p) {
        process = record (w.process p) { connect = k; look = 0 };
      })) (sym (length_is counts w parts.same)) (own h))

pub split_parts : (counts : Counts) (seats : List Seat) (held : List Held) (cleans readies : List Bool)
    (floors floors' : List (Option ℕ)) (w : World) → ShowsParts counts seats held cleans readies floors w
    → floors' ≡ floors ++ Some counts.answered ∷ []
    → ShowsParts counts seats held cleans readies floors' (after_split w)
split_parts counts seats held cleans readies floors floors' w parts is = record {
  same = parts.same;
  shows = parts.shows;
  memory = parts.memory;
  notes = subst (λ (l : List (Option ℕ)). ShowsNotes l (after_split w).made (after_split w).note)
      (sym (is ∙ ap (λ (k : ℕ). floors ++ Some k ∷ []) (sym (answered_is counts w parts.same))))
      (notes_split floors w.made w.note (record { floor = w.answered; told = w.told }) parts.notes);
}

-- where a descriptor is put into the present table of one seat, the seats show the table with it
pub put_shown : (many : ℕ) (seats : List Seat) (f : ℕ → Columns) (table : ℕ → ℕ → Descriptor) (place p n : ℕ)
    (d : Descriptor) (u u' : Seat) → place ≡ p → place < length seats → u ≡ slice_index_or seats place u
    → (ShowsSeat many u (with_present f table p)
    → ShowsSeat many u' (record (with_present f table p) { present = put (table p) n d }))
    → AllShow many seats (with_present f table)
    → AllShow many (slice_set seats place u') (with_present f (put table p (put (table p) n d)))
put_shown many seats f table place p n d u u' here under is own shows j s at =
    elim (set_found seats place j u' s at) [
      | inl a ↦
          subst (λ (x : Seat). ShowsSeat many x (with_present f (put table p (put (table p) n d)) j)) (sym a.1)
          (subst (λ (q : ℕ). ShowsSeat many u' (with_present f (put table p (put (table p) n d)) q)) (sym (a.0 ∙ here))
          (subst (λ (h : ℕ → Descriptor). ShowsSeat many u' (record (f p) { present = h }))
          (sym (put_here table p (put (table p) n d)))
          (own (subst (λ (q : ℕ). ShowsSeat many u (with_present f table q)) here
          (shows place u (at_place seats place u under is))))))
      | inr b ↦
          subst (λ (h : ℕ → Descriptor). ShowsSeat many s (record (f j) { present = h }))
          (sym (put_else table p (put (table p) n d) j (λ e. b.0 (e ∙ sym here)))) (shows j s b.1)
    ]

-- an entry added: the present table is another, and the table before it stays
pub append_shown : (seats : List Seat) (w : World) (p : ℕ) (changes : List Change) (given : List Run)
    → w.answered ≤ w.length
    → AllShow w.numbers seats (with_present (columns w) (with_changes changes (w.table w.length)))
    → ShowsSeats seats (after_append w p changes given)
append_shown seats w p changes given low shows q s at =
    let table = with_changes changes (w.table w.length) in
    subst (λ (c : Columns). ShowsSeat w.numbers s c)
    (sym (λ i. record (columns w q) {
      before = put_else w.table (w.length + 1) table w.answered (λ e. absurd (omega arith)) i q;
      present = put_here w.table (w.length + 1) table i q;
    }))
    (shows q s at)
