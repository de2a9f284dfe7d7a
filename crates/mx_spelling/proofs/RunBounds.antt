-- A legal run is within the bounds, where its replies and descriptors are: its entries, and the events and results of its lines.
use Rattle.std.proofs.Common.{◌≡◌, ◌≢◌, ℕ, zero, suc, ◌+◌, ◌==◌, ◌<◌, ◌≤◌, ◌^◌, nat_le, nat_eq, Bool, true, false, ◌&&◌, if◌then◌else◌, List, [], ◌∷◌, length, map, Option, Some, None, Result, Ok, Err, refl, ap, sym, subst, ◌∙◌, arith, take}
use Rattle.std.specs.List.{All, list_all, slice_get}
use Rattle.std.proofs.lemmas.Bool.Decides.{nat_tests}
use Rattle.std.proofs.lemmas.List.Elements.{All-head, All-tail}
use Rattle.std.proofs.lemmas.List.Folds.{list_all-append}
use Rattle.mx_sdw.specs.Descriptors.{Descriptor, unknown_desc}
use Rattle.mx_sdw.specs.Judging.{judgement, ring_after}
use Rattle.mx_sdw.specs.declared.denials.Denial.{Denial}
use Rattle.mx_sdw.specs.declared.descriptors.Cell.{Cell}
use Rattle.mx_sdw.specs.declared.operations.Op.{Op}
use Rattle.mx_sdw.specs.declared.operations.Op.TheVariants as op
use Rattle.mx_reads.specs.Deeds.{CellUse, Deed, Stores, Loads, point_of}
use Rattle.mx_reads.specs.ReadRule.{Reading, IsRightRead}
use Rattle.mx_core.specs.declared.elements.Element.{Element}
use Rattle.mx_core.specs.declared.elements.Event.TheVariants.{Seen, Missing}
use Rattle.mx_core.specs.declared.elements.Outcome.{Outcome}
use Rattle.mx_core.specs.declared.elements.Outcome.TheVariants as outcome
use Rattle.mx_request.proofs.FieldLaws.{at_most_test}
use Rattle.mx_request.proofs.StepLaws.{both, both_hold, some_is}
use Rattle.mx_request.specs.RequestTexts.{fits_request}
use Rattle.mx_request.specs.Versions.{last_number}
use Rattle.mx_script.specs.SessionTexts.{fits, rows_of}
use Rattle.mx_script.specs.Sessions.{IsSession, Outline}
use Rattle.mx_state.proofs.NumberedLaws.{unknown_law}
use Rattle.mx_state.specs.declared.journal.Entry as journaled
use Rattle.mx_transcript.proofs.LegalLaws.{each_reference_law}
use Rattle.mx_transcript.proofs.PartLines.{all_of_part}
use Rattle.mx_transcript.specs.Access.{descriptor_at, descriptor_of}
use Rattle.mx_transcript.specs.Elements.{Agrees, Gives, IsJudged, kind_of}
use Rattle.mx_transcript.specs.Legal.{IsLegal, deeds, setting_of}
use Rattle.mx_transcript.specs.Misses.{IsChanged}
use Rattle.mx_transcript.specs.Next.{Reference}
use Rattle.mx_transcript.specs.Openings.{opening_control}
use Rattle.mx_transcript.specs.Reads.{IsKnown}
use Rattle.mx_transcript.specs.References.{cell_by, cell_of, deed_by, granted_cell, reference}
use Rattle.mx_transcript.specs.Uses.{use_of}
use Rattle.mx_transcript.specs.Scripts.{lines_of}
use Rattle.mx_transcript.specs.Settings.{entry_at}
use Rattle.mx_transcript.specs.Transcripts.{Step, part, events_of, entries_named, numbers_from}
use Rattle.mx_transcript.specs.declared.transcripts.Event2.{Event2}
use Rattle.mx_transcript.specs.declared.transcripts.Event2.TheVariants.{Core, Entry}
use Rattle.mx_spelling.specs.Spelling.{IsSpellable, bounds_reply, fits_entry, fits_event, fits_outcome, fits_result, fits_step, is_entry_number, is_line_number}
use Rattle.mx_spelling.proofs.LineBounds.{AreLow, IsLowElement, IsLowEvent, IsLowLine, IsLowSetting, IsLowStep, done_low}
use Rattle.mx_spelling.proofs.NextBounds.{IsLow, IsLowOutcome, address_test, is_word_test}
use Rattle.mx_spelling.proofs.SessionBounds.{session_low, start_good}
use Rattle.mx_spelling.proofs.WalkBounds.{at_place, place_below}

-- a reply that its text can say
abbrev pub is_said : journaled.Entry → Bool
is_said entry = bounds_reply entry.reply

-- what the states of the supervisor bound: replies, and the descriptors of each process at each point
pub record AreBounded (x : Outline) (journal : List journaled.Entry) : Type 0 where
  pub replies : list_all is_said journal ≡ true
  pub descriptors : (p : ℕ) (e : Element) → IsLow (descriptor_of x journal p e)

-- lists
list_at : {X : Type 0} (f : X → Bool) (xs : List X) (n : ℕ) (x : X) → list_all f xs ≡ true → slice_get xs n ≡ Some x → f x ≡ true
list_at f [] n x all e = absurd cc
list_at f (y ∷ ys) zero x all e =
    let same : y ≡ x = cc in
    subst (λ z. f z ≡ true) same (both (f y) (list_all f ys) all).0
list_at f (y ∷ ys) (suc n) x all e = list_at f ys n x (both (f y) (list_all f ys) all).1 e

by_places : {X : Type 0} (f : X → Bool) (xs : List X) → ((n : ℕ) (x : X) → slice_get xs n ≡ Some x → f x ≡ true) → list_all f xs ≡ true
by_places f [] each = refl
by_places f (x ∷ xs) each = both_hold (f x) (list_all f xs) (each 0 x refl) (by_places f xs (λ n y e. each (suc n) y e))

mapped_at : {X Y : Type 0} (f : X → Y) (xs : List X) (n : ℕ) (y : Y) → slice_get (map f xs) n ≡ Some y
    → (x : X) × (slice_get xs n ≡ Some x) × (f x ≡ y)
mapped_at f [] n y e = absurd cc
mapped_at f (x ∷ xs) zero y e = (x, refl, some_same (f x) y e)
  where
    some_same : {Y : Type 0} (a b : Y) → Some a ≡ Some b → a ≡ b
    some_same a b e = cc
mapped_at f (x ∷ xs) (suc n) y e = mapped_at f xs n y e

map_at : {X Y : Type 0} (f : X → Y) (xs : List X) (n : ℕ) (x : X) (y : Y) → slice_get xs n ≡ Some x → f x ≡ y → slice_get (map f xs) n ≡ Some y
map_at f [] n x y e h = absurd cc
map_at f (z ∷ zs) zero x y e h =
    let same : z ≡ x = cc in
    ap (λ w. Some (f w)) same ∙ ap (λ w. Some w) h
map_at f (z ∷ zs) (suc n) x y e h = map_at f zs n x y e h

-- the number of an entry
entry_within : (journal : List journaled.Entry) (number : ℕ) (entry : journaled.Entry) → entry_at journal number ≡ Some entry
    → number ≤ length journal
entry_within journal zero entry e = absurd cc
entry_within journal (suc place) entry e = let h = place_below journal place entry e in omega (arith, h)

-- and an entry of a number is the one in its place
pub same_entry : (journal : List journaled.Entry) (place : ℕ) (a b : journaled.Entry) → entry_at journal (1 + place) ≡ Some a
    → slice_get journal place ≡ Some b → a ≡ b
same_entry journal place a b e f = some_is a b (sym e ∙ ap (λ (n : ℕ). entry_at journal n) next ∙ f)
  where
    next : 1 + place ≡ suc place
    next = omega arith

said_at : (journal : List journaled.Entry) (number : ℕ) (entry : journaled.Entry) → list_all is_said journal ≡ true
    → entry_at journal number ≡ Some entry → bounds_reply entry.reply ≡ true
said_at journal zero entry all e = absurd cc
said_at journal (suc place) entry all e = list_at is_said journal place entry all e

-- a part that has an event is there
pub part_within : (transcripts : List (List Step)) (p place : ℕ) (event : Event2) → slice_get (events_of (part transcripts p)) place ≡ Some event
    → p < length transcripts
part_within [] p place event e = absurd cc
part_within (steps ∷ parts) zero place event e = omega arith
part_within (steps ∷ parts) (suc p) place event e = let h = part_within parts p place event e in omega (arith, h)

each_part : (f : List Step → Bool) (transcripts : List (List Step)) → ((p : ℕ) → p < length transcripts → f (part transcripts p) ≡ true)
    → list_all f transcripts ≡ true
each_part f [] each = refl
each_part f (steps ∷ parts) each =
    both_hold (f steps) (list_all f parts) (each 0 (omega arith)) (each_part f parts (λ p h. each (suc p) (omega (arith, h))))

steps_fit : (steps : List Step) → All IsLowStep steps → list_all fits_event (events_of steps) ≡ true → list_all fits_step steps ≡ true
steps_fit [] all e = refl
steps_fit (step ∷ steps) all e =
    let own : IsLowStep step = All-head IsLowStep step steps all in
    let f = both (list_all fits_event step.1) (list_all fits_event (events_of steps))
    (sym (list_all-append fits_event step.1 (events_of steps)) ∙ e) in
    both_hold (fits_step step) (list_all fits_step steps)
    (both_hold (is_line_number step.0) (list_all fits_event step.1 && fits_result step.2) (line_test step.0 own.number)
    (both_hold (list_all fits_event step.1) (fits_result step.2) f.0 own.ends))
    (steps_fit steps (All-tail IsLowStep step steps all) f.1)
  where
    line_test : (n : ℕ) → n < 2 ^ 32 → is_line_number n ≡ true
    line_test n h = grind (arith, nat_tests)

-- the entries that events name
pub named_at : (events : List Event2) (n number : ℕ) → slice_get (entries_named events) n ≡ Some number
    → (place : ℕ) × (slice_get events place ≡ Some (Entry number))
named_at [] n number e = absurd cc
named_at (Entry first ∷ events) zero number e =
    let same : first ≡ number = cc in (zero, ap (λ (k : ℕ). Some (Entry k)) same)
named_at (Entry first ∷ events) (suc n) number e = let found = named_at events n number e in (suc found.0, found.1)
named_at (Core event ∷ events) n number e = let found = named_at events n number e in (suc found.0, found.1)

pub listed : (first p : ℕ) (journal : List journaled.Entry) (place : ℕ) (entry : journaled.Entry) → slice_get journal place ≡ Some entry
    → entry.process ≡ p → (n : ℕ) × (slice_get (numbers_from first p journal) n ≡ Some (first + place))
listed first p [] place entry e own = absurd cc
listed first p (other ∷ journal) zero entry e own =
    let same : other ≡ entry = cc in
    by_test (other.process == p) (test (ap (λ (o : journaled.Entry). o.process) same ∙ own))
  where
    test : other.process ≡ p → other.process == p ≡ true
    test e = grind (arith, nat_tests)

    none_more : first ≡ first + zero
    none_more = omega arith

    by_test : (is : Bool) → is ≡ true → (n : ℕ)
        × (slice_get (if is then first ∷ numbers_from (first + 1) p journal else numbers_from (first + 1) p journal) n ≡ Some (first + zero))
    by_test true h = (zero, ap (λ (k : ℕ). Some k) none_more)
    by_test false h = absurd cc
listed first p (other ∷ journal) (suc place) entry e own =
    by_test (other.process == p) (listed (first + 1) p journal place entry e own)
  where
    on : first + 1 + place ≡ first + suc place
    on = omega arith

    by_test : (is : Bool) → (n : ℕ) × (slice_get (numbers_from (first + 1) p journal) n ≡ Some (first + 1 + place)) → (n : ℕ)
        × (slice_get (if is then first ∷ numbers_from (first + 1) p journal else numbers_from (first + 1) p journal) n ≡ Some (first + suc place))
    by_test true found = (suc found.0, found.1 ∙ ap (λ (k : ℕ). Some k) on)
    by_test false found = (found.0, found.1 ∙ ap (λ (k : ℕ). Some k) on)

-- a word that was read has a cell
read_granted : (named : ℕ → CellUse) (d : Descriptor) (o : Op) (stores : Option ℕ) (entered ring word value writer stamp : ℕ) (cell : Cell)
    → judgement d o ring word ≡ Ok cell → Gives o stores entered (outcome.Read value writer stamp)
    → (c : CellUse) × (cell_by named d (kind_of o) ring word ≡ Some c)
read_granted named d op.Read stores entered ring word value writer stamp cell ok g = (named cell.0, ap (granted_cell named) ok)
read_granted named d op.Indirect stores entered ring word value writer stamp cell ok g = (named cell.0, ap (granted_cell named) ok)
read_granted named d op.Fetch stores entered ring word value writer stamp cell ok g = (named cell.0, ap (granted_cell named) ok)
read_granted _ _ _ _ _ _ _ _ _ _ _ ok g = absurd g

read_cell : (named : ℕ → CellUse) (r : Reference) (d : Descriptor) (e : Element) (value writer stamp : ℕ) → IsJudged r d e
    → e.outcome ≡ outcome.Read value writer stamp → (c : CellUse) × (cell_by named d e.kind e.ring e.word ≡ Some c)
read_cell named r d e value writer stamp is came =
    by_ruled (judgement d r.op r.ring r.word) refl
    (subst (λ (o : Outcome). Agrees r (ring_after d r.op r.ring) (judgement d r.op r.ring r.word) o) came is.outcome)
  where
    same : cell_by named d e.kind e.ring e.word ≡ cell_by named d (kind_of r.op) r.ring r.word
    same = rw (is.kind, is.ring, is.word) refl

    by_ruled : (ruled : Result Cell Denial) → judgement d r.op r.ring r.word ≡ ruled
        → Agrees r (ring_after d r.op r.ring) ruled (outcome.Read value writer stamp) → (c : CellUse) × (cell_by named d e.kind e.ring e.word ≡ Some c)
    by_ruled (Ok cell) ok a =
        let found = read_granted named d r.op r.stores (ring_after d r.op r.ring) r.ring r.word value writer stamp cell ok a in
        (found.0, same ∙ found.1)
    by_ruled (Err denial) ok a = absurd cc

-- a reference has its printed point
reference_point : (cell : Option CellUse) (came : Outcome) (q : ℕ) → point_of (reference cell came q) ≡ Some q
reference_point (Some cell) (outcome.Read value writer stamp) q = refl
reference_point (Some cell) (outcome.Written value) q = refl
reference_point (Some cell) (outcome.Entered ring) q = refl
reference_point (Some cell) (outcome.Denied denial) q = refl
reference_point None (outcome.Read value writer stamp) q = refl
reference_point None (outcome.Written value) q = refl
reference_point None (outcome.Entered ring) q = refl
reference_point None (outcome.Denied denial) q = refl

module _ (x : Outline) (journal : List journaled.Entry) (transcripts : List (List Step)) (session : IsSession x)
    (text : list_all fits (rows_of x) ≡ true) (bounded : AreBounded x journal) (legal : IsLegal x journal transcripts) where
  few : length journal ≤ 262143
  few = let a = legal.within_limit in let b = session.limit in omega (arith, a, b)

  number_test : (n : ℕ) → n ≤ length journal → is_entry_number n ≡ true
  number_test n h = at_most_test n 262143 (let a = few in omega (arith, a, h))

  few_parts : length transcripts ≤ 16
  few_parts = let a = legal.parts in let b = session.most in omega (arith, a, b)

  low_setting : (p : ℕ) → IsLowSetting (setting_of x journal p)
  low_setting p = record {
    replies = λ number entry there. said_at journal number entry bounded.replies there;
    descriptors = bounded.descriptors p;
  }

  low_part : (p : ℕ) → p < length transcripts
      → AreLow (setting_of x journal p) (events_of (part transcripts p)) × All IsLowStep (part transcripts p)
  low_part p there =
      let lines = legal.lines p there in
      done_low (setting_of x journal p) (opening_control x p) lines.1.ran (part transcripts p) [] lines.0 (low_setting p) (start_good x p)
      (all_of_part IsLowLine (lines_of x p) lines.1.ran (part transcripts p) lines.1.are (session_low x session text p)) lines.1.done

  -- points
  point_within : (p place : ℕ) (deed : Deed) (q : ℕ) → slice_get (deeds x journal transcripts p) place ≡ Some deed → point_of deed ≡ Some q
      → q ≤ length journal
  point_within p place deed q at is = (legal.points p place deed q at is).within

  deed_at : (p place : ℕ) (event : Event2) → slice_get (events_of (part transcripts p)) place ≡ Some event
      → slice_get (deeds x journal transcripts p) place ≡ Some (deed_by (cell_of (use_of x journal) (descriptor_of x journal p)) event)
  deed_at p place event at =
      map_at (deed_by (cell_of (use_of x journal) (descriptor_of x journal p))) (events_of (part transcripts p)) place event
      (deed_by (cell_of (use_of x journal) (descriptor_of x journal p)) event) at refl

  -- who stored a word
  store_low : (w place : ℕ) (cell : CellUse) (value stamp : ℕ) → slice_get (deeds x journal transcripts w) place ≡ Some (Stores cell value stamp)
      → (w ≤ 15) × (stamp ≤ length journal)
  store_low w place cell value stamp at =
      let found = mapped_at (deed_by (cell_of (use_of x journal) (descriptor_of x journal w))) (events_of (part transcripts w)) place (Stores cell value stamp) at in
      let there = part_within transcripts w place found.0 found.1 in
      let a = few_parts in
      (omega (arith, a, there), point_within w place (Stores cell value stamp) stamp at refl)

  writer_low : (p place : ℕ) (cell : CellUse) (value writer stamp q : ℕ)
      → slice_get (deeds x journal transcripts p) place ≡ Some (Loads cell value writer stamp q) → (writer ≤ 15) × (stamp ≤ length journal)
  writer_low p place cell value writer stamp q at = by_writer (nat_eq writer 0) refl
    where
      read : Reading
      read = record { process = p; place = place; cell = cell; value = value; writer = writer; stamp = stamp; point = q }

      right : IsRightRead (deeds x journal transcripts) (IsKnown (deeds x journal transcripts)) legal.reads.source read
      right = legal.reads.right read at

      is : (a b : ℕ) → nat_eq a b ≡ true → a ≡ b
      is a b e = grind (arith, nat_tests)

      is_not : (a b : ℕ) → nat_eq a b ≡ false → a ≢ b
      is_not a b e = λ same. absurd (grind (arith, nat_tests))

      by_writer : (nobody : Bool) → nat_eq writer 0 ≡ nobody → (writer ≤ 15) × (stamp ≤ length journal)
      by_writer true e =
          let none : writer ≡ 0 = is writer 0 e in
          let zeros = (right.nobody none).zero_stamp in
          (omega (arith, none), omega (arith, zeros))
      by_writer false e =
          store_low writer (legal.reads.source p place) cell value stamp (right.such (is_not writer 0 e)).stored

  -- elements
  element_fits : (p place : ℕ) (e : Element) → p < length transcripts → slice_get (events_of (part transcripts p)) place ≡ Some (Core (Seen e))
      → fits_event (Core (Seen e)) ≡ true
  element_fits p place e there at =
      both_hold _ _ (address_test e.segno e.word low.segno low.word)
      (both_hold _ _ (at_most_test e.ring 7 low.ring)
      (both_hold _ _ (number_test e.point point) (by_outcome e.outcome refl low.came)))
    where
      low : IsLowElement e
      low = at_place (IsLowEvent (setting_of x journal p)) (events_of (part transcripts p)) place (Core (Seen e)) (low_part p there).0 at

      point : e.point ≤ length journal
      point = point_within p place (deed_by (cell_of (use_of x journal) (descriptor_of x journal p)) (Core (Seen e))) e.point (deed_at p place (Core (Seen e)) at)
          (reference_point (cell_of (use_of x journal) (descriptor_of x journal p) e) e.outcome e.point)

      by_outcome : (came : Outcome) → e.outcome ≡ came → IsLowOutcome came → fits_outcome came ≡ true
      by_outcome (outcome.Read value writer stamp) is small =
          let asked = each_reference_law x journal transcripts legal p place e there at in
          let cell = read_cell (λ at. use_of x journal at e.point) asked.asked (descriptor_of x journal p e) e value writer stamp asked.right is in
          let deed : deed_by (cell_of (use_of x journal) (descriptor_of x journal p)) (Core (Seen e)) ≡ Loads cell.0 value writer stamp e.point =
          ap (λ (c : Option CellUse). reference c e.outcome e.point) cell.1
          ∙ ap (λ (o : Outcome). reference (Some cell.0) o e.point) is in
          let low = writer_low p place cell.0 value writer stamp e.point
          (deed_at p place (Core (Seen e)) at ∙ ap (λ (d : Deed). Some d) deed) in
          both_hold _ _ (is_word_test value small)
          (both_hold _ _ (at_most_test writer 15 low.0) (number_test stamp low.1))
      by_outcome (outcome.Written value) is small = is_word_test value small
      by_outcome (outcome.Entered ring) is small = at_most_test ring 7 small
      by_outcome (outcome.Denied denial) is small = refl

  -- misses
  known_number : (p segno by : ℕ) → IsChanged x journal p segno by → segno ≤ 4095
  known_number p segno by is = by_test (nat_le segno 255) refl
    where
      last : last_number x.version ≤ 255
      last = by_version (nat_le 3 x.version)
        where
          by_version : (later : Bool) → (if later then 255 else 127) ≤ 255
          by_version true = omega arith
          by_version false = omega arith

      unknown : (q : ℕ) → 255 < segno → descriptor_at x journal q p segno ≡ unknown_desc
      unknown q h = unknown_law x.version x.principals (take q journal) p segno (let a = last in omega (arith, a, h))

      above : nat_le segno 255 ≡ false → 255 < segno
      above e = grind (arith, nat_tests)

      below : nat_le segno 255 ≡ true → segno ≤ 255
      below e = grind (arith, nat_tests)

      by_test : (low : Bool) → nat_le segno 255 ≡ low → segno ≤ 4095
      by_test true e = let h = below e in omega (arith, h)
      by_test false e = absurd (is.differs (unknown by (above e) ∙ sym (unknown is.before (above e))))

  miss_fits : (p place segno by : ℕ) → slice_get (events_of (part transcripts p)) place ≡ Some (Core (Missing segno by))
      → fits_event (Core (Missing segno by)) ≡ true
  miss_fits p place segno by at =
      let right = legal.misses p place segno by (deed_at p place (Core (Missing segno by)) at) in
      both_hold _ _ (at_most_test segno 4095 (known_number p segno by right.changed))
      (number_test by (entry_within journal by right.entry right.at))

  call_fits : (p place number : ℕ) → p < length transcripts → slice_get (events_of (part transcripts p)) place ≡ Some (Entry number)
      → fits_event (Entry number) ≡ true
  call_fits p place number there at =
      let low = at_place (IsLowEvent (setting_of x journal p)) (events_of (part transcripts p)) place (Entry number) (low_part p there).0 at in
      number_test number (entry_within journal number low.entry low.there)

  event_fits : (p place : ℕ) (event : Event2) → p < length transcripts → slice_get (events_of (part transcripts p)) place ≡ Some event
      → fits_event event ≡ true
  event_fits p place (Core (Seen e)) there at = element_fits p place e there at
  event_fits p place (Core (Missing segno by)) there at = miss_fits p place segno by at
  event_fits p place (Entry number) there at = call_fits p place number there at

  part_fits : (p : ℕ) → p < length transcripts → list_all fits_step (part transcripts p) ≡ true
  part_fits p there =
      steps_fit (part transcripts p) (low_part p there).1
      (by_places fits_event (events_of (part transcripts p)) (λ place event at. event_fits p place event there at))

  -- entries
  entry_fits : (place : ℕ) (entry : journaled.Entry) → slice_get journal place ≡ Some entry → fits_entry entry ≡ true
  entry_fits place entry at =
      let number = listed 1 entry.process journal place entry at refl in
      let named = named_at (events_of (part transcripts entry.process)) number.0 (1 + place)
      (ap (λ (numbers : List ℕ). slice_get numbers number.0) (legal.each_call_once entry.process) ∙ number.1) in
      let there = part_within transcripts entry.process named.0 (Entry (1 + place)) named.1 in
      let low = at_place (IsLowEvent (setting_of x journal entry.process)) (events_of (part transcripts entry.process)) named.0 (Entry (1 + place))
      (low_part entry.process there).0 named.1 in
      let same = same_entry journal place low.entry entry low.there at in
      let parts = few_parts in
      both_hold _ _ (at_most_test entry.process 15 (omega (arith, parts, there)))
      (both_hold _ _ (at_most_test entry.ring 7 (subst (λ (e : journaled.Entry). e.ring ≤ 7) same low.good.ring))
      (both_hold _ _ (subst (λ (e : journaled.Entry). fits_request e.request ≡ true) same low.good.request)
      (list_at is_said journal place entry bounded.replies at)))

pub bounded_run : (x : Outline) (journal : List journaled.Entry) (transcripts : List (List Step)) → IsSession x → list_all fits (rows_of x) ≡ true
    → AreBounded x journal → IsLegal x journal transcripts → IsSpellable journal transcripts
bounded_run x journal transcripts session text bounded legal = record {
  count = number_test x journal transcripts session text bounded legal (length journal) (omega arith);
  entries = by_places fits_entry journal (entry_fits x journal transcripts session text bounded legal);
  parts = at_most_test (length transcripts) 16 (few_parts x journal transcripts session text bounded legal);
  steps = each_part (list_all fits_step) transcripts (part_fits x journal transcripts session text bounded legal);
}
