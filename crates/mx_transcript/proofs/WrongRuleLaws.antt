-- Wrong points, reads and falls are refused.
use Rattle.std.proofs.Common.{◌≡◌, ◌≢◌, ℕ, zero, suc, ◌<◌, ◌≤◌, List, [], ◌∷◌, ◌++◌, length, refl, ap, sym, ◌∙◌, subst, None, Some, arith}
use Rattle.std.specs.List.{slice_get}
use Rattle.mx_sdw.specs.declared.denials.Denial.TheVariants.{BadReturn}
use Rattle.mx_upcall.specs.Gates.{ReturnGate}
use Rattle.mx_core.specs.declared.elements.Element.{Element}
use Rattle.mx_core.specs.declared.elements.Event.TheVariants.{Seen}
use Rattle.mx_core.specs.declared.elements.Kind.TheVariants as kind
use Rattle.mx_core.specs.declared.elements.Outcome.TheVariants as outcome
use Rattle.mx_transcript.specs.declared.transcripts.Event2.{Event2}
use Rattle.mx_transcript.specs.declared.transcripts.Event2.TheVariants.{Core, Entry}
use Rattle.mx_reads.specs.Deeds.{CellUse, Deed, Deeds, Enters, Stores, Loads, Refers, Misses, point_of}
use Rattle.mx_reads.specs.ReadRule.{Reading, IsRightRead}
use Rattle.mx_reads.specs.Sightings.{Source, HasStored, Sights, HasSighted, IsLatest}
use Rattle.mx_transcript.specs.Points.{IsPoint, ArePoints}
use Rattle.mx_transcript.specs.Reads.{IsKnown}
use Rattle.mx_transcript.specs.WrongFalls.{gated, call, top, under, return, WrongFalls, WrongWaysBack}
use Rattle.mx_transcript.specs.WrongPoints.{WrongPoints}
use Rattle.mx_transcript.specs.WrongReads.{cell, anew, did, WrongReads}

-- the deeds of a right point
abbrev before_entry : List Deed
before_entry = Refers 3 ∷ Enters 4 ∷ []

no_refers : (at number : ℕ) → slice_get before_entry at ≡ Some (Enters number) → number ≡ 4
no_refers zero number h = absurd cc
no_refers (suc zero) number h = cc
no_refers (suc (suc at)) number h = absurd cc

same_point : (q : ℕ) → Some 3 ≡ Some q → q ≡ 3
same_point q h = cc

right_at : (q : ℕ) → q ≡ 3 → IsPoint 2 5 before_entry 0 q
right_at q is = record {
  after_setup = omega arith;
  after_entries = λ before number l h. absurd (omega arith);
  after_misses = λ before segno by l h. absurd (omega arith);
  after_stamps = λ before cell value writer stamp point l h. absurd (omega arith);
  rising = λ before deed earlier l h e. absurd (omega arith);
  within = omega arith;
  before_next = λ number n. let four = no_refers n.at number n.entry in omega arith;
}

point_at : ArePoints 2 5 before_entry
point_at zero deed q h e =
    let same : Refers 3 ≡ deed = cc in
    right_at q (same_point q (subst (λ (d : Deed). point_of d ≡ Some q) (sym same) e))
point_at (suc zero) deed q h e =
    let same : Enters 4 ≡ deed = cc in
    absurd (nothing (subst (λ (d : Deed). point_of d ≡ Some q) (sym same) e))
  where
    nothing : None ≡ Some q → ⊥
    nothing n = cc
point_at (suc (suc place)) deed q h e = absurd cc

pub wrong_points : WrongPoints
wrong_points = record {
  right_point = point_at;
  before_setup = λ are. let l : 2 ≤ 1 = (are 0 (Refers 1) 1 refl refl).after_setup in omega arith;
  before_own = λ are. let l : 4 ≤ 3 = (are 1 (Refers 3) 3 refl refl).after_entries 0 4
      (omega arith) refl in omega arith;
  before_miss = λ are. let l : 4 ≤ 3 = (are 1 (Refers 3) 3 refl refl).after_misses 0 8 4
      (omega arith) refl in omega arith;
  before_stamp = λ are. let l : 4 ≤ 3 = (are 1 (Refers 3) 3 refl refl).after_stamps 0 (record { cell = 320; since = 0 }) 7 2 4 3
      (omega arith) refl in omega arith;
  falls = λ are. let l : 4 ≤ 3 = (are 1 (Refers 3) 3 refl refl).rising 0 (Refers 4) 4
      (omega arith) refl refl in omega arith;
  beyond = λ are. let l : 6 ≤ 5 = (are 0 (Refers 6) 6 refl refl).within in omega arith;
  after_next = λ are.
      let l : 4 < 4 = (are 0 (Refers 4) 4 refl refl).before_next 4 (record {
        at = 1;
        after = omega arith;
        entry = refl;
        first = λ between other low high at. omega arith;
      }) in omega arith;
}

two : (n : ℕ) → n ≡ 2 → n ≢ 0
two n is e = omega arith

-- of two stores the first; a single one; none
before_last : (place : ℕ) → slice_get (Stores cell 5 0 ∷ Stores cell 6 0 ∷ Loads cell 5 1 0 0 ∷ []) place ≡ Some
    (Stores cell 5 0)
    → place < 1
before_last zero at = omega arith
before_last (suc zero) at = absurd cc
before_last (suc (suc zero)) at = absurd cc
before_last (suc (suc (suc place))) at = absurd cc

first_of : (place : ℕ) → slice_get (Stores cell 5 0 ∷ Stores cell 6 0 ∷ Enters 1 ∷ []) place ≡ Some (Stores cell 5 0)
    → place < 1
first_of zero at = omega arith
first_of (suc zero) at = absurd cc
first_of (suc (suc zero)) at = absurd cc
first_of (suc (suc (suc place))) at = absurd cc

one_store : (place : ℕ) → slice_get (Stores cell 5 0 ∷ []) place ≡ Some (Stores cell 5 0) → place ≡ 0
one_store zero at = refl
one_store (suc place) at = absurd cc

no_six : (place : ℕ) → slice_get (Stores cell 5 0 ∷ []) place ≡ Some (Stores cell 6 0) → ⊥
no_six zero at = cc
no_six (suc place) at = cc

no_store : (place : ℕ) → slice_get [] place ≡ Some (Stores cell 5 0) → ⊥
no_store place at = cc

-- process 1 reads a store of process 2, one of process 3, and that of process 2 again
abbrev again : Deeds
again = did
    ((Loads cell 5 2 0 0 ∷ Loads cell 9 3 0 0 ∷ Loads cell 5 2 0 0 ∷ []) ∷ (Stores cell 5 0 ∷ []) ∷
    (Stores cell 9 0 ∷ []) ∷ [])

other_process : (a b : ℕ) → a ≡ b → a ≡ 2 → b ≡ 3 → ⊥
other_process a b same one other = omega arith

-- before the last read it sighted process 3 last
third_sighted : (source : Source) → HasSighted again source 1 1 cell 3 (source 1 1)
third_sighted source = record { deed = Loads cell 9 3 0 0; at = refl; sights = (refl, (λ e. omega arith), refl, refl) }

no_other : (source : Source) (j : ℕ) (deed : Deed) → Some (Loads cell 9 3 0 0) ≡ Some deed
    → Sights source 1 1 deed cell 2 j → ⊥
no_other source j deed at sights =
    let same : Loads cell 9 3 0 0 ≡ deed = cc in
    let s : Sights source 1 1 (Loads cell 9 3 0 0) cell 2 j = subst (λ (d : Deed). Sights source 1 1 d cell 2 j)
    (sym same) sights in
    other_process 2 3 s.2 refl refl

not_latest : (source : Source) (j : ℕ) → IsLatest again source 1 2 cell 2 j → ⊥
not_latest source j latest = not_at latest.earlier latest.before latest.sighted latest.last
  where
    not_at : (h : ℕ) → h < 2 → HasSighted again source 1 h cell 2 j
        → ((later w k : ℕ) → h < later → later < 2 → HasSighted again source 1 later cell w k → ⊥) → ⊥
    not_at zero low sighted last = last 1 3 (source 1 1) (omega arith) (omega arith) (third_sighted source)
    not_at (suc zero) low sighted last = no_other source j sighted.deed sighted.at sighted.sights
    not_at (suc (suc h)) low sighted last = omega arith

-- a read of the cell
abbrev pub reading : ℕ → ℕ → ℕ → ℕ → ℕ → ℕ → Reading
reading process place value writer stamp point = record {
  process = process;
  place = place;
  cell = cell;
  value = value;
  writer = writer;
  stamp = stamp;
  point = point;
}

-- a right read: process 1 reads the store of process 2, which is known
abbrev known : Deeds
known = did ((Loads cell 5 2 0 1 ∷ []) ∷ (Stores cell 5 0 ∷ Enters 1 ∷ []) ∷ [])

abbrev first_store : Source
first_store p i = 0

only_store : (u at : ℕ) (c : CellUse) (value point : ℕ) → HasStored known u at c value point → (u ≡ 2) × (at ≡ 0)
only_store zero at c value point h = absurd cc
only_store (suc zero) zero c value point h = absurd cc
only_store (suc zero) (suc at) c value point h = absurd cc
only_store (suc (suc zero)) zero c value point h = (refl, refl)
only_store (suc (suc zero)) (suc zero) c value point h = absurd cc
only_store (suc (suc zero)) (suc (suc at)) c value point h = absurd cc
only_store (suc (suc (suc u))) at c value point h = absurd cc

read_so : IsRightRead known (IsKnown known) first_store (reading 1 0 5 2 0 1)
read_so = record {
  nobody = λ e. absurd (omega arith);
  such = λ n. record {
    stored = refl;
    current = λ s.
        let is = only_store s.other s.at cell s.value s.point s.stored in
        let first = is.1 in
        let after = s.after is.0 in omega arith;
  };
  own = λ n e. absurd (omega arith);
  another = λ n m. record {
    beyond = record {
      again = λ j latest. let l = latest.before in absurd (omega arith);
      onward = λ none h j l sighted. absurd (omega arith);
    };
    first = λ earlier l such beyond. omega arith;
  };
}

-- the first deed of process 1, if it is a load
abbrev IsRightOne : Deed → Type 0
IsRightOne (Enters number) = ⊥
IsRightOne (Stores c value point) = ⊥
IsRightOne (Loads c value writer stamp q) = IsRightRead known (IsKnown known) first_store (record {
  process = 1;
  place = 0;
  cell = c;
  value = value;
  writer = writer;
  stamp = stamp;
  point = q;
})
IsRightOne (Refers point) = ⊥
IsRightOne (Misses segno by) = ⊥

the_read : (p i : ℕ) (c : CellUse) (value writer stamp q : ℕ) → slice_get (known p) i ≡ Some (Loads c value writer stamp q)
    → IsRightRead known (IsKnown known) first_store (record {
      process = p;
      place = i;
      cell = c;
      value = value;
      writer = writer;
      stamp = stamp;
      point = q;
    })
the_read zero i c value writer stamp q h = absurd cc
the_read (suc zero) zero c value writer stamp q h =
    let same : Loads cell 5 2 0 1 ≡ Loads c value writer stamp q = cc in subst IsRightOne same read_so
the_read (suc zero) (suc i) c value writer stamp q h = absurd cc
the_read (suc (suc zero)) zero c value writer stamp q h = absurd cc
the_read (suc (suc zero)) (suc zero) c value writer stamp q h = absurd cc
the_read (suc (suc zero)) (suc (suc i)) c value writer stamp q h = absurd cc
the_read (suc (suc (suc p))) i c value writer stamp q h = absurd cc

-- a right read in a later use: nobody stored there yet
abbrev emptied : Deeds
emptied = did ((Loads anew 0 0 0 1 ∷ []) ∷ (Stores cell 5 0 ∷ Enters 1 ∷ []) ∷ [])

other_use : cell ≡ anew → ⊥
other_use e = apart cell.since anew.since (ap (λ (c : CellUse). c.since) e) refl refl
  where
    apart : (first later : ℕ) → first ≡ later → first ≡ 0 → later ≡ 1 → ⊥
    apart first later same low high = omega arith

no_later : (value point : ℕ) → Some (Stores cell 5 0) ≡ Some (Stores anew value point) → ⊥
no_later value point h = other_use (same h)
  where
    same : Some (Stores cell 5 0) ≡ Some (Stores anew value point) → cell ≡ anew
    same h = cc

unstored : (u at value point : ℕ) → HasStored emptied u at anew value point → ⊥
unstored zero at value point h = absurd cc
unstored (suc zero) zero value point h = absurd cc
unstored (suc zero) (suc at) value point h = absurd cc
unstored (suc (suc zero)) zero value point h = no_later value point h
unstored (suc (suc zero)) (suc zero) value point h = absurd cc
unstored (suc (suc zero)) (suc (suc at)) value point h = absurd cc
unstored (suc (suc (suc u))) at value point h = absurd cc

abbrev IsEmptyOne : Deed → Type 0
IsEmptyOne (Enters number) = ⊥
IsEmptyOne (Stores c value point) = ⊥
IsEmptyOne (Loads c value writer stamp q) = IsRightRead emptied (IsKnown emptied) first_store (record {
  process = 1;
  place = 0;
  cell = c;
  value = value;
  writer = writer;
  stamp = stamp;
  point = q;
})
IsEmptyOne (Refers point) = ⊥
IsEmptyOne (Misses segno by) = ⊥

empty_so : IsEmptyOne (Loads anew 0 0 0 1)
empty_so = record {
  nobody = λ e. record {
    zero_value = refl;
    zero_stamp = refl;
    unsighted = λ earlier storer store low sighted. absurd (omega arith);
    unknown = λ u at value point stored known. unstored u at value point stored;
  };
  such = λ n. absurd (n refl);
  own = λ n e. absurd (n refl);
  another = λ n m. absurd (n refl);
}

the_empty : (p i : ℕ) (c : CellUse) (value writer stamp q : ℕ) → slice_get (emptied p) i ≡ Some (Loads c value writer stamp q)
    → IsRightRead emptied (IsKnown emptied) first_store (record {
      process = p;
      place = i;
      cell = c;
      value = value;
      writer = writer;
      stamp = stamp;
      point = q;
    })
the_empty zero i c value writer stamp q h = absurd cc
the_empty (suc zero) zero c value writer stamp q h =
    let same : Loads anew 0 0 0 1 ≡ Loads c value writer stamp q = cc in subst IsEmptyOne same empty_so
the_empty (suc zero) (suc i) c value writer stamp q h = absurd cc
the_empty (suc (suc zero)) zero c value writer stamp q h = absurd cc
the_empty (suc (suc zero)) (suc zero) c value writer stamp q h = absurd cc
the_empty (suc (suc zero)) (suc (suc i)) c value writer stamp q h = absurd cc
the_empty (suc (suc (suc p))) i c value writer stamp q h = absurd cc

-- no store of process 2 is one of the later use
no_anew : (place : ℕ) → slice_get (Stores cell 5 0 ∷ Enters 1 ∷ []) place ≡ Some (Stores anew 5 0) → ⊥
no_anew zero at = no_later 5 0 at
no_anew (suc zero) at = cc
no_anew (suc (suc place)) at = cc

pub wrong_reads : WrongReads
wrong_reads = record {
  right_read = record {
    source = first_store;
    right = λ read at. the_read read.process read.place read.cell read.value read.writer read.stamp read.point at;
  };
  right_anew = record {
    source = first_store;
    right = λ read at. the_empty read.process read.place read.cell read.value read.writer read.stamp read.point at;
  };
  earlier_use = λ are.
      no_anew (are.source 1 0) ((are.right (record {
        process = 1;
        place = 0;
        cell = anew;
        value = 5;
        writer = 2;
        stamp = 0;
        point = 1;
      }) refl).such (two 2 refl)).stored;
  store_before = λ are.
      let right = are.right (reading 1 2 5 1 0 0) refl in
      (right.own (λ e. omega arith) refl).last 1 6 0
      (before_last (are.source 1 2) (right.such (λ e. omega arith)).stored) (omega arith) refl;
  nobodys = λ are.
      ((are.right (reading 1 1 0 0 0 0) refl).nobody refl).unsighted 0 1 0 (omega arith)
      (record { deed = Stores cell 5 0; at = refl; sights = (refl, refl, refl) });
  other_writer = λ are.
      no_store (are.source 1 0) ((are.right (reading 1 0 5 3 0 0) refl).such (λ e. omega arith)).stored;
  other_value = λ are.
      no_six (are.source 1 0) ((are.right (reading 1 0 6 2 0 0) refl).such (two 2 refl)).stored;
  replaced = λ are.
      let such = (are.right (reading 1 0 5 2 0 1) refl).such (two 2 refl) in
      such.current (record {
        other = 2;
        at = 1;
        value = 6;
        point = 0;
        stored = refl;
        known = record { later = 2; number = 1; after = omega arith; entry = refl; within = omega arith };
        after = λ e. first_of (are.source 1 0) such.stored;
        knew = λ n. absurd (n refl);
      });
  forgotten = λ are.
      ((are.right (reading 1 0 0 0 0 1) refl).nobody refl).unknown 2 0 5 0 refl
      (record { later = 1; number = 1; after = omega arith; entry = refl; within = omega arith });
  again = λ are.
      let right = are.right (reading 1 2 5 2 0 0) refl in
      let other = right.another (two 2 refl) (λ e. omega arith) in
      let here = one_store (are.source 1 2) (right.such (two 2 refl)).stored in
      let l = other.beyond.onward (not_latest are.source) 0 (are.source 1 0) (omega arith)
      (record { deed = Loads cell 5 2 0 0; at = refl; sights = (refl, two 2 refl, refl, refl) }) in
      omega arith;
}

last_is : (before : List Event2) (e call : Element) → Core (Seen e) ∷ [] ≡ before ++ Core (Seen call) ∷ [] → e ≡ call
last_is [] e call h = cc
last_is (first ∷ []) e call h = cc
last_is (first ∷ second ∷ before) e call h = cc

pub wrong_falls : WrongFalls
wrong_falls = record {
  right_call = record {
    before = [];
    call = call;
    last = refl;
    kind = refl;
    granted = refl;
    gate = omega arith;
    above = omega arith;
    within = omega arith;
    into = refl;
  };
  by_return = λ gate.
      let w : kind.Return ≡ kind.Call = ap (λ (e : Element). e.kind) (last_is gate.before _ gate.call gate.last)
      ∙ gate.kind in cc;
  no_gate = λ gate.
      let w : 2 < 2 = subst (λ (e : Element). e.word < (gated e).gate)
      (sym (last_is gate.before _ gate.call gate.last)) gate.gate in
      omega arith;
  too_low = λ gate. let w : 3 ≡ 4 = gate.into in omega arith;
  from_outside = λ gate.
      let w : 7 ≤ 6 = subst (λ (e : Element). e.ring ≤ (gated e).brackets.r3)
      (sym (last_is gate.before _ gate.call gate.last)) gate.within in
      omega arith;
  after_call = λ gate. not_last gate.before gate.call gate.last;
} where
  not_last : (before : List Event2) (e : Element) → Core (Seen call) ∷ Entry 3 ∷ [] ≡ before ++ Core (Seen e) ∷ [] → ⊥
  not_last [] e h = cc
  not_last (a ∷ []) e h = cc
  not_last (a ∷ b ∷ []) e h = cc
  not_last (a ∷ b ∷ c ∷ before) e h = cc

-- of two gates the top one, and those below it
same_top : (g h : ReturnGate) (xs ys : List ReturnGate) → g ∷ xs ≡ h ∷ ys → (g ≡ h) × (xs ≡ ys)
same_top g h xs ys e = (cc, cc)

same_entered : (a b : ℕ) → outcome.Entered a ≡ outcome.Entered b → a ≡ b
same_entered a b e = cc

no_top : (gate : ReturnGate) (others : List ReturnGate) → [] ≡ gate ∷ others → ⊥
no_top gate others e = cc

-- the gate of such a return is the top one
the_top : (gate : ReturnGate) (others : List ReturnGate) → top ∷ under ∷ [] ≡ gate ∷ others
    → (gate.lower ≡ 4) × (others ≡ under ∷ [])
the_top gate others e =
    let same = same_top top gate (under ∷ []) others e in
    (sym (ap (λ (g : ReturnGate). g.lower) same.0), sym same.1)

pub wrong_ways_back : WrongWaysBack
wrong_ways_back = record {
  right_return = record {
    gate = top;
    others = under ∷ [];
    top = refl;
    popped = refl;
    into = refl;
    earlier = [];
    return = return;
    last = refl;
    kind = refl;
    granted = refl;
  };
  no_gate = λ way. no_top way.gate way.others way.top;
  pops_nothing = λ way.
      let w : top ∷ under ∷ [] ≡ under ∷ [] = way.popped ∙ (the_top way.gate way.others way.top).1 in
      let z : 2 ≡ 1 = ap (λ (gates : List ReturnGate). length gates) w in omega arith;
  pops_both = λ way.
      let w : [] ≡ under ∷ [] = way.popped ∙ (the_top way.gate way.others way.top).1 in cc;
  enters_other = λ way.
      let w : outcome.Entered 3 ≡ outcome.Entered way.gate.lower =
      ap (λ (e : Element). e.outcome) (last_is way.earlier _ way.return way.last) ∙ way.granted in
      let z : 3 ≡ 4 = same_entered 3 way.gate.lower w ∙ (the_top way.gate way.others way.top).0 in omega arith;
  other_ring = λ way. let z : 3 ≡ 4 = way.into ∙ (the_top way.gate way.others way.top).0 in omega arith;
  by_call = λ way.
      let w : kind.Call ≡ kind.Return =
      ap (λ (e : Element). e.kind) (last_is way.earlier _ way.return way.last) ∙ way.kind in cc;
  denied = λ way.
      let w : outcome.Denied BadReturn ≡ outcome.Entered way.gate.lower =
      ap (λ (e : Element). e.outcome) (last_is way.earlier _ way.return way.last) ∙ way.granted in cc;
  after_return = λ way. not_last way.earlier way.return way.last;
} where
  not_last : (before : List Event2) (e : Element) → Core (Seen return) ∷ Entry 3 ∷ [] ≡ before ++ Core (Seen e) ∷ [] → ⊥
  not_last [] e h = cc
  not_last (a ∷ []) e h = cc
  not_last (a ∷ b ∷ []) e h = cc
  not_last (a ∷ b ∷ c ∷ before) e h = cc
