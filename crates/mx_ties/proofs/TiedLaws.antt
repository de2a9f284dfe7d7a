-- How the events of a process stay tied to its pass.
use Rattle.std.proofs.Common.{◌≡◌, inl, inr, ℕ, suc, ◌+◌, ◌<◌, ◌≤◌, List, [], ◌∷◌, ◌++◌, map, length, refl, ap, sym, ◌∙◌, subst, Option, Some, None, arith}
use Rattle.std.specs.List.{slice_get}
use Rattle.std.proofs.lemmas.List.{map-append, append-nil, length-append, length-map}
use Rattle.std.proofs.lemmas.Option.{slice_get_within}
use Rattle.mx_state.specs.declared.journal.Entry as journaled
use Rattle.mx_script.specs.Sessions.{Outline}
use Rattle.mx_core.specs.declared.elements.Element.{Element}
use Rattle.mx_core.specs.declared.elements.Event.{Event}
use Rattle.mx_core.specs.declared.elements.Event.TheVariants.{Seen, Missing}
use Rattle.mx_core.specs.declared.elements.Outcome.{Outcome}
use Rattle.mx_core.specs.declared.elements.Outcome.TheVariants as outcome
use Rattle.mx_transcript.specs.declared.transcripts.Event2.{Event2}
use Rattle.mx_transcript.specs.declared.transcripts.Event2.TheVariants.{Core, Entry}
use Rattle.mx_transcript.specs.Courses.{Judged}
use Rattle.mx_reads.specs.Deeds.{CellUse, Deed, Enters, point_of}
use Rattle.mx_transcript.specs.Legal.{setup_entries}
use Rattle.mx_transcript.specs.Misses.{IsChanged}
use Rattle.mx_transcript.specs.References.{reference, deed_by}
use Rattle.mx_transcript.specs.Transcripts.{entries_named}
use Rattle.mx_ties.specs.Closed.{followed, entry_in}
use Rattle.mx_ties.specs.Counting.{IsRising}
use Rattle.mx_ties.specs.Going.{IsLow, IsGoing, IsReference}
use Rattle.mx_ties.specs.Ran.{IsOwnEntry}
use Rattle.mx_ties.specs.SoFar.{AreTied}
use Rattle.mx_ties.specs.Views.{Referred, Missed, Marked, View, event_of, cores, cores_before}
use Rattle.mx_ties.proofs.EventLists.{named_at, entry_forth}
use Rattle.mx_ties.proofs.EventsMore.{cores_more, named_more, named_same, before_old, before_all, rising_more}
use Rattle.mx_ties.proofs.GoingLaws as going
use Rattle.mx_ties.proofs.JournalLists.{followed_more, followed_length}
use Rattle.mx_ties.proofs.Places.{place_kept, place_found}

-- a reference, whatever its cell
is_reference : (cell : Option CellUse) (came : Outcome) (point : ℕ) → IsReference (reference cell came point)
is_reference None (outcome.Read value writer stamp) point = tt
is_reference None (outcome.Written value) point = tt
is_reference None (outcome.Entered ring) point = tt
is_reference None (outcome.Denied denial) point = tt
is_reference (Some at) (outcome.Read value writer stamp) point = tt
is_reference (Some at) (outcome.Written value) point = tt
is_reference (Some at) (outcome.Entered ring) point = tt
is_reference (Some at) (outcome.Denied denial) point = tt

pub has_point : (cell : Option CellUse) (came : Outcome) (point : ℕ) → point_of (reference cell came point) ≡ Some point
has_point None (outcome.Read value writer stamp) point = refl
has_point None (outcome.Written value) point = refl
has_point None (outcome.Entered ring) point = refl
has_point None (outcome.Denied denial) point = refl
has_point (Some at) (outcome.Read value writer stamp) point = refl
has_point (Some at) (outcome.Written value) point = refl
has_point (Some at) (outcome.Entered ring) point = refl
has_point (Some at) (outcome.Denied denial) point = refl

is_low : (cell : Option CellUse) (came : Outcome) (point floor : ℕ) → point ≤ floor
    → ((value writer stamp : ℕ) → came ≡ outcome.Read value writer stamp → stamp ≤ floor)
    → IsLow floor (reference cell came point)
is_low None (outcome.Read value writer stamp) point floor l stamps = l
is_low None (outcome.Written value) point floor l stamps = l
is_low None (outcome.Entered ring) point floor l stamps = l
is_low None (outcome.Denied denial) point floor l stamps = l
is_low (Some at) (outcome.Read value writer stamp) point floor l stamps = (stamps value writer stamp refl, l)
is_low (Some at) (outcome.Written value) point floor l stamps = l
is_low (Some at) (outcome.Entered ring) point floor l stamps = l
is_low (Some at) (outcome.Denied denial) point floor l stamps = l

deeds_more : (cell : Element → Option CellUse) (events : List Event2) (event : Event2)
    → map (deed_by cell) events ++ deed_by cell event ∷ [] ≡ map (deed_by cell) (events ++ event ∷ [])
deeds_more cell events event = sym (map-append (deed_by cell) events (event ∷ []))

-- old own entries are there still, in a longer history
own_old : (start : ℕ) (history more : List Marked) (p number : ℕ) (events : List Event2) (event : Event2) (place : ℕ)
    → place ≤ length events
    → IsOwnEntry start history p number (cores_before events place)
    → IsOwnEntry start (history ++ more) p number (cores_before (events ++ event ∷ []) place)
own_old start history more p number events event place l o = record {
  place = o.place;
  is = o.is;
  marked = o.marked;
  at = place_kept history more o.place o.marked o.at;
  own = o.own;
  mark = o.mark ∙ sym (before_old events (event ∷ []) place l);
}

no_entry : (event : Event) (number : ℕ) → Entry number ≡ Core event → ⊥
no_entry event number h = cc

module _ (x : Outline) (setup : List journaled.Entry) (p : ℕ) (events : List Event2) (v : View) (told : ℕ → ℕ)
    (tied : AreTied x setup p events v told) where
  pub seen_tied : (j : Judged) (floor : ℕ) → v.floor ≤ j.element.point → j.element.point ≤ floor
      → ((value writer stamp : ℕ) → j.element.outcome ≡ outcome.Read value writer stamp → stamp ≤ floor)
      → AreTied x setup p (events ++ Core (Seen j.element) ∷ [])
      (record v { trace = v.trace ++ Referred j ∷ []; floor = floor }) told
  seen_tied j floor low high stamps = record {
    traced = cores_more events (Core (Seen j.element) ∷ [])
        ∙ ap (λ (l : List Event). l ++ Seen j.element ∷ []) tied.traced
        ∙ sym (map-append event_of v.trace (Referred j ∷ []));
    own = λ place number h. elim (place_found events (Core (Seen j.element)) (Entry number) place h) [
      | inl old ↦
          let l = slice_get_within events place (Entry number) old in
          subst (λ (k : List Marked). IsOwnEntry (length setup) k p number
          (cores_before (events ++ Core (Seen j.element) ∷ []) place)) (append-nil v.history)
          (own_old (length setup) v.history [] p number events (Core (Seen j.element)) place (omega arith)
          (tied.own place number old))
      | inr new ↦ absurd (no_entry (Seen j.element) number new.1)
    ];
    rising = subst (IsRising (length setup + 1)) (sym (named_same events (Seen j.element))) tied.rising;
    amount = ap length (named_same events (Seen j.element)) ∙ tied.amount;
    going = λ cell. let e = j.element in
        subst (λ (done : List Deed). IsGoing x (followed setup v.history) (setup_entries x) p done floor told)
        (deeds_more cell events (Core (Seen j.element)))
        (going.seen_law x (followed setup v.history) (setup_entries x) p (map (deed_by cell) events) v.floor floor told
        (reference (cell e) e.outcome e.point) e.point (is_reference (cell e) e.outcome e.point)
        (has_point (cell e) e.outcome e.point)
        low high (is_low (cell e) e.outcome e.point floor high stamps) (tied.going cell));
  }

  -- more is told, and no event came
  pub told_tied : (told' : ℕ → ℕ) (floor : ℕ) (more : List Marked) → v.floor ≤ floor → ((n : ℕ) → told n ≤ told' n)
      → AreTied x setup p events (record v { history = v.history ++ more; floor = floor }) told'
  told_tied told' floor more rise told_more = record {
    traced = tied.traced;
    own = λ place number h. let o = tied.own place number h in record {
      place = o.place;
      is = o.is;
      marked = o.marked;
      at = place_kept v.history more o.place o.marked o.at;
      own = o.own;
      mark = o.mark;
    };
    rising = tied.rising;
    amount = tied.amount;
    going = λ cell.
        subst (λ (j : List journaled.Entry). IsGoing x j (setup_entries x) p (map (deed_by cell) events) floor told')
        (sym (followed_more setup (v.history ++ more) v.history more refl))
        (going.told_law x (followed setup v.history) (map entry_in more) (setup_entries x) p
        (map (deed_by cell) events) v.floor floor told told' rise told_more (tied.going cell));
  }

  pub miss_tied : (told' : ℕ → ℕ) (segno by floor : ℕ) (more : List Marked) → told segno < by → by ≤ floor
      → v.floor ≤ floor → by ≤ told' segno
      → ((n : ℕ) → told n ≤ told' n)
      → AreTied x setup p (events ++ Core (Missing segno by) ∷ [])
      (record v { trace = v.trace ++ Missed segno by ∷ []; history = v.history ++ more; floor = floor }) told'
  miss_tied told' segno by floor more above under rise told_by told_more = record {
    traced = cores_more events (Core (Missing segno by) ∷ [])
        ∙ ap (λ (l : List Event). l ++ Missing segno by ∷ []) tied.traced
        ∙ sym (map-append event_of v.trace (Missed segno by ∷ []));
    own = λ place number h. elim (place_found events (Core (Missing segno by)) (Entry number) place h) [
      | inl old ↦
          let l = slice_get_within events place (Entry number) old in
          own_old (length setup) v.history more p number events (Core (Missing segno by)) place (omega arith)
          (tied.own place number old)
      | inr new ↦ absurd (no_entry (Missing segno by) number new.1)
    ];
    rising = subst (IsRising (length setup + 1)) (sym (named_same events (Missing segno by))) tied.rising;
    amount = ap length (named_same events (Missing segno by)) ∙ tied.amount;
    going = λ cell.
        subst (λ (j : List journaled.Entry). IsGoing x j (setup_entries x) p
        (map (deed_by cell) (events ++ Core (Missing segno by) ∷ [])) floor told')
        (sym (followed_more setup (v.history ++ more) v.history more refl))
        (subst (λ (done : List Deed). IsGoing x (followed setup v.history ++ map entry_in more)
        (setup_entries x) p done floor told') (deeds_more cell events (Core (Missing segno by)))
        (going.miss_law x (followed setup v.history) (map entry_in more) (setup_entries x) p
        (map (deed_by cell) events) v.floor floor told told' segno by
        above under rise told_by told_more (tied.going cell)));
  }

  pub entry_tied : (told' : ℕ → ℕ) (more : List Marked) (marked : Marked) (place floor : ℕ)
      → slice_get (v.history ++ more) place ≡ Some marked → marked.entry.process ≡ p → marked.mark ≡ length v.trace
      → v.floor < length setup + suc place → length setup + suc place ≤ floor → ((n : ℕ) → told n ≤ told' n)
      → ((segno : ℕ) → IsChanged x (followed setup (v.history ++ more)) p segno (length setup + suc place)
      → length setup + suc place ≤ told' segno)
      → AreTied x setup p (events ++ Entry (length setup + suc place) ∷ [])
      (record v { history = v.history ++ more; floor = floor; amount = suc v.amount }) told'
  entry_tied told' more marked place floor at own mark above under told_more told_here =
      let number = length setup + suc place in
      let grown = followed_more setup (v.history ++ more) v.history more refl in
      let long = followed_length setup (v.history ++ more) in
      let short = slice_get_within (v.history ++ more) place marked at in
      record {
        traced = cores_more events (Entry number ∷ []) ∙ append-nil (cores events) ∙ tied.traced;
        own = λ i other h. elim (place_found events (Entry number) (Entry other) i h) [
          | inl old ↦
              let l = slice_get_within events i (Entry other) old in
              own_old (length setup) v.history more p other events (Entry number) i (omega arith) (tied.own i other old)
          | inr new ↦
              let last = new.0 in record {
                place = place;
                is = same_number other number new.1;
                marked = marked;
                at = at;
                own = own;
                mark = mark ∙ sym
                    (ap (cores_before (events ++ Entry number ∷ [])) last
                    ∙ before_old events (Entry number ∷ []) (length events) (omega arith)
                    ∙ before_all events ∙ ap length tied.traced ∙ length-map v.trace event_of);
              }
        ];
        rising = subst (IsRising (length setup + 1)) (sym (named_more events (Entry number ∷ [])))
            (rising_more (length setup + 1) (entries_named events) number (omega arith) (λ i other h.
            let k = named_at events i other h in
            let l : other ≤ v.floor = (tied.going (λ e. None)).low k.place (Enters other)
            (entry_forth (λ e. None) events k.place other k.at) in omega arith)
            tied.rising);
        amount = ap length (named_more events (Entry number ∷ [])) ∙ length-append (entries_named events) (number ∷ [])
            ∙ (let a = tied.amount in omega arith);
        going = λ cell.
            subst (λ (j : List journaled.Entry). IsGoing x j (setup_entries x) p
            (map (deed_by cell) (events ++ Entry number ∷ [])) floor told') (sym grown)
            (subst (λ (done : List Deed). IsGoing x (followed setup v.history ++ map entry_in more)
            (setup_entries x) p done floor told') (deeds_more cell events (Entry number))
            (going.entered_law x (followed setup v.history) (map entry_in more) (setup_entries x) p
            (map (deed_by cell) events) v.floor floor told told' number
            above under (subst (λ (j : List journaled.Entry). number ≤ length j) grown (omega arith)) told_more
            (λ segno c. told_here segno
            (subst (λ (j : List journaled.Entry). IsChanged x j p segno number) (sym grown) c))
            (tied.going cell)));
      }
    where
      same_number : (a b : ℕ) → Entry a ≡ Entry b → a ≡ b
      same_number a b h = cc
