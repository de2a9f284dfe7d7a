-- A load of what the cell holds keeps what is right of reads and cells.
use Rattle.std.proofs.Common.{◌≡◌, ◌≢◌, ◌⊎◌, inl, inr, ℕ, ◌<◌, ◌≤◌, List, [], ◌∷◌, ◌++◌, length, refl, ap, sym, ◌∙◌, subst, Some, arith}
use Rattle.std.specs.Prelude.{Bool, IsTrue}
use Rattle.std.specs.List.{slice_get}
use Rattle.std.proofs.lemmas.Bool.{cases_eq}
use Rattle.std.proofs.lemmas.Option.{slice_get_within}
use Rattle.mx_reads.specs.Deeds.{CellUse, Deed, Deeds, Stores, Loads}
use Rattle.mx_reads.specs.Growth.{Extends, IsWithin}
use Rattle.mx_reads.specs.Held.{Held, IsHeld, AreRight}
use Rattle.mx_reads.specs.KeepLaws.{LoadLaw}
use Rattle.mx_reads.specs.ReadRule.{Fronts, known_by, Reading, IsSuch, IsOwnLast, IsFirstOther, IsRightRead}
use Rattle.mx_reads.specs.Sightings.{Source, HasStored, HasSighted, IsLatest, IsBeyond}
use Rattle.mx_reads.proofs.CellUses.{same_cell}
use Rattle.mx_reads.proofs.Moves.{IsApart, read_forth, held_apart, sighted_back, sighted_forth, beyond_forth, beyond_back}
use Rattle.mx_reads.proofs.Keeps.{load_of, grown, idle_still, reads_still, sight_there, store_no_load}
use Rattle.mx_reads.proofs.Places.{place_last}
use Rattle.mx_reads.proofs.Choosing.{choose}

-- the stores that reads stand for, with one read more
abbrev pub with_source : Source → ℕ → ℕ → ℕ → Source
with_source source p i place u h =
    elim (cases_eq u p) [ inl e ↦ elim (cases_eq h i) [ inl e' ↦ place | inr n ↦ source u h ] | inr n ↦ source u h ]

source_here : (source : Source) (p i place : ℕ) → with_source source p i place p i ≡ place
source_here source p i place = elim (cases_eq p p) as
    (λ (x : (p ≡ p) ⊎ (p ≡ p → ⊥)). elim x
    [ inl e ↦ elim (cases_eq i i) [ inl e' ↦ place | inr n ↦ source p i ] | inr n ↦ source p i ] ≡ place) [
      | inl e ↦ elim (cases_eq i i) as
          (λ (x : (i ≡ i) ⊎ (i ≡ i → ⊥)). elim x [ inl e' ↦ place | inr n ↦ source p i ] ≡ place) [
            | inl e' ↦ refl
            | inr n ↦ absurd (n refl)
          ]
      | inr n ↦ absurd (n refl)
    ]

source_else : (source : Source) (p i place u h : ℕ) → (u ≡ p → h ≢ i) → with_source source p i place u h ≡ source u h
source_else source p i place u h other = elim (cases_eq u p) as
    (λ (x : (u ≡ p) ⊎ (u ≡ p → ⊥)). elim x
    [ inl e ↦ elim (cases_eq h i) [ inl e' ↦ place | inr n ↦ source u h ] | inr n ↦ source u h ] ≡ source u h) [
      | inl e ↦ elim (cases_eq h i) as
          (λ (x : (h ≡ i) ⊎ (h ≡ i → ⊥)). elim x [ inl e' ↦ place | inr n ↦ source u h ] ≡ source u h) [
            | inl e' ↦ absurd (other e e')
            | inr n ↦ refl
          ]
      | inr n ↦ refl
    ]

-- nothing happens
still : (bound p : ℕ) (old : Deeds) (front : Fronts) → Extends bound old front old front p (λ d. ⊥)
still bound p old front = record {
  kept = λ u i d h. h;
  found = λ u i d h. inl h;
  same = λ u q l. refl;
  longer = λ u. omega arith;
  length_others = λ u n. refl;
  length_own = omega arith;
}

module _ (count bound p : ℕ) (cell : CellUse) (q : ℕ) (old new : Deeds) (front : Fronts) (present : CellUse → Bool)
    (memory : CellUse → Held) (there : IsTrue (present cell)) (counted : p < count) (under : q ≤ bound)
    (own : new p ≡ old p ++ Loads cell (memory cell).value (memory cell).writer (memory cell).stamp q ∷ [])
    (others : (u : ℕ) → u ≢ p → new u ≡ old u) (are : AreRight count bound old front present memory) where
  abbrev value : ℕ
  value = (memory cell).value

  abbrev writer : ℕ
  writer = (memory cell).writer

  abbrev stamp : ℕ
  stamp = (memory cell).stamp

  abbrev load : Deed
  load = Loads cell value writer stamp q

  abbrev i : ℕ
  i = length (old p)

  abbrev read : Reading
  read = record {
    process = p;
    place = i;
    cell = cell;
    value = value;
    writer = writer;
    stamp = stamp;
    point = q;
  }

  is : IsHeld old front are.source cell (memory cell)
  is = are.held cell there

  g : Extends bound old front new front p (λ d. d ≡ load)
  g = grown bound p old new front load own others

  load_last : slice_get (new p) i ≡ Some load
  load_last = subst (λ (l : List Deed). slice_get l i ≡ Some load) (sym own) (place_last (old p) load)

  -- the store that the cell holds will do
  such_held : writer ≢ 0 → IsSuch old (known_by front) read is.place
  such_held some = record {
    stored = is.stored some;
    current = λ s. elim (cases_eq s.other writer) [
      | inl e ↦
          let most = is.last some s.at s.value s.point
          (subst (λ (u : ℕ). HasStored old u s.at cell s.value s.point) e s.stored) in
          let after = s.after e in absurd (omega arith)
      | inr n ↦ is.unseen some s.other s.at s.value s.point s.stored (s.knew n)
    ];
  }

  beyond_held : writer ≢ 0 → IsBeyond old are.source p i cell writer is.place
  beyond_held some = record {
    again = λ j l.
        let s = l.sighted in
        let t = sight_there old front are.source are.right p l.earlier s.deed cell writer j s.at s.sights in
        is.last some j t.value t.point t.at;
    onward = λ none h j before s. is.onward some p none h j s;
  }

  record Chosen : Type 0 where
    place : ℕ
    will_do : writer ≢ 0 → IsSuch old (known_by front) read place
    mine : writer ≢ 0 → writer ≡ p → place ≡ is.place
    foreign : writer ≢ 0 → writer ≢ p → IsFirstOther old (known_by front) are.source read place

  chosen : Chosen
  chosen = elim (cases_eq writer 0) [
    | inl none ↦ record {
      place = 0;
      will_do = λ some. absurd (some none);
      mine = λ some e. absurd (some none);
      foreign = λ some n. absurd (some none);
    }
    | inr some ↦ elim (cases_eq writer p) [
      | inl e ↦ record {
        place = is.place;
        will_do = such_held;
        mine = λ s e'. refl;
        foreign = λ s n. absurd (n e);
      }
      | inr n ↦
          let c = choose count old front are.idle are.source read is.place (such_held some) (beyond_held some) in
          record {
            place = c.place;
            will_do = λ s. c.such;
            mine = λ s e. absurd (n e);
            foreign = λ s m. c.first;
          }
    ]
  ]

  abbrev source : Source
  source = with_source are.source p i chosen.place

  at_load : source p i ≡ chosen.place
  at_load = source_here are.source p i chosen.place

  agree : (u h : ℕ) → h < length (old u) → source u h ≡ are.source u h
  agree u h l = source_else are.source p i chosen.place u h
      (λ e f. let a = ap (λ (v : ℕ). length (old v)) e in absurd (omega arith))

  read_here : IsRightRead old (known_by front) source read
  read_here = record {
    nobody = λ e. record {
      zero_value = is.zero_value e;
      zero_stamp = is.zero_stamp e;
      unsighted = λ h w j before s.
          let o = sighted_back bound old front old front p (λ d. ⊥) (still bound p old front) are.within are.low
          are.source source agree p h cell w j before s in
          let t = sight_there old front are.source are.right p h o.deed cell w j o.at o.sights in
          is.unwritten e w j t.value t.point t.at;
      unknown = λ u place v point h known. is.unwritten e u place v point h;
    };
    such = λ some. subst (λ (place : ℕ). IsSuch old (known_by front) read place) (sym at_load) (chosen.will_do some);
    own = λ some e.
        let same = at_load ∙ chosen.mine some e in
        subst (λ (place : ℕ). IsOwnLast old read place) (sym same) (record {
          before = slice_get_within (old p) is.place (Stores cell value stamp)
              (subst (λ (u : ℕ). HasStored old u is.place cell value stamp) e (is.stored some));
          last = λ later v point a b h.
              let most = is.last some later v point (subst (λ (u : ℕ). HasStored old u later cell v point) (sym e) h)
              in absurd (omega arith);
        });
    another = λ some n.
        let f = chosen.foreign some n in
        subst (λ (place : ℕ). IsFirstOther old (known_by front) source read place) (sym at_load) (record {
          beyond = beyond_forth bound old front old front p (λ d. ⊥) (still bound p old front) are.within are.low
              are.source source agree
              p i cell writer chosen.place (omega arith) f.beyond;
          first = λ before a s b. f.first before a s
              (beyond_back bound old front old front p (λ d. ⊥) (still bound p old front) are.within are.low are.source
              source agree
              p i cell writer before (omega arith) b);
        });
  }

  old_store : (u k : ℕ) (c : CellUse) (v point : ℕ) → HasStored new u k c v point → HasStored old u k c v point
  old_store u k c v point h = elim (g.found u k (Stores c v point) h) [
    | inl a ↦ a
    | inr b ↦ absurd (store_no_load cell value writer stamp q c v point b.2)
  ]

  others_sighting : (u : ℕ) → u ≢ p → (h w j : ℕ) → HasSighted new source u h cell w j
      → HasSighted old are.source u h cell w j
  others_sighting u apart h w j s = elim (g.found u h s.deed s.at) [
    | inl a ↦ sighted_back bound old front new front p (λ d. d ≡ load) g are.within are.low are.source source agree u h
        cell w j (slice_get_within (old u) h s.deed a) s
    | inr b ↦ absurd (apart b.0)
  ]

  held_loaded : IsHeld new front source cell (memory cell)
  held_loaded = record {
    zero_value = is.zero_value;
    zero_stamp = is.zero_stamp;
    unwritten = λ e u place v point h. is.unwritten e u place v point (old_store u place cell v point h);
    place = is.place;
    stored = λ some. g.kept writer is.place (Stores cell value stamp) (is.stored some);
    last = λ some later v point h. is.last some later v point (old_store writer later cell v point h);
    unseen = λ some u at v point h known. is.unseen some u at v point (old_store u at cell v point h) known;
    onward = λ some u none h j s. elim (cases_eq u p) [
      | inl e ↦ absurd (mine some (subst
          (λ (v : ℕ). (j : ℕ) → IsLatest new source v (length (new v)) cell writer j → ⊥) e none))
      | inr apart ↦ is.onward some u (λ j' l. none j' (still_latest u apart j' l)) h j
          (others_sighting u apart h writer j s)
    ];
  }
    where
      mine : writer ≢ 0 → ((j : ℕ) → IsLatest new source p (length (new p)) cell writer j → ⊥) → ⊥
      mine some none = none (source p i) (record {
        earlier = i;
        before = slice_get_within (new p) i load load_last;
        sighted = record { deed = load; at = load_last; sights = (refl, some, refl, refl) };
        last = λ later w j a b s. let one = g.length_own in absurd (omega arith);
      })

      still_latest : (u : ℕ) → u ≢ p → (j : ℕ) → IsLatest old are.source u (length (old u)) cell writer j
          → IsLatest new source u (length (new u)) cell writer j
      still_latest u apart j l = let before = l.before in let longer = g.longer u in record {
        earlier = l.earlier;
        before = omega arith;
        sighted = sighted_forth bound old front new front p (λ d. d ≡ load) g are.within are.low are.source source
            agree u l.earlier cell writer j l.sighted;
        last = λ later w' j' a b s.
            let o = others_sighting u apart later w' j' s in
            l.last later w' j' a (slice_get_within (old u) later o.deed o.at) o;
      }

  -- the new read is this one
  same_read : (other : Reading) → other.process ≡ p → other.place ≡ i → load_of other ≡ load → read ≡ other
  same_read other a b e =
      let cells : other.cell ≡ cell = cc in
      let values : other.value ≡ value = cc in
      let writers : other.writer ≡ writer = cc in
      let stamps : other.stamp ≡ stamp = cc in
      let points : other.point ≡ q = cc in
      λ k. record {
        process = sym a k;
        place = sym b k;
        cell = sym cells k;
        value = sym values k;
        writer = sym writers k;
        stamp = sym stamps k;
        point = sym points k;
      }

  loaded_right : AreRight count bound new front present memory
  loaded_right = record {
    within = λ u k d h. elim (g.found u k d h) [
      | inl a ↦ are.within u k d a
      | inr b ↦ subst (IsWithin bound) (sym b.2) under
    ];
    low = λ u r l. let most = are.low u r l in let longer = g.longer u in omega arith;
    idle = idle_still count bound p old new front front (λ d. d ≡ load) counted g are.idle;
    source = source;
    right =
        reads_still bound old new front front p (λ d. d ≡ load) are.source source g are.within are.low agree are.right
        (λ other a b f. subst (λ (x : Reading). IsRightRead new (known_by front) source x) (same_read other a b f)
        (read_forth bound old front new front p (λ d. d ≡ load) g are.within are.low source source (λ u h l. refl) read
        (omega arith) under refl read_here));
    held = λ c here_too. elim (same_cell c cell) [
      | inl e ↦ subst (λ (m : CellUse). IsHeld new front source m (memory m)) (sym e) held_loaded
      | inr n ↦ held_apart bound old front new front p (λ d. d ≡ load) g are.within are.low are.source source agree
          c (memory c) (λ d f. subst (IsApart c) (sym f) (λ e. n (sym e))) (are.held c here_too)
    ];
  }

pub load_law : LoadLaw
load_law count bound p cell q old new front present memory there counted under own others are =
    loaded_right count bound p cell q old new front present memory there counted under own others are
