-- Reads that are right stay right where cells have other names, each one of its own.
use Rattle.std.proofs.Common.{◌≡◌, ℕ, List, map, refl, ap, sym, ◌∙◌, subst, Option, Some, None}
use Rattle.std.specs.List.{slice_get}
use Rattle.std.specs.Option.{option_map}
use Rattle.std.proofs.lemmas.Option.{slice_get-map}
use Rattle.mx_reads.specs.Deeds.{CellUse, Deed, Deeds, Enters, Stores, Loads, Refers, Misses}
use Rattle.mx_reads.specs.ReadRule.{Fronts, known_by, Reading, IsSuperseded, IsSuch, IsRightRead, AreRightReads}
use Rattle.mx_reads.specs.Sightings.{Source, HasStored, Sights, HasSighted, IsLatest, IsBeyond}
use Rattle.mx_ties.specs.Uses.{renamed}

-- a deed of another name
record IsNamed (name : CellUse → CellUse) (got : Option Deed) (there : Deed) : Type 0 where
  deed : Deed
  at : got ≡ Some deed
  is : renamed name deed ≡ there

named : (name : CellUse → CellUse) (got : Option Deed) (there : Deed) → option_map (renamed name) got ≡ Some there
    → IsNamed name got there
named name None there e = absurd (nothing e)
  where
    nothing : None ≡ Some there → ⊥
    nothing e = cc
named name (Some deed) there e = record { deed = deed; at = refl; is = same e }
  where
    same : Some (renamed name deed) ≡ Some there → renamed name deed ≡ there
    same e = cc

-- a deed whose new name is that of a store is that store
store_is : (name : CellUse → CellUse) → ((a b : CellUse) → name a ≡ name b → a ≡ b) → (d : Deed) (c : CellUse)
    (value point : ℕ) → renamed name d ≡ Stores (name c) value point → d ≡ Stores c value point
store_is name apart (Enters number) c value point e = absurd (other e)
  where
    other : Enters number ≡ Stores (name c) value point → ⊥
    other e = cc
store_is name apart (Stores own v q) c value point e =
    λ i. Stores (apart own c (first e) i) (second e i) (third e i)
  where
    first : Stores (name own) v q ≡ Stores (name c) value point → name own ≡ name c
    first e = cc

    second : Stores (name own) v q ≡ Stores (name c) value point → v ≡ value
    second e = cc

    third : Stores (name own) v q ≡ Stores (name c) value point → q ≡ point
    third e = cc
store_is name apart (Loads own v writer stamp q) c value point e = absurd (other (name own) e)
  where
    other : (o : CellUse) → Loads o v writer stamp q ≡ Stores (name c) value point → ⊥
    other o e = cc
store_is name apart (Refers q) c value point e = absurd (other e)
  where
    other : Refers q ≡ Stores (name c) value point → ⊥
    other e = cc
store_is name apart (Misses segno by) c value point e = absurd (other e)
  where
    other : Misses segno by ≡ Stores (name c) value point → ⊥
    other e = cc

module _ (name : CellUse → CellUse) (apart : (a b : CellUse) → name a ≡ name b → a ≡ b) (done alias : Deeds)
    (front : Fronts) (same : (p : ℕ) → map (renamed name) (done p) ≡ alias p) where
  at_other : (u i : ℕ) → slice_get (alias u) i ≡ option_map (renamed name) (slice_get (done u) i)
  at_other u i =
      ap (λ (l : List Deed). slice_get l i) (sym (same u)) ∙ slice_get-map (renamed name) (done u) i

  to : (u i : ℕ) (d : Deed) → slice_get (done u) i ≡ Some d → slice_get (alias u) i ≡ Some (renamed name d)
  to u i d at = at_other u i ∙ ap (option_map (renamed name)) at

  from : (u i : ℕ) (d : Deed) → slice_get (alias u) i ≡ Some d → IsNamed name (slice_get (done u) i) d
  from u i d at = named name (slice_get (done u) i) d (sym (at_other u i) ∙ at)

  store_to : (u i : ℕ) (c : CellUse) (value point : ℕ) → HasStored done u i c value point
      → HasStored alias u i (name c) value point
  store_to u i c value point at = to u i (Stores c value point) at

  store_from : (u i : ℕ) (c : CellUse) (value point : ℕ) → HasStored alias u i (name c) value point
      → HasStored done u i c value point
  store_from u i c value point at =
      let is = from u i (Stores (name c) value point) at in
      is.at ∙ ap Some (store_is name apart is.deed c value point is.is)

  module _ (source : Source) where
    sights_to : (p i : ℕ) (d : Deed) (c : CellUse) (w j : ℕ) → Sights source p i d c w j
        → Sights source p i (renamed name d) (name c) w j
    sights_to p i (Enters number) c w j s = s
    sights_to p i (Stores own value point) c w j s = (ap name s.0, s.1, s.2)
    sights_to p i (Loads own value writer stamp point) c w j s = (ap name s.0, s.1, s.2, s.3)
    sights_to p i (Refers point) c w j s = s
    sights_to p i (Misses segno by) c w j s = s

    sights_from : (p i : ℕ) (d : Deed) (c : CellUse) (w j : ℕ) → Sights source p i (renamed name d) (name c) w j
        → Sights source p i d c w j
    sights_from p i (Enters number) c w j s = s
    sights_from p i (Stores own value point) c w j s = (apart own c s.0, s.1, s.2)
    sights_from p i (Loads own value writer stamp point) c w j s = (apart own c s.0, s.1, s.2, s.3)
    sights_from p i (Refers point) c w j s = s
    sights_from p i (Misses segno by) c w j s = s

    sighted_to : (p i : ℕ) (c : CellUse) (w j : ℕ) → HasSighted done source p i c w j
        → HasSighted alias source p i (name c) w j
    sighted_to p i c w j s = record {
      deed = renamed name s.deed;
      at = to p i s.deed s.at;
      sights = sights_to p i s.deed c w j s.sights;
    }

    sighted_from : (p i : ℕ) (c : CellUse) (w j : ℕ) → HasSighted alias source p i (name c) w j
        → HasSighted done source p i c w j
    sighted_from p i c w j s = let is = from p i s.deed s.at in record {
      deed = is.deed;
      at = is.at;
      sights = sights_from p i is.deed c w j
          (subst (λ (d : Deed). Sights source p i d (name c) w j) (sym is.is) s.sights);
    }

    latest_to : (p i : ℕ) (c : CellUse) (w j : ℕ) → IsLatest done source p i c w j
        → IsLatest alias source p i (name c) w j
    latest_to p i c w j l = record {
      earlier = l.earlier;
      before = l.before;
      sighted = sighted_to p l.earlier c w j l.sighted;
      last = λ later w' j' after within s. l.last later w' j' after within (sighted_from p later c w' j' s);
    }

    latest_from : (p i : ℕ) (c : CellUse) (w j : ℕ) → IsLatest alias source p i (name c) w j
        → IsLatest done source p i c w j
    latest_from p i c w j l = record {
      earlier = l.earlier;
      before = l.before;
      sighted = sighted_from p l.earlier c w j l.sighted;
      last = λ later w' j' after within s. l.last later w' j' after within (sighted_to p later c w' j' s);
    }

    beyond_to : (p i : ℕ) (c : CellUse) (w place : ℕ) → IsBeyond done source p i c w place
        → IsBeyond alias source p i (name c) w place
    beyond_to p i c w place b = record {
      again = λ j l. b.again j (latest_from p i c w j l);
      onward = λ none h j before s.
          b.onward (λ k l. none k (latest_to p i c w k l)) h j before (sighted_from p h c w j s);
    }

    beyond_from : (p i : ℕ) (c : CellUse) (w place : ℕ) → IsBeyond alias source p i (name c) w place
        → IsBeyond done source p i c w place
    beyond_from p i c w place b = record {
      again = λ j l. b.again j (latest_to p i c w j l);
      onward = λ none h j before s.
          b.onward (λ k l. none k (latest_from p i c w k l)) h j before (sighted_to p h c w j s);
    }

  superseded_to : (u place : ℕ) (c : CellUse) (q : ℕ) → IsSuperseded done (known_by front) u place c q
      → IsSuperseded alias (known_by front) u place (name c) q
  superseded_to u place c q s = record {
    other = s.other;
    at = s.at;
    value = s.value;
    point = s.point;
    stored = store_to s.other s.at c s.value s.point s.stored;
    known = s.known;
    after = s.after;
    knew = s.knew;
  }

  superseded_from : (u place : ℕ) (c : CellUse) (q : ℕ) → IsSuperseded alias (known_by front) u place (name c) q
      → IsSuperseded done (known_by front) u place c q
  superseded_from u place c q s = record {
    other = s.other;
    at = s.at;
    value = s.value;
    point = s.point;
    stored = store_from s.other s.at c s.value s.point s.stored;
    known = s.known;
    after = s.after;
    knew = s.knew;
  }

  -- a read of the cell under its other name
  abbrev of_alias : Reading → Reading
  of_alias read = record {
    process = read.process;
    place = read.place;
    cell = name read.cell;
    value = read.value;
    writer = read.writer;
    stamp = read.stamp;
    point = read.point;
  }

  such_to : (read : Reading) (place : ℕ) → IsSuch done (known_by front) read place
      → IsSuch alias (known_by front) (of_alias read) place
  such_to read place s = record {
    stored = store_to read.writer place read.cell read.value read.stamp s.stored;
    current = λ is. s.current (superseded_from read.writer place read.cell read.point is);
  }

  such_from : (read : Reading) (place : ℕ) → IsSuch alias (known_by front) (of_alias read) place
      → IsSuch done (known_by front) read place
  such_from read place s = record {
    stored = store_from read.writer place read.cell read.value read.stamp s.stored;
    current = λ is. s.current (superseded_to read.writer place read.cell read.point is);
  }

  right_from : (source : Source) (read : Reading) → IsRightRead alias (known_by front) source (of_alias read)
      → IsRightRead done (known_by front) source read
  right_from source read r = record {
    nobody = λ zero. let n = r.nobody zero in record {
      zero_value = n.zero_value;
      zero_stamp = n.zero_stamp;
      unsighted = λ h w j before s. n.unsighted h w j before (sighted_to source read.process h read.cell w j s);
      unknown = λ u place v point s. n.unknown u place v point (store_to u place read.cell v point s);
    };
    such = λ some. such_from read (source read.process read.place) (r.such some);
    own = λ some is. let o = r.own some is in record {
      before = o.before;
      last = λ later v point after before s.
          o.last later v point after before (store_to read.process later read.cell v point s);
    };
    another = λ some not. let o = r.another some not in record {
      beyond = beyond_from source read.process read.place read.cell read.writer (source read.process read.place)
          o.beyond;
      first = λ earlier before s b. o.first earlier before (such_to read earlier s)
          (beyond_to source read.process read.place read.cell read.writer earlier b);
    };
  }

  pub reads_from : AreRightReads alias (known_by front) → AreRightReads done (known_by front)
  reads_from reads = record {
    source = reads.source;
    right = λ read at. right_from reads.source read (reads.right (of_alias read)
        (to read.process read.place (Loads read.cell read.value read.writer read.stamp read.point) at));
  }
