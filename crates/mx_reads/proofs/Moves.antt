-- What the read rule says of old deeds it says of them still.
use Rattle.std.proofs.Common.{◌≡◌, ◌≢◌, inl, inr, ℕ, ◌<◌, ◌≤◌, length, refl, ap, sym, ◌∙◌, subst, Some, arith}
use Rattle.std.specs.List.{slice_get}
use Rattle.std.proofs.lemmas.Option.{slice_get_within}
use Rattle.mx_reads.specs.Deeds.{CellUse, Deed, Deeds, Enters, Stores, Loads, Refers, Misses}
use Rattle.mx_reads.specs.Growth.{Extends, AreWithin}
use Rattle.mx_reads.specs.Held.{Held, IsHeld}
use Rattle.mx_reads.specs.ReadRule.{Fronts, known_by, Reading, IsSuperseded, IsSuch, IsOwnLast, IsFirstOther, IsRightRead}
use Rattle.mx_reads.specs.Sightings.{Source, HasStored, Sights, HasSighted, IsLatest, IsBeyond}

-- a deed that neither stores in the cell nor loads from it
abbrev pub IsApart : CellUse → Deed → Type 0
IsApart cell (Enters number) = Unit {0}
IsApart cell (Stores own value point) = own ≢ cell
IsApart cell (Loads own value writer stamp point) = own ≢ cell
IsApart cell (Refers point) = Unit {0}
IsApart cell (Misses segno by) = Unit {0}

pub apart_sights : (source : Source) (p i : ℕ) (d : Deed) (cell : CellUse) (w j : ℕ) → IsApart cell d
    → Sights source p i d cell w j → ⊥
apart_sights source p i (Enters number) cell w j a s = s
apart_sights source p i (Stores own value point) cell w j a s = a s.0
apart_sights source p i (Loads own value writer stamp point) cell w j a s = a s.0
apart_sights source p i (Refers point) cell w j a s = s
apart_sights source p i (Misses segno by) cell w j a s = s

pub sights_change : (source source' : Source) (p i : ℕ) (d : Deed) (cell : CellUse) (w j : ℕ) → source' p i ≡ source p i
    → Sights source p i d cell w j → Sights source' p i d cell w j
sights_change source source' p i (Enters number) cell w j e s = s
sights_change source source' p i (Stores own value point) cell w j e s = s
sights_change source source' p i (Loads own value writer stamp point) cell w j e s = (s.0, s.1, s.2, s.3 ∙ sym e)
sights_change source source' p i (Refers point) cell w j e s = s
sights_change source source' p i (Misses segno by) cell w j e s = s

module _ (bound : ℕ) (old : Deeds) (front : Fronts) (new : Deeds) (front' : Fronts) (p : ℕ) (Fresh : Deed → Type 0)
    (g : Extends bound old front new front' p Fresh) (within : AreWithin bound old)
    (low : (u q : ℕ) → q ≤ bound → front u q ≤ length (old u)) where
  pub earlier : (u i : ℕ) (d : Deed) → i < length (old u) → slice_get (new u) i ≡ Some d → slice_get (old u) i ≡ Some d
  earlier u i d l h = elim (g.found u i d h) [
    | inl a ↦ a
    | inr b ↦ let same = ap (λ (v : ℕ). length (old v)) b.0 in let is = b.1 in absurd (omega arith)
  ]

  pub superseded_forth : (u place : ℕ) (cell : CellUse) (q : ℕ) → q ≤ bound → IsSuperseded old (known_by front) u place cell q
      → IsSuperseded new (known_by front') u place cell q
  superseded_forth u place cell q under s =
      let e = g.same s.other q under in
      let known = s.known in
      let point_under = within s.other s.at (Stores cell s.value s.point) s.stored in
      let e' = g.same u s.point point_under in record {
        other = s.other;
        at = s.at;
        value = s.value;
        point = s.point;
        stored = g.kept s.other s.at (Stores cell s.value s.point) s.stored;
        known = omega arith;
        after = s.after;
        knew = λ another. let knew = s.knew another in omega arith;
      }

  pub superseded_back : (u place : ℕ) (cell : CellUse) (q : ℕ) → q ≤ bound → IsSuperseded new (known_by front') u place cell q
      → IsSuperseded old (known_by front) u place cell q
  superseded_back u place cell q under s =
      let e = g.same s.other q under in
      let known = s.known in
      let most = low s.other q under in
      let stored = earlier s.other s.at (Stores cell s.value s.point) (omega arith) s.stored in
      let point_under = within s.other s.at (Stores cell s.value s.point) stored in
      let e' = g.same u s.point point_under in record {
        other = s.other;
        at = s.at;
        value = s.value;
        point = s.point;
        stored = stored;
        known = omega arith;
        after = s.after;
        knew = λ another. let knew = s.knew another in omega arith;
      }

  pub such_forth : (read : Reading) (place : ℕ) → read.point ≤ bound
      → IsSuch old (known_by front) read place → IsSuch new (known_by front') read place
  such_forth read place under s = record {
    stored = g.kept read.writer place (Stores read.cell read.value read.stamp) s.stored;
    current = λ h. s.current (superseded_back read.writer place read.cell read.point under h);
  }

  pub such_back : (read : Reading) (place : ℕ) → read.point ≤ bound → place < length (old read.writer)
      → IsSuch new (known_by front') read place → IsSuch old (known_by front) read place
  such_back read place under l s = record {
    stored = earlier read.writer place (Stores read.cell read.value read.stamp) l s.stored;
    current = λ h. s.current (superseded_forth read.writer place read.cell read.point under h);
  }

  module _ (source source' : Source) (agree : (u h : ℕ) → h < length (old u) → source' u h ≡ source u h) where
    pub sighted_forth : (u h : ℕ) (cell : CellUse) (w j : ℕ) → HasSighted old source u h cell w j
        → HasSighted new source' u h cell w j
    sighted_forth u h cell w j s = record {
      deed = s.deed;
      at = g.kept u h s.deed s.at;
      sights = sights_change source source' u h s.deed cell w j (agree u h (slice_get_within (old u) h s.deed s.at))
          s.sights;
    }

    pub sighted_back : (u h : ℕ) (cell : CellUse) (w j : ℕ) → h < length (old u) → HasSighted new source' u h cell w j
        → HasSighted old source u h cell w j
    sighted_back u h cell w j l s = record {
      deed = s.deed;
      at = earlier u h s.deed l s.at;
      sights = sights_change source' source u h s.deed cell w j (sym (agree u h l)) s.sights;
    }

    pub latest_forth : (u i : ℕ) (cell : CellUse) (w j : ℕ) → i ≤ length (old u) → IsLatest old source u i cell w j
        → IsLatest new source' u i cell w j
    latest_forth u i cell w j most l = record {
      earlier = l.earlier;
      before = l.before;
      sighted = sighted_forth u l.earlier cell w j l.sighted;
      last = λ later w' j' a b s. l.last later w' j' a b (sighted_back u later cell w' j' (omega arith) s);
    }

    pub latest_back : (u i : ℕ) (cell : CellUse) (w j : ℕ) → i ≤ length (old u) → IsLatest new source' u i cell w j
        → IsLatest old source u i cell w j
    latest_back u i cell w j most l = let before = l.before in record {
      earlier = l.earlier;
      before = before;
      sighted = sighted_back u l.earlier cell w j (omega arith) l.sighted;
      last = λ later w' j' a b s. l.last later w' j' a b (sighted_forth u later cell w' j' s);
    }

    pub beyond_forth : (u i : ℕ) (cell : CellUse) (w place : ℕ) → i ≤ length (old u)
        → IsBeyond old source u i cell w place → IsBeyond new source' u i cell w place
    beyond_forth u i cell w place most b = record {
      again = λ j l. b.again j (latest_back u i cell w j most l);
      onward = λ none h j before s.
          b.onward (λ j' l. none j' (latest_forth u i cell w j' most l)) h j before
          (sighted_back u h cell w j (omega arith) s);
    }

    pub beyond_back : (u i : ℕ) (cell : CellUse) (w place : ℕ) → i ≤ length (old u)
        → IsBeyond new source' u i cell w place → IsBeyond old source u i cell w place
    beyond_back u i cell w place most b = record {
      again = λ j l. b.again j (latest_forth u i cell w j most l);
      onward = λ none h j before s.
          b.onward (λ j' l. none j' (latest_back u i cell w j' most l)) h j before
          (sighted_forth u h cell w j s);
    }

    pub read_forth : (read : Reading) → read.place ≤ length (old read.process) → read.point ≤ bound
        → source' read.process read.place ≡ source read.process read.place
        → IsRightRead old (known_by front) source read → IsRightRead new (known_by front') source' read
    read_forth read most under same right = let there = source read.process read.place in record {
      nobody = λ e. let u = right.nobody e in record {
        zero_value = u.zero_value;
        zero_stamp = u.zero_stamp;
        unsighted = λ h w j before s.
            u.unsighted h w j before (sighted_back read.process h read.cell w j (omega arith) s);
        unknown = λ v place value point stored known.
            let e' = g.same v read.point under in
            let fewer = low v read.point under in
            u.unknown v place value point (earlier v place (Stores read.cell value point) (omega arith) stored)
            (omega arith);
      };
      such = λ some. subst (λ (place : ℕ). IsSuch new (known_by front') read place) (sym same)
          (such_forth read there under (right.such some));
      own = λ some e. let o = right.own some e in
          subst (λ (place : ℕ). IsOwnLast new read place) (sym same) (record {
            before = o.before;
            last = λ later value point a b stored. o.last later value point a b
                (earlier read.process later (Stores read.cell value point) (omega arith) stored);
          });
      another = λ some n. let o = right.another some n in
          subst (λ (place : ℕ). IsFirstOther new (known_by front') source' read place) (sym same) (record {
            beyond = beyond_forth read.process read.place read.cell read.writer there most o.beyond;
            first = λ before a s b.
                let at = slice_get_within (old read.writer) there (Stores read.cell read.value read.stamp)
                (right.such some).stored in
                o.first before a (such_back read before under (omega arith) s)
                (beyond_back read.process read.place read.cell read.writer before most b);
          });
    }

    -- a deed apart from a cell leaves what is right of the cell
    pub held_apart : (cell : CellUse) (held : Held) → ((d : Deed) → Fresh d → IsApart cell d)
        → IsHeld old front source cell held → IsHeld new front' source' cell held
    held_apart cell held apart is = record {
      zero_value = is.zero_value;
      zero_stamp = is.zero_stamp;
      unwritten = λ e u place value point h. is.unwritten e u place value point (old_store u place value point h);
      place = is.place;
      stored = λ some. g.kept held.writer is.place (Stores cell held.value held.stamp) (is.stored some);
      last = λ some later value point h. is.last some later value point (old_store held.writer later value point h);
      unseen = λ some u at value point h known.
          let o = old_store u at value point h in
          let e = g.same held.writer point (within u at (Stores cell value point) o) in
          is.unseen some u at value point o (omega arith);
      onward = λ some u none h j s. is.onward some u (λ j' l. none j' (still_latest u held.writer j' l)) h j
          (old_sighting u h held.writer j s);
    }
      where
        old_store : (u i value point : ℕ) → HasStored new u i cell value point → HasStored old u i cell value point
        old_store u i value point h = elim (g.found u i (Stores cell value point) h) [
          | inl a ↦ a
          | inr b ↦ absurd (apart (Stores cell value point) b.2 refl)
        ]

        old_sighting : (u h w j : ℕ) → HasSighted new source' u h cell w j → HasSighted old source u h cell w j
        old_sighting u h w j s = elim (g.found u h s.deed s.at) [
          | inl a ↦ sighted_back u h cell w j (slice_get_within (old u) h s.deed a) s
          | inr b ↦ absurd (apart_sights source' u h s.deed cell w j (apart s.deed b.2) s.sights)
        ]

        still_latest : (u w j : ℕ) → IsLatest old source u (length (old u)) cell w j
            → IsLatest new source' u (length (new u)) cell w j
        still_latest u w j l = let before = l.before in let longer = g.longer u in record {
          earlier = l.earlier;
          before = omega arith;
          sighted = sighted_forth u l.earlier cell w j l.sighted;
          last = λ later w' j' a b s.
              let o = old_sighting u later w' j' s in
              l.last later w' j' a (slice_get_within (old u) later o.deed o.at) o;
        }
