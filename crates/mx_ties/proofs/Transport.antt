-- What the read rule says of traces, said of the deeds of transcripts.
use Rattle.std.proofs.Common.{◌≡◌, ◌≢◌, ℕ, ◌<◌, refl, ap, sym, ◌∙◌, subst, Option, Some, None, arith}
use Rattle.std.specs.List.{slice_get}
use Rattle.mx_reads.specs.Deeds.{CellUse, Deed, Deeds, Enters, Stores, Loads, Refers, Misses}
use Rattle.mx_reads.specs.ReadRule.{Fronts, known_by, Reading, HasRead, IsSuch, IsOwnLast, IsFirstOther, IsRightRead, AreRightReads}
use Rattle.mx_reads.specs.Sightings.{Source, Sights, HasSighted, IsLatest, IsBeyond}
use Rattle.mx_transcript.specs.Reads.{IsKnown}
use Rattle.mx_ties.specs.Acts.{IsAct, acts_before, place_of}
use Rattle.mx_ties.specs.Matching.{Matches, TransportLaw}
use Rattle.mx_ties.specs.Uses.{renamed}
use Rattle.mx_ties.proofs.ActLists.{before_grows, before_rises}
use Rattle.mx_ties.proofs.StoresAlike as alike
use Rattle.mx_ties.proofs.StoresAlike.{IsBack}

record IsThere (trace : Deeds) (w l : ℕ) : Type 0 where
  deed : Deed
  at : slice_get (trace w) l ≡ Some deed

module _ (use_at : CellUse → CellUse) (done trace : Deeds) (front : Fronts)
    (m : Matches use_at done trace front) where
  abbrev IsNear : CellUse → Type 0
  IsNear = alike.IsNear use_at done trace front m

  abbrev rank : ℕ → ℕ → ℕ
  rank u place = acts_before (done u) place

  abbrev slot : ℕ → ℕ → ℕ
  slot u i = place_of (done u) i

  forth : (u place : ℕ) (d : Deed) → IsAct d → slice_get (done u) place ≡ Some d
      → slice_get (trace u) (rank u place) ≡ Some (renamed use_at d)
  forth = alike.forth use_at done trace front m

  back : (u i : ℕ) (d : Deed) → slice_get (trace u) i ≡ Some d → IsBack use_at done u i d
  back = alike.back use_at done trace front m

  rank_slot : (u i : ℕ) (d : Deed) → slice_get (trace u) i ≡ Some d → rank u (slot u i) ≡ i
  rank_slot = alike.rank_slot use_at done trace front m

  less_back : (u a b : ℕ) → rank u a < rank u b → a < b
  less_back = alike.less_back use_at done trace front m

  -- the stores that reads stand for
  abbrev meant : Option Deed → ℕ → ℕ
  meant None k = k
  meant (Some (Enters number)) k = k
  meant (Some (Stores cell value point)) k = k
  meant (Some (Loads cell value writer stamp point)) k = slot writer k
  meant (Some (Refers point)) k = k
  meant (Some (Misses segno by)) k = k

  module _ (reads : AreRightReads trace (known_by front)) where
    abbrev source : Source
    source p i = meant (slice_get (done p) i) (reads.source p (rank p i))

    -- the store that a read of a written word stands for is there
    read_of : (p i : ℕ) (cell : CellUse) (value writer stamp q : ℕ)
        → slice_get (trace p) i ≡ Some (Loads cell value writer stamp q) → writer ≢ 0
        → slice_get (trace writer) (reads.source p i) ≡ Some (Stores cell value stamp)
    read_of p i cell value writer stamp q h some = ((reads.right (record {
      process = p;
      place = i;
      cell = cell;
      value = value;
      writer = writer;
      stamp = stamp;
      point = q;
    }) h).such some).stored

    -- sightings
    act_sights : (p i : ℕ) (d : Deed) (cell : CellUse) (w j : ℕ) → Sights source p i d cell w j → IsAct d
    act_sights p i (Enters number) cell w j s = absurd s
    act_sights p i (Stores own value point) cell w j s = tt
    act_sights p i (Loads own value writer stamp point) cell w j s = tt
    act_sights p i (Refers point) cell w j s = absurd s
    act_sights p i (Misses segno by) cell w j s = absurd s

    sights_to : (p i : ℕ) (d : Deed) (cell : CellUse) (w j : ℕ) → slice_get (done p) i ≡ Some d
        → Sights source p i d cell w j
        → Sights reads.source p (rank p i) (renamed use_at d) (use_at cell) w (rank w j)
    sights_to p i (Enters number) cell w j h s = absurd s
    sights_to p i (Stores own value point) cell w j h s =
        (ap use_at s.0, s.1, ap (λ (u : ℕ). rank u j) s.1 ∙ ap (λ (n : ℕ). rank p n) s.2)
    sights_to p i (Loads own value writer stamp point) cell w j h s =
        let there = forth p i (Loads own value writer stamp point) tt h in
        let stood = read_of p (rank p i) (use_at own) value writer stamp point there s.1 in
        let back = rank_slot writer (reads.source p (rank p i)) (Stores (use_at own) value stamp) stood in
        let at : source p i ≡ slot writer (reads.source p (rank p i)) = ap
        (λ (o : Option Deed). meant o (reads.source p (rank p i))) h in
        (ap use_at s.0, s.1, s.2, ap (λ (u : ℕ). rank u j) s.2 ∙ ap (λ (n : ℕ). rank writer n) (s.3 ∙ at) ∙ back)
    sights_to p i (Refers point) cell w j h s = absurd s
    sights_to p i (Misses segno by) cell w j h s = absurd s

    -- an act at its place in the transcript, where it is a load
    source_slot : (p k : ℕ) (d : Deed) (own : CellUse) (value writer stamp point : ℕ)
        → slice_get (trace p) k ≡ Some d
        → slice_get (done p) (slot p k) ≡ Some (Loads own value writer stamp point)
        → source p (slot p k) ≡ slot writer (reads.source p k)
    source_slot p k d own value writer stamp point h at =
        ap (λ (o : Option Deed). meant o (reads.source p (rank p (slot p k)))) at
        ∙ ap (λ (n : ℕ). slot writer (reads.source p n)) (rank_slot p k d h)

    sights_from : (p k : ℕ) (d : Deed) (own : Deed) (cell : CellUse) (near : IsNear cell) (w l : ℕ)
        → slice_get (trace p) k ≡ Some d
        → slice_get (done p) (slot p k) ≡ Some own → Sights reads.source p k (renamed use_at own)
        (use_at cell) w l
        → Sights source p (slot p k) own cell w (slot w l)
    sights_from p k d (Enters number) cell near w l h at s = absurd s
    sights_from p k d (Stores own value point) cell near w l h at s = (
      near own (record { process = p; place = slot p k; deed = _; at = at; touches = refl }) s.0,
      s.1,
      ap
          (λ (u : ℕ). slot u l) s.1 ∙ ap (λ (n : ℕ). slot p n) s.2,
    )
    sights_from p k d (Loads own value writer stamp point) cell near w l h at s = (
      near own (record { process = p; place = slot p k; deed = _; at = at; touches = refl }) s.0,
      s.1,
      s.2,
      ap (λ (u : ℕ). slot u l) s.2 ∙ ap (λ (n : ℕ). slot writer n) s.3
          ∙ sym (source_slot p k d own value writer stamp point h at),
    )
    sights_from p k d (Refers point) cell near w l h at s = absurd s
    sights_from p k d (Misses segno by) cell near w l h at s = absurd s

    sighted_to : (p i : ℕ) (cell : CellUse) (w j : ℕ) → HasSighted done source p i cell w j
        → HasSighted trace reads.source p (rank p i) (use_at cell) w (rank w j)
    sighted_to p i cell w j s = record {
      deed = renamed use_at s.deed;
      at = forth p i s.deed (act_sights p i s.deed cell w j s.sights) s.at;
      sights = sights_to p i s.deed cell w j s.at s.sights;
    }

    sighted_from : (p k : ℕ) (cell : CellUse) (near : IsNear cell) (w l : ℕ)
        → HasSighted trace reads.source p k (use_at cell) w l
        → HasSighted done source p (slot p k) cell w (slot w l)
    sighted_from p k cell near w l s =
        let b = back p k s.deed s.at in record {
          deed = b.deed;
          at = b.at;
          sights = sights_from p k s.deed b.deed cell near w l s.at b.at
              (subst (λ (d : Deed). Sights reads.source p k d (use_at cell) w l) (sym b.is) s.sights);
        }

    -- the store that was sighted is there
    sighted_store : (p k : ℕ) (d : Deed) (cell : CellUse) (w l : ℕ) → slice_get (trace p) k ≡ Some d
        → Sights reads.source p k d cell w l → IsThere trace w l
    sighted_store p k (Enters number) cell w l h s = absurd s
    sighted_store p k (Stores own value point) cell w l h s = record {
      deed = Stores own value point;
      at = subst (λ (u : ℕ). slice_get (trace u) l ≡ Some (Stores own value point)) (sym s.1)
          (subst (λ (n : ℕ). slice_get (trace p) n ≡ Some (Stores own value point)) (sym s.2) h);
    }
    sighted_store p k (Loads own value writer stamp point) cell w l h s = record {
      deed = Stores own value stamp;
      at = subst (λ (u : ℕ). slice_get (trace u) l ≡ Some (Stores own value stamp)) (sym s.2)
          (subst (λ (n : ℕ). slice_get (trace writer) n ≡ Some (Stores own value stamp)) (sym s.3)
          (read_of p k own value writer stamp point h s.1));
    }
    sighted_store p k (Refers point) cell w l h s = absurd s
    sighted_store p k (Misses segno by) cell w l h s = absurd s

    latest_to : (p i : ℕ) (cell : CellUse) (near : IsNear cell) (w j : ℕ) → IsLatest done source p i cell w j
        → IsLatest trace reads.source p (rank p i) (use_at cell) w (rank w j)
    latest_to p i cell near w j l =
        let s = l.sighted in
        let here = act_sights p l.earlier s.deed cell w j s.sights in
        record {
          earlier = rank p l.earlier;
          before = before_rises (done p) l.earlier i s.deed here s.at l.before;
          sighted = sighted_to p l.earlier cell w j s;
          last = λ later w' j' a b t.
              let same = rank_slot p later t.deed t.at in
              l.last (slot p later) w' (slot w' j') (less_back p l.earlier (slot p later) (omega arith))
              (less_back p (slot p later) i (omega arith))
              (sighted_from p later cell near w' j' t);
        }

    latest_from : (p i : ℕ) (cell : CellUse) (near : IsNear cell) (w l : ℕ)
        → IsLatest trace reads.source p (rank p i) (use_at cell) w l
        → IsLatest done source p i cell w (slot w l)
    latest_from p i cell near w l t =
        let k = t.earlier in
        let s = t.sighted in
        let same = rank_slot p k s.deed s.at in
        let b = back p k s.deed s.at in
        let low = t.before in
        record {
          earlier = slot p k;
          before = less_back p (slot p k) i (omega arith);
          sighted = sighted_from p k cell near w l s;
          last = λ later w' j' a c r.
              let first = before_rises (done p) (slot p k) later b.deed b.act b.at a in
              let second = before_rises (done p) later i r.deed
              (act_sights p later r.deed cell w' j' r.sights) r.at c in
              t.last (rank p later) w' (rank w' j') (omega arith) second (sighted_to p later cell w' j' r);
        }

    beyond_to : (p i : ℕ) (cell : CellUse) (near : IsNear cell) (w place : ℕ) → IsBeyond done source p i cell w place
        → IsBeyond trace reads.source p (rank p i) (use_at cell) w (rank w place)
    beyond_to p i cell near w place b = record {
      again = λ l t.
          let s = t.sighted in
          let most = b.again (slot w l) (latest_from p i cell near w l t) in
          let there = sighted_store p t.earlier s.deed (use_at cell) w l s.at s.sights in
          let same = rank_slot w l there.deed there.at in
          let more = before_grows (done w) (slot w l) place most in omega arith;
      onward = λ none k l low s.
          let same = rank_slot p k s.deed s.at in
          let there = sighted_store p k s.deed (use_at cell) w l s.at s.sights in
          let here = rank_slot w l there.deed there.at in
          let act = back w l there.deed there.at in
          let less = b.onward (λ j t. none (rank w j) (latest_to p i cell near w j t)) (slot p k)
          (slot w l)
          (less_back p (slot p k) i (omega arith)) (sighted_from p k cell near w l s) in
          let more = before_rises (done w) (slot w l) place act.deed act.act act.at less in omega arith;
    }

    beyond_from : (p i : ℕ) (cell : CellUse) (near : IsNear cell) (w place : ℕ) (d : Deed) → IsAct d
        → slice_get (done w) place ≡ Some d
        → IsBeyond trace reads.source p (rank p i) (use_at cell) w (rank w place)
        → IsBeyond done source p i cell w place
    beyond_from p i cell near w place d a at b = record {
      again = λ j t. alike.most_back use_at done trace front m w j place d a at
          (b.again (rank w j) (latest_to p i cell near w j t));
      onward = λ none h j low s.
          let here = act_sights p h s.deed cell w j s.sights in
          less_back w j place
          (b.onward (λ l t. none (slot w l) (latest_from p i cell near w l t)) (rank p h) (rank w j)
          (before_rises (done p) h i s.deed here s.at low) (sighted_to p h cell w j s));
    }

    module _ (read : Reading) (h : HasRead done read) where
      abbrev p : ℕ
      p = read.process

      abbrev i : ℕ
      i = read.place

      abbrev w : ℕ
      w = read.writer

      -- the place in the trace of the store that the read stands for
      abbrev k : ℕ
      k = reads.source p (rank p i)

      abbrev store : Deed
      store = Stores read.cell read.value read.stamp

      abbrev other : Reading
      other = alike.renamed_read use_at done trace front m read

      near : IsNear read.cell
      near = λ own touched same. m.apart own read.cell touched (record {
        process = p;
        place = i;
        deed = Loads read.cell read.value w read.stamp read.point;
        at = h;
        touches = refl;
      }) same

      right : IsRightRead trace (known_by front) reads.source other
      right = reads.right other (forth p i (Loads read.cell read.value w read.stamp read.point) tt h)

      at : source p i ≡ slot w k
      at = ap (λ (o : Option Deed). meant o k) h

      there : w ≢ 0 → slice_get (done w) (slot w k) ≡ Some store
      there some =
          alike.store_slot use_at done trace front m w k read.cell near read.value read.stamp (right.such some).stored

      back_there : w ≢ 0 → rank w (slot w k) ≡ k
      back_there some = rank_slot w k (Stores (use_at read.cell) read.value read.stamp) (right.such some).stored

      own_from : w ≢ 0 → w ≡ p → IsOwnLast done read (slot w k)
      own_from some e =
          let o = right.own some e in
          let low = o.before in
          let same = back_there some in
          let mine = ap (λ (u : ℕ). rank u (slot w k)) e in
          record {
            before = less_back p (slot w k) i (omega arith);
            last = λ later value point a b stored.
                let first = before_rises (done p) (slot w k) later store tt
                (subst (λ (u : ℕ). slice_get (done u) (slot w k) ≡ Some store) e (there some)) a in
                let second = before_rises (done p) later i (Stores read.cell value point) tt stored b in
                o.last (rank p later) value point (omega arith) second
                (forth p later (Stores read.cell value point) tt stored);
          }

      read_from : IsRightRead done (IsKnown done) source read
      read_from = record {
        nobody = λ e. let u = right.nobody e in record {
          zero_value = u.zero_value;
          zero_stamp = u.zero_stamp;
          unsighted = λ earlier v j low s.
              let here = act_sights p earlier s.deed read.cell v j s.sights in
              u.unsighted (rank p earlier) v (rank v j) (before_rises (done p) earlier i s.deed here s.at low)
              (sighted_to p earlier read.cell v j s);
          unknown = λ v place value point stored known'.
              u.unknown v (rank v place) value point (forth v place (Stores read.cell value point) tt stored)
              (m.known_to v place read.point (Stores read.cell value point) tt stored known');
        };
        such = λ some. subst (λ (place : ℕ). IsSuch done (IsKnown done) read place) (sym at)
            (alike.such_from use_at done trace front m read near k (right.such some));
        own = λ some e. subst (λ (place : ℕ). IsOwnLast done read place) (sym at) (own_from some e);
        another = λ some n.
            let o = right.another some n in
            let same = back_there some in
            subst (λ (place : ℕ). IsFirstOther done (IsKnown done) source read place) (sym at) (record {
              beyond = beyond_from p i read.cell near w (slot w k) store tt (there some)
                  (subst (λ (l : ℕ). IsBeyond trace reads.source p (rank p i) (use_at read.cell) w l) (sym same)
                  o.beyond);
              first = λ earlier a s b.
                  let less = before_rises (done w) earlier (slot w k) store tt s.stored a in
                  o.first (rank w earlier) (omega arith)
                  (alike.such_to use_at done trace front m read near earlier s)
                  (beyond_to p i read.cell near w earlier b);
            });
      }

    pub reads_from : AreRightReads done (IsKnown done)
    reads_from = record { source = source; right = read_from }

pub transport_law : TransportLaw
transport_law use_at done trace front m reads = reads_from use_at done trace front m reads
