-- Places of acts and places of a trace; and which stores are superseded, said of the one and of the other.
use Rattle.std.proofs.Common.{◌≡◌, inl, inr, ℕ, ◌<◌, ◌≤◌, List, refl, ap, sym, ◌∙◌, subst, Some, arith}
use Rattle.std.specs.List.{slice_get}
use Rattle.std.proofs.lemmas.Bool.{cases_lt}
use Rattle.mx_reads.specs.Deeds.{CellUse, Deed, Deeds, Enters, Stores, Loads, Refers, Misses}
use Rattle.mx_reads.specs.ReadRule.{Fronts, known_by, Reading, IsSuperseded, IsSuch}
use Rattle.mx_transcript.specs.Reads.{IsKnown}
use Rattle.mx_ties.specs.Acts.{IsAct, acts, acts_before, place_of}
use Rattle.mx_ties.specs.Matching.{Matches}
use Rattle.mx_ties.specs.Uses.{renamed, IsTouched}
use Rattle.mx_ties.proofs.ActLists.{act_at, at_place, before_place, is_act, before_grows, before_rises}
use Rattle.mx_ties.proofs.Places.{map_at, map_back}

-- the act that stands in a trace at this place
pub record IsBack (use_at : CellUse → CellUse) (done : Deeds) (u i : ℕ) (d : Deed) : Type 0 where
  pub deed : Deed
  pub act : IsAct deed
  pub there : slice_get (acts (done u)) i ≡ Some deed
  pub at : slice_get (done u) (place_of (done u) i) ≡ Some deed
  pub is : renamed use_at deed ≡ d

module _ (use_at : CellUse → CellUse) (done trace : Deeds) (front : Fronts)
    (m : Matches use_at done trace front) where
  -- whichever touched cell has this use is this cell
  abbrev pub IsNear : CellUse → Type 0
  IsNear cell = (own : CellUse) → IsTouched done own → use_at own ≡ use_at cell → own ≡ cell

  store_is : (u i : ℕ) (d : Deed) (cell : CellUse) (near : IsNear cell) (value point : ℕ) → slice_get (done u) i ≡ Some d
      → renamed use_at d ≡ Stores (use_at cell) value point → d ≡ Stores cell value point
  store_is u i (Enters number) cell near value point h e = cc
  store_is u i (Stores own value' point') cell near value point h e =
      let same : use_at own ≡ use_at cell = cc in
      let values : value' ≡ value = cc in
      let points : point' ≡ point = cc in
      ap (λ (s : CellUse). Stores s value' point')
      (near own (record { process = u; place = i; deed = Stores own value' point'; at = h; touches = refl }) same)
      ∙ ap (λ (n : ℕ). Stores cell n point') values ∙ ap (λ (n : ℕ). Stores cell value n) points
  store_is u i (Loads own value' writer stamp point') cell near value point h e = cc
  store_is u i (Refers point') cell near value point h e = cc
  store_is u i (Misses segno by) cell near value point h e = cc

  abbrev pub rank : ℕ → ℕ → ℕ
  rank u place = acts_before (done u) place

  abbrev pub slot : ℕ → ℕ → ℕ
  slot u i = place_of (done u) i

  pub forth : (u place : ℕ) (d : Deed) → IsAct d → slice_get (done u) place ≡ Some d
      → slice_get (trace u) (rank u place) ≡ Some (renamed use_at d)
  forth u place d a h = subst (λ (l : List Deed). slice_get l (rank u place) ≡ Some (renamed use_at d))
      (m.traced u)
      (map_at (renamed use_at) (acts (done u)) (rank u place) d (act_at (done u) place d a h))

  pub back : (u i : ℕ) (d : Deed) → slice_get (trace u) i ≡ Some d → IsBack use_at done u i d
  back u i d h =
      let b = map_back (renamed use_at) (acts (done u)) i d
      (subst (λ (l : List Deed). slice_get l i ≡ Some d) (sym (m.traced u)) h) in record {
        deed = b.0;
        act = is_act (done u) i b.0 b.1;
        there = b.1;
        at = at_place (done u) i b.0 b.1;
        is = b.2;
      }

  pub store_slot : (u i : ℕ) (cell : CellUse) (near : IsNear cell) (value point : ℕ)
      → slice_get (trace u) i ≡ Some (Stores (use_at cell) value point)
      → slice_get (done u) (slot u i) ≡ Some (Stores cell value point)
  store_slot u i cell near value point h =
      let b = back u i (Stores (use_at cell) value point) h in
      b.at ∙ ap Some (store_is u (slot u i) b.deed cell near value point b.at b.is)

  pub rank_slot : (u i : ℕ) (d : Deed) → slice_get (trace u) i ≡ Some d → rank u (slot u i) ≡ i
  rank_slot u i d h = let b = back u i d h in before_place (done u) i b.deed b.there

  -- places are in the order of the acts before them
  pub less_back : (u a b : ℕ) → rank u a < rank u b → a < b
  less_back u a b l = elim (cases_lt a b) [
    | inl x ↦ x
    | inr y ↦ let g = before_grows (done u) b a y in absurd (omega arith)
  ]

  pub most_back : (u a b : ℕ) (d : Deed) → IsAct d → slice_get (done u) b ≡ Some d → rank u a ≤ rank u b → a ≤ b
  most_back u a b d act h l = elim (cases_lt b a) [
    | inl x ↦ let g = before_rises (done u) b a d act h x in absurd (omega arith)
    | inr y ↦ y
  ]

  -- which stores are superseded
  superseded_to : (u place : ℕ) (cell : CellUse) (q : ℕ) (d : Deed) → IsAct d → slice_get (done u) place ≡ Some d
      → IsSuperseded done (IsKnown done) u place cell q → IsSuperseded trace (known_by front) u (rank u place) (use_at cell) q
  superseded_to u place cell q d a h s = record {
    other = s.other;
    at = rank s.other s.at;
    value = s.value;
    point = s.point;
    stored = forth s.other s.at (Stores cell s.value s.point) tt s.stored;
    known = m.known_to s.other s.at q (Stores cell s.value s.point) tt s.stored s.known;
    after = λ e. subst (λ (w : ℕ). rank u place < rank w s.at) (sym e)
        (before_rises (done u) place s.at d a h (s.after e));
    knew = λ n. m.known_to u place s.point d a h (s.knew n);
  }

  known_slot : (u i : ℕ) (cell : CellUse) (near : IsNear cell) (value point q : ℕ)
      → slice_get (trace u) i ≡ Some (Stores (use_at cell) value point)
      → i < front u q → IsKnown done u (slot u i) q
  known_slot u i cell near value point q h k =
      m.known_from u (slot u i) q (Stores cell value point) tt (store_slot u i cell near value point h)
      (subst (λ (n : ℕ). n < front u q) (sym (rank_slot u i (Stores (use_at cell) value point) h)) k)

  superseded_from : (u place : ℕ) (cell : CellUse) (near : IsNear cell) (q : ℕ) (d : Deed) → IsAct d
      → slice_get (done u) place ≡ Some d
      → IsSuperseded trace (known_by front) u (rank u place) (use_at cell) q → IsSuperseded done (IsKnown done) u place cell q
  superseded_from u place cell near q d a h s = record {
    other = s.other;
    at = slot s.other s.at;
    value = s.value;
    point = s.point;
    stored = store_slot s.other s.at cell near s.value s.point s.stored;
    known = known_slot s.other s.at cell near s.value s.point q s.stored s.known;
    after = λ e.
        let here = rank_slot s.other s.at (Stores (use_at cell) s.value s.point) s.stored in
        let after = s.after e in
        let there = ap (λ (w : ℕ). rank w (slot s.other s.at)) e in
        less_back u place (slot s.other s.at) (omega arith);
    knew = λ n. m.known_from u place s.point d a h (s.knew n);
  }

  -- a read, and the same read of the trace
  abbrev pub renamed_read : Reading → Reading
  renamed_read read = record {
    process = read.process;
    place = rank read.process read.place;
    cell = use_at read.cell;
    value = read.value;
    writer = read.writer;
    stamp = read.stamp;
    point = read.point;
  }

  pub such_to : (read : Reading) (near : IsNear read.cell) (place : ℕ) → IsSuch done (IsKnown done) read place
      → IsSuch trace (known_by front) (renamed_read read) (rank read.writer place)
  such_to read near place s = record {
    stored = forth read.writer place (Stores read.cell read.value read.stamp) tt s.stored;
    current = λ h. s.current (superseded_from read.writer place read.cell near read.point
        (Stores read.cell read.value read.stamp) tt s.stored h);
  }

  pub such_from : (read : Reading) (near : IsNear read.cell) (i : ℕ)
      → IsSuch trace (known_by front) (renamed_read read) i → IsSuch done (IsKnown done) read (slot read.writer i)
  such_from read near i s =
      let at = store_slot read.writer i read.cell near read.value read.stamp s.stored in
      let same = rank_slot read.writer i (Stores (use_at read.cell) read.value read.stamp) s.stored in
      record {
        stored = at;
        current = λ h. s.current (subst
            (λ (n : ℕ). IsSuperseded trace (known_by front) read.writer n (use_at read.cell) read.point) same
            (superseded_to read.writer (slot read.writer i) read.cell read.point
            (Stores read.cell read.value read.stamp) tt at h));
      }
