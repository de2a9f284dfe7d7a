-- What the searches in a table of stores find, in the words of the deeds.
use Rattle.std.proofs.Common.{◌≡◌, inl, inr, ℕ, suc, ◌+◌, ◌*◌, ◌<◌, ◌≤◌, List, drop, length, Option, Some, None, refl, ap, sym, ◌∙◌, subst, arith}
use Rattle.std.specs.List.{slice_get, slice_index_or}
use Rattle.std.specs.List.Sorted.{IsNonDecreasingBy}
use Rattle.std.proofs.lemmas.Option.{slice_get_within, slice_get-get_or, get_or_from_slice_get}
use Rattle.std.proofs.lemmas.Bool.{cases_eq, cases_lt}
use Rattle.mx_reads.specs.Deeds.{CellUse, Deed, Stores}
use Rattle.mx_stores.specs.Since.{is_same, least_since, since}
use Rattle.mx_stores.specs.Least.{IsBy}
use Rattle.mx_stores.specs.Tables.{AreStores, HasStore, IsFrom, IsLevelFrom, IsStoreOf, level_of, number_of, order_of, since_of}
use Rattle.mx_stores.specs.Until.{replaced}
use Rattle.mx_stores.specs.declared.stores.Store.{Store}
use Rattle.mx_stores.proofs.LeastLaws.{chosen, choose_then}
use Rattle.mx_stores.proofs.SightedLaws.{some_same}
use Rattle.mx_stores.proofs.SinceLaws.{since_law}
use Rattle.mx_stores.proofs.StoresFrom.{same_told, same_test}
use Rattle.mx_stores.proofs.Tables.{held, place_in}
use Rattle.mx_stores.proofs.UntilLaws.{HasStoreBy, least_since_by, by_least_since, replaced_from, IsReplaced, is_replaced}

-- numbers that are reached at the same points are one
pub same_number : (a b : Option ℕ) → ((q : ℕ) → IsBy a q → IsBy b q) → ((q : ℕ) → IsBy b q → IsBy a q) → a ≡ b
same_number None None f g = refl
same_number None (Some n) f g = absurd (g n (omega arith))
same_number (Some m) None f g = absurd (f m (omega arith))
same_number (Some m) (Some n) f g =
    let up : n ≤ m = f m (omega arith) in
    let down : m ≤ n = g n (omega arith) in
    let e : m ≡ n = omega arith in ap (λ (k : ℕ). Some k) e

pub same_cell : (a b : CellUse) → a.since < 4294967296 → b.since < 4294967296 → number_of a ≡ number_of b → a ≡ b
same_cell a b l m e =
    let c : a.cell ≡ b.cell = omega arith in
    let s : a.since ≡ b.since = omega arith in
    λ i. record { cell = c i; since = s i }

stores_cell : (a b : CellUse) (v w p q : ℕ) → Stores a v p ≡ Stores b w q → a ≡ b
stores_cell a b v w p q e = cc

stores_value : (a b : CellUse) (v w p q : ℕ) → Stores a v p ≡ Stores b w q → v ≡ w
stores_value a b v w p q e = cc

stores_point : (a b : CellUse) (v w p q : ℕ) → Stores a v p ≡ Stores b w q → p ≡ q
stores_point a b v w p q e = cc

-- of a cell between two of one number
level_meets : (s t from sp tp p : ℕ) → s * 18446744073709551616 + sp ≤ t * 18446744073709551616 + tp
    → tp < 18446744073709551616 → t * 4294967296 + from ≤ s * 4294967296 + p → p < 4294967296 → s ≡ t
level_meets s t from sp tp p a b c d = omega arith

pub order_meets : (s t at sp tp : ℕ) → s * 18446744073709551616 + sp ≤ t * 18446744073709551616 + tp
    → tp < 18446744073709551616 → t * 18446744073709551616 + at ≤ s * 18446744073709551616 + sp
    → sp < 18446744073709551616 → s ≡ t
order_meets s t at sp tp a b c d = omega arith

-- the store in the table of a store among the deeds
pub record IsFound (ts : List Store) (i : ℕ) (cell : CellUse) (value point : ℕ) : Type 0 where
  pub at : ℕ
  pub store : Store
  pub is : slice_get ts at ≡ Some store
  pub same_place : store.place ≡ i
  pub same_cell_use : store.cell ≡ cell
  pub same_value : store.value ≡ value
  pub same_point : store.point ≡ point

-- a store of the cell stands at k, no later than the place i
pub record IsFirstIn (ts : List Store) (cell : CellUse) (k i : ℕ) : Type 0 where
  pub store : Store
  pub is : slice_get ts k ≡ Some store
  pub same : store.cell ≡ cell
  pub up_to : store.place ≤ i

module _ (deeds : List Deed) (ts : List Store) (stores : AreStores deeds 0 ts)
    (sorted : IsNonDecreasingBy (λ (s : Store). s.order) ts) where
  pub of : (k : ℕ) (s : Store) → slice_get ts k ≡ Some s → IsStoreOf deeds s
  of k s e = stores.each s (held ts k s e)

  pub rises : (j k : ℕ) (s t : Store) → j ≤ k → slice_get ts j ≡ Some s → slice_get ts k ≡ Some t → s.order ≤ t.order
  rises j k s t l e f =
      let within = slice_get_within ts k t f in
      subst (λ (x : Store). x.order ≤ t.order) (get_or_from_slice_get ts j s s e)
      (subst (λ (x : Store). (slice_index_or ts j s).order ≤ x.order) (get_or_from_slice_get ts k t s f)
      (sorted j k s l within))

  places : (a b i j : ℕ) → a * 18446744073709551616 + i ≡ b * 18446744073709551616 + j → i < 18446744073709551616
      → j < 18446744073709551616 → i ≡ j
  places a b i j e l m = omega arith

  -- each store is before all that stand after it
  pub strict : (j k : ℕ) (s t : Store) → j < k → slice_get ts j ≡ Some s → slice_get ts k ≡ Some t → s.order < t.order
  strict j k s t l e f =
      let o : IsStoreOf deeds s = of j s e in
      let p : IsStoreOf deeds t = of k t f in
      let up = rises j k s t (omega arith) e f in
      let so = o.ordered in
      let to = p.ordered in
      elim (cases_eq s.order t.order) [
        | inr other ↦ omega arith
        | inl same ↦
            let place : s.place ≡ t.place =
            places (number_of s.cell) (number_of t.cell) s.place t.place (sym so ∙ same ∙ to) o.fits_place p.fits_place in
            let at = stores.apart j k s t e f place in absurd (omega arith)
      ]

  -- where a store stands, and where it is passed
  pub stands_from : (k : ℕ) (s : Store) → slice_get ts k ≡ Some s → IsFrom ts s.order k
  stands_from k s e =
      record { below = λ j t l f. strict j k t s l f e; from = λ j t l f. rises k j s t l e f }

  pub stands_after : (k : ℕ) (s : Store) → slice_get ts k ≡ Some s → IsFrom ts (suc s.order) (suc k)
  stands_after k s e = record {
    below = λ j t l f. let up = rises j k t s (omega arith) f e in omega arith;
    from = λ j t l f. let up = strict k j s t (omega arith) e f in omega arith;
  }

  pub find : (i : ℕ) (cell : CellUse) (value point : ℕ) → slice_get deeds i ≡ Some (Stores cell value point)
      → IsFound ts i cell value point
  find i cell value point e =
      let has : HasStore ts i = stores.whole i cell value point (omega arith) e in
      let at = place_in ts has.store has.is_in in
      let o : IsStoreOf deeds has.store = stores.each has.store has.is_in in
      let same : Stores has.store.cell has.store.value has.store.point ≡ Stores cell value point =
      some_same (Stores has.store.cell has.store.value has.store.point) (Stores cell value point)
      (sym o.stored ∙ ap (λ (n : ℕ). slice_get deeds n) has.there ∙ e) in record {
        at = at.0;
        store = has.store;
        is = at.1;
        same_place = has.there;
        same_cell_use = stores_cell has.store.cell cell has.store.value value has.store.point point same;
        same_value = stores_value has.store.cell cell has.store.value value has.store.point point same;
        same_point = stores_point has.store.cell cell has.store.value value has.store.point point same;
      }

  -- what stands at k, up to a store in the table
  stands : (k at : ℕ) (t : Store) → k ≤ at → slice_get ts at ≡ Some t → slice_get ts k ≡ Some (slice_index_or ts k t)
  stands k at t l e = let within = slice_get_within ts at t e in slice_get-get_or ts k t (omega arith)

  pub level_found : (cell : CellUse) → cell.since < 4294967296 → (from k : ℕ) → IsLevelFrom ts (level_of cell from) k
      → (i value point : ℕ) → slice_get deeds i ≡ Some (Stores cell value point) → from ≤ point → IsFirstIn ts cell k i
  level_found cell fits from k first i value point e l =
      let f : IsFound ts i cell value point = find i cell value point e in
      let t : IsStoreOf deeds f.store = of f.at f.store f.is in
      let number : number_of f.store.cell ≡ number_of cell = ap (λ (c : CellUse). number_of c) f.same_cell_use in
      let level = t.levelled in
      let p = f.same_point in
      let later : k ≤ f.at = elim (cases_lt f.at k) [
        | inr m ↦ m
        | inl m ↦ let under = first.below f.at f.store m f.is in absurd (omega arith)
      ] in
      let s : Store = slice_index_or ts k f.store in
      let is : slice_get ts k ≡ Some (slice_index_or ts k f.store) = stands k f.at f.store later f.is in
      let o : IsStoreOf deeds (slice_index_or ts k f.store) = of k (slice_index_or ts k f.store) is in
      let high = first.from (slice_index_or ts k f.store) is in
      let up = rises k f.at (slice_index_or ts k f.store) f.store later is f.is in
      let so = o.ordered in
      let sl = o.levelled in
      let to = t.ordered in
      let tp = t.fits_place in
      let sp = o.fits_point in
      let at = f.same_place in
      let same : number_of (slice_index_or ts k f.store).cell ≡ number_of cell =
      level_meets (number_of (slice_index_or ts k f.store).cell) (number_of cell) from
      (slice_index_or ts k f.store).place f.store.place (slice_index_or ts k f.store).point
      (omega arith) tp (omega arith) sp in record {
        store = slice_index_or ts k f.store;
        is = is;
        same = same_cell (slice_index_or ts k f.store).cell cell o.fits_use fits same;
        up_to = omega arith;
      }

  pub order_found : (cell : CellUse) → cell.since < 4294967296 → (from k : ℕ) → IsFrom ts (order_of cell from) k
      → (i value point : ℕ) → slice_get deeds i ≡ Some (Stores cell value point) → from ≤ i → IsFirstIn ts cell k i
  order_found cell fits from k first i value point e l =
      let f : IsFound ts i cell value point = find i cell value point e in
      let t : IsStoreOf deeds f.store = of f.at f.store f.is in
      let number : number_of f.store.cell ≡ number_of cell = ap (λ (c : CellUse). number_of c) f.same_cell_use in
      let to = t.ordered in
      let at = f.same_place in
      let later : k ≤ f.at = elim (cases_lt f.at k) [
        | inr m ↦ m
        | inl m ↦ let under = first.below f.at f.store m f.is in absurd (omega arith)
      ] in
      let is : slice_get ts k ≡ Some (slice_index_or ts k f.store) = stands k f.at f.store later f.is in
      let o : IsStoreOf deeds (slice_index_or ts k f.store) = of k (slice_index_or ts k f.store) is in
      let high = first.from k (slice_index_or ts k f.store) (omega arith) is in
      let up = rises k f.at (slice_index_or ts k f.store) f.store later is f.is in
      let so = o.ordered in
      let tp = t.fits_place in
      let sp = o.fits_place in
      let same : number_of (slice_index_or ts k f.store).cell ≡ number_of cell =
      order_meets (number_of (slice_index_or ts k f.store).cell) (number_of cell) from
      (slice_index_or ts k f.store).place f.store.place (omega arith) tp (omega arith) sp in record {
        store = slice_index_or ts k f.store;
        is = is;
        same = same_cell (slice_index_or ts k f.store).cell cell o.fits_use fits same;
        up_to = omega arith;
      }

  -- a store of the cell at k is known from its `since` on
  by_first : (cell : CellUse) (k i q : ℕ) → IsFirstIn ts cell k i → IsBy (since deeds i) q
      → IsBy (since_of cell (slice_get ts k)) q
  by_first cell k i q f h =
      let o : IsStoreOf deeds f.store = of k f.store f.is in
      subst (λ (x : Option Store). IsBy (since_of cell x) q) (sym f.is)
      (choose_then (is_same f.store.cell cell) f.store.since None q
      (ap (λ (c : CellUse). is_same c cell) f.same ∙ same_test cell)
      (subst (λ (x : Option ℕ). IsBy x q) (sym o.known) (since_law deeds f.store.place i f.up_to q h)))

  -- the store at k, where it is one of the cell that is known
  record IsAt (cell : CellUse) (k q : ℕ) : Type 0 where
    store : Store
    is : slice_get ts k ≡ Some store
    stored : slice_get deeds store.place ≡ Some (Stores cell store.value store.point)
    same : store.cell ≡ cell
    by : IsBy (since deeds store.place) q

  at_first : (cell : CellUse) (k q : ℕ) → IsBy (since_of cell (slice_get ts k)) q → IsAt cell k q
  at_first cell k q h = at (slice_get ts k) refl h
    where
      at : (o : Option Store) → slice_get ts k ≡ o → IsBy (since_of cell o) q → IsAt cell k q
      at None e g = absurd g
      at (Some s) e g = elim (chosen (is_same s.cell cell) s.since None q g) [
        | inr c ↦ absurd c.1
        | inl c ↦
            let o : IsStoreOf deeds s = of k s e in
            let same : s.cell ≡ cell = same_told s.cell cell c.0 in record {
              store = s;
              is = e;
              stored = o.stored ∙ ap (λ (x : CellUse). Some (Stores x s.value s.point)) same;
              same = same;
              by = subst (λ (x : Option ℕ). IsBy x q) o.known c.1;
            }
      ]

  pub least_since_found : (cell : CellUse) → cell.since < 4294967296 → (from k : ℕ)
      → IsLevelFrom ts (level_of cell from) k → since_of cell (slice_get ts k) ≡ least_since cell from deeds
  least_since_found cell fits from k first =
      same_number (since_of cell (slice_get ts k)) (least_since cell from deeds) forth back
    where
      forth : (q : ℕ) → IsBy (since_of cell (slice_get ts k)) q → IsBy (least_since cell from deeds) q
      forth q h =
          let a : IsAt cell k q = at_first cell k q h in
          let o : IsStoreOf deeds a.store = of k a.store a.is in
          let high = first.from a.store a.is in
          let level = o.levelled in
          let number : number_of a.store.cell ≡ number_of cell = ap (λ (c : CellUse). number_of c) a.same in
          least_since_by cell from deeds a.store.place a.store.value a.store.point q a.stored (omega arith) a.by

      back : (q : ℕ) → IsBy (least_since cell from deeds) q → IsBy (since_of cell (slice_get ts k)) q
      back q h =
          let st : HasStoreBy cell from deeds q = by_least_since cell from deeds q h in
          by_first cell k st.at q (level_found cell fits from k first st.at st.value st.point st.stored st.after) st.by

  -- orders up to the one of a store
  pub not_above : (here : ℕ) (s : Store) → slice_get ts here ≡ Some s → (j : ℕ) (t : Store) → j < here
      → slice_get ts j ≡ Some t → t.order < suc s.order
  not_above here s e j t l f = let up = rises j here t s (omega arith) f e in omega arith

  pub not_above_next : (order next : ℕ) (s : Store) → slice_get ts next ≡ Some s → s.order ≤ order
      → ((j : ℕ) (t : Store) → j < next → slice_get ts j ≡ Some t → t.order < suc order)
      → (j : ℕ) (t : Store) → j < next + 1 → slice_get ts j ≡ Some t → t.order < suc order
  not_above_next order next s e l below j t m f = elim (cases_eq j next) [
    | inl same ↦ subst (λ (x : Store). x.order < suc order)
        (some_same s t (sym e ∙ ap (λ (i : ℕ). slice_get ts i) (sym same) ∙ f)) (omega arith)
    | inr before ↦ below j t (omega arith) f
  ]

  pub none_above : (order end k : ℕ) → length ts ≤ end → k ≡ length ts
      → ((j : ℕ) (t : Store) → j < end → slice_get ts j ≡ Some t → t.order < suc order) → IsFrom ts (suc order) k
  none_above order end k l e below = record {
    below = λ j t m f. below j t (omega arith) f;
    from = λ j t m f. let within = slice_get_within ts j t f in absurd (omega arith);
  }

  pub above_from : (order k : ℕ) (s : Store) → slice_get ts k ≡ Some s → order < s.order
      → ((j : ℕ) (t : Store) → j < k → slice_get ts j ≡ Some t → t.order < suc order) → IsFrom ts (suc order) k
  above_from order k s e l below = record {
    below = below;
    from = λ j t m f. let up = rises k j s t m e f in omega arith;
  }

  pub replaced_found : (s : Store) → IsStoreOf deeds s → (k : ℕ) → IsFrom ts (suc s.order) k
      → since_of s.cell (slice_get ts k) ≡ replaced s.cell (drop (suc s.place) deeds)
  replaced_found s own k first =
      same_number (since_of s.cell (slice_get ts k)) (replaced s.cell (drop (suc s.place) deeds)) forth back
    where
      from : IsFrom ts (order_of s.cell (suc s.place)) k
      from =
          let order = own.ordered in
          let e : suc s.order ≡ order_of s.cell (suc s.place) = omega arith in
          subst (λ (n : ℕ). IsFrom ts n k) e first

      forth : (q : ℕ) → IsBy (since_of s.cell (slice_get ts k)) q → IsBy (replaced s.cell (drop (suc s.place) deeds)) q
      forth q h =
          let a : IsAt s.cell k q = at_first s.cell k q h in
          let o : IsStoreOf deeds a.store = of k a.store a.is in
          let high = first.from k a.store (omega arith) a.is in
          let order = o.ordered in
          let old = own.ordered in
          let number : number_of a.store.cell ≡ number_of s.cell = ap (λ (c : CellUse). number_of c) a.same in
          replaced_from s.cell deeds s.place a.store.place a.store.value a.store.point q (omega arith) a.stored a.by

      back : (q : ℕ) → IsBy (replaced s.cell (drop (suc s.place) deeds)) q → IsBy (since_of s.cell (slice_get ts k)) q
      back q h =
          let r : IsReplaced s.cell deeds s.place q = is_replaced s.cell deeds s.place q h in
          let later = r.later in
          by_first s.cell k r.at q
          (order_found s.cell own.fits_use (suc s.place) k from r.at r.value r.point r.stored (omega arith)) r.by
