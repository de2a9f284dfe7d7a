-- Tables of stores: what the searches in them find.
use Rattle.std.proofs.Common.{◌≡◌, ◌⊎◌, inl, inr, ℕ, zero, suc, ◌+◌, ◌<◌, ◌≤◌, max, ◌==◌, Bool, true, false, ltb, List, [], ◌∷◌, ◌++◌, drop, length, Option, Some, None, refl, ap, sym, ◌∙◌, subst, arith}
use Rattle.std.specs.List.{slice_get, slice_index_or, Contains, IsDistinct}
use Rattle.std.specs.List.Sorted.{IsNonDecreasingBy, IsPartitionPoint, IsPermutation}
use Rattle.std.proofs.lemmas.Option.{slice_get_within, slice_get-get_or, get_or_from_slice_get}
use Rattle.std.proofs.lemmas.Bool.{cases_Bool, cases_eq, cases_lt, eqb-true, ltb-true, ltb-false}
use Rattle.std.proofs.lemmas.Map.Keys.{IsDistinct-IsPermutation, IsDistinct-from_apart, apart_from_distinct}
use Rattle.std.proofs.lemmas.List.Elements.{Contains-push, Contains-push_cases, Contains-append_left}
use Rattle.std.proofs.lemmas.List.Sorted.{Contains-permutation, IsPermutation-sym}
use Rattle.std.proofs.Math.Nat.{le-max_left, le-max_right, max-eq_left, max_comm}
use Rattle.mx_reads.specs.Deeds.{CellUse, Deed, Stores}
use Rattle.mx_stores.specs.Parts.{deeds_of}
use Rattle.mx_stores.specs.Since.{entry_of, least_entry, since}
use Rattle.mx_stores.specs.Least.{least}
use Rattle.mx_stores.specs.Tables.{AreApart, AreLower, AreReaches, AreStores, HasLevel, HasStore, IsFrom, IsLevelFrom, IsNoStore, IsReachFrom, IsStoreHere, IsStoreOf, IsTable}
use Rattle.mx_stores.specs.declared.stores.Store.{Store}
use Rattle.mx_stores.specs.declared.stores.Table.{Table}
use Rattle.mx_stores.proofs.SightedLaws.{none_some, some_same}

-- lists that grow by one
pub get_pushed : {A : Type 0} (xs : List A) (x y : A) (k : ℕ) → slice_get (xs ++ x ∷ []) k ≡ Some y
    → (slice_get xs k ≡ Some y) ⊎ ((k ≡ length xs) × (x ≡ y))
get_pushed [] x y zero e = inr (refl, some_same x y e)
get_pushed [] x y (suc k) e = none_some y e
get_pushed (z ∷ xs) x y zero e = inl e
get_pushed (z ∷ xs) x y (suc k) e = elim (get_pushed xs x y k e) [
  | inl h ↦ inl h
  | inr h ↦ inr (ap (λ (n : ℕ). suc n) h.0, h.1)
]

pub held : {A : Type 0} (xs : List A) (k : ℕ) (x : A) → slice_get xs k ≡ Some x → Contains xs x
held xs k x e = (k, slice_get_within xs k x e, get_or_from_slice_get xs k x x e)

pub place_in : {A : Type 0} (xs : List A) (x : A) → Contains xs x → (k : ℕ) × (slice_get xs k ≡ Some x)
place_in xs x c = (c.0, slice_get-get_or xs c.0 x c.1 ∙ ap (λ y. Some y) c.2)

same_deed : (a b : Deed) → Some a ≡ Some b → a ≡ b
same_deed a b h = some_same a b h

-- the stores are gathered from the last deed to the first
no_store : (deed : Deed) (cell : CellUse) (value point : ℕ) → IsNoStore deed → deed ≡ Stores cell value point → ⊥
no_store deed cell value point n e = subst (λ (d : Deed). IsNoStore d) e n

pub skipped : (deeds : List Deed) (place : ℕ) (deed : Deed) (stores : List Store) → slice_get deeds place ≡ Some deed
    → IsNoStore deed → AreStores deeds (suc place) stores → AreStores deeds place stores
skipped deeds place deed stores e n a = record {
  after = λ s c. let l = a.after s c in omega arith;
  apart = a.apart;
  each = a.each;
  whole = λ at cell value point l h. elim (cases_eq place at) [
    | inl same ↦ absurd (no_store deed cell value point n
        (some_same deed (Stores cell value point) (sym e ∙ ap (λ (i : ℕ). slice_get deeds i) same ∙ h)))
    | inr other ↦ a.whole at cell value point (omega arith) h
  ];
}

pub added : (deeds : List Deed) (place : ℕ) (deed : Deed) (from : Option ℕ) (s : Store) (stores : List Store)
    → slice_get deeds place ≡ Some deed → from ≡ since deeds place → IsStoreHere deed place from s
    → AreStores deeds (suc place) stores → AreStores deeds place (stores ++ s ∷ [])
added deeds place deed from s stores e f h a = record { after = after; apart = apart; each = each; whole = whole }
  where
    after : (t : Store) → Contains (stores ++ s ∷ []) t → place ≤ t.place
    after t c = elim (Contains-push_cases stores s t c) [
      | inl before ↦ let l = a.after t before in omega arith
      | inr same ↦
          let at : t.place ≡ place = ap (λ (x : Store). x.place) (sym same) ∙ h.at in omega arith
    ]

    later : (j : ℕ) (t u : Store) → slice_get stores j ≡ Some t → s ≡ u → t.place ≡ u.place → ⊥
    later j t u e same f =
        let l : suc place ≤ t.place = a.after t (held stores j t e) in
        let at : u.place ≡ place = ap (λ (x : Store). x.place) (sym same) ∙ h.at in omega arith

    apart : AreApart (stores ++ s ∷ [])
    apart j k t u e f same = elim (get_pushed stores s t j e) [
      | inl old ↦ elim (get_pushed stores s u k f) [
        | inl older ↦ a.apart j k t u old older same
        | inr new ↦ absurd (later j t u old new.1 same)
      ]
      | inr new ↦ elim (get_pushed stores s u k f) [
        | inl older ↦ absurd (later k u t older new.1 (sym same))
        | inr again ↦ new.0 ∙ sym again.0
      ]
    ]

    own : IsStoreOf deeds s
    own = record {
      stored = ap (λ (i : ℕ). slice_get deeds i) h.at ∙ e ∙ ap (λ (d : Deed). Some d) h.stored;
      known = h.known ∙ f ∙ ap (λ (i : ℕ). since deeds i) (sym h.at);
      ordered = h.ordered;
      levelled = h.levelled;
      fits_use = h.fits_use;
      fits_point = h.fits_point;
      fits_place = h.fits_place;
    }

    each : (t : Store) → Contains (stores ++ s ∷ []) t → IsStoreOf deeds t
    each t c = elim (Contains-push_cases stores s t c) [
      | inl before ↦ a.each t before
      | inr same ↦ subst (λ (x : Store). IsStoreOf deeds x) same own
    ]

    whole : (at : ℕ) (cell : CellUse) (value point : ℕ) → place ≤ at
        → slice_get deeds at ≡ Some (Stores cell value point) → HasStore (stores ++ s ∷ []) at
    whole at cell value point l g = elim (cases_eq place at) [
      | inl same ↦ record { store = s; is_in = Contains-push stores s; there = h.at ∙ same }
      | inr other ↦
          let has : HasStore stores at = a.whole at cell value point (omega arith) g in
          record { store = has.store; is_in = Contains-append_left stores (s ∷ []) has.store has.is_in; there = has.there }
    ]

pub no_stores : (deeds : List Deed) → AreStores deeds (length deeds) []
no_stores deeds = record {
  after = λ s c. let l = c.1 in absurd (omega arith);
  apart = λ j k s t e f same. none_some s e;
  each = λ s c. let l = c.1 in absurd (omega arith);
  whole = λ at cell value point l e.
      let within = slice_get_within deeds at (Stores cell value point) e in absurd (omega arith);
}

-- whether two stores have one place
abbrev at_once : Store → Store → Bool
at_once s t = s.place == t.place

at_once_flips : (s t : Store) → at_once s t ≡ at_once t s
at_once_flips s t = grind arith

not_at_once : (s t : Store) → (s.place ≡ t.place → ⊥) → at_once s t ≡ false
not_at_once s t n = elim (cases_Bool (s.place == t.place)) [
  | inl e ↦ absurd (n (eqb-true s.place t.place e))
  | inr e ↦ e
]

at_two : (s t : Store) → at_once s t ≡ false → s.place ≡ t.place → ⊥
at_two s t e same = grind arith

distinct_apart : (xs : List Store) → AreApart xs → IsDistinct at_once xs
distinct_apart xs a = IsDistinct-from_apart at_once xs (λ i j d l m.
    not_at_once (slice_index_or xs i d) (slice_index_or xs j d) (λ same.
    let e = a i j (slice_index_or xs i d) (slice_index_or xs j d) (slice_get-get_or xs i d (omega arith))
    (slice_get-get_or xs j d m) same in omega arith))

apart_distinct : (xs : List Store) → IsDistinct at_once xs → AreApart xs
apart_distinct xs d j k s t e f same =
    let jl = slice_get_within xs j s e in
    let kl = slice_get_within xs k t f in
    elim (cases_eq j k) [
      | inl here ↦ here
      | inr other ↦ elim (cases_lt j k) [
        | inl l ↦ absurd (at_two s t (two j k s t s l kl (get_or_from_slice_get xs j s s e) (get_or_from_slice_get xs k t s f)) same)
        | inr l ↦ absurd (at_two t s (two k j t s s (omega arith) jl (get_or_from_slice_get xs k t s f) (get_or_from_slice_get xs j s s e)) (sym same))
      ]
    ]
  where
    two : (i n : ℕ) (a b d' : Store) → i < n → n < length xs → slice_index_or xs i d' ≡ a → slice_index_or xs n d' ≡ b
        → at_once a b ≡ false
    two i n a b d' l m g h = subst (λ (x : Store). at_once x b ≡ false) g
        (subst (λ (x : Store). at_once (slice_index_or xs i d') x ≡ false) h (apart_from_distinct at_once xs i n d' d l m))

pub apart_sorted : (xs ys : List Store) → IsPermutation xs ys → AreApart xs → AreApart ys
apart_sorted xs ys p a =
    apart_distinct ys (IsDistinct-IsPermutation at_once at_once_flips xs ys p (distinct_apart xs a))

pub sorted_stores : (deeds : List Deed) (xs ys : List Store) → IsPermutation xs ys → AreStores deeds 0 xs
    → AreStores deeds 0 ys
sorted_stores deeds xs ys p a = record {
  after = λ s c. a.after s (Contains-permutation ys xs s (IsPermutation-sym xs ys p) c);
  apart = apart_sorted xs ys p a.apart;
  each = λ s c. a.each s (Contains-permutation ys xs s (IsPermutation-sym xs ys p) c);
  whole = λ at cell value point l e.
      let has : HasStore xs at = a.whole at cell value point l e in
      record { store = has.store; is_in = Contains-permutation xs ys has.store p has.is_in; there = has.there };
}

-- the greatest level of the first so many stores, 0 of none
pub record IsTop (stores : List Store) (count top : ℕ) : Type 0 where
  pub above : (j : ℕ) (s : Store) → j < count → slice_get stores j ≡ Some s → s.level ≤ top
  pub one : 0 < count → HasLevel stores count top
  pub none : count ≡ 0 → top ≡ 0

pub no_top : (stores : List Store) → IsTop stores 0 0
no_top stores = record { above = λ j s l e. absurd (omega arith); one = λ l. absurd (omega arith); none = λ e. refl }

pub no_reaches : (stores : List Store) → AreReaches stores 0 []
no_reaches stores = record {
  long = refl;
  above = λ j k s reach l e h. none_some reach h;
  one = λ k reach h. none_some reach h;
}

module _ (stores : List Store) (count top : ℕ) (s : Store) (is : slice_get stores count ≡ Some s)
    (old : IsTop stores count top) where
  above_next : (j : ℕ) (t : Store) → j < suc count → slice_get stores j ≡ Some t → t.level ≤ max s.level top
  above_next j t l e = elim (cases_eq j count) [
    | inl same ↦
        let own : s ≡ t = some_same s t (sym is ∙ ap (λ (i : ℕ). slice_get stores i) (sym same) ∙ e) in
        subst (λ (x : Store). x.level ≤ max s.level top) own (le-max_left s.level top)
    | inr other ↦
        let before = old.above j t (omega arith) e in
        let more = le-max_right s.level top in omega arith
  ]

  one_next : HasLevel stores count (max s.level top)
  one_next = elim (cases_lt s.level top) [
    | inr l ↦ record { at = count; store = s; up_to = omega arith; is = is; same = sym (max-eq_left l) }
    | inl l ↦ elim (cases_eq count 0) [
      | inl none ↦ let e = old.none none in absurd (omega arith)
      | inr some ↦
          let has : HasLevel stores count top = old.one (omega arith) in
          let e : max s.level top ≡ top = max_comm s.level top ∙ max-eq_left (omega arith) in
          record { at = has.at; store = has.store; up_to = has.up_to; is = has.is; same = has.same ∙ sym e }
    ]
  ]

  pub next_top : IsTop stores (suc count) (max s.level top)
  next_top = let has : HasLevel stores count (max s.level top) = one_next in let l = has.up_to in record {
    above = above_next;
    one = λ p. record { at = has.at; store = has.store; up_to = omega arith; is = has.is; same = has.same };
    none = λ e. absurd (omega arith);
  }

  pub next_reaches : (reaches : List ℕ) → AreReaches stores count reaches
      → AreReaches stores (suc count) (reaches ++ max s.level top ∷ [])
  next_reaches reaches a = let long = a.long in record {
    long = grown reaches (max s.level top) ∙ ap (λ (n : ℕ). suc n) long;
    above = λ j k t reach l e h. elim (get_pushed reaches (max s.level top) reach k h) [
      | inl before ↦ a.above j k t reach l e before
      | inr last ↦ let at = last.0 in subst (λ (n : ℕ). t.level ≤ n) last.1 (above_next j t (omega arith) e)
    ];
    one = λ k reach h. elim (get_pushed reaches (max s.level top) reach k h) [
      | inl before ↦ a.one k reach before
      | inr last ↦ subst (λ (n : ℕ). HasLevel stores n reach) (sym long ∙ sym last.0)
          (subst (λ (n : ℕ). HasLevel stores count n) last.1 one_next)
    ];
  }
    where
      grown : (xs : List ℕ) (x : ℕ) → length (xs ++ x ∷ []) ≡ suc (length xs)
      grown [] x = refl
      grown (y ∷ xs) x = ap (λ (n : ℕ). suc n) (grown xs x)

past_all : {A : Type 0} (xs : List A) → drop (length xs) xs ≡ []
past_all [] = refl
past_all (x ∷ xs) = past_all xs

pub none_left : (deeds : List Deed) → None ≡ least_entry (drop (length deeds) deeds)
none_left deeds = sym (ap (λ (ds : List Deed). least_entry ds) (past_all deeds))

at_drop : (deeds : List Deed) (place : ℕ) (deed : Deed) → slice_get deeds place ≡ Some deed
    → drop place deeds ≡ deed ∷ drop (suc place) deeds
at_drop [] place deed e = none_some deed e
at_drop (d ∷ deeds) zero deed e = ap (λ (x : Deed). x ∷ deeds) (some_same d deed e)
at_drop (d ∷ deeds) (suc place) deed e = at_drop deeds place deed e

pub one_entry_more : (deeds : List Deed) (place : ℕ) (deed : Deed) → slice_get deeds place ≡ Some deed
    → least (entry_of deed) (since deeds place) ≡ least_entry (drop place deeds)
one_entry_more deeds place deed e = sym (ap (λ (ds : List Deed). least_entry ds) (at_drop deeds place deed e))

-- what a binary search found
pub order_point : (stores : List Store) (order k : ℕ)
    → IsPartitionPoint (λ (s : Store). ltb s.order order ≡ true) (λ (s : Store). ltb s.order order ≡ false) stores k
    → IsFrom stores order k
order_point stores order k point = record {
  below = λ j s l e. subst (λ (t : Store). t.order < order) (get_or_from_slice_get stores j s s e)
      (ltb-true _ _ (point.0 j s (omega arith) l));
  from = λ j s l e. subst (λ (t : Store). order ≤ t.order) (get_or_from_slice_get stores j s s e)
      (ltb-false _ _ (point.1 j s l (slice_get_within stores j s e)));
}

-- the greatest levels up to the stores never fall
pub reaches_rise : (stores : List Store) (count : ℕ) (reaches : List ℕ) → AreReaches stores count reaches
    → IsNonDecreasingBy (λ n. n) reaches
reaches_rise stores count reaches a i j d l b =
    let first : slice_get reaches i ≡ Some (slice_index_or reaches i d) = slice_get-get_or reaches i d (omega arith) in
    let next : slice_get reaches j ≡ Some (slice_index_or reaches j d) = slice_get-get_or reaches j d b in
    let has : HasLevel stores i (slice_index_or reaches i d) = a.one i (slice_index_or reaches i d) first in
    let up = has.up_to in
    subst (λ (n : ℕ). n ≤ slice_index_or reaches j d) has.same
    (a.above has.at j has.store (slice_index_or reaches j d) (omega arith) has.is next)

-- numbers below a level
pub all_lower : (reaches : List ℕ) → IsNonDecreasingBy (λ n. n) reaches → (level k reach : ℕ)
    → slice_get reaches k ≡ Some reach → reach < level → AreLower reaches level (suc k)
all_lower reaches rises level k reach e l j other m f =
    let within = slice_get_within reaches k reach e in
    let up : other ≤ reach =
    subst (λ (n : ℕ). n ≤ reach) (get_or_from_slice_get reaches j other other f)
    (subst (λ (n : ℕ). slice_index_or reaches j other ≤ n) (get_or_from_slice_get reaches k reach other e)
    (rises j k other (omega arith) within)) in omega arith

pub lower_next : (reaches : List ℕ) (level k reach : ℕ) → AreLower reaches level k → slice_get reaches k ≡ Some reach
    → reach < level → AreLower reaches level (k + 1)
lower_next reaches level k reach lower e l j other m f = elim (cases_eq j k) [
  | inl same ↦ subst (λ (n : ℕ). n < level)
      (some_same reach other (sym e ∙ ap (λ (i : ℕ). slice_get reaches i) (sym same) ∙ f)) l
  | inr before ↦ lower j other (omega arith) f
]

pub reach_point : (reaches : List ℕ) (level k : ℕ)
    → IsPartitionPoint (λ (n : ℕ). ltb n level ≡ true) (λ (n : ℕ). ltb n level ≡ false) reaches k
    → IsReachFrom reaches level k
reach_point reaches level k point = record {
  below = λ j reach l e. subst (λ (n : ℕ). n < level) (get_or_from_slice_get reaches j reach reach e)
      (ltb-true _ _ (point.0 j reach (omega arith) l));
  from = λ reach e. subst (λ (n : ℕ). level ≤ n) (get_or_from_slice_get reaches k reach reach e)
      (ltb-false _ _ (point.1 k reach (omega arith) (slice_get_within reaches k reach e)));
}

pub level_from : (stores : List Store) (reaches : List ℕ) (level k : ℕ) → AreReaches stores (length stores) reaches
    → IsReachFrom reaches level k → IsLevelFrom stores level k
level_from stores reaches level k a point = record {
  below = λ j s l e. below j s l e (slice_get reaches j) refl;
  from = from;
}
  where
    below : (j : ℕ) (s : Store) → j < k → slice_get stores j ≡ Some s → (o : Option ℕ) → slice_get reaches j ≡ o
        → s.level < level
    below j s l e None h =
        let within = slice_get_within stores j s e in
        let long = a.long in
        none_some (slice_index_or reaches j 0) (sym h ∙ slice_get-get_or reaches j 0 (omega arith))
    below j s l e (Some reach) h =
        let most = a.above j j s reach (omega arith) e h in
        let under = point.below j reach l h in omega arith

    from : (s : Store) → slice_get stores k ≡ Some s → level ≤ s.level
    from s e =
        let within = slice_get_within stores k s e in
        let long = a.long in
        let is : slice_get reaches k ≡ Some (slice_index_or reaches k 0) = slice_get-get_or reaches k 0 (omega arith) in
        let high : level ≤ slice_index_or reaches k 0 = point.from (slice_index_or reaches k 0) is in
        let has : HasLevel stores k (slice_index_or reaches k 0) = a.one k (slice_index_or reaches k 0) is in
        let same = has.same in
        let up = has.up_to in
        elim (cases_eq has.at k) [
          | inl here ↦
              let own : has.store ≡ s =
              some_same has.store s (sym has.is ∙ ap (λ (i : ℕ). slice_get stores i) here ∙ e) in
              subst (λ (t : Store). level ≤ t.level) own (omega arith)
          | inr before ↦
              let under = below has.at has.store (omega arith) has.is (slice_get reaches has.at) refl in
              absurd (omega arith)
        ]

pub reached_next : (stores : List Store) (count next top top' : ℕ) (s : Store) (reaches pushed : List ℕ)
    → next ≡ suc count → top' ≡ max s.level top → pushed ≡ reaches ++ top' ∷ [] → slice_get stores count ≡ Some s
    → IsTop stores count top → AreReaches stores count reaches
    → AreReaches stores next pushed × IsTop stores next top'
reached_next stores count next top top' s reaches pushed n t p is top_old old = (
  subst (λ (k : ℕ). AreReaches stores k pushed) (sym n)
      (subst (λ (xs : List ℕ). AreReaches stores (suc count) xs)
      (sym (p ∙ ap (λ (x : ℕ). reaches ++ x ∷ []) t))
      (next_reaches stores count top s is top_old reaches old)),
  subst (λ (k : ℕ). IsTop stores k top') (sym n)
      (subst (λ (x : ℕ). IsTop stores (suc count) x) (sym t) (next_top stores count top s is top_old)),
)

index_any : {A : Type 0} (xs : List A) (i : ℕ) (d e : A) → i < length xs → slice_index_or xs i d ≡ slice_index_or xs i e
index_any xs i d e l = get_or_from_slice_get xs i (slice_index_or xs i e) d (slice_get-get_or xs i e l)

-- one part's table more
pub tables_grow : (parts : List (List Deed)) (i next : ℕ) (part : List Deed) (table : Table) (tables pushed : List Table)
    → next ≡ suc i → i < length parts → part ≡ slice_index_or parts i part → pushed ≡ tables ++ table ∷ []
    → IsTable part table → length tables ≡ i
    → ((u : ℕ) (t : Table) → slice_get tables u ≡ Some t → IsTable (deeds_of parts u) t)
    → (length pushed ≡ next) × ((u : ℕ) (t : Table) → slice_get pushed u ≡ Some t → IsTable (deeds_of parts u) t)
tables_grow parts i next part table tables pushed n l e p is long each = (
  ap (λ (ts : List Table). length ts) p ∙ grown tables table ∙ ap (λ (k : ℕ). suc k) long ∙ sym n,
  λ u t h. elim (get_pushed tables table t u (ap (λ (ts : List Table). slice_get ts u) (sym p) ∙ h)) [
    | inl old ↦ each u t old
    | inr new ↦ subst (λ (x : Table). IsTable (deeds_of parts u) x) new.1
        (subst (λ (k : ℕ). IsTable (deeds_of parts k) table) (sym long ∙ sym new.0)
        (subst (λ (d : List Deed). IsTable d table) (e ∙ index_any parts i part [] l) is))
  ],
)
  where
    grown : (xs : List Table) (x : Table) → length (xs ++ x ∷ []) ≡ suc (length xs)
    grown [] x = refl
    grown (y ∷ xs) x = ap (λ (k : ℕ). suc k) (grown xs x)
