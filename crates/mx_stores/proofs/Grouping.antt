-- The stores of a table by groups, and the cells of all.
use Rattle.std.proofs.Common.{◌≡◌, inl, inr, ℕ, zero, suc, ◌+◌, ◌*◌, ◌<◌, ◌≤◌, List, [], ◌∷◌, ◌++◌, length, Option, Some, None, refl, ap, sym, ◌∙◌, subst, arith}
use Rattle.std.specs.List.{slice_get, Contains}
use Rattle.std.specs.List.Sorted.{IsNonDecreasingBy}
use Rattle.std.proofs.lemmas.Bool.{cases_eq}
use Rattle.std.proofs.lemmas.List.Elements.{Contains-append_left, Contains-append_right}
use Rattle.std.proofs.lemmas.Option.{slice_get_within}
use Rattle.mx_reads.specs.Deeds.{Deed, Deeds}
use Rattle.mx_stores.specs.Cells.{AreRising, IsPresent}
use Rattle.mx_stores.specs.Groups.{AreCells, AreGroups, IsGroups}
use Rattle.mx_stores.specs.Tables.{AreStores, IsFrom, IsStoreOf, number_of}
use Rattle.mx_stores.specs.declared.groups.Groups.{Groups}
use Rattle.mx_stores.specs.declared.stores.Store.{Store}
use Rattle.mx_stores.specs.declared.stores.Table.{Table}
use Rattle.mx_stores.proofs.EndLaws.{pushed_before, pushed_last}
use Rattle.mx_stores.proofs.Finds.{of, rises}
use Rattle.mx_stores.proofs.SightedLaws.{none_some, some_same}
use Rattle.mx_stores.proofs.Tables.{get_pushed, held, place_in}

-- the last number is at least this one
abbrev pub IsUpTo : Option ℕ → ℕ → Type 0
IsUpTo None number = ⊥
IsUpTo (Some last) number = number ≤ last

-- a store before this place has this number
pub record HasBefore (stores : List Store) (here number : ℕ) : Type 0 where
  pub at : ℕ
  pub store : Store
  pub before : at < here
  pub is : slice_get stores at ≡ Some store
  pub same : number_of store.cell ≡ number

-- the stores before this place by groups
pub record IsGrouped (stores : List Store) (here : ℕ) (numbers begins : List ℕ) (last : Option ℕ) : Type 0 where
  pub long : length begins ≡ length numbers
  pub rising : AreRising numbers
  pub begin : (k number at : ℕ) → slice_get numbers k ≡ Some number → slice_get begins k ≡ Some at
      → IsFrom stores (number * 18446744073709551616) at
  pub whole : (j : ℕ) (s : Store) → j < here → slice_get stores j ≡ Some s → IsPresent numbers (number_of s.cell)
  pub most : (k number : ℕ) → slice_get numbers k ≡ Some number → IsUpTo last number
  pub all : (j : ℕ) (s : Store) → j < here → slice_get stores j ≡ Some s → IsUpTo last (number_of s.cell)
  pub one : (number : ℕ) → last ≡ Some number → HasBefore stores here number

pub none_grouped : (stores : List Store) → IsGrouped stores 0 [] [] None
none_grouped stores = record {
  long = refl;
  rising = λ j k m n l e f. none_some m e;
  begin = λ k number at e f. none_some number e;
  whole = λ j s l e. absurd (omega arith);
  most = λ k number e. none_some number e;
  all = λ j s l e. absurd (omega arith);
  one = λ number e. none_some number e;
}

grown : {A : Type 0} (xs : List A) (x : A) → length (xs ++ x ∷ []) ≡ suc (length xs)
grown [] x = refl
grown (y ∷ xs) x = ap (λ (n : ℕ). suc n) (grown xs x)

pushed_present : (numbers : List ℕ) (x number : ℕ) → IsPresent numbers number → IsPresent (numbers ++ x ∷ []) number
pushed_present numbers x number p = record { at = p.at; is = pushed_before numbers x number p.at p.is }

module _ (deeds : List Deed) (ts : List Store) (stores : AreStores deeds 0 ts)
    (sorted : IsNonDecreasingBy (λ (s : Store). s.order) ts) where
  up_to : (m n i j : ℕ) → m * 18446744073709551616 + i ≤ n * 18446744073709551616 + j → j < 18446744073709551616 → m ≤ n
  up_to m n i j l b = omega arith

  -- the numbers of the cells do not fall
  cells_rise : (j k : ℕ) (s t : Store) → j ≤ k → slice_get ts j ≡ Some s → slice_get ts k ≡ Some t
      → number_of s.cell ≤ number_of t.cell
  cells_rise j k s t l e f =
      let o : IsStoreOf deeds s = of deeds ts stores sorted j s e in
      let p : IsStoreOf deeds t = of deeds ts stores sorted k t f in
      let up = rises deeds ts stores sorted j k s t l e f in
      let so = o.ordered in
      let to = p.ordered in
      up_to (number_of s.cell) (number_of t.cell) s.place t.place (omega arith) p.fits_place

  -- one more of the last cell
  pub same_group : (here number : ℕ) (s : Store) (numbers begins : List ℕ) (last : Option ℕ) → slice_get ts here ≡ Some s
      → number ≡ number_of s.cell → last ≡ Some number → IsGrouped ts here numbers begins last
      → IsGrouped ts (here + 1) numbers begins last
  same_group here number s numbers begins last is n e old =
      let has : HasBefore ts here number = old.one number e in
      let before = has.before in record {
        long = old.long;
        rising = old.rising;
        begin = old.begin;
        whole = λ j t l f. elim (cases_eq j here) [
          | inr other ↦ old.whole j t (omega arith) f
          | inl same ↦
              let it : s ≡ t = some_same s t (sym is ∙ ap (λ (i : ℕ). slice_get ts i) (sym same) ∙ f) in
              subst (λ (m : ℕ). IsPresent numbers m) (has.same ∙ n ∙ ap (λ (x : Store). number_of x.cell) it)
              (old.whole has.at has.store has.before has.is)
        ];
        most = old.most;
        all = λ j t l f. elim (cases_eq j here) [
          | inr other ↦ old.all j t (omega arith) f
          | inl same ↦
              let it : s ≡ t = some_same s t (sym is ∙ ap (λ (i : ℕ). slice_get ts i) (sym same) ∙ f) in
              let m : number ≡ number_of t.cell = n ∙ ap (λ (x : Store). number_of x.cell) it in
              subst (λ (o : Option ℕ). IsUpTo o (number_of t.cell)) (sym e) (omega arith)
        ];
        one = λ m f.
            let h : HasBefore ts here m = old.one m f in
            let b = h.before in record { at = h.at; store = h.store; before = omega arith; is = h.is; same = h.same };
      }

  module _ (here number : ℕ) (s : Store) (numbers begins : List ℕ) (last : Option ℕ) (is : slice_get ts here ≡ Some s)
      (n : number ≡ number_of s.cell) (other : last ≡ Some number → ⊥) (old : IsGrouped ts here numbers begins last) where
    -- what is up to the last number is below this one
    lower : (m : ℕ) → IsUpTo last m → m < number
    lower m u = at last refl u
      where
        at : (o : Option ℕ) → last ≡ o → IsUpTo o m → m < number
        at None e v = absurd v
        at (Some top) e v =
            let has : HasBefore ts here top = old.one top e in
            let before = has.before in
            let up = cells_rise has.at here has.store s (omega arith) has.is is in
            let same = has.same in
            elim (cases_eq top number) [
              | inl equal ↦ absurd (other (e ∙ ap (λ (k : ℕ). Some k) equal))
              | inr apart ↦ omega arith
            ]

    -- the stores of this cell begin here
    begins_here : IsFrom ts (number * 18446744073709551616) here
    begins_here = record {
      below = λ j t l f.
          let o : IsStoreOf deeds t = of deeds ts stores sorted j t f in
          let under : number_of t.cell < number = lower (number_of t.cell) (old.all j t l f) in
          let order = o.ordered in
          let fits = o.fits_place in
          under_order (number_of t.cell) number t.order t.place order fits under;
      from = λ j t l f.
          let o : IsStoreOf deeds s = of deeds ts stores sorted here s is in
          let up = rises deeds ts stores sorted here j s t l is f in
          let order = o.ordered in
          at_least (number_of s.cell) number s.order t.order s.place order n up;
    }
      where
        under_order : (m k order place : ℕ) → order ≡ m * 18446744073709551616 + place → place < 18446744073709551616
            → m < k → order < k * 18446744073709551616
        under_order m k order place e b l = omega arith

        at_least : (m k order next place : ℕ) → order ≡ m * 18446744073709551616 + place → k ≡ m → order ≤ next
            → k * 18446744073709551616 ≤ next
        at_least m k order next place e f l = omega arith

    pub next_group : IsGrouped ts (here + 1) (numbers ++ number ∷ []) (begins ++ here ∷ []) (Some number)
    next_group = let long = old.long in record {
      long = let a = grown numbers number in let b = grown begins here in omega arith;
      rising = λ j k m p l e f. elim (get_pushed numbers number m j e) [
        | inl first ↦ elim (get_pushed numbers number p k f) [
          | inl second ↦ old.rising j k m p l first second
          | inr top ↦ let under = lower m (old.most j m first) in let same = top.1 in omega arith
        ]
        | inr top ↦
            let within = slice_get_within (numbers ++ number ∷ []) k p f in
            let size = grown numbers number in
            let at = top.0 in absurd (omega arith)
      ];
      begin = λ k m at e f. elim (get_pushed numbers number m k e) [
        | inl first ↦ elim (get_pushed begins here at k f) [
          | inl second ↦ old.begin k m at first second
          | inr top ↦ let within = slice_get_within numbers k m first in let same = top.0 in absurd (omega arith)
        ]
        | inr top ↦ elim (get_pushed begins here at k f) [
          | inl second ↦ let within = slice_get_within begins k at second in let same = top.0 in absurd (omega arith)
          | inr again ↦
              subst (λ (x : ℕ). IsFrom ts (x * 18446744073709551616) at) top.1
              (subst (λ (x : ℕ). IsFrom ts (number * 18446744073709551616) x) again.1 begins_here)
        ]
      ];
      whole = λ j t l f. elim (cases_eq j here) [
        | inr before ↦ pushed_present numbers number (number_of t.cell) (old.whole j t (omega arith) f)
        | inl same ↦
            let it : s ≡ t = some_same s t (sym is ∙ ap (λ (i : ℕ). slice_get ts i) (sym same) ∙ f) in
            record {
              at = length numbers;
              is = pushed_last numbers number
                  ∙ ap (λ (x : ℕ). Some x) (n ∙ ap (λ (x : Store). number_of x.cell) it);
            }
      ];
      most = λ k m e. elim (get_pushed numbers number m k e) [
        | inl first ↦ let under = lower m (old.most k m first) in omega arith
        | inr top ↦ let same = top.1 in omega arith
      ];
      all = λ j t l f. elim (cases_eq j here) [
        | inr before ↦ let under = lower (number_of t.cell) (old.all j t (omega arith) f) in omega arith
        | inl same ↦
            let it : s ≡ t = some_same s t (sym is ∙ ap (λ (i : ℕ). slice_get ts i) (sym same) ∙ f) in
            let m : number ≡ number_of t.cell = n ∙ ap (λ (x : Store). number_of x.cell) it in omega arith
      ];
      one = λ m e. record {
        at = here;
        store = s;
        before = omega arith;
        is = is;
        same = sym n ∙ some_same number m e;
      };
    }

pub grouped_as : (ts : List Store) (here : ℕ) (numbers begins numbers' begins' : List ℕ) (last last' : Option ℕ)
    → numbers' ≡ numbers → begins' ≡ begins → last' ≡ last → IsGrouped ts here numbers begins last
    → IsGrouped ts here numbers' begins' last'
grouped_as ts here numbers begins numbers' begins' last last' n b l old =
    subst (λ (o : Option ℕ). IsGrouped ts here numbers' begins' o) (sym l)
    (subst (λ (xs : List ℕ). IsGrouped ts here numbers' xs last) (sym b)
    (subst (λ (xs : List ℕ). IsGrouped ts here xs begins last) (sym n) old))

pub all_grouped : (ts : List Store) (here : ℕ) (numbers begins : List ℕ) (last : Option ℕ) (groups : Groups)
    → length ts ≤ here → groups.cells.numbers.items ≡ numbers → groups.begins.items ≡ begins
    → IsGrouped ts here numbers begins last → IsGroups ts groups
all_grouped ts here numbers begins last groups l e f old = record {
  rising = subst (λ (xs : List ℕ). AreRising xs) (sym e) old.rising;
  long = ap (λ (xs : List ℕ). length xs) f ∙ old.long ∙ ap (λ (xs : List ℕ). length xs) (sym e);
  begin = λ k number at g h. old.begin k number at (ap (λ (xs : List ℕ). slice_get xs k) (sym e) ∙ g)
      (ap (λ (xs : List ℕ). slice_get xs k) (sym f) ∙ h);
  whole = λ j s g.
      let within = slice_get_within ts j s g in
      subst (λ (xs : List ℕ). IsPresent xs (number_of s.cell)) (sym e) (old.whole j s (omega arith) g);
}

-- what stands at a place of a list
pub stands_at : {A : Type 0} (xs : List A) (k : ℕ) → k < length xs → (x : A) × (slice_get xs k ≡ Some x)
stands_at [] k l = absurd (omega arith)
stands_at (x ∷ xs) zero l = (x, refl)
stands_at (x ∷ xs) (suc k) l = stands_at xs k (omega arith)

-- a number that stands somewhere
pub present : (numbers : List ℕ) (number : ℕ) → Contains numbers number → IsPresent numbers number
present numbers number c = let at = place_in numbers number c in record { at = at.0; is = at.1 }

-- those of one table more
pub one_groups_more : (done : Deeds) (tables : List Table) (n : ℕ) (table : Table) (groups pushed : List Groups) (own : Groups)
    → pushed ≡ groups ++ own ∷ [] → length groups ≡ n → slice_get tables n ≡ Some table → IsGroups table.stores.items own
    → ((u : ℕ) (t : Table) (o : Groups) → slice_get tables u ≡ Some t → slice_get groups u ≡ Some o
    → IsGroups t.stores.items o)
    → (u : ℕ) (t : Table) (o : Groups) → slice_get tables u ≡ Some t → slice_get pushed u ≡ Some o → IsGroups t.stores.items o
one_groups_more done tables n table groups pushed own p long at is old u t o e f =
    elim (get_pushed groups own o u (ap (λ (xs : List Groups). slice_get xs u) (sym p) ∙ f)) [
      | inl before ↦ old u t o e before
      | inr last ↦
          let here : n ≡ u = sym long ∙ sym last.0 in
          let same : table ≡ t = some_same table t (sym at ∙ ap (λ (i : ℕ). slice_get tables i) here ∙ e) in
          subst (λ (x : Groups). IsGroups t.stores.items x) last.1
          (subst (λ (x : Table). IsGroups x.stores.items own) same is)
    ]

-- the numbers of one process more
pub numbers_more : (groups : List Groups) (n : ℕ) (own : Groups) (numbers pushed : List ℕ)
    → pushed ≡ numbers ++ own.cells.numbers.items → slice_get groups n ≡ Some own
    → ((u k number : ℕ) (o : Groups) → u < n → slice_get groups u ≡ Some o → slice_get o.cells.numbers.items k ≡ Some number
    → Contains numbers number)
    → (u k number : ℕ) (o : Groups) → u < n + 1 → slice_get groups u ≡ Some o → slice_get o.cells.numbers.items k ≡ Some number
    → Contains pushed number
numbers_more groups n own numbers pushed p at old u k number o l e f =
    subst (λ (xs : List ℕ). Contains xs number) (sym p) (elim (cases_eq u n) [
      | inr before ↦ Contains-append_left numbers own.cells.numbers.items number (old u k number o (omega arith) e f)
      | inl here ↦
          let same : own ≡ o = some_same own o (sym at ∙ ap (λ (i : ℕ). slice_get groups i) (sym here) ∙ e) in
          Contains-append_right numbers own.cells.numbers.items number
          (held own.cells.numbers.items k number (ap (λ (x : Groups). slice_get x.cells.numbers.items k) same ∙ f))
    ])

pub all_cells : (tables : List Table) (groups : List Groups) (numbers : List ℕ) → AreRising numbers → AreGroups tables groups
    → ((u k number : ℕ) (own : Groups) → slice_get groups u ≡ Some own → slice_get own.cells.numbers.items k ≡ Some number
    → IsPresent numbers number) → AreCells tables numbers
all_cells tables groups numbers rising are has = record {
  rising = rising;
  whole = λ u table e j s f.
      let long = are.long in
      let within = slice_get_within tables u table e in
      let own = stands_at groups u (omega arith) in
      let theirs : IsGroups table.stores.items own.0 = are.each u table own.0 e own.1 in
      let p : IsPresent own.0.cells.numbers.items (number_of s.cell) = theirs.whole j s f in
      has u p.at (number_of s.cell) own.0 own.1 p.is;
}
