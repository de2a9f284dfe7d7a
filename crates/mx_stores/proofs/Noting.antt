-- What is kept of the sightings of a process, and one more.
use Rattle.std.proofs.Common.{◌≡◌, inl, inr, ℕ, suc, ◌+◌, ◌*◌, ◌<◌, ◌≤◌, ◌==◌, ◌&&◌, not, max, Bool, true, false, List, [], ◌∷◌, ◌++◌, length, Option, Some, None, is_none, option_and_then, replicate, refl, ap, sym, ◌∙◌, subst, arith}
use Rattle.std.specs.List.{slice_get, slice_set}
use Rattle.std.proofs.lemmas.Bool.{cases_Bool, cases_eq, cases_lt}
use Rattle.std.proofs.lemmas.Option.{slice_get_within, get_or_from_slice_get}
use Rattle.std.proofs.lemmas.List.{get_or-replicate, length-replicate, length-set}
use Rattle.std.proofs.Math.Nat.{le-max_left, le-max_right}
use Rattle.mx_reads.specs.Deeds.{CellUse, Deed, Deeds, Enters, Stores, Loads, Refers, Misses}
use Rattle.mx_reads.specs.ReadRule.{Reading}
use Rattle.mx_reads.specs.Sightings.{Source}
use Rattle.mx_stores.specs.Cells.{AreRising, IsAbsent}
use Rattle.mx_stores.specs.Groups.{AreGroups, IsGroups}
use Rattle.mx_stores.specs.Placed.{HasChosen}
use Rattle.mx_stores.specs.Reads.{read_of}
use Rattle.mx_stores.specs.Sighted.{Sighted, after_all, after_store, floor, floor_after, latest, or_earlier, sighted_at, sighted_in}
use Rattle.mx_stores.specs.SightedTables.{AreCursors, AreSightings, IsLatestAt, IsLatestKept, IsSightedHere}
use Rattle.mx_stores.specs.Sights.{sighted_of}
use Rattle.mx_stores.specs.Since.{is_same}
use Rattle.mx_stores.specs.Tables.{IsFrom, number_of, order_of}
use Rattle.mx_stores.specs.declared.deeds.Sight.{Sight}
use Rattle.mx_stores.specs.declared.groups.Groups.{Groups}
use Rattle.mx_stores.specs.declared.sightings.Cursors.{Cursors}
use Rattle.mx_stores.specs.declared.sightings.Latest.{Latest}
use Rattle.mx_stores.specs.declared.sightings.Sightings.{Sightings}
use Rattle.mx_stores.specs.declared.stores.Store.{Store}
use Rattle.mx_stores.specs.declared.stores.Table.{Table}
use Rattle.mx_stores.proofs.EndLaws.{set_here, set_other}
use Rattle.mx_stores.proofs.Finds.{same_cell}
use Rattle.mx_stores.proofs.Grouping.{stands_at}
use Rattle.mx_stores.proofs.SightedLaws.{equal_test, none_some, not_told, passes, picks, some_same, some_sighted, unequal_test, unequal_told}
use Rattle.mx_stores.proofs.StoresFrom.{both, same_test, same_told}
use Rattle.mx_stores.proofs.Tables.{get_pushed}

-- one place and one number
pub one_place : (numbers : List ℕ) → AreRising numbers → (j k number : ℕ) → slice_get numbers j ≡ Some number
    → slice_get numbers k ≡ Some number → j ≡ k
one_place numbers rising j k number e f = elim (cases_eq j k) [
  | inl same ↦ same
  | inr other ↦ elim (cases_lt j k) [
    | inl l ↦ let under = rising j k number number l e f in absurd (omega arith)
    | inr l ↦ let under = rising k j number number (omega arith) f e in absurd (omega arith)
  ]
]

-- two starts
below_max : (i j k : ℕ) → i < max j k → j ≤ i → i < k
below_max i j k l m = grind arith

max_least : (a x y b : ℕ) → a + x ≤ b → a + y ≤ b → a + max x y ≤ b
max_least a x y b l m = grind arith

pub from_max : (ts : List Store) (cell : CellUse) (x y j k : ℕ) → IsFrom ts (order_of cell x) j
    → IsFrom ts (order_of cell y) k → IsFrom ts (order_of cell (max x y)) (max j k)
from_max ts cell x y j k f g = record {
  below = λ i s l e. elim (cases_lt i j) [
    | inl m ↦ let under = f.below i s m e in let up = le-max_left x y in omega arith
    | inr m ↦ let under = g.below i s (below_max i j k l m) e in let up = le-max_right x y in omega arith
  ];
  from = λ i s l e.
      let a = le-max_left j k in
      let b = le-max_right j k in
      let first = f.from i s (omega arith) e in
      let second = g.from i s (omega arith) e in
      max_least (number_of cell * 18446744073709551616) x y s.order first second;
}

max_zero : (n : ℕ) → max 0 n ≡ n
max_zero n = grind arith

not_same : (a b : CellUse) → (a ≡ b → ⊥) → is_same a b ≡ false
not_same a b n = elim (cases_Bool (is_same a b)) [ inl e ↦ absurd (n (same_told a b e)) | inr e ↦ e ]

pub all_none : (xs : List (Option Latest)) (n k : ℕ) (o : Option Latest) → xs ≡ replicate n None → slice_get xs k ≡ Some o
    → o ≡ None
all_none xs n k o e f =
    let within = slice_get_within xs k o f in
    let long : length xs ≡ n = ap (λ (ys : List (Option Latest)). length ys) e ∙ length-replicate n None in
    sym (get_or_from_slice_get (replicate n None) k o None (ap (λ (ys : List (Option Latest)). slice_get ys k) (sym e) ∙ f))
    ∙ get_or-replicate n k None None (omega arith)

-- nothing is kept before the first deed
pub none_kept : (done : Deeds) (source : Source) (tables : List Table) (groups : List Groups) (numbers : List ℕ) (p : ℕ)
    (s : Sightings) → length s.latest.items ≡ length numbers
    → ((k : ℕ) (kept : Option Latest) → slice_get s.latest.items k ≡ Some kept → kept ≡ None)
    → length s.cursors.items ≡ length groups
    → ((u : ℕ) (table : Table) (own : Groups) → IsGroups table.stores.items own → slice_get groups u ≡ Some own
    → (c : Cursors) → slice_get s.cursors.items u ≡ Some c → AreCursors done source p 0 u table own c)
    → AreGroups tables groups → AreSightings done source tables groups numbers p 0 s
none_kept done source tables groups numbers p s long none wide each are = record {
  long = long;
  latests = λ k cell kept f e g. subst (λ (o : Option Latest). IsLatestKept tables p cell None o) (sym (none k kept g)) tt;
  absent = λ cell f e. refl;
  wide = wide;
  cursors = λ u table own c n t g e. each u table own (are.each u table own t g) g c e;
}

pub first_cursors : (done : Deeds) (source : Source) (p u : ℕ) (table : Table) (own : Groups) (c : Cursors)
    → IsGroups table.stores.items own → c.at.items ≡ own.begins.items → AreCursors done source p 0 u table own c
first_cursors done source p u table own c are e = record {
  long = ap (λ (xs : List ℕ). length xs) e ∙ are.long;
  from = λ k at cell f g h.
      let same : number_of cell * 18446744073709551616 ≡ order_of cell 0 = omega arith in
      subst (λ (n : ℕ). IsFrom table.stores.items n at) same
      (are.begin k (number_of cell) at g (ap (λ (xs : List ℕ). slice_get xs k) (sym e) ∙ h));
}

pub one_cursors_more : (groups : List Groups) (n : ℕ) (own : Groups) (cursors pushed : List Cursors) (c : Cursors)
    → pushed ≡ cursors ++ c ∷ [] → length cursors ≡ n → slice_get groups n ≡ Some own → c.at.items ≡ own.begins.items
    → ((u : ℕ) (o : Groups) (d : Cursors) → slice_get groups u ≡ Some o → slice_get cursors u ≡ Some d
    → d.at.items ≡ o.begins.items)
    → (u : ℕ) (o : Groups) (d : Cursors) → slice_get groups u ≡ Some o → slice_get pushed u ≡ Some d
    → d.at.items ≡ o.begins.items
one_cursors_more groups n own cursors pushed c p long at is old u o d e f =
    elim (get_pushed cursors c d u (ap (λ (xs : List Cursors). slice_get xs u) (sym p) ∙ f)) [
      | inl before ↦ old u o d e before
      | inr last ↦
          let here : n ≡ u = sym long ∙ sym last.0 in
          let same : own ≡ o = some_same own o (sym at ∙ ap (λ (i : ℕ). slice_get groups i) here ∙ e) in
          subst (λ (x : Cursors). x.at.items ≡ o.begins.items) last.1
          (subst (λ (x : Groups). c.at.items ≡ x.begins.items) same is)
    ]

-- where stores are beyond
pub start_again : (done : Deeds) (source : Source) (tables : List Table) (p here : ℕ) (cell : CellUse) (kept : Latest) (storer : ℕ)
    (table : Table) → IsLatestKept tables p cell (latest done source p cell here) (Some kept) → kept.storer ≡ storer
    → (storer ≡ p → ⊥) → slice_get tables storer ≡ Some table
    → IsFrom table.stores.items (order_of cell (floor done source p cell storer here)) kept.at
start_again done source tables p here cell kept storer table k same n t = at (latest done source p cell here) refl k
  where
    at : (o : Option Sighted) → latest done source p cell here ≡ o → IsLatestKept tables p cell o (Some kept)
        → IsFrom table.stores.items (order_of cell (floor done source p cell storer here)) kept.at
    at None e l = absurd l
    at (Some sighted) e l =
        let from : IsFrom table.stores.items (order_of cell sighted.store) kept.at =
        l.from (λ own. n (sym same ∙ own)) table (ap (λ (u : ℕ). slice_get tables u) same ∙ t) in
        let value : floor done source p cell storer here ≡ sighted.store =
        ap (λ (o : Option Sighted). floor_after storer o (after_all done source p cell storer here)) e
        ∙ picks (sighted.storer == storer) sighted.store (after_all done source p cell storer here)
        (equal_test sighted.storer storer (l.same ∙ same)) in
        subst (λ (x : ℕ). IsFrom table.stores.items (order_of cell x) kept.at) (sym value) from

pub start_other : (done : Deeds) (source : Source) (tables : List Table) (p here : ℕ) (cell : CellUse) (o : Option Latest) (storer : ℕ)
    → IsLatestKept tables p cell (latest done source p cell here) o
    → ((kept : Latest) → o ≡ Some kept → kept.storer ≡ storer → ⊥)
    → floor done source p cell storer here ≡ after_all done source p cell storer here
start_other done source tables p here cell o storer k n = at (latest done source p cell here) o refl refl k
  where
    at : (sighted : Option Sighted) (x : Option Latest) → latest done source p cell here ≡ sighted → o ≡ x
        → IsLatestKept tables p cell sighted x
        → floor done source p cell storer here ≡ after_all done source p cell storer here
    at None x e f l = ap (λ (s : Option Sighted). floor_after storer s (after_all done source p cell storer here)) e
    at (Some sighted) None e f l = absurd l
    at (Some sighted) (Some kept) e f l =
        ap (λ (s : Option Sighted). floor_after storer s (after_all done source p cell storer here)) e
        ∙ passes (sighted.storer == storer) sighted.store (after_all done source p cell storer here)
        (unequal_test sighted.storer storer (λ same. n kept f (sym l.same ∙ same)))

pub start_cursor : (done : Deeds) (source : Source) (tables : List Table) (groups : List Groups) (numbers : List ℕ) (p here : ℕ)
    (cell : CellUse) (s : Sightings) (storer group result : ℕ) (table : Table) (own : Groups)
    → AreSightings done source tables groups numbers p here s → cell.since < 4294967296 → (storer ≡ p → ⊥)
    → slice_get tables storer ≡ Some table → slice_get groups storer ≡ Some own
    → slice_get own.cells.numbers.items group ≡ Some (number_of cell)
    → ((c : Cursors) (at : ℕ) → slice_get s.cursors.items storer ≡ Some c → slice_get c.at.items group ≡ Some at → result ≡ at)
    → floor done source p cell storer here ≡ after_all done source p cell storer here
    → IsFrom table.stores.items (order_of cell (floor done source p cell storer here)) result
start_cursor done source tables groups numbers p here cell s storer group result table own are fits n t g k found value =
    let wide = are.wide in
    let l = slice_get_within groups storer own g in
    let c = stands_at s.cursors.items storer (omega arith) in
    let was : AreCursors done source p here storer table own c.0 = are.cursors storer table own c.0 n t g c.1 in
    let long = was.long in
    let m = slice_get_within own.cells.numbers.items group (number_of cell) k in
    let at = stands_at c.0.at.items group (omega arith) in
    subst (λ (x : ℕ). IsFrom table.stores.items (order_of cell x) result) (sym value)
    (subst (λ (x : ℕ). IsFrom table.stores.items (order_of cell (after_all done source p cell storer here)) x)
    (sym (found c.0 at.0 c.1 at.1)) (was.from group at.0 cell fits k at.1))

pub kept_none : (tables : List Table) (p : ℕ) (cell : CellUse) (sighted : Option Sighted) (o : Option Latest)
    → IsLatestKept tables p cell sighted o → is_none sighted ≡ is_none o
kept_none tables p cell None None k = refl
kept_none tables p cell None (Some kept) k = absurd k
kept_none tables p cell (Some sighted) None k = absurd k
kept_none tables p cell (Some sighted) (Some kept) k = refl

-- a deed that sights nothing
pub none_more : (done : Deeds) (source : Source) (tables : List Table) (groups : List Groups) (numbers : List ℕ) (p here : ℕ)
    (s : Sightings) → ((cell : CellUse) → sighted_at done source p cell here ≡ None)
    → AreSightings done source tables groups numbers p here s → AreSightings done source tables groups numbers p (suc here) s
none_more done source tables groups numbers p here s none old = record {
  long = old.long;
  latests = λ k cell kept f e g. subst (λ (o : Option Sighted). IsLatestKept tables p cell o kept)
      (sym (ap (λ (o : Option Sighted). or_earlier o (latest done source p cell here)) (none cell)))
      (old.latests k cell kept f e g);
  absent = λ cell f e. ap (λ (o : Option Sighted). or_earlier o (latest done source p cell here)) (none cell)
      ∙ old.absent cell f e;
  wide = old.wide;
  cursors = λ u table own c n t g e.
      let was : AreCursors done source p here u table own c = old.cursors u table own c n t g e in record {
        long = was.long;
        from = λ k at cell f h i. subst (λ (x : ℕ). IsFrom table.stores.items (order_of cell x) at)
            (sym (ap (λ (o : Option Sighted). max (after_store u o) (after_all done source p cell u here)) (none cell)
            ∙ max_zero (after_all done source p cell u here)))
            (was.from k at cell f h i);
      };
}

-- one sighting more
module _ (done : Deeds) (source : Source) (tables : List Table) (groups : List Groups) (numbers : List ℕ)
    (p here index storer place : ℕ) (cell : CellUse) (rising : AreRising numbers) (fits : cell.since < 4294967296)
    (at_index : slice_get numbers index ≡ Some (number_of cell))
    (seen : IsSightedHere done source p here cell (record { storer = storer; store = place })) where
  abbrev it : Sighted
  it = record { storer = storer; store = place }

  seen_here : sighted_at done source p cell here ≡ Some it
  seen_here = seen cell ∙ picks (is_same cell cell) (Some it) None (same_test cell)

  seen_none : (other : CellUse) → (cell ≡ other → ⊥) → sighted_at done source p other here ≡ None
  seen_none other n = seen other ∙ passes (is_same cell other) (Some it) None (not_same cell other n)

  latest_here : latest done source p cell (suc here) ≡ Some it
  latest_here = ap (λ (o : Option Sighted). or_earlier o (latest done source p cell here)) seen_here

  latest_kept : (other : CellUse) → (cell ≡ other → ⊥) → latest done source p other (suc here) ≡ latest done source p other here
  latest_kept other n = ap (λ (o : Option Sighted). or_earlier o (latest done source p other here)) (seen_none other n)

  after_here : after_all done source p cell storer (suc here) ≡ max (place + 1) (after_all done source p cell storer here)
  after_here = ap (λ (o : Option Sighted). max (after_store storer o) (after_all done source p cell storer here)) seen_here
      ∙ ap (λ (n : ℕ). max n (after_all done source p cell storer here))
      (picks (storer == storer) (place + 1) 0 (equal_test storer storer refl))

  after_cell : (u : ℕ) → (storer ≡ u → ⊥) → after_all done source p cell u (suc here) ≡ after_all done source p cell u here
  after_cell u n = ap (λ (o : Option Sighted). max (after_store u o) (after_all done source p cell u here)) seen_here
      ∙ ap (λ (x : ℕ). max x (after_all done source p cell u here))
      (passes (storer == u) (place + 1) 0 (unequal_test storer u n))
      ∙ max_zero (after_all done source p cell u here)

  after_other : (other : CellUse) (u : ℕ) → (cell ≡ other → ⊥)
      → after_all done source p other u (suc here) ≡ after_all done source p other u here
  after_other other u n = ap (λ (o : Option Sighted). max (after_store u o) (after_all done source p other u here)) (seen_none other n)
      ∙ max_zero (after_all done source p other u here)

  -- another process's stores, of whatever cell
  after_else : (other : CellUse) (u : ℕ) → (storer ≡ u → ⊥)
      → after_all done source p other u (suc here) ≡ after_all done source p other u here
  after_else other u n = elim (cases_Bool (is_same cell other)) [
    | inl e ↦ subst (λ (c : CellUse). after_all done source p c u (suc here) ≡ after_all done source p c u here)
        (same_told cell other e) (after_cell u n)
    | inr e ↦ after_other other u (λ same. differ (is_same cell other) e
        (subst (λ (c : CellUse). is_same cell c ≡ true) same (same_test cell)))
  ]
    where
      differ : (b : Bool) → b ≡ false → b ≡ true → ⊥
      differ true e f = absurd cc
      differ false e f = absurd cc

  module _ (s : Sightings) (old : AreSightings done source tables groups numbers p here s) where
    new_latests : (kept : Latest) (now : List (Option Latest)) → now ≡ slice_set s.latest.items index (Some kept)
        → IsLatestAt tables p cell it kept
        → (k : ℕ) (other : CellUse) (o : Option Latest) → other.since < 4294967296 → slice_get numbers k ≡ Some (number_of other)
        → slice_get now k ≡ Some o → IsLatestKept tables p other (latest done source p other (suc here)) o
    new_latests kept now set is k other o f e g = elim (cases_eq k index) [
      | inl same ↦
          let number : number_of cell ≡ number_of other =
          some_same (number_of cell) (number_of other) (sym at_index ∙ ap (λ (i : ℕ). slice_get numbers i) (sym same) ∙ e) in
          let c : cell ≡ other = same_cell cell other fits f number in
          let within = slice_get_within numbers index (number_of cell) at_index in
          let long = old.long in
          let value : Some kept ≡ o = some_same (Some kept) o
          (sym (set_here s.latest.items index (Some kept) (omega arith))
          ∙ ap (λ (i : ℕ). slice_get (slice_set s.latest.items index (Some kept)) i) (sym same)
          ∙ ap (λ (xs : List (Option Latest)). slice_get xs k) (sym set) ∙ g) in
          subst (λ (x : Option Latest). IsLatestKept tables p other (latest done source p other (suc here)) x) value
          (subst (λ (d : CellUse). IsLatestKept tables p d (latest done source p d (suc here)) (Some kept)) c
          (subst (λ (x : Option Sighted). IsLatestKept tables p cell x (Some kept)) (sym latest_here) is))
      | inr apart ↦
          let n : cell ≡ other → ⊥ = λ c. apart (one_place numbers rising k index (number_of other) e
          (at_index ∙ ap (λ (d : CellUse). Some (number_of d)) c)) in
          subst (λ (x : Option Sighted). IsLatestKept tables p other x o) (sym (latest_kept other n))
          (old.latests k other o f e
          (sym (set_other s.latest.items index k (Some kept) apart)
          ∙ ap (λ (xs : List (Option Latest)). slice_get xs k) (sym set) ∙ g))
    ]

    new_absent : (other : CellUse) → other.since < 4294967296 → IsAbsent numbers (number_of other)
        → latest done source p other (suc here) ≡ None
    new_absent other f a = latest_kept other (λ c. a index (at_index ∙ ap (λ (d : CellUse). Some (number_of d)) c))
        ∙ old.absent other f a

    -- the cursors of a process of which nothing was sighted
    same_cursors : (u : ℕ) (table : Table) (own : Groups) (c : Cursors) → (storer ≡ u → ⊥)
        → AreCursors done source p here u table own c → AreCursors done source p (suc here) u table own c
    same_cursors u table own c n was = record {
      long = was.long;
      from = λ k at other f g h. subst (λ (x : ℕ). IsFrom table.stores.items (order_of other x) at)
          (sym (after_else other u n)) (was.from k at other f g h);
    }

    -- of the process whose store was sighted
    passed : (table : Table) (own : Groups) (c new : Cursors) (group at before : ℕ) → IsGroups table.stores.items own
        → slice_get own.cells.numbers.items group ≡ Some (number_of cell)
        → slice_get c.at.items group ≡ Some before → new.at.items ≡ slice_set c.at.items group (max (at + 1) before)
        → IsFrom table.stores.items (order_of cell (suc place)) (suc at)
        → AreCursors done source p here storer table own c → AreCursors done source p (suc here) storer table own new
    passed table own c new group at before are in_group was_at set after was = record {
      long = ap (λ (xs : List ℕ). length xs) set ∙ length-set c.at.items group (max (at + 1) before) ∙ was.long;
      from = λ k now other f g h. elim (cases_eq k group) [
        | inl same ↦
            let number : number_of cell ≡ number_of other =
            some_same (number_of cell) (number_of other) (sym in_group ∙ ap (λ (i : ℕ). slice_get own.cells.numbers.items i) (sym same) ∙ g) in
            let c' : cell ≡ other = same_cell cell other fits f number in
            let value : max (at + 1) before ≡ now = some_same (max (at + 1) before) now
            (sym (set_here c.at.items group (max (at + 1) before) (slice_get_within c.at.items group before was_at))
            ∙ ap (λ (i : ℕ). slice_get (slice_set c.at.items group (max (at + 1) before)) i) (sym same)
            ∙ ap (λ (xs : List ℕ). slice_get xs k) (sym set) ∙ h) in
            let next : suc place ≡ place + 1 = omega arith in
            let step : suc at ≡ at + 1 = omega arith in
            let one : IsFrom table.stores.items (order_of cell (place + 1)) (at + 1) =
            subst (λ (x : ℕ). IsFrom table.stores.items (order_of cell x) (at + 1)) next
            (subst (λ (x : ℕ). IsFrom table.stores.items (order_of cell (suc place)) x) step after) in
            subst (λ (d : CellUse). IsFrom table.stores.items (order_of d (after_all done source p d storer (suc here))) now) c'
            (subst (λ (x : ℕ). IsFrom table.stores.items (order_of cell x) now) (sym after_here)
            (subst (λ (x : ℕ). IsFrom table.stores.items (order_of cell (max (place + 1) (after_all done source p cell storer here))) x) value
            (from_max table.stores.items cell (place + 1) (after_all done source p cell storer here) (at + 1) before one
            (was.from group before cell fits in_group was_at))))
        | inr apart ↦
            let n : cell ≡ other → ⊥ = λ c'. apart (one_place own.cells.numbers.items are.rising k group (number_of other) g
            (in_group ∙ ap (λ (d : CellUse). Some (number_of d)) c')) in
            subst (λ (x : ℕ). IsFrom table.stores.items (order_of other x) now) (sym (after_other other storer n))
            (was.from k now other f g
            (sym (set_other c.at.items group k (max (at + 1) before) apart)
            ∙ ap (λ (xs : List ℕ). slice_get xs k) (sym set) ∙ h))
      ];
    }

    pub own_more : (kept : Latest) (new : Sightings) → storer ≡ p → kept.storer ≡ storer
        → new.latest.items ≡ slice_set s.latest.items index (Some kept) → new.cursors.items ≡ s.cursors.items
        → AreSightings done source tables groups numbers p (suc here) new
    own_more kept new own same set cursors = record {
      long = ap (λ (xs : List (Option Latest)). length xs) set ∙ length-set s.latest.items index (Some kept) ∙ old.long;
      latests = new_latests kept new.latest.items set
          (record { same = sym same; from = λ n. absurd (n (same ∙ own)) });
      absent = new_absent;
      wide = ap (λ (xs : List Cursors). length xs) cursors ∙ old.wide;
      cursors = λ u table groups_of c n t g e. same_cursors u table groups_of c (λ x. n (sym x ∙ own))
          (old.cursors u table groups_of c n t g (ap (λ (xs : List Cursors). slice_get xs u) (sym cursors) ∙ e));
    }

    pub other_more : (kept : Latest) (new : Sightings) (table : Table) (own : Groups) (c c' : Cursors) (group at before : ℕ)
        → (storer ≡ p → ⊥) → kept.storer ≡ storer → kept.at ≡ at
        → new.latest.items ≡ slice_set s.latest.items index (Some kept)
        → new.cursors.items ≡ slice_set s.cursors.items storer c'
        → slice_get tables storer ≡ Some table → slice_get groups storer ≡ Some own → slice_get s.cursors.items storer ≡ Some c
        → IsGroups table.stores.items own
        → slice_get own.cells.numbers.items group ≡ Some (number_of cell)
        → slice_get c.at.items group ≡ Some before → c'.at.items ≡ slice_set c.at.items group (max (at + 1) before)
        → IsFrom table.stores.items (order_of cell place) at
        → IsFrom table.stores.items (order_of cell (suc place)) (suc at)
        → AreSightings done source tables groups numbers p (suc here) new
    other_more kept new table own c c' group at before n same same_at set cursors t g k are in_group was_at moved from after = record {
      long = ap (λ (xs : List (Option Latest)). length xs) set ∙ length-set s.latest.items index (Some kept) ∙ old.long;
      latests = new_latests kept new.latest.items set (record {
        same = sym same;
        from = λ m other e.
            let it : table ≡ other = some_same table other (sym t ∙ ap (λ (u : ℕ). slice_get tables u) (sym same) ∙ e) in
            subst (λ (x : Table). IsFrom x.stores.items (order_of cell place) kept.at) it
            (subst (λ (x : ℕ). IsFrom table.stores.items (order_of cell place) x) (sym same_at) from);
      });
      absent = new_absent;
      wide = ap (λ (xs : List Cursors). length xs) cursors ∙ length-set s.cursors.items storer c' ∙ old.wide;
      cursors = λ u table' own' d m t' g' e. elim (cases_eq u storer) [
        | inr apart ↦ same_cursors u table' own' d (λ x. apart (sym x))
            (old.cursors u table' own' d m t' g'
            (sym (set_other s.cursors.items storer u c' apart) ∙ ap (λ (xs : List Cursors). slice_get xs u) (sym cursors) ∙ e))
        | inl here' ↦
            let t_is : table ≡ table' = some_same table table' (sym t ∙ ap (λ (i : ℕ). slice_get tables i) (sym here') ∙ t') in
            let g_is : own ≡ own' = some_same own own' (sym g ∙ ap (λ (i : ℕ). slice_get groups i) (sym here') ∙ g') in
            let within = slice_get_within s.cursors.items storer c k in
            let d_is : c' ≡ d = some_same c' d (sym (set_here s.cursors.items storer c' within)
            ∙ ap (λ (i : ℕ). slice_get (slice_set s.cursors.items storer c') i) (sym here')
            ∙ ap (λ (xs : List Cursors). slice_get xs u) (sym cursors) ∙ e) in
            let now : AreCursors done source p (suc here) storer table own c' =
            passed table own c c' group at before are in_group was_at moved after (old.cursors storer table own c n t g k) in
            subst (λ (x : Cursors). AreCursors done source p (suc here) u table' own' x) d_is
            (subst (λ (x : Groups). AreCursors done source p (suc here) u table' x c') g_is
            (subst (λ (x : Table). AreCursors done source p (suc here) u x own c') t_is
            (subst (λ (x : ℕ). AreCursors done source p (suc here) x table own c') (sym here') now)))
      ];
    }

-- what a deed sights
pub sighted_here : (done : Deeds) (source : Source) (p here place : ℕ) (deed : Deed) (o : Option Sight)
    → slice_get (done p) here ≡ Some deed → source p here ≡ place
    → ((cell : CellUse) → sighted_in cell p here place deed ≡ sighted_of cell o)
    → (cell : CellUse) → sighted_at done source p cell here ≡ sighted_of cell o
sighted_here done source p here place deed o at e f cell =
    ap (λ (x : Option Deed). option_and_then (λ (d : Deed). sighted_in cell p here (source p here) d) x) at
    ∙ ap (λ (n : ℕ). sighted_in cell p here n deed) e ∙ f cell

-- a store of the process that is sighted
pub record IsSightOf (done : Deeds) (cell : CellUse) (sighted : Sighted) : Type 0 where
  pub value : ℕ
  pub point : ℕ
  pub stored : slice_get (done sighted.storer) sighted.store ≡ Some (Stores cell value point)

pub sight_stored : (done : Deeds) (p here place : ℕ) (deed : Deed) (cell : CellUse) (sighted : Sighted)
    → slice_get (done p) here ≡ Some deed → HasChosen done p here deed place
    → sighted_in cell p here place deed ≡ Some sighted → IsSightOf done cell sighted
sight_stored done p here place (Enters number) cell sighted at has e = none_some sighted e
sight_stored done p here place (Stores own value point) cell sighted at has e =
    let both_are = some_sighted (is_same own cell) (record { storer = p; store = here }) sighted e in
    let c : own ≡ cell = same_told own cell both_are.0 in record {
      value = value;
      point = point;
      stored = subst (λ (x : Sighted). slice_get (done x.storer) x.store ≡ Some (Stores cell value point)) both_are.1
          (at ∙ ap (λ (x : CellUse). Some (Stores x value point)) c);
    }
sight_stored done p here place (Loads own value writer stamp point) cell sighted at has e =
    let both_are = some_sighted (is_same own cell && not (writer == 0)) (record { storer = writer; store = place }) sighted e in
    let tests = both (is_same own cell) (not (writer == 0)) both_are.0 in
    let c : own ≡ cell = same_told own cell tests.0 in
    let chosen = has (record { process = p; place = here; cell = own; value = value; writer = writer; stamp = stamp; point = point })
    refl (unequal_told writer 0 (not_told (writer == 0) tests.1)) in record {
      value = chosen.value;
      point = chosen.point;
      stored = subst (λ (x : Sighted). slice_get (done x.storer) x.store ≡ Some (Stores cell chosen.value chosen.point)) both_are.1
          (chosen.stored ∙ ap (λ (x : CellUse). Some (Stores x chosen.value chosen.point)) c);
    }
sight_stored done p here place (Refers point) cell sighted at has e = none_some sighted e
sight_stored done p here place (Misses segno by) cell sighted at has e = none_some sighted e

-- another's store is sighted by a read of it
pub record IsReadOf (p here place : ℕ) (deed : Deed) (cell : CellUse) (sighted : Sighted) : Type 0 where
  pub read : Reading
  pub is : read_of p here deed ≡ Some read
  pub anybody : read.writer ≡ 0 → ⊥
  pub of_cell : read.cell ≡ cell
  pub of_storer : sighted.storer ≡ read.writer
  pub of_store : sighted.store ≡ place

pub sight_read : (p here place : ℕ) (deed : Deed) (cell : CellUse) (sighted : Sighted) → (sighted.storer ≡ p → ⊥)
    → sighted_in cell p here place deed ≡ Some sighted → IsReadOf p here place deed cell sighted
sight_read p here place (Enters number) cell sighted n e = none_some sighted e
sight_read p here place (Stores own value point) cell sighted n e =
    let both_are = some_sighted (is_same own cell) (record { storer = p; store = here }) sighted e in
    absurd (n (ap (λ (x : Sighted). x.storer) (sym both_are.1)))
sight_read p here place (Loads own value writer stamp point) cell sighted n e =
    let both_are = some_sighted (is_same own cell && not (writer == 0)) (record { storer = writer; store = place }) sighted e in
    let tests = both (is_same own cell) (not (writer == 0)) both_are.0 in record {
      read = record { process = p; place = here; cell = own; value = value; writer = writer; stamp = stamp; point = point };
      is = refl;
      anybody = unequal_told writer 0 (not_told (writer == 0) tests.1);
      of_cell = same_told own cell tests.0;
      of_storer = ap (λ (x : Sighted). x.storer) (sym both_are.1);
      of_store = ap (λ (x : Sighted). x.store) (sym both_are.1);
    }
sight_read p here place (Refers point) cell sighted n e = none_some sighted e
sight_read p here place (Misses segno by) cell sighted n e = none_some sighted e
