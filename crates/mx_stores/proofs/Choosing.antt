-- What the reader finds in the tables is the choice.
use Rattle.std.proofs.Common.{◌≡◌, inl, inr, ℕ, zero, suc, ◌+◌, ◌*◌, ◌<◌, ◌≤◌, ◌&&◌, nat_le, not, Bool, true, false, List, [], ◌∷◌, ◌++◌, length, Option, Some, None, IsSome, refl, ap, sym, ◌∙◌, subst, arith}
use Rattle.std.specs.Bool.{MatchBool}
use Rattle.std.specs.List.{slice_get, slice_index_or}
use Rattle.std.specs.List.Sorted.{IsNonDecreasingBy}
use Rattle.std.proofs.lemmas.Option.{slice_get_within, slice_get-get_or}
use Rattle.std.proofs.lemmas.Bool.{cases_eq, cases_lt, leb-true, le-leb}
use Rattle.mx_reads.specs.Deeds.{CellUse, Deed, Deeds, Stores}
use Rattle.mx_reads.specs.ReadRule.{Reading}
use Rattle.mx_reads.specs.Sightings.{Source}
use Rattle.mx_stores.specs.Choices.{first_below, is_deed, is_such, kept, last_below, other_choice, own_choice, stores_word}
use Rattle.mx_stores.specs.Deciding.{IsWrong, choice_for, choices, next_choice, source_of, with_choice}
use Rattle.mx_stores.specs.Least.{is_by}
use Rattle.mx_stores.specs.Sighted.{Sighted, floor}
use Rattle.mx_stores.specs.SightedTables.{AreCursors, AreSightings, IsLatestKept, IsReading}
use Rattle.mx_stores.specs.Since.{is_same, stores_from}
use Rattle.mx_stores.specs.Tables.{before, AreStores, IsFrom, IsStoreOf, number_of, order_of}
use Rattle.mx_stores.specs.Until.{until}
use Rattle.mx_stores.specs.declared.groups.Groups.{Groups}
use Rattle.mx_stores.specs.declared.rows.Rows.{Rows}
use Rattle.mx_stores.specs.declared.sightings.Sightings.{Sightings}
use Rattle.mx_stores.specs.declared.stores.Table.{Table}
use Rattle.mx_stores.specs.declared.stores.Store.{Store}
use Rattle.mx_stores.proofs.ChoiceLaws.{word_told, IsStored, stored_told, stored_test}
use Rattle.mx_stores.proofs.ChoicesInOrder.{index_kept, index_last, length_with, latest_agrees, after_agrees, equal_agree}
use Rattle.mx_stores.proofs.Finds.{IsFound, find, of, order_meets, rises, same_cell}
use Rattle.mx_stores.proofs.Searches.{clash, first_is, first_none, kept_is, kept_not, last_is, last_none}
use Rattle.mx_stores.proofs.SightedLaws.{none_some, some_same}
use Rattle.mx_stores.proofs.StoresFrom.{both, of_both, same_test, same_told}

-- what a store that is written down tells of the read
word_of : (done : Deeds) (read : Reading) (storer : ℕ) (s : Store) → IsStoreOf (done storer) s → storer ≡ read.writer
    → is_deed (stores_word read.cell read.value read.stamp) (slice_get (done read.writer) s.place)
    ≡ stores_word read.cell read.value read.stamp (Stores s.cell s.value s.point)
word_of done read storer s own w = ap (λ (o : Option Deed). is_deed (stores_word read.cell read.value read.stamp) o)
    (ap (λ (u : ℕ). slice_get (done u) s.place) (sym w) ∙ own.stored)

pub such_yes : (done : Deeds) (count : ℕ) (read : Reading) (storer : ℕ) (s : Store) → IsStoreOf (done storer) s
    → storer ≡ read.writer → stores_word read.cell read.value read.stamp (Stores s.cell s.value s.point) ≡ true
    → (u : Option ℕ) → u ≡ until done count storer s.place s.cell
    → not (is_by u read.point) ≡ is_such done count read s.place
such_yes done count read storer s own w t u e =
    let word = word_of done read storer s own w in
    let same : Some (Stores s.cell s.value s.point) ≡ Some (Stores read.cell read.value read.stamp) =
    word_told read.cell read.value read.stamp (Some (Stores s.cell s.value s.point)) t in
    let c : s.cell ≡ read.cell = cell_of s.cell read.cell s.value read.value s.point read.stamp
    (some_same (Stores s.cell s.value s.point) (Stores read.cell read.value read.stamp) same) in
    let v : u ≡ until done count read.writer s.place read.cell =
    e ∙ (λ i. until done count (w i) s.place (c i)) in
    ap (λ (x : Option ℕ). not (is_by x read.point)) v
    ∙ sym (ap (λ (b : Bool). b && not (is_by (until done count read.writer s.place read.cell) read.point)) (word ∙ t))
  where
    cell_of : (a b : CellUse) (x y p q : ℕ) → Stores a x p ≡ Stores b y q → a ≡ b
    cell_of a b x y p q h = cc

pub such_no : (done : Deeds) (count : ℕ) (read : Reading) (storer : ℕ) (s : Store) → IsStoreOf (done storer) s
    → storer ≡ read.writer → stores_word read.cell read.value read.stamp (Stores s.cell s.value s.point) ≡ false
    → false ≡ is_such done count read s.place
such_no done count read storer s own w t =
    sym (ap (λ (b : Bool). b && not (is_by (until done count read.writer s.place read.cell) read.point))
    (word_of done read storer s own w ∙ t))

-- no store from `start` on before a place in the table will do
abbrev pub IsClear : Deeds → ℕ → Reading → List Store → ℕ → ℕ → Type 0
IsClear done count read ts start here = (j : ℕ) (s : Store) → start ≤ j → j < here → slice_get ts j ≡ Some s
    → is_such done count read s.place ≡ false

pub clear_next : (done : Deeds) (count : ℕ) (read : Reading) (ts : List Store) (start here : ℕ) (s : Store)
    → IsClear done count read ts start here → slice_get ts here ≡ Some s → is_such done count read s.place ≡ false
    → IsClear done count read ts start (here + 1)
clear_next done count read ts start here s clear e fails j t l m f = elim (cases_eq j here) [
  | inl same ↦ subst (λ (x : Store). is_such done count read x.place ≡ false)
      (some_same s t (sym e ∙ ap (λ (i : ℕ). slice_get ts i) (sym same) ∙ f)) fails
  | inr other ↦ clear j t l (omega arith) f
]

module _ (done : Deeds) (count : ℕ) (read : Reading) (ts : List Store) (stores : AreStores (done read.writer) 0 ts)
    (sorted : IsNonDecreasingBy (λ (s : Store). s.order) ts) (fits : read.cell.since < 4294967296) where
  -- the number and place of a store that was found
  order_found : (i value point : ℕ) (f : IsFound ts i read.cell value point) → f.store.order ≡ order_of read.cell i
  order_found i value point f =
      let o : IsStoreOf (done read.writer) f.store = of (done read.writer) ts stores sorted f.at f.store f.is in
      o.ordered ∙ (λ k. order_of (f.same_cell_use k) (f.same_place k))

  module _ (low start : ℕ) (first : IsFrom ts (order_of read.cell low) start) where
    abbrev test : ℕ → Bool
    test = λ place. nat_le low place && is_such done count read place

    -- one that passes stands from here on in the table
    record IsOn (here i : ℕ) : Type 0 where
      value : ℕ
      point : ℕ
      stored : slice_get (done read.writer) i ≡ Some (Stores read.cell value point)
      found : IsFound ts i read.cell value point
      on : here ≤ found.at

    on_from : (here i : ℕ) → IsClear done count read ts start here → test i ≡ true → IsOn here i
    on_from here i clear t =
        let tests = both (nat_le low i) (is_such done count read i) t in
        let above : low ≤ i = leb-true low i tests.0 in
        let word = both (is_deed (stores_word read.cell read.value read.stamp) (slice_get (done read.writer) i))
        (not (is_by (until done count read.writer i read.cell) read.point)) tests.1 in
        let stored : slice_get (done read.writer) i ≡ Some (Stores read.cell read.value read.stamp) =
        word_told read.cell read.value read.stamp (slice_get (done read.writer) i) word.0 in
        let f : IsFound ts i read.cell read.value read.stamp =
        find (done read.writer) ts stores sorted i read.cell read.value read.stamp stored in
        let order = order_found i read.value read.stamp f in
        let from : start ≤ f.at = elim (cases_lt f.at start) [
          | inr m ↦ m
          | inl m ↦ let under = first.below f.at f.store m f.is in absurd (omega arith)
        ] in record {
          value = read.value;
          point = read.stamp;
          stored = stored;
          found = f;
          on = elim (cases_lt f.at here) [
            | inr m ↦ m
            | inl m ↦ absurd (clash (is_such done count read i) tests.1
                (subst (λ (n : ℕ). is_such done count read n ≡ false) f.same_place (clear f.at f.store from m f.is)))
          ];
        }

    pub found_here : (here : ℕ) (s : Store) → IsClear done count read ts start here → start ≤ here
        → slice_get ts here ≡ Some s → is_same s.cell read.cell ≡ true → is_such done count read s.place ≡ true
        → Some s.place ≡ first_below test (length (done read.writer))
    found_here here s clear l e c t =
        let o : IsStoreOf (done read.writer) s = of (done read.writer) ts stores sorted here s e in
        let same : s.cell ≡ read.cell = same_told s.cell read.cell c in
        let order : s.order ≡ order_of read.cell s.place = o.ordered ∙ ap (λ (x : CellUse). order_of x s.place) same in
        let high = first.from here s l e in
        let within = slice_get_within (done read.writer) s.place (Stores s.cell s.value s.point) o.stored in
        sym (first_is test (length (done read.writer)) s.place within
        (of_both (nat_le low s.place) (is_such done count read s.place) (le-leb low s.place (omega arith)) t)
        (λ i m p.
        let on : IsOn here i = on_from here i clear p in
        let f = on.found in
        let up = rises (done read.writer) ts stores sorted here f.at s f.store on.on e f.is in
        let far = order_found i on.value on.point f in absurd (omega arith)))

    pub past_cell : (here : ℕ) (s : Store) → IsClear done count read ts start here → start ≤ here
        → slice_get ts here ≡ Some s → is_same s.cell read.cell ≡ false
        → None ≡ first_below test (length (done read.writer))
    past_cell here s clear l e c = sym (first_none test (length (done read.writer)) (λ i m p.
        let on : IsOn here i = on_from here i clear p in
        let f = on.found in
        let o : IsStoreOf (done read.writer) s = of (done read.writer) ts stores sorted here s e in
        let g : IsStoreOf (done read.writer) f.store = of (done read.writer) ts stores sorted f.at f.store f.is in
        let up = rises (done read.writer) ts stores sorted here f.at s f.store on.on e f.is in
        let far = order_found i on.value on.point f in
        let high = first.from here s l e in
        let order = o.ordered in
        let sp = o.fits_place in
        let ip = g.fits_place in
        let at = f.same_place in
        let number : number_of s.cell ≡ number_of read.cell =
        order_meets (number_of s.cell) (number_of read.cell) low s.place i (omega arith) (omega arith) (omega arith) sp in
        clash (is_same s.cell read.cell)
        (ap (λ (x : CellUse). is_same x read.cell) (same_cell s.cell read.cell o.fits_use fits number) ∙ same_test read.cell) c))

    pub at_end : (here : ℕ) → IsClear done count read ts start here → slice_get ts here ≡ None
        → None ≡ first_below test (length (done read.writer))
    at_end here clear e = sym (first_none test (length (done read.writer)) (λ i m p.
        let on : IsOn here i = on_from here i clear p in
        let f = on.found in
        let up = on.on in
        let within = slice_get_within ts f.at f.store f.is in
        none_some (slice_index_or ts here f.store) (sym e ∙ slice_get-get_or ts here f.store (omega arith))))

  -- the process's own last store
  module _ (end : ℕ) (bound : end ≤ length ts) (small : read.place < 18446744073709551616) (first : IsFrom ts (order_of read.cell read.place) end) where
    abbrev own_test : ℕ → Bool
    own_test = λ place. is_deed (stores_from read.cell 0) (slice_get (done read.writer) place)

    -- an own store before the read stands before the end
    record IsOwn (i : ℕ) : Type 0 where
      value : ℕ
      point : ℕ
      found : IsFound ts i read.cell value point
      before_end : found.at < end

    own_from : (i : ℕ) → i < read.place → own_test i ≡ true → IsOwn i
    own_from i l t =
        let s : IsStored read.cell (slice_get (done read.writer) i) = stored_told read.cell (slice_get (done read.writer) i) t in
        let f : IsFound ts i read.cell s.value s.point =
        find (done read.writer) ts stores sorted i read.cell s.value s.point s.stored in
        let order = order_found i s.value s.point f in record {
          value = s.value;
          point = s.point;
          found = f;
          before_end = elim (cases_lt f.at end) [
            | inl m ↦ m
            | inr m ↦ let high = first.from f.at f.store m f.is in absurd (omega arith)
          ];
        }

    pub none_before : before ts end ≡ None → last_below own_test read.place ≡ None
    none_before e = last_none own_test read.place (λ i l t. go end refl e (own_from i l t))
      where
        go : (n : ℕ) → end ≡ n → before ts n ≡ None → {i : ℕ} → IsOwn i → ⊥
        go zero n e o = let m = o.before_end in absurd (omega arith)
        go (suc k) n e o =
            let f = o.found in
            none_some (slice_index_or ts k f.store) (sym e ∙ slice_get-get_or ts k f.store (omega arith))

    -- the store before the end
    pub ends : (s : Store) → before ts end ≡ Some s → (k : ℕ) × ((end ≡ suc k) × (slice_get ts k ≡ Some s))
    ends s e = go end refl e
      where
        go : (n : ℕ) → end ≡ n → before ts n ≡ Some s → (k : ℕ) × ((end ≡ suc k) × (slice_get ts k ≡ Some s))
        go zero n h = none_some s h
        go (suc k) n h = (k, (n, h))

    pub another_before : (s : Store) → before ts end ≡ Some s → is_same s.cell read.cell ≡ false
        → last_below own_test read.place ≡ None
    another_before s e c = last_none own_test read.place (λ i l t.
        let at = ends s e in
        let own : IsOwn i = own_from i l t in
        let f = own.found in
        let m = own.before_end in
        let n = at.1.0 in
        let o : IsStoreOf (done read.writer) s = of (done read.writer) ts stores sorted at.0 s at.1.1 in
        let g : IsStoreOf (done read.writer) f.store = of (done read.writer) ts stores sorted f.at f.store f.is in
        let up = rises (done read.writer) ts stores sorted f.at at.0 f.store s (omega arith) f.is at.1.1 in
        let far = order_found i own.value own.point f in
        let under = first.below at.0 s (omega arith) at.1.1 in
        let order = o.ordered in
        let sp = o.fits_place in
        let same : number_of read.cell ≡ number_of s.cell = numbers (number_of read.cell) (number_of s.cell) i s.place read.place
        (omega arith) (omega arith) sp small in
        clash (is_same s.cell read.cell)
        (ap (λ (x : CellUse). is_same x read.cell) (same_cell s.cell read.cell o.fits_use fits (sym same)) ∙ same_test read.cell) c)
      where
        numbers : (a b i sp p : ℕ) → a * 18446744073709551616 + i ≤ b * 18446744073709551616 + sp
            → b * 18446744073709551616 + sp < a * 18446744073709551616 + p → sp < 18446744073709551616 → p < 18446744073709551616 → a ≡ b
        numbers a b i sp p l m n k = omega arith

    pub last_before : (s : Store) → before ts end ≡ Some s → is_same s.cell read.cell ≡ true
        → last_below own_test read.place ≡ Some s.place
    last_before s e c =
        let at = ends s e in
        let n = at.1.0 in
        let o : IsStoreOf (done read.writer) s = of (done read.writer) ts stores sorted at.0 s at.1.1 in
        let same : s.cell ≡ read.cell = same_told s.cell read.cell c in
        let order : s.order ≡ order_of read.cell s.place = o.ordered ∙ ap (λ (x : CellUse). order_of x s.place) same in
        let under = first.below at.0 s (omega arith) at.1.1 in
        let stored : slice_get (done read.writer) s.place ≡ Some (Stores read.cell s.value s.point) =
        o.stored ∙ ap (λ (x : CellUse). Some (Stores x s.value s.point)) same in
        last_is own_test read.place s.place (omega arith)
        (stored_test read.cell s.value s.point (slice_get (done read.writer) s.place) stored)
        (λ i a b t.
        let own : IsOwn i = own_from i b t in
        let f = own.found in
        let m = own.before_end in
        let up = rises (done read.writer) ts stores sorted f.at at.0 f.store s (omega arith) f.is at.1.1 in
        let far = order_found i own.value own.point f in absurd (omega arith))

-- the choices of whole reads
pub other_is : (done : Deeds) (count : ℕ) (source : Source) (read : Reading) (found : Option ℕ)
    → found ≡ first_below (λ place. nat_le (floor done source read.process read.cell read.writer read.place) place && is_such done count read place) (length (done read.writer))
    → found ≡ other_choice done count source read
other_is done count source read found e = e

pub own_none : (done : Deeds) (count : ℕ) (read : Reading)
    → last_below (λ place. is_deed (stores_from read.cell 0) (slice_get (done read.writer) place)) read.place ≡ None
    → None ≡ own_choice done count read
own_none done count read e = sym (ap (λ (o : Option ℕ). kept (is_such done count read) o) e)

pub own_some : (done : Deeds) (count : ℕ) (read : Reading) (place : ℕ)
    → last_below (λ place. is_deed (stores_from read.cell 0) (slice_get (done read.writer) place)) read.place ≡ Some place
    → is_such done count read place ≡ true → Some place ≡ own_choice done count read
own_some done count read place e t = sym (kept_is (is_such done count read) _ place e t)

pub own_fails : (done : Deeds) (count : ℕ) (read : Reading) (place : ℕ)
    → last_below (λ place. is_deed (stores_from read.cell 0) (slice_get (done read.writer) place)) read.place ≡ Some place
    → is_such done count read place ≡ false → None ≡ own_choice done count read
own_fails done count read place e t = sym (kept_not (is_such done count read) _ place e t)

-- what is kept stands for sources that agree
resourced : (done : Deeds) (p here : ℕ) (old new : Source) (tables : List Table) (groups : List Groups) (numbers : List ℕ)
    (s : Sightings) → ((i : ℕ) → i < here → old p i ≡ new p i) → AreSightings done old tables groups numbers p here s
    → AreSightings done new tables groups numbers p here s
resourced done p here old new tables groups numbers s same are =
    let a = equal_agree done p old new here same in record {
      long = are.long;
      latests = λ k cell kept f e g. subst (λ (o : Option Sighted). IsLatestKept tables p cell o kept)
          (latest_agrees done p old new cell here a) (are.latests k cell kept f e g);
      absent = λ cell f e. sym (latest_agrees done p old new cell here a) ∙ are.absent cell f e;
      wide = are.wide;
      cursors = λ u table own c n t g e.
          let was : AreCursors done old p here u table own c = are.cursors u table own c n t g e in record {
            long = was.long;
            from = λ k at cell f h i. subst (λ (n : ℕ). IsFrom table.stores.items (order_of cell n) at)
                (after_agrees done p old new cell u here a) (was.from k at cell f h i);
          };
    }

-- the next deed is taken
pub taken : (done : Deeds) (rows : Rows) (p here place : ℕ) (deed : Deed) (old new : Sightings)
    → slice_get (done p) here ≡ Some deed → (r : IsReading done rows p here old)
    → Some place ≡ choice_for done (length rows.tables.items) p here r.chosen (Some deed)
    → ((source : Source) → source p here ≡ place
    → AreSightings done source rows.tables.items rows.groups.items rows.cells.numbers.items p here old
    → AreSightings done source rows.tables.items rows.groups.items rows.cells.numbers.items p (suc here) new)
    → IsReading done rows p (suc here) new
taken done rows p here place deed old new e r c noted =
    let long = r.long in
    let grown = length_with r.chosen place in record {
      chosen = r.chosen ++ place ∷ [];
      long = omega arith;
      is = ap (λ (o : Option (List ℕ)). next_choice done (length rows.tables.items) p here o) r.is
          ∙ ap (λ (o : Option Deed). with_choice r.chosen (choice_for done (length rows.tables.items) p here r.chosen o)) e
          ∙ ap (λ (o : Option ℕ). with_choice r.chosen o) (sym c);
      sighted = noted (source_of (r.chosen ++ place ∷ []))
          (ap (λ (n : ℕ). slice_index_or (r.chosen ++ place ∷ []) n 0) (sym long) ∙ index_last r.chosen place)
          (resourced done p here (source_of r.chosen) (source_of (r.chosen ++ place ∷ [])) _ _ _ old
          (λ i l. sym (index_kept r.chosen place i (omega arith))) r.sighted);
    }

pub not_taken : (done : Deeds) (rows : Rows) (p here : ℕ) (deed : Deed) (old : Sightings) → slice_get (done p) here ≡ Some deed
    → (r : IsReading done rows p here old) → None ≡ choice_for done (length rows.tables.items) p here r.chosen (Some deed)
    → choices done (length rows.tables.items) p (suc here) ≡ None
not_taken done rows p here deed old e r c =
    ap (λ (o : Option (List ℕ)). next_choice done (length rows.tables.items) p here o) r.is
    ∙ ap (λ (o : Option Deed). with_choice r.chosen (choice_for done (length rows.tables.items) p here r.chosen o)) e
    ∙ ap (λ (o : Option ℕ). with_choice r.chosen o) (sym c)

-- what taking a deed tells, of a reader of this process
pub taken_at : (done : Deeds) (rows : Rows) (p q here next : ℕ) (right : Bool) (deed : Deed) (old new : Sightings) → q ≡ p
    → next ≡ suc here → slice_get (done p) here ≡ Some deed → IsReading done rows p here old
    → (slice_get (done q) here ≡ Some deed → IsReading done rows q here old
    → MatchBool right (IsReading done rows q (suc here) new) (choices done (length rows.tables.items) q (suc here) ≡ None))
    → MatchBool right (IsReading done rows p next new) (choices done (length rows.tables.items) p next ≡ None)
taken_at done rows p q here next right deed old new e n at r f =
    subst (λ (k : ℕ). MatchBool right (IsReading done rows p k new) (choices done (length rows.tables.items) p k ≡ None)) (sym n)
    (subst (λ (u : ℕ). slice_get (done u) here ≡ Some deed → IsReading done rows u here old
    → MatchBool right (IsReading done rows u (suc here) new) (choices done (length rows.tables.items) u (suc here) ≡ None)) e f at r)

pub matched : (b : Bool) (A B : Type 0) → b ≡ true → MatchBool b A B → A
matched true A B e m = m
matched false A B e m = absurd cc

pub unmatched : (b : Bool) (A B : Type 0) → b ≡ false → MatchBool b A B → B
unmatched true A B e m = absurd cc
unmatched false A B e m = m

pub some_chosen : (o : Option (List ℕ)) (x : List ℕ) → o ≡ Some x → IsSome o
some_chosen o x h = subst (λ (y : Option (List ℕ)). IsSome y) (sym h) refl

pub wrong_here : (done : Deeds) (rows : Rows) (p here : ℕ) (deed : Deed) (old : Sightings)
    → slice_get (done p) here ≡ Some deed → IsReading done rows p here old
    → choices done (length rows.tables.items) p (suc here) ≡ None → IsWrong done (length rows.tables.items) p here
wrong_here done rows p here deed old at r none = record {
  within = slice_get_within (done p) here deed at;
  chosen = some_chosen (choices done (length rows.tables.items) p here) r.chosen r.is;
  wrong = none;
}
