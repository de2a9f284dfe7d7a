-- From when on the stores in a table are superseded, gathered process by process.
use Rattle.std.proofs.Common.{◌≡◌, inl, inr, ℕ, zero, suc, ◌+◌, ◌<◌, ◌≤◌, ◌==◌, true, false, if◌then◌else◌, drop, List, [], ◌∷◌, ◌++◌, slice_index_or, Option, Some, None, Result, Ok, Err, IfOk, length, refl, ap, sym, ◌∙◌, subst, arith}
use Rattle.std.specs.List.{slice_get, slice_set}
use Rattle.std.proofs.Math.Nat.{min_comm}
use Rattle.std.proofs.lemmas.Bool.{cases_eq, cases_lt}
use Rattle.std.proofs.lemmas.Option.{slice_get_within, slice_get-get_or}
use Rattle.mx_reads.specs.Deeds.{CellUse, Deed, Deeds}
use Rattle.mx_stores.specs.Ends.{AreEnds, AreEndsOf}
use Rattle.mx_stores.specs.Least.{least, least_of}
use Rattle.mx_stores.specs.Parts.{deeds_of}
use Rattle.mx_stores.specs.Rows.{ArePartRows, AreRows}
use Rattle.mx_stores.specs.Since.{since}
use Rattle.mx_stores.specs.Tables.{ArePartTables, AreTables}
use Rattle.mx_stores.specs.Until.{overwritten, replaced, until}
use Rattle.mx_stores.specs.declared.stores.Store.{Store}
use Rattle.mx_stores.specs.declared.ends.Ends.{Ends}
use Rattle.mx_stores.specs.declared.rows.Rows.{Rows}
use Rattle.mx_stores.specs.declared.stores.Table.{Table}
use Rattle.mx_stores.proofs.SightedLaws.{none_some, passes, picks, some_same}
use Rattle.mx_stores.proofs.Tables.{get_pushed}

least_swap : (a b c : Option ℕ) → least a (least b c) ≡ least b (least a c)
least_swap None b c = refl
least_swap (Some a) None c = refl
least_swap (Some a) (Some b) None = ap (λ (n : ℕ). Some n) (min_comm a b)
least_swap (Some a) (Some b) (Some c) = ap (λ (n : ℕ). Some n) (grind arith)

least_none : (a : Option ℕ) → a ≡ least a None
least_none None = refl
least_none (Some a) = refl

abbrev others : Deeds → ℕ → ℕ → CellUse → ℕ → Option ℕ
others done storer place cell other = if other == storer then None else overwritten cell (since (done storer) place) (done other)

pub until_first : (done : Deeds) (storer place : ℕ) (cell : CellUse) (end : Option ℕ)
    → end ≡ replaced cell (drop (suc place) (done storer)) → end ≡ until done 0 storer place cell
until_first done storer place cell end e = e ∙ least_none (replaced cell (drop (suc place) (done storer)))

pub until_next : (done : Deeds) (u storer place : ℕ) (cell : CellUse) → (u == storer) ≡ false → (by end : Option ℕ)
    → by ≡ overwritten cell (since (done storer) place) (done u) → end ≡ until done u storer place cell
    → least by end ≡ until done (suc u) storer place cell
until_next done u storer place cell n by end b e =
    (λ i. least (b i) (e i))
    ∙ least_swap (overwritten cell (since (done storer) place) (done u)) (replaced cell (drop (suc place) (done storer)))
    (least_of (others done storer place cell) u)
    ∙ ap (λ (o : Option ℕ). least (replaced cell (drop (suc place) (done storer))) (least o (least_of (others done storer place cell) u)))
    (sym (passes (u == storer) None (overwritten cell (since (done storer) place) (done u)) n))

pub until_same : (done : Deeds) (u storer place : ℕ) (cell : CellUse) → (u == storer) ≡ true
    → until done u storer place cell ≡ until done (suc u) storer place cell
until_same done u storer place cell e =
    ap (λ (o : Option ℕ). least (replaced cell (drop (suc place) (done storer))) (least o (least_of (others done storer place cell) u)))
    (sym (picks (u == storer) None (overwritten cell (since (done storer) place) (done u)) e))

-- lists that are pushed to or written to
pub pushed_before : {A : Type 0} (xs : List A) (x y : A) (k : ℕ) → slice_get xs k ≡ Some y → slice_get (xs ++ x ∷ []) k ≡ Some y
pushed_before [] x y k e = none_some y e
pushed_before (z ∷ xs) x y zero e = e
pushed_before (z ∷ xs) x y (suc k) e = pushed_before xs x y k e

pub pushed_last : {A : Type 0} (xs : List A) (x : A) → slice_get (xs ++ x ∷ []) (length xs) ≡ Some x
pushed_last [] x = refl
pushed_last (z ∷ xs) x = pushed_last xs x

pub longer : {A : Type 0} (xs pushed : List A) (x : A) (n : ℕ) → pushed ≡ xs ++ x ∷ [] → length xs ≡ n
    → length pushed ≡ n + 1
longer {A = A} xs pushed x n p long = ap (λ (l : List A). length l) p ∙ grown xs ∙ ap (λ (k : ℕ). k + 1) long
  where
    grown : (l : List A) → length (l ++ x ∷ []) ≡ length l + 1
    grown [] = refl
    grown (y ∷ l) = let g = grown l in omega arith

pub set_here : {A : Type 0} (xs : List A) (i : ℕ) (x : A) → i < length xs → slice_get (slice_set xs i x) i ≡ Some x
set_here [] i x l = absurd (omega arith)
set_here (z ∷ xs) zero x l = refl
set_here (z ∷ xs) (suc i) x l = set_here xs i x (omega arith)

pub set_other : {A : Type 0} (xs : List A) (i k : ℕ) (x : A) → (k ≡ i → ⊥) → slice_get (slice_set xs i x) k ≡ slice_get xs k
set_other [] i k x n = refl
set_other (z ∷ xs) zero zero x n = absurd (n refl)
set_other (z ∷ xs) zero (suc k) x n = refl
set_other (z ∷ xs) (suc i) zero x n = refl
set_other (z ∷ xs) (suc i) (suc k) x n = set_other xs i k x (λ e. n (ap (λ (m : ℕ). suc m) e))

-- the numbers of the first so many stores
abbrev pub AreFirstEnds : Deeds → ℕ → ℕ → ℕ → List Store → List (Option ℕ) → Type 0
AreFirstEnds done count storer n stores ends = (k : ℕ) (s : Store) → k < n → slice_get stores k ≡ Some s
    → slice_get ends k ≡ Some (until done count storer s.place s.cell)

pub one_end_more : (done : Deeds) (count storer n : ℕ) (stores : List Store) (ends : List (Option ℕ)) (s : Store)
    (end : Option ℕ) → length ends ≡ n → slice_get stores n ≡ Some s → end ≡ until done count storer s.place s.cell
    → AreFirstEnds done count storer n stores ends → AreFirstEnds done count storer (n + 1) stores (ends ++ end ∷ [])
one_end_more done count storer n stores ends s end long at is old k t l e = elim (cases_eq k n) [
  | inr before ↦ pushed_before ends end (until done count storer t.place t.cell) k (old k t (omega arith) e)
  | inl last ↦
      let same : s ≡ t = some_same s t (sym at ∙ ap (λ (i : ℕ). slice_get stores i) (sym last) ∙ e) in
      ap (λ (i : ℕ). slice_get (ends ++ end ∷ []) i) (last ∙ sym long) ∙ pushed_last ends end
      ∙ ap (λ (o : Option ℕ). Some o) is ∙ ap (λ (x : Store). Some (until done count storer x.place x.cell)) same
]

-- the stores of the process u are brought in for the first so many stores
pub record AreBroughtIn (done : Deeds) (u storer n : ℕ) (stores : List Store) (ends : List (Option ℕ)) : Type 0 where
  pub before : AreFirstEnds done (suc u) storer n stores ends
  pub after : (k : ℕ) (s : Store) → n ≤ k → slice_get stores k ≡ Some s
      → slice_get ends k ≡ Some (until done u storer s.place s.cell)

pub none_brought : (done : Deeds) (u storer : ℕ) (stores : List Store) (ends : List (Option ℕ))
    → AreEndsOf done u storer stores ends → AreBroughtIn done u storer 0 stores ends
none_brought done u storer stores ends are =
    record { before = λ k s l. absurd (omega arith); after = λ k s l e. are k s e }

pub one_brought : (done : Deeds) (u storer n : ℕ) (stores : List Store) (ends : List (Option ℕ)) (s : Store)
    (end : Option ℕ) → n < length ends → slice_get stores n ≡ Some s → end ≡ until done (suc u) storer s.place s.cell
    → AreBroughtIn done u storer n stores ends → AreBroughtIn done u storer (n + 1) stores (slice_set ends n end)
one_brought done u storer n stores ends s end l at is old = record {
  before = λ k t m e. elim (cases_eq k n) [
    | inr before ↦ set_other ends n k end before ∙ old.before k t (omega arith) e
    | inl here ↦
        let same : s ≡ t = some_same s t (sym at ∙ ap (λ (i : ℕ). slice_get stores i) (sym here) ∙ e) in
        ap (λ (i : ℕ). slice_get (slice_set ends n end) i) here ∙ set_here ends n end l
        ∙ ap (λ (o : Option ℕ). Some o) is ∙ ap (λ (x : Store). Some (until done (suc u) storer x.place x.cell)) same
  ];
  after = λ k t m e. set_other ends n k end (λ same. absurd (omega arith)) ∙ old.after k t (omega arith) e;
}

-- all are, where no store or no number is left
pub past_stores : (done : Deeds) (u storer n : ℕ) (stores : List Store) (ends : List (Option ℕ))
    → slice_get stores n ≡ None → AreBroughtIn done u storer n stores ends → AreEndsOf done (suc u) storer stores ends
past_stores done u storer n stores ends none are k s e = elim (cases_lt k n) [
  | inl l ↦ are.before k s l e
  | inr l ↦
      let within = slice_get_within stores k s e in
      absurd (none_some (slice_index_or stores n s) (sym none ∙ slice_get-get_or stores n s (omega arith)))
]

pub past_ends : (done : Deeds) (u storer n : ℕ) (stores : List Store) (ends : List (Option ℕ)) → length ends ≤ n
    → AreBroughtIn done u storer n stores ends → AreEndsOf done (suc u) storer stores ends
past_ends done u storer n stores ends out are k s e = elim (cases_lt k n) [
  | inl l ↦ are.before k s l e
  | inr l ↦
      let within = slice_get_within ends k (until done u storer s.place s.cell) (are.after k s l e) in
      absurd (omega arith)
]

-- those of one table more
abbrev pub AreFirstTables : Deeds → ℕ → List Table → List Ends → Type 0
AreFirstTables done count tables ends = (u : ℕ) (table : Table) (own : Ends) → slice_get tables u ≡ Some table
    → slice_get ends u ≡ Some own → AreEndsOf done count u table.stores.items own.of.items

pub one_table_more : (done : Deeds) (count : ℕ) (tables : List Table) (n : ℕ) (table : Table) (ends : List Ends) (own : Ends)
    → length ends ≡ n → slice_get tables n ≡ Some table → AreEndsOf done count n table.stores.items own.of.items
    → AreFirstTables done count tables ends → AreFirstTables done count tables (ends ++ own ∷ [])
one_table_more done count tables n table ends own long at is old u t o e f = elim (get_pushed ends own o u f) [
  | inl before ↦ old u t o e before
  | inr last ↦
      let here : n ≡ u = sym long ∙ sym last.0 in
      let same : table ≡ t = some_same table t (sym at ∙ ap (λ (i : ℕ). slice_get tables i) here ∙ e) in
      subst (λ (x : Ends). AreEndsOf done count u t.stores.items x.of.items) last.1
      (subst (λ (x : Table). AreEndsOf done count u x.stores.items own.of.items) same
      (subst (λ (i : ℕ). AreEndsOf done count i table.stores.items own.of.items) here is))
]

-- of the tables of parts, as lists that are handed on
pub part_ends : (parts : List (List Deed)) (tables first again : List Table) (ends given : List Ends) → first ≡ tables
    → again ≡ tables → given ≡ ends → ArePartTables parts tables
    → (AreTables (deeds_of parts) first → AreEnds (deeds_of parts) first ends)
    → ArePartTables parts again × AreEnds (deeds_of parts) again given
part_ends parts tables first again ends given f a g are made = (
  subst (λ (ts : List Table). ArePartTables parts ts) (sym a) are,
  subst (λ (xs : List Ends). AreEnds (deeds_of parts) again xs) (sym g)
      (subst (λ (ts : List Table). AreEnds (deeds_of parts) ts ends) (f ∙ sym a)
      (made (subst (λ (ts : List Table). AreTables (deeds_of parts) ts) (sym f) are.each))),
)

-- rows that were made of the tables of parts
pub part_rows : {E : Type 0} (parts : List (List Deed)) (tables given : List Table) (ends : List Ends) (r : Result Rows E)
    → ArePartTables parts tables → given ≡ tables → (AreTables (deeds_of parts) given → AreEnds (deeds_of parts) given ends)
    → IfOk r (λ rows. rows.tables.items ≡ tables)
    → IfOk r (λ rows. (done : Deeds) → AreTables done tables → AreEnds done tables ends → AreRows done rows)
    → IfOk r (ArePartRows parts)
part_rows parts tables given ends (Ok rows) are same made is each = record {
  long = ap (λ (ts : List Table). length ts) is ∙ are.long;
  each = each (deeds_of parts) are.each
      (subst (λ (ts : List Table). AreEnds (deeds_of parts) ts ends) same
      (made (subst (λ (ts : List Table). AreTables (deeds_of parts) ts) (sym same) are.each)));
}
part_rows parts tables given ends (Err e) are same made is each = tt
