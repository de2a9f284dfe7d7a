-- From when on any store in each cell is known, gathered process by process.
use Rattle.std.proofs.Common.{◌≡◌, inl, inr, ℕ, suc, ◌+◌, ◌<◌, ◌≤◌, List, slice_index_or, Option, Some, None, length, replicate, refl, ap, sym, ◌∙◌, arith}
use Rattle.std.specs.List.{slice_get, slice_set}
use Rattle.std.proofs.lemmas.Bool.{cases_eq, cases_lt}
use Rattle.std.proofs.lemmas.List.{get_or-replicate, length-replicate}
use Rattle.std.proofs.lemmas.Option.{slice_get_within, slice_get-get_or}
use Rattle.mx_reads.specs.Deeds.{CellUse, Deeds}
use Rattle.mx_stores.specs.Groups.{AreFirsts}
use Rattle.mx_stores.specs.Least.{least}
use Rattle.mx_stores.specs.Since.{first, least_since}
use Rattle.mx_stores.specs.Tables.{number_of}
use Rattle.mx_stores.proofs.EndLaws.{set_here, set_other}
use Rattle.mx_stores.proofs.Finds.{same_cell}
use Rattle.mx_stores.proofs.SightedLaws.{none_some, some_same}

-- what is so of none alone
pub only_none : {A : Type 0} (P : Option A → Type 0) → ((x : A) → P (Some x) → ⊥) → (y : Option A) → P y → y ≡ None
only_none P never None e = refl
only_none P never (Some x) e = absurd (never x e)

abbrev none : Option ℕ
none = None

-- before any process
pub no_process : (done : Deeds) (numbers : List ℕ) (firsts : List (Option ℕ)) (n : ℕ) → n ≡ length numbers
    → firsts ≡ replicate n None → AreFirsts done 0 numbers firsts
no_process done numbers firsts n long e k cell f g =
    let within = slice_get_within numbers k (number_of cell) g in
    ap (λ (xs : List (Option ℕ)). slice_get xs k) e ∙ slice_get-get_or (replicate n None) k None
    (sized k within)
    ∙ ap (λ (o : Option ℕ). Some o) (get_or-replicate n k None None (omega arith))
  where
    sized : (k : ℕ) → k < length numbers → k < length (replicate n none)
    sized k within = let size = length-replicate n none in omega arith

-- the stores of the process u are brought in for the first so many cells
pub record AreFirstsTo (done : Deeds) (u n : ℕ) (numbers : List ℕ) (firsts : List (Option ℕ)) : Type 0 where
  pub before : (k : ℕ) (cell : CellUse) → k < n → cell.since < 4294967296 → slice_get numbers k ≡ Some (number_of cell)
      → slice_get firsts k ≡ Some (first done (suc u) cell)
  pub after : (k : ℕ) (cell : CellUse) → n ≤ k → cell.since < 4294967296 → slice_get numbers k ≡ Some (number_of cell)
      → slice_get firsts k ≡ Some (first done u cell)

pub no_firsts : (done : Deeds) (u : ℕ) (numbers : List ℕ) (firsts : List (Option ℕ)) → AreFirsts done u numbers firsts
    → AreFirstsTo done u 0 numbers firsts
no_firsts done u numbers firsts are =
    record { before = λ k cell l. absurd (omega arith); after = λ k cell l f e. are k cell f e }

pub one_first : (done : Deeds) (u n : ℕ) (numbers : List ℕ) (firsts : List (Option ℕ)) (cell : CellUse)
    (value : Option ℕ) → n < length firsts → cell.since < 4294967296 → slice_get numbers n ≡ Some (number_of cell)
    → value ≡ first done (suc u) cell → AreFirstsTo done u n numbers firsts
    → AreFirstsTo done u (n + 1) numbers (slice_set firsts n value)
one_first done u n numbers firsts cell value l fits at is old = record {
  before = λ k other m f e. elim (cases_eq k n) [
    | inr before ↦ set_other firsts n k value before ∙ old.before k other (omega arith) f e
    | inl here ↦
        let same : number_of cell ≡ number_of other =
        some_same (number_of cell) (number_of other) (sym at ∙ ap (λ (i : ℕ). slice_get numbers i) (sym here) ∙ e) in
        let it : cell ≡ other = same_cell cell other fits f same in
        ap (λ (i : ℕ). slice_get (slice_set firsts n value) i) here ∙ set_here firsts n value l
        ∙ ap (λ (o : Option ℕ). Some o) is ∙ ap (λ (c : CellUse). Some (first done (suc u) c)) it
  ];
  after = λ k other m f e. set_other firsts n k value (λ same. absurd (omega arith)) ∙ old.after k other (omega arith) f e;
}

pub past_numbers : (done : Deeds) (u n : ℕ) (numbers : List ℕ) (firsts : List (Option ℕ)) → slice_get numbers n ≡ None
    → AreFirstsTo done u n numbers firsts → AreFirsts done (suc u) numbers firsts
past_numbers done u n numbers firsts none are k cell f e = elim (cases_lt k n) [
  | inl l ↦ are.before k cell l f e
  | inr l ↦
      let within = slice_get_within numbers k (number_of cell) e in
      absurd (none_some (slice_index_or numbers n 0) (sym none ∙ slice_get-get_or numbers n 0 (omega arith)))
]

pub past_firsts : (done : Deeds) (u n : ℕ) (numbers : List ℕ) (firsts : List (Option ℕ)) → length firsts ≤ n
    → AreFirstsTo done u n numbers firsts → AreFirsts done (suc u) numbers firsts
past_firsts done u n numbers firsts out are k cell f e = elim (cases_lt k n) [
  | inl l ↦ are.before k cell l f e
  | inr l ↦
      let within = slice_get_within firsts k (first done u cell) (are.after k cell l f e) in
      absurd (omega arith)
]

pub first_next : (done : Deeds) (u : ℕ) (cell : CellUse) (by old : Option ℕ) → by ≡ least_since cell 0 (done u)
    → old ≡ first done u cell → least by old ≡ first done (suc u) cell
first_next done u cell by old e f i = least (e i) (f i)
