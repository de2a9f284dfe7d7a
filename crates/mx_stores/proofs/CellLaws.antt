-- Numbers in rising order: what a binary search tells, and how they are made.
use Rattle.std.proofs.Common.{◌≡◌, inl, inr, ℕ, ◌<◌, ◌≤◌, List, [], length, Result, Err, ap, sym, subst, arith}
use Rattle.std.specs.List.{slice_index_or, AllPairs, Contains, dedup}
use Rattle.std.specs.List.Retain.{DiffersFromLast, IsFiltered}
use Rattle.std.specs.List.Sorted.{IsBinarySearchResult, IsPermutation, IsSorted}
use Rattle.std.specs.Ordering.{nat_cmp}
use Rattle.std.proofs.lemmas.Bool.{cases_eq, cases_lt}
use Rattle.std.proofs.lemmas.List.Kept.{AllPairs-from_increasing, Contains-dedup_nat}
use Rattle.std.proofs.lemmas.List.Sorted.{Contains-permutation, searched}
use Rattle.std.proofs.lemmas.List.Filters.{dedup_is}
use Rattle.std.proofs.Math.Dec.{eqb}
use Rattle.std.proofs.lemmas.Map.Keys.{IsStrictlyIncreasing-dedup}
use Rattle.std.proofs.lemmas.Option.{slice_get_within, slice_get-get_or, get_or_from_slice_get}
use Rattle.mx_stores.specs.Cells.{AreRising, IsAbsent}

rising_up : (numbers : List ℕ) → AreRising numbers → (i j : ℕ) → i ≤ j → j < length numbers
    → slice_index_or numbers i 0 ≤ slice_index_or numbers j 0
rising_up numbers rising i j l b = elim (cases_eq i j) [
  | inl same ↦ let e : slice_index_or numbers i 0 ≡ slice_index_or numbers j 0 = ap (λ (k : ℕ). slice_index_or numbers k 0) same in omega arith
  | inr other ↦
      let up = rising i j (slice_index_or numbers i 0) (slice_index_or numbers j 0) (omega arith)
      (slice_get-get_or numbers i 0 (omega arith)) (slice_get-get_or numbers j 0 b) in omega arith
]

-- a number that a binary search did not find
pub not_found : (numbers : List ℕ) (number i : ℕ) (r : Result ℕ ℕ) → r ≡ Err i → AreRising numbers
    → IsBinarySearchResult (λ y. nat_cmp y number) numbers r → IsAbsent numbers number
not_found numbers number i r is rising told_all k e =
    let told = searched numbers number (Err i)
    (subst (λ (x : Result ℕ ℕ). IsBinarySearchResult (λ y. nat_cmp y number) numbers x) is told_all)
    (rising_up numbers rising) in
    let within = slice_get_within numbers k number e in
    let value : slice_index_or numbers k 0 ≡ number = get_or_from_slice_get numbers k number 0 e in
    elim (cases_lt k i) [
      | inl l ↦ let under = told.1 k l in omega arith
      | inr l ↦ let over = told.2 k l within in omega arith
    ]

-- what stands in order rises once each is kept once
pub rising_of : (numbers : List ℕ) → AllPairs (λ x y. x < y) numbers → AreRising numbers
rising_of numbers pairs j k m n l e f =
    let within = slice_get_within numbers k n f in
    let under = pairs j k 0 l within in
    let first : slice_index_or numbers j 0 ≡ m = get_or_from_slice_get numbers j m 0 e in
    let second : slice_index_or numbers k 0 ≡ n = get_or_from_slice_get numbers k n 0 f in omega arith

pub made_rising : (sorted made : List ℕ) → IsSorted nat_cmp sorted → IsFiltered (DiffersFromLast eqb) [] sorted made
    → AreRising made
made_rising sorted made order kept = subst (λ (xs : List ℕ). AreRising xs) (sym (dedup_is eqb sorted made kept))
    (rising_of (dedup eqb sorted) (AllPairs-from_increasing (dedup eqb sorted) (IsStrictlyIncreasing-dedup sorted order)))

pub made_whole : (all sorted made : List ℕ) (number : ℕ) → IsPermutation all sorted
    → IsFiltered (DiffersFromLast eqb) [] sorted made → Contains all number → Contains made number
made_whole all sorted made number order kept has =
    subst (λ (xs : List ℕ). Contains xs number) (sym (dedup_is eqb sorted made kept))
    (Contains-dedup_nat sorted number (Contains-permutation all sorted number order has))
