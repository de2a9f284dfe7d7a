-- The test for a store in a cell with a point from one on.
use Rattle.std.proofs.Common.{◌≡◌, ℕ, ◌≤◌, ◌==◌, ◌&&◌, nat_le, Bool, true, false, refl, ap, arith}
use Rattle.std.proofs.lemmas.Bool.{eqb-true, leb-true, le-leb}
use Rattle.mx_reads.specs.Deeds.{CellUse, Deed, Enters, Stores, Loads, Refers, Misses}
use Rattle.mx_stores.specs.Since.{is_same, stores_from}

pub both : (a b : Bool) → (a && b) ≡ true → (a ≡ true) × (b ≡ true)
both true b h = (refl, h)
both false b h = absurd cc

pub of_both : (a b : Bool) → a ≡ true → b ≡ true → (a && b) ≡ true
of_both true b e h = h
of_both false b e h = absurd cc

equal : (n : ℕ) → (n == n) ≡ true
equal n = grind arith

pub same_told : (a b : CellUse) → is_same a b ≡ true → a ≡ b
same_told a b h =
    let e = both (a.cell == b.cell) (a.since == b.since) h in
    let c : a.cell ≡ b.cell = eqb-true a.cell b.cell e.0 in
    let s : a.since ≡ b.since = eqb-true a.since b.since e.1 in
    λ i. record { cell = c i; since = s i }

pub same_test : (a : CellUse) → is_same a a ≡ true
same_test a = of_both (a.cell == a.cell) (a.since == a.since) (equal a.cell) (equal a.since)

-- what the test tells of a deed
pub record IsStoreFrom (cell : CellUse) (from : ℕ) (deed : Deed) : Type 0 where
  pub value : ℕ
  pub point : ℕ
  pub store : deed ≡ Stores cell value point
  pub after : from ≤ point

pub told_store : (cell : CellUse) (from : ℕ) (deed : Deed) → stores_from cell from deed ≡ true
    → IsStoreFrom cell from deed
told_store cell from (Enters number) h = absurd cc
told_store cell from (Stores own value point) h =
    let e = both (is_same own cell) (nat_le from point) h in record {
      value = value;
      point = point;
      store = ap (λ (c : CellUse). Stores c value point) (same_told own cell e.0);
      after = leb-true from point e.1;
    }
told_store cell from (Loads own value writer stamp point) h = absurd cc
told_store cell from (Refers point) h = absurd cc
told_store cell from (Misses segno by) h = absurd cc

pub test_store : (cell : CellUse) (from value point : ℕ) → from ≤ point
    → stores_from cell from (Stores cell value point) ≡ true
test_store cell from value point l =
    of_both (is_same cell cell) (nat_le from point) (same_test cell) (le-leb from point l)
