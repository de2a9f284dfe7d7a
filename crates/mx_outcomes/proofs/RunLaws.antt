-- Laws on the rows of runs: each is of a run, and each run is counted.
use Rattle.std.proofs.Common.{◌≡◌, inl, inr, ℕ, ◌+◌, Bool, true, false, if◌then◌else◌, List, [], ◌∷◌, ◌++◌, length, refl, sym, subst, arith, append_assoc, append-nil}
use Rattle.std.specs.List.{fold}
use Rattle.mx_outcomes.specs.OfRuns.{IsOf, IsOfSome, AreOfSome, all_times}
use Rattle.mx_outcomes.specs.Tallies.{Told, add_run, again, counted, first_row, is_of, outcomes_at, rows_of}
use Rattle.mx_outcomes.specs.declared.tallies.Row.{Row}

times_at : (b : Bool) (row : Row) (rows more : List Row) → all_times more ≡ all_times rows + 1
    → all_times (if b then again row ∷ rows else row ∷ more) ≡ all_times (row ∷ rows) + 1
times_at true row rows more so = omega arith
times_at false row rows more so = omega (arith, so)

counted_times : (order : List ℕ) (o : List (List ℕ)) (rows : List Row) → all_times (counted order o rows) ≡ all_times rows + 1
counted_times order o [] = refl
counted_times order o (row ∷ rows) = times_at (is_of o row) row rows (counted order o rows) (counted_times order o rows)

folded_times : (places : List ℕ) (rows : List Row) (runs : List Told)
    → all_times (fold (add_run places) rows runs) ≡ all_times rows + length runs
folded_times places rows [] = omega arith
folded_times places rows (run ∷ runs) =
    let one = counted_times run.0 (outcomes_at places run.1) rows in
    let rest = folded_times places (add_run places rows run) runs in omega (arith, one, rest)

pub all_counted : (places : List ℕ) (runs : List Told) → all_times (rows_of places runs) ≡ length runs
all_counted places runs = let all = folded_times places [] runs in omega (arith, all)

module _ (places : List ℕ) where
  later : (seen more : List Told) (row : Row) → IsOfSome places seen row → IsOfSome places (seen ++ more) row
  later [] more row of = absurd of
  later (run ∷ seen) more row (inl of) = inl of
  later (run ∷ seen) more row (inr of) = inr (later seen more row of)

  last : (seen : List Told) (run : Told) (row : Row) → IsOf places row run → IsOfSome places (seen ++ run ∷ []) row
  last [] run row of = inl of
  last (first ∷ seen) run row of = inr (last seen run row of)

  still : (seen : List Told) (row : Row) → IsOfSome places seen row → IsOfSome places seen (again row)
  still [] row of = absurd of
  still (run ∷ seen) row (inl of) = inl (of.0, of.1)
  still (run ∷ seen) row (inr of) = inr (still seen row of)

  all_later : (seen more : List Told) (rows : List Row) → AreOfSome places seen rows → AreOfSome places (seen ++ more) rows
  all_later seen more [] are = tt
  all_later seen more (row ∷ rows) are = (later seen more row are.0, all_later seen more rows are.1)

  of_at : (b : Bool) (seen : List Told) (row : Row) (rows more : List Row) → IsOfSome places seen row → AreOfSome places seen rows
      → AreOfSome places seen more → AreOfSome places seen (if b then again row ∷ rows else row ∷ more)
  of_at true seen row rows more of are others = (still seen row of, are)
  of_at false seen row rows more of are others = (of, others)

  counted_of : (seen : List Told) (run : Told) (rows : List Row) → AreOfSome places seen rows
      → AreOfSome places (seen ++ run ∷ []) (counted run.0 (outcomes_at places run.1) rows)
  counted_of seen run [] are = (last seen run (first_row run.0 (outcomes_at places run.1)) (refl, refl), tt)
  counted_of seen run (row ∷ rows) are = of_at (is_of (outcomes_at places run.1) row) (seen ++ run ∷ []) row rows
      (counted run.0 (outcomes_at places run.1) rows) (later seen (run ∷ []) row are.0) (all_later seen (run ∷ []) rows are.1)
      (counted_of seen run rows are.1)

  folded_of : (seen runs : List Told) (rows : List Row) → AreOfSome places seen rows
      → AreOfSome places (seen ++ runs) (fold (add_run places) rows runs)
  folded_of seen [] rows are = subst (λ (l : List Told). AreOfSome places l rows) (sym (append-nil seen)) are
  folded_of seen (run ∷ runs) rows are =
      subst (λ (l : List Told). AreOfSome places l (fold (add_run places) (add_run places rows run) runs)) (append_assoc seen (run ∷ []) runs)
      (folded_of (seen ++ run ∷ []) runs (add_run places rows run) (counted_of seen run rows are))

  pub all_of_some : (runs : List Told) → AreOfSome places runs (rows_of places runs)
  all_of_some runs = folded_of [] runs [] tt
