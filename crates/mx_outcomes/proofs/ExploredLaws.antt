-- Laws on runs in one order after another.
use Rattle.std.proofs.Common.{◌≡◌, ◌+◌, ℕ, List, [], ◌∷◌, ◌++◌, map, length, take, drop, refl, sym, ap, ◌∙◌, subst, arith, append_assoc, append-nil}
use Rattle.std.specs.List.{fold, sum, sum_by}
use Rattle.std.proofs.lemmas.List.{map-append, drop_all, take_all}
use Rattle.std.proofs.lemmas.List.Folds.{fold-map}
use Rattle.mx_outcomes.proofs.AllOrderLaws.{all_orders, follow_more}
use Rattle.mx_outcomes.specs.AllOrders.{AreAllOrders, Follow}
use Rattle.mx_outcomes.specs.Explored.{Run, AreRunsOf, IsExplored, line_counts, order_of, told_of}
use Rattle.mx_outcomes.specs.Exploring.{HasCome, IsMade, fresh}
use Rattle.mx_outcomes.specs.WholeRuns.{IsWholeRun}
use Rattle.mx_outcomes.specs.Interleavings.{IsFirst, IsInterleaving, IsLast, IsNext}
use Rattle.mx_script.specs.Sessions.{Outline}
use Rattle.mx_outcomes.specs.Tallies.{Told, Tallied, tallied, tally_of, with_run, add_run, rows_of}
use Rattle.mx_outcomes.specs.declared.tallies.Row.{Row}

fold_more : {A B : Type 0} (f : B → A → B) (b : B) (xs : List A) (x : A) → fold f b (xs ++ x ∷ []) ≡ f (fold f b xs) x
fold_more f b [] x = refl
fold_more f b (y ∷ ys) x = fold_more f (f b y) ys x

-- a group more before any run
pub fresh_more : (before after whole : List Tallied) (rest left : List (List ℕ)) (places : List ℕ) (tally : Tallied)
    → before ++ map fresh rest ≡ whole → rest ≡ places ∷ left → tally ≡ fresh places → after ≡ before ++ tally ∷ [] → after ++ map fresh left ≡ whole
fresh_more before after whole rest left places tally so is of more =
    ap (λ (l : List Tallied). l ++ map fresh left) (more ∙ ap (λ (t : Tallied). before ++ t ∷ []) of)
    ∙ append_assoc before (fresh places ∷ []) (map fresh left)
    ∙ ap (λ (l : List (List ℕ)). before ++ map fresh l) (sym is) ∙ so

pub fresh_all : (before whole : List Tallied) (rest : List (List ℕ)) → before ++ map fresh rest ≡ whole → length rest ≡ 0 → before ≡ whole
fresh_all before whole [] so none = sym (append-nil before) ∙ so
fresh_all before whole (places ∷ rest) so none = absurd (omega (arith, none))

-- a run more
runs_more : (session : Outline) (runs : List Run) (run : Run) → AreRunsOf session runs → IsWholeRun session run.1 run.2
    → AreRunsOf session (runs ++ run ∷ [])
runs_more session [] run are is = (is, tt)
runs_more session (first ∷ runs) run are is = (are.0, runs_more session runs run are.1 is)

rows_more : (runs : List Run) (run : Run) (places : List ℕ)
    → add_run places (rows_of places (map told_of runs)) (told_of run) ≡ rows_of places (map told_of (runs ++ run ∷ []))
rows_more runs run places = sym (ap (λ (l : List Told). rows_of places l) (map-append told_of runs (run ∷ []))
    ∙ fold_more (add_run places) [] (map told_of runs) (told_of run))

tally_more : (runs : List Run) (run : Run) (places : List ℕ)
    → with_run (told_of run) (tally_of (map told_of runs) places) ≡ tally_of (map told_of (runs ++ run ∷ [])) places
tally_more runs run places = ap (λ (rows : List Row). tallied places rows) (rows_more runs run places)

tallies_more : (groups : List (List ℕ)) (runs : List Run) (run : Run)
    → map (with_run (told_of run)) (map (tally_of (map told_of runs)) groups) ≡ map (tally_of (map told_of (runs ++ run ∷ []))) groups
tallies_more [] runs run = refl
tallies_more (places ∷ groups) runs run =
    ap (λ (tally : Tallied). tally ∷ map (with_run (told_of run)) (map (tally_of (map told_of runs)) groups)) (tally_more runs run places)
    ∙ ap (λ (l : List Tallied). tally_of (map told_of (runs ++ run ∷ [])) places ∷ l) (tallies_more groups runs run)

pub none_yet : (session : Outline) (groups : List (List ℕ)) (first : List ℕ) (tallies : List Tallied) → IsFirst first
    → IsInterleaving (line_counts session) first → tallies ≡ map fresh groups → HasCome session groups first tallies
none_yet session groups first tallies begun mine are = record {
  runs = [];
  legal = tt;
  start = first;
  first = begun;
  interleaving = mine;
  follow = refl;
  tallies_are = are;
}

module _ (session : Outline) (groups : List (List ℕ)) (order : List ℕ) (tallies after : List Tallied) (so : HasCome session groups order tallies)
    (made : IsMade session order tallies after) where
  abbrev run : Run
  run = (order, made.journal, made.transcripts)

  abbrev runs : List Run
  runs = so.runs ++ run ∷ []

  legal : AreRunsOf session runs
  legal = runs_more session so.runs run so.legal made.run

  tallies_are : after ≡ map (tally_of (map told_of runs)) groups
  tallies_are = made.added ∙ ap (λ (l : List Tallied). map (with_run (told_of run)) l) so.tallies_are ∙ tallies_more groups so.runs run

  orders_are : map order_of runs ≡ map order_of so.runs ++ order ∷ []
  orders_are = map-append order_of so.runs (run ∷ [])

  pub one_more : (next : List ℕ) → IsNext order next → HasCome session groups next after
  one_more next more = record {
    runs = runs;
    legal = legal;
    start = so.start;
    first = so.first;
    interleaving = so.interleaving;
    follow = subst (λ (l : List (List ℕ)). Follow so.start l next) (sym orders_are)
        (follow_more (map order_of so.runs) so.start order next so.follow more);
    tallies_are = tallies_are;
  }

  pub all_made : IsLast order → IsExplored session groups after
  all_made end = record {
    runs = runs;
    legal = legal;
    orders = subst (λ (l : List (List ℕ)). AreAllOrders (line_counts session) l) (sym orders_are)
        (all_orders (line_counts session) (map order_of so.runs) so.start order so.follow so.first so.interleaving end);
    tallies_are = tallies_are;
  }

-- the same of an order that was read and written in place
module _ (session : Outline) (groups : List (List ℕ)) (order read written : List ℕ) (tallies after : List Tallied) (is_read : read ≡ order)
    (is_written : written ≡ order) (so : HasCome session groups order tallies) (made : IsMade session read tallies after) where
  made_so : IsMade session order tallies after
  made_so = subst (λ (l : List ℕ). IsMade session l tallies after) is_read made

  pub goes_on : (next : List ℕ) (len : ℕ) → IsNext written next → length written ≡ len → length next ≡ length written
      → HasCome session groups (take len (next ++ drop (length next) order)) after
  goes_on next len more long as_long =
      let same = ap (λ (l : List ℕ). length l) is_written in
      let rest : next ++ drop (length next) order ≡ next =
      ap (λ (l : List ℕ). next ++ l) (drop_all (length next) order (omega (arith, same, as_long))) ∙ append-nil next in
      let put : take len (next ++ drop (length next) order) ≡ next =
      ap (λ (l : List ℕ). take len l) rest ∙ take_all len next (omega (arith, long, as_long)) in
      subst (λ (l : List ℕ). HasCome session groups l after) (sym put)
      (one_more session groups order tallies after so made_so next (subst (λ (l : List ℕ). IsNext l next) is_written more))

  pub is_done : IsLast written → IsExplored session groups after
  is_done end = all_made session groups order tallies after so made_so (subst (λ (l : List ℕ). IsLast l) is_written end)

-- the lines of all
pub sum_counts : {A : Type 0} (scripts : List (List A)) → sum (map length scripts) ≡ sum_by length scripts
sum_counts scripts = fold-map (λ a x. a + x) length 0 scripts
