-- Which pages a request gives out and frees, by the runs that it tells.
use Rattle.std.proofs.Common.{◌≡◌, ℕ, ◌<◌, ltb, Bool, true, false, cond, not, ◌&&◌, Option, Some, None, Result, Ok, Err, IfOk, true≢false, option_and_then, refl, sym, ap, subst, ◌∙◌, arith}
use Rattle.std.proofs.lemmas.Bool.{ltb-true, lt-ltb}
use Rattle.std.specs.declared.alloc.AllocError.{AllocError}
use Rattle.mx_hier.specs.Branches.{Hierarchy}
use Rattle.mx_pages.specs.Runs.{PageMap, is_free, is_in_run, with_free}
use Rattle.mx_pages.specs.declared.pages.PageRun.{PageRun}
use Rattle.mx_pages.proofs.RunLaws.{is_in, set_at}
use Rattle.mx_request.specs.declared.replies.Reply.{Reply}
use Rattle.mx_state.specs.Given.{AreGiven, AreFreed}
use Rattle.mx_state.specs.NextRun.{one_page}
use Rattle.mx_state.specs.Plain.{Plain}
use Rattle.mx_state.specs.Sections.{with_page_back}
use Rattle.mx_state.proofs.GivenLaws.{next_given, next_frees_none, none_given, none_freed}
use Rattle.mx_fresh.specs.Runs.{AreMoved, GivesNext, IsFreedRun, TellsRuns, page_freed}
use Rattle.mx_fresh.specs.Said.{alone, freeing}
use Rattle.mx_fresh.specs.declared.answered.Answered.{Answered}

-- where the pages are as they were none is given out, and none is freed
pub kept_runs : (s t : Plain) (reply : Reply) → t.hierarchy.pages ≡ s.hierarchy.pages → TellsRuns s t (alone reply)
kept_runs s t reply same = record { given = none_given s t same; freed = none_freed s t same }

-- after pages were set free, those of the run are free, and every other is as it was
module _ (pages : PageMap) (first n page : ℕ) (below : page < 1024) where
  after : is_free (with_free pages first n) page ≡ cond (is_in_run n first page) true (is_free pages page)
  after = set_at true pages first n page below

  gives_none : false ≡ (is_free pages page && not (is_free (with_free pages first n) page))
  gives_none = by_tests (is_in_run n first page) (is_free pages page) ∙ sym (ap (λ b. is_free pages page && not b) after)
    where
      by_tests : (inside free : Bool) → false ≡ (free && not (cond inside true free))
      by_tests true true = refl
      by_tests true false = refl
      by_tests false true = refl
      by_tests false false = refl

  -- where they were taken before
  frees_run : (is_in_run n first page ≡ true → is_free pages page ≡ true → ⊥)
      → is_in_run n first page ≡ (not (is_free pages page) && is_free (with_free pages first n) page)
  frees_run taken = by_tests (is_in_run n first page) (is_free pages page) refl refl ∙ sym (ap (λ b. not (is_free pages page) && b) after)
    where
      by_tests : (inside free : Bool) → is_in_run n first page ≡ inside → is_free pages page ≡ free → inside ≡ (not free && cond inside true free)
      by_tests true true i f = absurd (taken i f)
      by_tests true false i f = refl
      by_tests false true i f = refl
      by_tests false false i f = refl

  -- and where there are none that were taken
  frees_none : (is_in_run n first page ≡ true → is_free pages page ≡ false → ⊥)
      → false ≡ (not (is_free pages page) && is_free (with_free pages first n) page)
  frees_none free = by_tests (is_in_run n first page) (is_free pages page) refl refl ∙ sym (ap (λ b. not (is_free pages page) && b) after)
    where
      by_tests : (inside was : Bool) → is_in_run n first page ≡ inside → is_free pages page ≡ was → false ≡ (not was && cond inside true was)
      by_tests true true i f = refl
      by_tests true false i f = absurd (free i f)
      by_tests false true i f = refl
      by_tests false false i f = refl

freed_gives_none : (s t : Plain) (first n : ℕ) → t.hierarchy.pages ≡ with_free s.hierarchy.pages first n → AreGiven s t None
freed_gives_none s t first n left = record {
  some = tt;
  each = λ page below. gives_none s.hierarchy.pages first n page below
      ∙ sym (ap (λ (pages : PageMap). is_free s.hierarchy.pages page && not (is_free pages page)) left);
}

run_freed : (s t : Plain) (run : PageRun) → IsFreedRun s.hierarchy.pages t.hierarchy.pages run → AreFreed s t (Some run)
run_freed s t run is = record {
  some = is.is_run;
  each = λ page below. frees_run s.hierarchy.pages run.first run.count page below
      (λ inside free. is.taken page below (is_in run.count run.first page inside) free)
      ∙ sym (ap (λ (pages : PageMap). not (is_free s.hierarchy.pages page) && is_free pages page) is.left);
}

-- the next run, or none, is given out, and none is freed
pub given_runs : (s t : Plain) (answered : Answered) → GivesNext s t answered → TellsRuns s t answered
given_runs s t answered is = record {
  given = next_given s t answered.given is.next;
  freed = subst (AreFreed s t) (sym is.freed) (next_frees_none s t answered.given is.next);
}

-- or a run is freed, and none is given out
pub moved_runs : (s t : Plain) (answered : Answered) → AreMoved s.hierarchy.pages t.hierarchy.pages answered.given answered.freed → TellsRuns s t answered
moved_runs s t answered moves = record { given = (by_runs answered.given answered.freed moves).0; freed = (by_runs answered.given answered.freed moves).1 }
  where
    by_runs : (given freed : Option PageRun) → AreMoved s.hierarchy.pages t.hierarchy.pages given freed → AreGiven s t given × AreFreed s t freed
    by_runs given None moves = (next_given s t given moves, next_frees_none s t given moves)
    by_runs None (Some run) moves = (freed_gives_none s t run.first run.count moves.left, run_freed s t run moves)
    by_runs (Some next) (Some run) moves = absurd moves

-- the page of a linkage section is given back, if there is one
pub back_runs : (s t : Plain) (page : Option ℕ) (reply : Reply) → t.hierarchy ≡ with_page_back s.hierarchy page
    → TellsRuns s t (freeing reply (option_and_then (page_freed s.hierarchy.pages) page))
back_runs s t None reply back = kept_runs s t reply (ap (λ (h : Hierarchy). h.pages) back)
back_runs s t (Some own) reply back = record {
  given = freed_gives_none s t own 1 left;
  freed = by_page (ltb own 1024) (is_free s.hierarchy.pages own) refl refl;
}
  where
    left : t.hierarchy.pages ≡ with_free s.hierarchy.pages own 1
    left = ap (λ (h : Hierarchy). h.pages) back

    here : (page : ℕ) → is_in_run 1 own page ≡ true → page ≡ own
    here page inside = let both = is_in 1 own page inside in omega (arith, both.0, both.1)

    none : ((page : ℕ) → page < 1024 → is_in_run 1 own page ≡ true → is_free s.hierarchy.pages page ≡ false → ⊥) → AreFreed s t None
    none free = record {
      some = tt;
      each = λ page below. frees_none s.hierarchy.pages own 1 page below (free page below)
          ∙ sym (ap (λ (pages : PageMap). not (is_free s.hierarchy.pages page) && is_free pages page) left);
    }

    by_page : (within free : Bool) → ltb own 1024 ≡ within → is_free s.hierarchy.pages own ≡ free
        → AreFreed s t (cond (within && not free) (Some (one_page own)) None)
    by_page false free w f = none (λ page below inside taken.
        absurd (true≢false (sym (lt-ltb own 1024 (omega (arith, below, here page inside))) ∙ w)))
    by_page true true w f = none (λ page below inside taken.
        absurd (true≢false (sym f ∙ ap (is_free s.hierarchy.pages) (sym (here page inside)) ∙ taken)))
    by_page true false w f = run_freed s t (one_page own) (record {
      is_run = record { some = omega arith; most = omega arith; within = omega (arith, ltb-true own 1024 w) };
      taken = λ page below inside free. absurd (true≢false (sym free ∙ ap (is_free s.hierarchy.pages) (let at : page ≡ own = omega (arith, inside.0, inside.1) in at) ∙ f));
      left = left;
    })

pub gives : (old new : Plain) (result : Result Answered AllocError) → IfOk result (TellsRuns old new) → IfOk result (λ a. AreGiven old new a.given)
gives old new (Ok a) is = is.given
gives old new (Err error) is = tt

pub frees : (old new : Plain) (result : Result Answered AllocError) → IfOk result (TellsRuns old new) → IfOk result (λ a. AreFreed old new a.freed)
frees old new (Ok a) is = is.freed
frees old new (Err error) is = tt
