-- Lists of passes: who has which, and what their shares of the ledger come to; events of their traces.
use Rattle.std.proofs.Common.{◌≡◌, ℕ, zero, suc, ◌+◌, ◌<◌, ◌≤◌, List, [], ◌∷◌, length, refl, ap, sym, ◌∙◌, Option, Some, None, arith}
use Rattle.std.specs.List.{slice_get, sum_by, Contains}
use Rattle.std.specs.Option.{option_map}
use Rattle.std.proofs.lemmas.List.Sums.{sum_by-cons}
use Rattle.std.proofs.lemmas.Option.{slice_get_past, slice_get-get_or}
use Rattle.mx_core.specs.declared.elements.Kept.{Kept as Recorded}
use Rattle.mx_core.specs.declared.elements.Kept.TheVariants as recorded
use Rattle.mx_desc.specs.Openings.{AreFreshPasses}
use Rattle.mx_desc.specs.Passes.{PassValue}
use Rattle.mx_rule.specs.declared.views.PassView.{PassView}
use Rattle.mx_sdw.specs.declared.operations.Op.{Op}
use Rattle.mx_state.specs.declared.journal.Entry as journaled
use Rattle.mx_ties.specs.Counting.{total}
use Rattle.mx_ties.specs.Views.{Referred, Missed}
use Rattle.mx_ties.proofs.JournalLists.{there}
use Rattle.mx_transcript.specs.Courses.{Judged}
use Rattle.mx_closing.specs.Closing.{AreOfAll}
use Rattle.mx_closing.specs.Views.{kept_in, idle_view, view_in, view_or_idle, views_in}

-- where something stands
pub record IsFound {A : Type 0} (xs : List A) (a : A) : Type 0 where
  pub place : ℕ
  pub at : slice_get xs place ≡ Some a

pub found : {A : Type 0} (xs : List A) (a : A) → Contains xs a → IsFound xs a
found xs a c = record { place = c.0; at = slice_get-get_or xs c.0 a c.1 ∙ ap Some c.2 }

pub record HasPass (passes : List (PassValue journaled.Entry)) (p : ℕ) : Type 0 where
  pub place : ℕ
  pub next : p ≡ suc place
  pub pass : PassValue journaled.Entry
  pub at : slice_get passes place ≡ Some pass
  pub seen : views_in passes p ≡ view_in pass

pub has_pass : (passes : List (PassValue journaled.Entry)) (p : ℕ) → 1 ≤ p → p ≤ length passes → HasPass passes p
has_pass passes zero some most = absurd (omega (arith, some))
has_pass passes (suc place) some most =
    let found = there passes place (omega (arith, most)) in record {
      place = place;
      next = refl;
      pass = found.0;
      at = found.1;
      seen = ap view_or_idle found.1;
    }

pub no_pass : (passes : List (PassValue journaled.Entry)) (p : ℕ) → length passes < p → views_in passes p ≡ idle_view
no_pass passes zero beyond = refl
no_pass passes (suc place) beyond = ap view_or_idle (slice_get_past passes place (omega (arith, beyond)))

-- sums over processes from 1 on
total_same : (n : ℕ) (f g : ℕ → ℕ) → ((p : ℕ) → f (suc p) ≡ g (suc p)) → total n f ≡ total n g
total_same zero f g e = refl
total_same (suc n) f g e =
    let rest = total_same n f g e in
    let last = e n in omega (arith, rest, last)

total_shift : (n : ℕ) (f : ℕ → ℕ) → total (suc n) f ≡ f 1 + total n (λ p. f (suc p))
total_shift zero f = omega arith
total_shift (suc n) f = let rest = total_shift n f in omega (arith, rest)

pub all_amounts : (passes : List (PassValue journaled.Entry))
    → total (length passes) (λ p. (views_in passes p).amount) ≡ sum_by (λ (o : PassValue journaled.Entry). o.amount) passes
all_amounts [] = refl
all_amounts (o ∷ passes) =
    let amount : PassValue journaled.Entry → ℕ = λ q. q.amount in
    total_shift (length passes) (λ p. (views_in (o ∷ passes) p).amount)
    ∙ ap (λ (n : ℕ). o.amount + n)
    (total_same (length passes) (λ p. (views_in (o ∷ passes) (suc p)).amount) (λ p. (views_in passes p).amount)
    (λ p. refl)
    ∙ all_amounts passes)
    ∙ sym (sum_by-cons (λ (q : PassValue journaled.Entry). q.amount) o passes)

-- an element of a trace, and a miss, as the trace has it
pub record IsReferred (got : Option Recorded) (j : Judged) : Type 0 where
  pub op : Op
  pub at : got ≡ Some (recorded.Judged j.element op j.desc)

pub referred : (got : Option Recorded) (j : Judged) → option_map kept_in got ≡ Some (Referred j) → IsReferred got j
referred None j e = absurd (nothing e)
  where
    nothing : None ≡ Some (Referred j) → ⊥
    nothing e = cc
referred (Some (recorded.Judged element op desc)) j e = record {
  op = op;
  at = ap (λ (k : Judged). Some (recorded.Judged k.element op k.desc)) (is (record { element = element; desc = desc }) e);
}
  where
    is : (k : Judged) → Some (Referred k) ≡ Some (Referred j) → k ≡ j
    is k e = cc
referred (Some (recorded.Missed segno by)) j e = absurd (other e)
  where
    other : Some (Missed segno by) ≡ Some (Referred j) → ⊥
    other e = cc

pub missed : (got : Option Recorded) (segno by : ℕ) → option_map kept_in got ≡ Some (Missed segno by)
    → got ≡ Some (recorded.Missed segno by)
missed None segno by e = absurd (nothing e)
  where
    nothing : None ≡ Some (Missed segno by) → ⊥
    nothing e = cc
missed (Some (recorded.Judged element op desc)) segno by e = absurd (other (record { element = element; desc = desc }) e)
  where
    other : (k : Judged) → Some (Referred k) ≡ Some (Missed segno by) → ⊥
    other k e = cc
missed (Some (recorded.Missed n k)) segno by e =
    ap (λ (m : ℕ × ℕ). Some (recorded.Missed m.0 m.1)) (λ i. (first e i, second e i))
  where
    first : Some (Missed n k) ≡ Some (Missed segno by) → n ≡ segno
    first e = cc

    second : Some (Missed n k) ≡ Some (Missed segno by) → k ≡ by
    second e = cc

-- fresh passes are those of the processes from this one on
fresh_at : (start p : ℕ) (passes : List (PassValue journaled.Entry)) → AreFreshPasses start p passes
    → (place : ℕ) (o : PassValue journaled.Entry) → slice_get passes place ≡ Some o → o.view.process ≡ p + place
fresh_at start p [] fresh place o at = absurd (none at)
  where
    none : slice_get {X = PassValue journaled.Entry} [] place ≡ Some o → ⊥
    none at = cc
fresh_at start p (q ∷ passes) fresh zero o at =
    ap (λ (r : PassValue journaled.Entry). r.view.process) (sym (same at))
    ∙ ap (λ (v : PassView journaled.Entry). v.process) fresh.0 ∙ omega arith
  where
    same : Some q ≡ Some o → q ≡ o
    same at = cc
fresh_at start p (q ∷ passes) fresh (suc place) o at =
    fresh_at start (p + 1) passes fresh.3 place o at ∙ omega arith

pub fresh_of_all : (start processes : ℕ) (passes : List (PassValue journaled.Entry))
    → AreFreshPasses start 1 passes → length passes ≡ processes → AreOfAll processes passes
fresh_of_all start processes passes fresh many = record {
  count = many;
  owners = λ place o at. fresh_at start 1 passes fresh place o at ∙ omega arith;
}
