-- From a view to a seat that has it.
use Rattle.std.proofs.Common.{◌≡◌, ℕ, [], ap, sym, subst}
use Rattle.std.specs.Prelude.{◌==◌}
use prog.Atomic.{either}
use Rattle.atomic_table.specs.Seated.{TableId}
use Rattle.atomic_table.specs.Table.{Me, Allows}
use Rattle.mx_rule.specs.Allowing.{PassWrites, PassReads, PassTells, OfficeWrites, OfficeReads, OfficeTells, OfficeExchanges}
use Rattle.mx_rule.specs.Layout.{Layout}
use Rattle.mx_rule.specs.Parts.{Part, number_in}
use Rattle.mx_rule.specs.Rule.{Holds}
use Rattle.mx_rule.specs.Shown.{View, Pass, PassView, Super, SuperView}

-- tables that are the same have as many words
pub same_count : (a b : TableId) → a ≡ b → a.words ≡ b.words
same_count a b e = ap (λ (x : TableId). x.words) e

pub pass_writes : (S : Type 0) (y : Layout) (v v' : PassView S) (x : Part) (me : Me S (View S)) (i n n' : ℕ)
    → PassWrites S y v x n' v'
    → me ≡ (Pass v, []) → number_in y x ≡ i → n' ≡ n → (slots id : ℕ)
    → Allows {S = S} (Holds y) slots id me i (λ _. n) (λ _ after. after ≡ (Pass v', []))
pass_writes S y v v' x me i n n' may posed at is slots id =
    subst (λ (z : Me S (View S) × ℕ × ℕ). Allows {S = S} (Holds y) slots id z.0 z.1 (λ _. z.2)
    (λ _ after. after ≡ (Pass v', [])))
    (λ k. (sym posed k, at k, is k)) (may slots id)

pub pass_reads : (S : Type 0) (y : Layout) (v : PassView S) (v' : ℕ → PassView S) (x : Part) (me : Me S (View S))
    (i : ℕ) → PassReads S y v x v'
    → me ≡ (Pass v, []) → number_in y x ≡ i → (slots id : ℕ)
    → Allows {S = S} (Holds y) slots id me i (λ n. n) (λ n after. after ≡ (Pass (v' n), []))
pass_reads S y v v' x me i may posed at slots id =
    subst (λ (z : Me S (View S) × ℕ). Allows {S = S} (Holds y) slots id z.0 z.1 (λ n. n)
    (λ n after. after ≡ (Pass (v' n), [])))
    (λ k. (sym posed k, at k)) (may slots id)

pub office_writes : (S : Type 0) (y : Layout) (v v' : SuperView S) (x : Part) (me : Me S (View S)) (i n n' : ℕ)
    → OfficeWrites S y v x n' v'
    → me ≡ (Super v, []) → number_in y x ≡ i → n' ≡ n → (slots id : ℕ)
    → Allows {S = S} (Holds y) slots id me i (λ _. n) (λ _ after. after ≡ (Super v', []))
office_writes S y v v' x me i n n' may posed at is slots id =
    subst (λ (z : Me S (View S) × ℕ × ℕ). Allows {S = S} (Holds y) slots id z.0 z.1 (λ _. z.2)
    (λ _ after. after ≡ (Super v', [])))
    (λ k. (sym posed k, at k, is k)) (may slots id)

pub pass_tells : (S : Type 0) (y : Layout) (v : PassView S) (v' : ℕ → PassView S) (T : ℕ → Type 0) (x : Part)
    (me : Me S (View S)) (i : ℕ) → PassTells S y v x v' T
    → me ≡ (Pass v, []) → number_in y x ≡ i → (slots id : ℕ)
    → Allows {S = S} (Holds y) slots id me i (λ n. n) (λ n after. (after ≡ (Pass (v' n), [])) × T n)
pass_tells S y v v' T x me i may posed at slots id =
    subst (λ (z : Me S (View S) × ℕ). Allows {S = S} (Holds y) slots id z.0 z.1 (λ n. n)
    (λ n after. (after ≡ (Pass (v' n), [])) × T n))
    (λ k. (sym posed k, at k)) (may slots id)

pub office_tells : (S : Type 0) (y : Layout) (v : SuperView S) (x : Part) (T : Type 0) (me : Me S (View S)) (i : ℕ)
    → OfficeTells S y v x T
    → me ≡ (Super v, []) → number_in y x ≡ i → (slots id : ℕ)
    → Allows {S = S} (Holds y) slots id me i (λ n. n) (λ n after. (after ≡ (Super v, [])) × T)
office_tells S y v x T me i may posed at slots id =
    subst (λ (z : Me S (View S) × ℕ). Allows {S = S} (Holds y) slots id z.0 z.1 (λ n. n)
    (λ n after. (after ≡ (Super v, [])) × T))
    (λ k. (sym posed k, at k)) (may slots id)

pub office_exchanges : (S : Type 0) (y : Layout) (v v' : SuperView S) (x : Part) (me : Me S (View S))
    (i old new old' new' : ℕ) → OfficeExchanges S y v x old' new' v'
    → me ≡ (Super v, []) → number_in y x ≡ i → old' ≡ old → new' ≡ new → (slots id : ℕ)
    → Allows {S = S} (Holds y) slots id me i (λ n. either (n == old) new n)
    (λ n after. (n ≡ old) × (after ≡ (Super v', [])))
office_exchanges S y v v' x me i old new old' new' may posed at is is' slots id =
    subst (λ (z : Me S (View S) × ℕ × ℕ × ℕ). Allows {S = S} (Holds y) slots id z.0 z.1
    (λ n. either (n == z.2) z.3 n) (λ n after. (n ≡ z.2) × (after ≡ (Super v', []))))
    (λ k. (sym posed k, at k, is k, is' k)) (may slots id)

pub office_reads : (S : Type 0) (y : Layout) (v : SuperView S) (v' : ℕ → SuperView S) (x : Part) (me : Me S (View S))
    (i : ℕ)
    → OfficeReads S y v x v'
    → me ≡ (Super v, []) → number_in y x ≡ i → (slots id : ℕ)
    → Allows {S = S} (Holds y) slots id me i (λ n. n) (λ n after. after ≡ (Super (v' n), []))
office_reads S y v v' x me i may posed at slots id =
    subst (λ (z : Me S (View S) × ℕ). Allows {S = S} (Holds y) slots id z.0 z.1 (λ n. n)
    (λ n after. after ≡ (Super (v' n), [])))
    (λ k. (sym posed k, at k)) (may slots id)
