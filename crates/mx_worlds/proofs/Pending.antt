-- What seats tell of the pending entry: beyond the numbers and the processes nothing is changed.
use Rattle.std.proofs.Common.{◌≡◌, inl, inr, ℕ, ◌<◌, ◌≤◌, sym, ◌∙◌, subst}
use Rattle.std.proofs.lemmas.Bool.{cases_lt}
use Rattle.mx_core.specs.Acknowledging.{HasChanged}
use Rattle.mx_core.specs.Causes.{StruckAt, AcknowledgedAt}
use Rattle.mx_core.specs.FirstFailing.{IsFirstNot}
use Rattle.mx_core.specs.Invariant.{Good}
use Rattle.mx_core.specs.Notions.{IsChanged}
use Rattle.mx_worlds.specs.Seating.{IsStruckIn, AreAcknowledged}
use Rattle.mx_worlds.specs.Shows.{columns}
use Rattle.mx_core.specs.World.{World}

module _ (w : World) (good : Good w) (p : ℕ) where
  pub unchanged_beyond : (n : ℕ) → w.numbers ≤ n → IsChanged w p n → ⊥
  unchanged_beyond n out changed =
      changed (good.shape.beyond w.length p n out ∙ sym (good.shape.beyond w.answered p n out))

  pub changed_below : (n : ℕ) → IsChanged w p n → n < w.numbers
  changed_below n changed = elim (cases_lt n w.numbers) [
    | inl under ↦ under
    | inr out ↦ absurd (unchanged_beyond n out changed)
  ]

  pub none_changed : ((n : ℕ) → n < w.numbers → w.table w.length p n ≡ w.table w.answered p n) → HasChanged w p → ⊥
  none_changed same has = has.changed (same has.segno (changed_below has.segno has.changed))

  pub all_struck : (count : ℕ) → w.length ≡ count → ((n : ℕ) → n < w.numbers → IsStruckIn (columns w p) count n)
      → (n : ℕ) → StruckAt w p n
  all_struck count e all n changed =
      subst (λ (k : ℕ). IsStruckIn (columns w p) k n) (sym e) (all n (changed_below n changed)) changed

  pub first_open : (count n : ℕ) → w.length ≡ count → IsFirstNot (IsStruckIn (columns w p) count) n
      → IsFirstNot (StruckAt w p) n
  first_open count n e first = subst (λ (k : ℕ). IsFirstNot (IsStruckIn (columns w p) k) n) (sym e) first

  pub all_acknowledged : AreAcknowledged (columns w p) w.numbers → AcknowledgedAt w p
  all_acknowledged all n changed = all n (changed_below n changed) changed

pub below_acknowledged : (w : World) → Good w → (p : ℕ) → AcknowledgedAt w p → AreAcknowledged (columns w p) w.numbers
below_acknowledged w good p all n under changed = all n changed

-- the supervisor has no pair, and what the world has not is not changed
pub nobody_changed : (w : World) → Good w → (n : ℕ) → IsChanged w 0 n → ⊥
nobody_changed w good n changed = changed (good.shape.nobody w.length n ∙ sym (good.shape.nobody w.answered n))

pub more_unchanged : (w : World) → Good w → (p n : ℕ) → w.processes < p → IsChanged w p n → ⊥
more_unchanged w good p n out changed =
    changed (good.shape.more w.length p n out ∙ sym (good.shape.more w.answered p n out))
