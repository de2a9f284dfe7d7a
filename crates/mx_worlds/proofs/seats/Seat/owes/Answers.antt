use Rattle.std.proofs.Common.{◌≡◌, ◌≢◌, ℕ, ◌<◌, Bool, false, Option, Some, None, ap, sym, ◌∙◌, subst, rules}
use Rattle.std.specs.Prelude.{MatchBool, MatchOption}
use Rattle.std.specs.Option.{is_some}
use Rattle.mx_worlds.specs.Seating.{AreAcknowledged}
use Rattle.mx_worlds.specs.Shows.{Columns}
use Rattle.mx_core.specs.World.{Process}
use Rattle.mx_worlds.proofs.seats.Seat.owes.Goals as goal

owed_by : (k : Columns) (n : ℕ) (o : Option ℕ) → k.process.acknowledged ≡ false
    → MatchOption o ((j : ℕ) → j < n → k.present j ≡ k.before j) (λ i. (i < n) × (k.present i ≢ k.before i))
    → MatchBool (is_some o) (AreAcknowledged k n → ⊥) (AreAcknowledged k n)
owed_by k n None down found = λ j under differ. absurd (differ (found j under))
owed_by k n (Some i) down found = λ all. let t = all i found.0 found.1 in cc

pub returns-then-not-self : goal.returns-then-not-self
returns-then-not-self c n k shows =
    subst (λ (b : Bool). MatchBool b (AreAcknowledged k n → ⊥) (AreAcknowledged k n)) (sym c.is_some.ensures)
    (owed_by k n c.first_change.result (sym (ap (λ (o : Process). o.acknowledged) shows.process) ∙ (search rules))
    (c.first_change.ensures n k shows))
