use Rattle.std.proofs.Common.{◌≡◌, ◌↔◌, Bool, true, false, IsTrue, refl, rules}
use Rattle.std.specs.Prelude.{MatchBool, not}
use Rattle.mx_worlds.proofs.seats.Seat.is_unstruck.Goals as goal

open_by : (Changed Struck : Type 0) (b : Bool) → Changed → (IsTrue b ↔ Struck)
    → MatchBool (not b) ((Changed → Struck) → ⊥) (Changed → Struck)
open_by Changed Struck true changed is = λ _. is.0 refl
open_by Changed Struck false changed is = λ h. let t = is.1 (h changed) in cc

closed_by : (Changed Struck : Type 0) (b : Bool) → b ≡ false → (IsTrue b ↔ Changed)
    → MatchBool b ((Changed → Struck) → ⊥) (Changed → Struck)
closed_by Changed Struck true down is = cc
closed_by Changed Struck false down is = λ changed. let t = is.1 changed in cc

pub returns-then-is_changed : goal.returns-then-is_changed
returns-then-is_changed c n k shows =
    open_by _ _ c.is_struck.result ((c.is_changed.ensures n k shows).0 (search rules)) (c.is_struck.ensures n k shows)

pub returns-else-is_changed : goal.returns-else-is_changed
returns-else-is_changed c n k shows =
    closed_by _ _ c.is_changed.result (search rules) (c.is_changed.ensures n k shows)
