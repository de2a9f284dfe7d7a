use Rattle.std.proofs.Common.{◌≡◌, inl, inr, ℕ, rules}
use Rattle.mx_core.proofs.Descriptors.{same_descriptor}
use Rattle.mx_worlds.proofs.Searching.{one_more}
use Rattle.mx_worlds.proofs.seats.Seat.first_change.Goals as goal

pub loop-segno-preserved : goal.loop-segno-preserved
loop-segno-preserved c n k shows =
    one_more (λ (j : ℕ). k.present j ≡ k.before j) c.loop-segno.segno (c.loop-segno.invariant n k shows)
    (elim (same_descriptor (k.present c.loop-segno.segno) (k.before c.loop-segno.segno)) [
      | inl same ↦ same
      | inr differ ↦ let t = (c.is_changed.ensures n k shows).1 differ in absurd (search rules)
    ])
