-- One seat more is dealt.
use Rattle.std.proofs.Common.{◌≡◌, ℕ, ◌+◌, List, [], ◌∷◌, ◌++◌, length, subst, arith}
use Rattle.atomic_table.specs.Seated.{TableId}
use Rattle.mx_rule.specs.Dealt.{AreDealt, IsFresh}
use Rattle.mx_rule.specs.declared.layout.Layout.{Layout}
use Rattle.mx_rule.specs.declared.passes.PassSeat.{PassSeat}

pub one_more_dealt : {E : Type 0} (table : TableId) (y : Layout) (start p q : ℕ) (seats : List (PassSeat E))
    (s : PassSeat E) → AreDealt table y start p seats → q ≡ p + length seats → IsFresh table y start q s
    → AreDealt table y start p (seats ++ s ∷ [])
one_more_dealt table y start p q [] s dealt is fresh =
    (subst (λ (k : ℕ). IsFresh table y start k s) (let a = is in omega arith) fresh, tt)
one_more_dealt table y start p q (x ∷ seats) s dealt is fresh =
    (dealt.0, one_more_dealt table y start (p + 1) q seats s dealt.1 (omega arith) fresh)
