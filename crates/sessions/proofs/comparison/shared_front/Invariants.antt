use Rattle.std.proofs.Common.{◌≡◌, ◌+◌, ◌-◌, ◌==◌, ◌≤◌, length, drop}
use Rattle.std.specs.List.{common_prefix_len}
use Rattle.sessions.proofs.comparison.shared_front.Given as goal

abbrev pub invariant-loop-shared : goal.invariant-loop-shared
invariant-loop-shared l =
    (l.shared ≤ length l.text) ×
    (common_prefix_len (λ x y. x == y) l.text l.other ≡ l.shared + common_prefix_len (λ x y. x == y) (drop l.shared l.text) (drop l.shared l.other))

abbrev pub decreases-loop-shared : goal.decreases-loop-shared
decreases-loop-shared l = length l.text - l.shared
