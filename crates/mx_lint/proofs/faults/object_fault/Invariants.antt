use Rattle.std.proofs.Common.{List, ℕ, Bor, length, map}
use Rattle.std.specs.Option.{option_map}
use Rattle.mx_lint.specs.Findings.{HasSeen}
use Rattle.mx_lint.specs.Pieces.{pieces_left, pieces_of}
use Rattle.mx_lint.proofs.faults.object_fault.Given as goal

abbrev pub invariant-loop-rest : goal.invariant-loop-rest
invariant-loop-rest l = HasSeen (pieces_of l.fields) (map (λ (s : Bor (List ℕ)). s.now) l.seen.symbols.items) l.seen.links
    (pieces_left (option_map (λ (r : Bor (List ℕ)). r.now) l.rest))

-- the pieces that are left
abbrev pub decreases-loop-rest : goal.decreases-loop-rest
decreases-loop-rest l = length (pieces_left (option_map (λ (r : Bor (List ℕ)). r.now) l.rest))
