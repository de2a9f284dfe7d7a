use Rattle.std.proofs.Common.{List, ℕ, Bor, take}
use Rattle.std.specs.Option.{option_map}
use Rattle.mx_lint.specs.Findings.{HasRead}
use Rattle.mx_lint.specs.Pieces.{pieces_left}
use Rattle.mx_lint.proofs.faults.field_fault.Given as goal

-- the fields up to this one are read
abbrev pub invariant-loop-i : goal.invariant-loop-i
invariant-loop-i l = HasRead (take l.i l.row) (pieces_left (option_map (λ (r : Bor (List ℕ)). r.now) l.fields))
    (pieces_left (option_map (λ (r : Bor (List ℕ)). r.now) l.rest))
