use Rattle.std.proofs.Common.{◌≡◌, ◌++◌, take}
use Rattle.std.specs.List.{flat_map}
use Rattle.mx_outcomes.specs.RowTexts.{other_text}
use Rattle.mx_outcomes.proofs.rows.add_one.Given as goal

abbrev pub invariant-loop-other : goal.invariant-loop-other
invariant-loop-other l = l.out.items ≡ l.initial.out.items ++ flat_map (other_text l.both l.one) (take l.other-index l.others)
