use Rattle.std.proofs.Common.{◌≡◌, ◌++◌, take}
use Rattle.mx_outcomes.specs.RowTexts.{pairs_text}
use Rattle.mx_outcomes.proofs.rows.add_pairs.Given as goal

abbrev pub invariant-loop-one : goal.invariant-loop-one
invariant-loop-one l = l.out.items ≡ l.initial.out.items ++ pairs_text (take l.one-index l.ones) l.others l.both
