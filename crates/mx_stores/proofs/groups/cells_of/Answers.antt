use Rattle.std.proofs.Common.{ℕ, List, subst, sym}
use Rattle.mx_stores.specs.Cells.{AreRising, IsPresent}
use Rattle.mx_stores.proofs.CellLaws.{made_rising, made_whole}
use Rattle.mx_stores.proofs.Grouping.{present}
use Rattle.mx_stores.proofs.groups.cells_of.Goals as goal

pub returns-clause-rising : goal.returns-clause-rising
returns-clause-rising c = subst (λ (xs : List ℕ). AreRising xs) (sym c.in_ok-cells.ensures)
    (made_rising c.sort_unstable.new.self.items c.dedup.new.self.items c.sort_unstable.ensures.sorted c.dedup.ensures.filtered)

pub returns-clause-whole : goal.returns-clause-whole
returns-clause-whole c = λ u k number own e f.
    subst (λ (xs : List ℕ). IsPresent xs number) (sym c.in_ok-cells.ensures)
    (present c.dedup.new.self.items number
    (made_whole c.in_ok-all.all.items c.sort_unstable.new.self.items c.dedup.new.self.items number
    c.sort_unstable.ensures.permutation c.dedup.ensures.filtered (c.in_ok-all.ensures u k number own e f)))
