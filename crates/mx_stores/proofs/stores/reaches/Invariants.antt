use Rattle.mx_stores.specs.Tables.{AreReaches}
use Rattle.mx_stores.proofs.Tables.{IsTop}
use Rattle.mx_stores.proofs.stores.reaches.Given as goal

abbrev pub invariant-loop-store : goal.invariant-loop-store
invariant-loop-store l = record {
  reaches : AreReaches l.stores l.store-index l.reaches.items;
  top : IsTop l.stores l.store-index l.top;
}
