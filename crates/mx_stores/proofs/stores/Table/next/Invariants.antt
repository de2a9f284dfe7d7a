use Rattle.std.proofs.Common.{◌≡◌, ◌<◌, ℕ, suc, List, Some}
use Rattle.std.specs.List.{slice_get}
use Rattle.mx_reads.specs.Deeds.{Deed}
use Rattle.mx_stores.specs.Tables.{IsTable}
use Rattle.mx_stores.specs.declared.stores.Store.{Store}
use Rattle.mx_stores.proofs.stores.Table.next.Given as goal

-- those before have at most the store's number
abbrev pub invariant-loop-next : goal.invariant-loop-next
invariant-loop-next l = (deeds : List Deed) → IsTable deeds l.self → slice_get l.self.stores.items l.here ≡ Some l.store
    → (j : ℕ) (s : Store) → j < l.next → slice_get l.self.stores.items j ≡ Some s → s.order < suc l.store.order
