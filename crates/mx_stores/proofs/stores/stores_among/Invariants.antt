use Rattle.std.proofs.Common.{◌≡◌, ◌≤◌, drop, length}
use Rattle.mx_stores.specs.Since.{least_entry}
use Rattle.mx_stores.specs.Tables.{AreStores}
use Rattle.mx_stores.proofs.stores.stores_among.Given as goal

-- the stores from this place on are written down
abbrev pub invariant-loop-place : goal.invariant-loop-place
invariant-loop-place l = record {
  within : l.place ≤ length l.deeds;
  since : l.since ≡ least_entry (drop l.place l.deeds);
  stores : AreStores l.deeds l.place l.stores.items;
}

-- fewer places are left
abbrev pub decreases-loop-place : goal.decreases-loop-place
decreases-loop-place l = l.place
