use Rattle.std.proofs.Common.{◌≡◌, drop, take}
use Rattle.mx_points.specs.Fronts.{ArePointsTo}
use Rattle.mx_points.specs.Seen.{first_entry, greatest, seen}
use Rattle.mx_points.proofs.points.first_bad_point.Given as goal

-- the points before are right; what was seen by the deeds before, and the next own entry
abbrev pub invariant-loop-place : goal.invariant-loop-place
invariant-loop-place l = record {
  floor : l.floor ≡ greatest seen l.setup (take l.place l.deeds);
  next : l.next ≡ first_entry (drop l.place l.deeds);
  good : ArePointsTo l.setup l.entries l.deeds l.place;
}
