use Rattle.std.proofs.Common.{◌≡◌, drop}
use Rattle.mx_script.specs.Sessions.{Outline}
use Rattle.mx_transcript.specs.Misses.{IsChanged}
use Rattle.mx_points.specs.Fronts.{AreChanges, AreRightMissesTo}
use Rattle.mx_points.specs.Seen.{AreLasts, first_entry}
use Rattle.mx_points.proofs.misses.first_wrong_miss.Given as goal

-- the misses before are right; the last of each number, and the next own entry
abbrev pub invariant-loop-place : goal.invariant-loop-place
invariant-loop-place l = record {
  lasts : AreLasts l.deeds l.place l.lasts;
  next : l.next ≡ first_entry (drop l.place l.deeds);
  good : (session : Outline) → AreChanges session l.journal l.p l.deeds l.changes
      → AreRightMissesTo l.journal (IsChanged session l.journal l.p) l.p l.deeds l.place;
}
