use Rattle.std.proofs.Common.{◌≡◌, ℕ, Some, length}
use Rattle.std.specs.List.{slice_get}
use Rattle.mx_stores.specs.declared.groups.Groups.{Groups}
use Rattle.mx_stores.specs.declared.sightings.Cursors.{Cursors}
use Rattle.mx_stores.proofs.sightings.cursors_of.Given as goal

abbrev pub invariant-loop-storer : goal.invariant-loop-storer
invariant-loop-storer l = record {
  long : length l.cursors.items ≡ l.storer;
  each : (u : ℕ) (own : Groups) (c : Cursors) → slice_get l.groups u ≡ Some own → slice_get l.cursors.items u ≡ Some c
      → c.at.items ≡ own.begins.items;
}
