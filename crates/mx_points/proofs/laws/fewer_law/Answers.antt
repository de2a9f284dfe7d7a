use Rattle.mx_transcript.specs.Misses.{IsChanged}
use Rattle.mx_points.proofs.FullLaws.{fewer_after_full}
use Rattle.mx_points.proofs.MissLaws.{fewer_misses}
use Rattle.mx_points.proofs.NamingLaws.{fewer_named}
use Rattle.mx_points.proofs.PointLaws.{fewer_points}
use Rattle.mx_points.proofs.SetupLaws.{fewer_setup}
use Rattle.mx_points.proofs.laws.fewer_law.Goals as goal

pub returns : goal.returns
returns c = record {
  points = fewer_points;
  misses = λ session journal p. fewer_misses journal (IsChanged session journal p) p;
  named = fewer_named;
  none_after_full = fewer_after_full;
  setup = fewer_setup;
}
