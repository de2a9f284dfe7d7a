use Rattle.mx_line.specs.AtWork.{IsGoodWork}
use Rattle.mx_upcall.specs.Soundness.{IsPackableControl}
use Rattle.mx_parts.proofs.departures.departure_within.Given as goal

-- the line stands where one can
abbrev pub invariant-loop-place : goal.invariant-loop-place
invariant-loop-place l = record {
  good : IsGoodWork l.process.control l.work;
  packable : IsPackableControl l.process.control;
}
