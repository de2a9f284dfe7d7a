use Rattle.mx_transcript.proofs.WrongLineLaws.{wrong_references, wrong_calls, wrong_scripts}
use Rattle.mx_transcript.proofs.PointerLineLaws.{right_pointers, wrong_pointers}
use Rattle.mx_transcript.proofs.CallLineLaws.{right_transfers, wrong_transfers, wrong_registers}
use Rattle.mx_transcript.proofs.WrongRuleLaws.{wrong_points, wrong_reads, wrong_falls, wrong_ways_back}
use Rattle.mx_transcript.proofs.laws.wrong_runs_are_refused.Goals as goal

pub returns : goal.returns
returns c = record {
  references = wrong_references;
  calls = wrong_calls;
  right_pointers = right_pointers;
  pointers = wrong_pointers;
  right_transfers = right_transfers;
  transfers = wrong_transfers;
  registers = wrong_registers;
  scripts = wrong_scripts;
  points = wrong_points;
  reads = wrong_reads;
  falls = wrong_falls;
  ways_back = wrong_ways_back;
}
