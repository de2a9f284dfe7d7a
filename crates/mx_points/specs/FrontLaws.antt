-- What holds of the first n holds of fewer.
use Rattle.std.specs.Prelude.{ℕ, ◌≤◌, List}
use Rattle.mx_script.specs.Sessions.{Outline}
use Rattle.mx_state.specs.declared.journal.Entry as journaled
use Rattle.mx_reads.specs.Deeds.{Deed}
use Rattle.mx_transcript.specs.Misses.{IsChanged}
use Rattle.mx_transcript.specs.Transcripts.{Step}
use Rattle.mx_points.specs.Fronts.{ArePointsTo, AreNamedTo, AreRightMissesTo, AreSetupLinesTo, HasNoneAfterFullTo}

pub record FewerLaw : Type 0 where
  pub points : (setup entries : ℕ) (done : List Deed) (m n : ℕ) → m ≤ n → ArePointsTo setup entries done n
      → ArePointsTo setup entries done m
  pub misses : (session : Outline) (journal : List journaled.Entry) (p : ℕ) (done : List Deed) (m n : ℕ) → m ≤ n
      → AreRightMissesTo journal (IsChanged session journal p) p done n
      → AreRightMissesTo journal (IsChanged session journal p) p done m
  pub named : (journal : List journaled.Entry) (p : ℕ) (steps : List Step) (m n : ℕ) → m ≤ n
      → AreNamedTo journal p steps n → AreNamedTo journal p steps m
  pub none_after_full : (steps : List Step) (m n : ℕ) → m ≤ n → HasNoneAfterFullTo steps n → HasNoneAfterFullTo steps m
  pub setup : (setup : ℕ) (steps : List Step) (m n : ℕ) → m ≤ n → AreSetupLinesTo setup steps n → AreSetupLinesTo setup steps m
