-- Helpers: how far runs in one order after another have come, and what the exploring answers.
use Rattle.std.specs.Prelude.{◌≡◌, ◌≤◌, ◌<◌, ℕ, List, [], map}
use Rattle.mx_outcomes.specs.AllOrders.{Follow}
use Rattle.mx_outcomes.specs.Explored.{Run, AreRunsOf, IsExplored, count_of, line_counts, most_orders, order_of, told_of}
use Rattle.mx_outcomes.specs.OutcomesTexts.{Numbered}
use Rattle.mx_outcomes.specs.WholeRuns.{IsWholeRun}
use Rattle.mx_outcomes.specs.declared.exploring.Explored.{Explored}
use Rattle.mx_outcomes.specs.declared.exploring.Explored.TheVariants as found
use Rattle.mx_outcomes.specs.declared.lines.ScriptLine.{ScriptLine}
use Rattle.mx_outcomes.specs.Interleavings.{IsFirst, IsInterleaving}
use Rattle.mx_outcomes.specs.Words.{outcomes_in}
use Rattle.mx_script.specs.Sessions.{Outline}
use Rattle.mx_state.specs.declared.journal.Entry as journaled
use Rattle.mx_outcomes.specs.Tallies.{Tallied, tallied, tally_of, with_run}
use Rattle.mx_transcript.specs.Transcripts.{Step}

-- groups before any run
abbrev pub fresh : List ℕ → Tallied
fresh places = tallied places []

-- a run in this order was added
pub record IsMade (session : Outline) (order : List ℕ) (before after : List Tallied) : Type 0 where
  pub journal : List journaled.Entry
  pub transcripts : List (List Step)
  pub run : IsWholeRun session journal transcripts
  pub added : after ≡ map (with_run (order, outcomes_in journal transcripts)) before

-- runs were made in all orders from the first on up to this one, which comes next
pub record HasCome (session : Outline) (groups : List (List ℕ)) (order : List ℕ) (tallies : List Tallied) : Type 0 where
  pub runs : List Run
  pub legal : AreRunsOf session runs
  pub start : List ℕ
  pub first : IsFirst start
  pub interleaving : IsInterleaving (line_counts session) start
  pub follow : Follow start (map order_of runs) order
  pub tallies_are : tallies ≡ map (tally_of (map told_of runs)) groups

-- what exploring groups of lines answers
abbrev pub IsFound : Outline → List (List ℕ) → Explored → Type 0
IsFound session groups (found.Tallied orders tallies) =
    (count_of session ≤ most_orders) × (orders ≡ count_of session) × IsExplored session groups tallies.items
IsFound session groups (found.TooMany orders) = (most_orders < count_of session) × (orders ≡ count_of session)

-- a line as it is told
abbrev pub plain : ScriptLine → Numbered
plain line = (line.process, line.number, line.line.now)
