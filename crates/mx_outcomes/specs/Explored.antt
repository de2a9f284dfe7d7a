-- Runs of a session in all orders of its lines, and what its lines came to in them.
use Rattle.std.specs.Prelude.{◌≡◌, ◌^◌, ◌-◌, ℕ, List, [], ◌∷◌, length, map, min, ⊤}
use Rattle.mx_outcomes.specs.AllOrders.{AreAllOrders}
use Rattle.mx_outcomes.specs.WholeRuns.{IsWholeRun}
use Rattle.mx_outcomes.specs.Counts.{orders_of}
use Rattle.mx_outcomes.specs.Words.{outcomes_in}
use Rattle.mx_script.specs.Sessions.{Outline}
use Rattle.mx_state.specs.declared.journal.Entry as journaled
use Rattle.mx_outcomes.specs.Tallies.{Told, Tallied, tally_of}
use Rattle.mx_transcript.specs.Transcripts.{Step}

-- a run: the order in which its lines were asked for, its journal, and its transcripts
abbrev pub Run : Type 0
Run = List ℕ × List journaled.Entry × List (List Step)

abbrev pub order_of : Run → List ℕ
order_of run = run.0

abbrev pub told_of : Run → Told
told_of run = (run.0, outcomes_in run.1 run.2)

-- each is a legal run of the session, in which each process did all its lines
abbrev pub AreRunsOf : Outline → List Run → Type 0
AreRunsOf session [] = ⊤
AreRunsOf session (run ∷ runs) = IsWholeRun session run.1 run.2 × AreRunsOf session runs

-- how many lines each process has
abbrev pub line_counts : Outline → List ℕ
line_counts session = map length session.scripts

-- There are legal runs of the session in which no process was logged out, one for each order of its lines; and of each group of lines, which are named by their places
-- among all, this is what they came to together in these runs.
pub record IsExplored (session : Outline) (groups : List (List ℕ)) (tallies : List Tallied) : Type 0 where
  pub runs : List Run
  pub legal : AreRunsOf session runs
  pub orders : AreAllOrders (line_counts session) (map order_of runs)
  pub tallies_are : tallies ≡ map (tally_of (map told_of runs)) groups

-- so many orders are made, and no more
abbrev pub most_orders : ℕ
most_orders = 20000

-- how many orders there are, as a number of 64 bits
abbrev pub count_of : Outline → ℕ
count_of session = min (orders_of (line_counts session)) (2 ^ 64 - 1)
