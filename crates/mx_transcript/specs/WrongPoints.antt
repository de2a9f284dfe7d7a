-- Wrong points, each too low or too high by one: the point rule refuses them. The setup has two entries, and the whole
-- journal five.
use Rattle.std.specs.Prelude.{List, [], ◌∷◌}
use Rattle.mx_reads.specs.Deeds.{Deed, Enters, Loads, Refers, Misses}
use Rattle.mx_transcript.specs.Points.{ArePoints}

abbrev pub NeverPoints : List Deed → Type 0
NeverPoints done = ArePoints 2 5 done → ⊥

pub record WrongPoints : Type 0 where
  -- right: as many entries as there were, and the process makes the next one
  pub right_point : ArePoints 2 5 (Refers 3 ∷ Enters 4 ∷ [])
  -- before the last entry of the setup
  pub before_setup : NeverPoints (Refers 1 ∷ [])
  -- before the entry that the process made before
  pub before_own : NeverPoints (Enters 4 ∷ Refers 3 ∷ [])
  -- before the entry by which it missed
  pub before_miss : NeverPoints (Misses 8 4 ∷ Refers 3 ∷ [])
  -- before the stamp of the word that it read
  pub before_stamp : NeverPoints (Loads (record { cell = 320; since = 0 }) 7 2 4 3 ∷ Refers 3 ∷ [])
  -- a point that falls
  pub falls : NeverPoints (Refers 4 ∷ Refers 3 ∷ [])
  -- beyond the journal
  pub beyond : NeverPoints (Refers 6 ∷ [])
  -- not below the entry that the process made next
  pub after_next : NeverPoints (Refers 4 ∷ Enters 4 ∷ [])
