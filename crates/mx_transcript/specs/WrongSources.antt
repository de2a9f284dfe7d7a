-- Wrong reads by the stores for which they stand, and of what nobody stored: the read rule refuses them. Processes 1, 2
-- and 3 store and load in cell 320.
use Rattle.std.specs.Prelude.{ℕ, List, [], ◌∷◌}
use Rattle.mx_reads.specs.Deeds.{Deed, Deeds, Enters, Stores, Loads}
use Rattle.mx_reads.specs.ReadRule.{Reading, HasRead, IsRightRead}
use Rattle.mx_reads.specs.Sightings.{Source}
use Rattle.mx_transcript.specs.Reads.{IsKnown}
use Rattle.mx_transcript.specs.WrongReads.{cell, did, NeverReads}

-- every read stands for the store at this place
abbrev pub always : ℕ → Source
always place p i = place

-- each read is right, where it stands for the store that is said
abbrev pub AreRightWith : Deeds → Source → Type 0
AreRightWith done source = (read : Reading) → HasRead done read → IsRightRead done (IsKnown done) source read

-- process 1 reads once what process 2 stored twice
abbrev pub stored_twice : List (List Deed)
stored_twice = (Loads cell 5 2 0 0 ∷ []) ∷ (Stores cell 5 0 ∷ Stores cell 5 0 ∷ []) ∷ []

-- process 2 stores and makes an entry, which process 3 knows as it stores and makes one; process 1 makes this read
abbrev pub overwritten : Deed → List (List Deed)
overwritten read =
    (read ∷ []) ∷ (Stores cell 5 0 ∷ Enters 1 ∷ []) ∷ (Stores cell 9 1 ∷ Enters 2 ∷ []) ∷ []

-- the same, where process 1 stored first
abbrev pub own_overwritten : Deed → List (List Deed)
own_overwritten read = (Stores cell 5 0 ∷ Enters 1 ∷ read ∷ []) ∷ (Stores cell 9 1 ∷ Enters 2 ∷ []) ∷ []

pub record WrongSources : Type 0 where
  -- right: the first of two equal stores
  pub right_source : AreRightWith (did stored_twice) (always 0)
  -- the second, where the first will do
  pub second : AreRightWith (did stored_twice) (always 1) → ⊥
  -- a store that a third process's replaced: it knew the first, and its own is known at the read's point
  pub overwritten : NeverReads (overwritten (Loads cell 5 2 0 2))
  -- an own store that another process's replaced
  pub own_overwritten : NeverReads (own_overwritten (Loads cell 5 1 0 2))
  -- an earlier store of a process after a later one
  pub earlier : NeverReads ((Loads cell 6 2 0 0 ∷ Loads cell 5 2 0 0 ∷ []) ∷ (Stores cell 5 0 ∷ Stores cell 6 0 ∷ []) ∷ [])
  -- zero that nobody stored, after a written value was read
  pub unseen : NeverReads ((Loads cell 5 2 0 0 ∷ Loads cell 0 0 0 0 ∷ []) ∷ (Stores cell 5 0 ∷ []) ∷ [])
  -- a value that nobody stored, and a stamp of such a word, other than 0
  pub other_value : NeverReads ((Loads cell 7 0 0 0 ∷ []) ∷ [])
  pub other_stamp : NeverReads ((Loads cell 0 0 3 3 ∷ []) ∷ [])
