-- Wrong reads: the read rule refuses them. Processes 1, 2 and 3 store and load in cell 320.
use Rattle.std.specs.Prelude.{zero, suc, List, [], ◌∷◌}
use Rattle.mx_reads.specs.Deeds.{CellUse, Deed, Deeds, Enters, Stores, Loads}
use Rattle.mx_reads.specs.ReadRule.{AreRightReads}
use Rattle.mx_transcript.specs.Reads.{IsKnown}

abbrev pub cell : CellUse
cell = record { cell = 320; since = 0 }

-- the same cell, used anew since entry 1
abbrev pub anew : CellUse
anew = record { cell = 320; since = 1 }

-- what processes 1, 2, .. did
abbrev pub did : List (List Deed) → Deeds
did lists zero = []
did [] (suc p) = []
did (done ∷ lists) (suc zero) = done
did (done ∷ lists) (suc (suc p)) = did lists (suc p)

abbrev pub ReadsRight : List (List Deed) → Type 0
ReadsRight lists = AreRightReads (did lists) (IsKnown (did lists))

abbrev pub NeverReads : List (List Deed) → Type 0
NeverReads lists = ReadsRight lists → ⊥

pub record WrongReads : Type 0 where
  -- right: another process's store, which is known
  pub right_read : ReadsRight ((Loads cell 5 2 0 1 ∷ []) ∷ (Stores cell 5 0 ∷ Enters 1 ∷ []) ∷ [])
  -- right: nobody's word in a later use of the cell, though a store of the earlier use is known
  pub right_anew : ReadsRight ((Loads anew 0 0 0 1 ∷ []) ∷ (Stores cell 5 0 ∷ Enters 1 ∷ []) ∷ [])
  -- a store of the earlier use, read in the later one
  pub earlier_use : NeverReads ((Loads anew 5 2 0 1 ∷ []) ∷ (Stores cell 5 0 ∷ Enters 1 ∷ []) ∷ [])
  -- the process's own store before its last
  pub store_before : NeverReads ((Stores cell 5 0 ∷ Stores cell 6 0 ∷ Loads cell 5 1 0 0 ∷ []) ∷ [])
  -- nobody's word after an own store
  pub nobodys : NeverReads ((Stores cell 5 0 ∷ Loads cell 0 0 0 0 ∷ []) ∷ [])
  -- a store under another process's number
  pub other_writer : NeverReads ((Loads cell 5 3 0 0 ∷ []) ∷ (Stores cell 5 0 ∷ []) ∷ [])
  -- another value than was stored
  pub other_value : NeverReads ((Loads cell 6 2 0 0 ∷ []) ∷ (Stores cell 5 0 ∷ []) ∷ [])
  -- another process's store, whose later store there is known by the entry after it
  pub replaced : NeverReads ((Loads cell 5 2 0 1 ∷ []) ∷ (Stores cell 5 0 ∷ Stores cell 6 0 ∷ Enters 1 ∷ []) ∷ [])
  -- nobody's word where a store is known
  pub forgotten : NeverReads ((Loads cell 0 0 0 1 ∷ []) ∷ (Stores cell 5 0 ∷ Enters 1 ∷ []) ∷ [])
  -- another process's one store again, after one of a third was sighted
  pub again : NeverReads
      ((Loads cell 5 2 0 0 ∷ Loads cell 9 3 0 0 ∷ Loads cell 5 2 0 0 ∷ [])
      ∷ (Stores cell 5 0 ∷ []) ∷ (Stores cell 9 0 ∷ []) ∷ [])
