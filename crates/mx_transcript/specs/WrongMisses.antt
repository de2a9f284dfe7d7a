-- Wrong misses, each one change away from the right ones beside them: the miss rule refuses them. Process 1 misses by
-- entries of a journal of five, of which the third is its own. All but the fifth changed every descriptor of the process.
use Rattle.std.specs.Prelude.{◌≢◌, ℕ, List, [], ◌∷◌}
use Rattle.mx_request.specs.declared.replies.Reply.TheVariants as reply
use Rattle.mx_request.specs.declared.requests.Request.TheVariants.{Resume}
use Rattle.mx_state.specs.declared.journal.Entry as journaled
use Rattle.mx_reads.specs.Deeds.{Deed, Enters, Misses}
use Rattle.mx_transcript.specs.Misses.{AreRightMisses}

-- an entry of a process
abbrev pub by_process : ℕ → journaled.Entry
by_process p = record { process = p; ring = 4; request = Resume; reply = reply.Nobody }

abbrev pub journal : List journaled.Entry
journal = by_process 2 ∷ by_process 2 ∷ by_process 1 ∷ by_process 3 ∷ by_process 2 ∷ []

abbrev pub changes : ℕ → ℕ → Type 0
changes segno by = by ≢ 5

abbrev pub MayMiss : List Deed → Type 0
MayMiss done = AreRightMisses journal changes 1 done

abbrev pub NeverMisses : List Deed → Type 0
NeverMisses done = MayMiss done → ⊥

pub record WrongMisses : Type 0 where
  -- right: the entries rise for each number by itself, and those missed before the own entry come before it
  pub right_misses : MayMiss (Misses 8 1 ∷ Misses 8 2 ∷ Misses 9 1 ∷ Enters 3 ∷ Misses 8 4 ∷ [])
  -- by an entry of its own
  pub own_entry : NeverMisses (Misses 8 3 ∷ [])
  -- by an entry that left the descriptor as it was
  pub unchanged : NeverMisses (Misses 8 5 ∷ [])
  -- by the same entry twice, of the same number
  pub twice : NeverMisses (Misses 8 2 ∷ Misses 8 2 ∷ [])
  -- by an earlier entry after a later one, also with an own entry between
  pub earlier : NeverMisses (Misses 8 2 ∷ Misses 8 1 ∷ [])
  pub earlier_after_own : NeverMisses (Misses 8 2 ∷ Enters 3 ∷ Misses 8 1 ∷ [])
  -- by the entry that the process makes next, were it another's; by one after it
  pub at_next : NeverMisses (Misses 8 4 ∷ Enters 4 ∷ [])
  pub after_next : NeverMisses (Misses 8 4 ∷ Enters 3 ∷ [])
  -- by no entry: there is none before the first, and none after the last
  pub none_before : NeverMisses (Misses 8 0 ∷ [])
  pub beyond : NeverMisses (Misses 8 6 ∷ [])
