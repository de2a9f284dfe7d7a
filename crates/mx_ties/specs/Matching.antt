-- The read rule said of traces, by fronts, and of transcripts, by entries after a store.
use Rattle.std.specs.Prelude.{◌≡◌, ℕ, ◌<◌, map, Some, slice_get}
use Rattle.mx_reads.specs.Deeds.{CellUse, Deed, Deeds}
use Rattle.mx_reads.specs.ReadRule.{Fronts, known_by, AreRightReads}
use Rattle.mx_transcript.specs.Reads.{IsKnown}
use Rattle.mx_ties.specs.Acts.{IsAct, acts, acts_before}
use Rattle.mx_ties.specs.Uses.{renamed, AreApart}

-- the acts of each process are its trace, and the same stores are known
pub record Matches (use_at : CellUse → CellUse) (done trace : Deeds) (front : Fronts) : Type 0 where
  pub apart : AreApart use_at done
  pub traced : (p : ℕ) → map (renamed use_at) (acts (done p)) ≡ trace p
  pub known_to : (u place q : ℕ) (d : Deed) → IsAct d → slice_get (done u) place ≡ Some d
      → IsKnown done u place q → acts_before (done u) place < front u q
  pub known_from : (u place q : ℕ) (d : Deed) → IsAct d → slice_get (done u) place ≡ Some d
      → acts_before (done u) place < front u q → IsKnown done u place q

-- then reads that are right in the traces are right in the transcripts
abbrev pub TransportLaw : Type 0
TransportLaw = (use_at : CellUse → CellUse) (done trace : Deeds) (front : Fronts) → Matches use_at done trace front
    → AreRightReads trace (known_by front) → AreRightReads done (IsKnown done)
