-- The miss rule: a miss names an entry of another process that changed the descriptor of its pair.
use Rattle.std.specs.Prelude.{◌≡◌, ◌≢◌, ℕ, suc, ◌<◌, List, Some, slice_get}
use Rattle.mx_state.specs.declared.journal.Entry as journaled
use Rattle.mx_script.specs.Sessions.{Outline}
use Rattle.mx_transcript.specs.Access.{descriptor_at}
use Rattle.mx_reads.specs.Deeds.{Deed, Misses}
use Rattle.mx_transcript.specs.Points.{IsNextEntry}
use Rattle.mx_transcript.specs.Settings.{entry_at}

-- entry `by` changed the descriptor of process p and this number
pub record IsChanged (session : Outline) (journal : List journaled.Entry) (p segno by : ℕ) : Type 0 where
  pub before : ℕ
  pub next : by ≡ suc before
  pub differs : descriptor_at session journal by p segno ≢ descriptor_at session journal before p segno

-- the deed at this place, a miss of this number by entry `by`, keeps the rule
pub record IsRightMiss (journal : List journaled.Entry) (is_changed : ℕ → ℕ → Type 0) (p : ℕ) (done : List Deed)
    (place segno by : ℕ) : Type 0 where
  -- entry `by` is there, and another process's
  pub entry : journaled.Entry
  pub at : entry_at journal by ≡ Some entry
  pub other : entry.process ≢ p
  -- it changed the pair
  pub changed : is_changed segno by
  -- the numbers of a pair's misses rise
  pub rising : (before earlier : ℕ) → before < place → slice_get done before ≡ Some (Misses segno earlier)
      → earlier < by
  -- and are below the next own entry
  pub before_next : (number : ℕ) → IsNextEntry done place number → by < number

-- where `is_changed` says of a number and an entry whether the entry changed the descriptor of p and the number
abbrev pub AreRightMisses : List journaled.Entry → (ℕ → ℕ → Type 0) → ℕ → List Deed → Type 0
AreRightMisses journal is_changed p done = (place segno by : ℕ) → slice_get done place ≡ Some (Misses segno by)
    → IsRightMiss journal is_changed p done place segno by
