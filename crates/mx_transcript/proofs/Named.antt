-- The entries that events name.
use Rattle.std.proofs.Common.{◌≡◌, ℕ, List, [], ◌∷◌, ◌++◌, refl, ap}
use Rattle.mx_transcript.specs.declared.transcripts.Event2.{Event2}
use Rattle.mx_transcript.specs.declared.transcripts.Event2.TheVariants.{Core, Entry}
use Rattle.mx_transcript.specs.Transcripts.{entries_named}

pub named_append : (a b : List Event2) → entries_named (a ++ b) ≡ entries_named a ++ entries_named b
named_append [] b = refl
named_append (Entry number ∷ a) b = ap (λ (l : List ℕ). number ∷ l) (named_append a b)
named_append (Core event ∷ a) b = named_append a b
