-- The lines of a transcript that were denied.
use Rattle.std.specs.Prelude.{ℕ, List, [], ◌∷◌, Option, Some, None}
use Rattle.std.specs.List.{filter_map}
use Rattle.mx_sdw.specs.declared.denials.Denial.{Denial}
use Rattle.mx_transcript.specs.declared.transcripts.Result2.{Result2}
use Rattle.mx_transcript.specs.declared.transcripts.Result2.TheVariants.{Denied}
use Rattle.mx_transcript.specs.Transcripts.{Step}

-- the denial with which a line of this number ended, with the number; none where its result is another
abbrev pub denied_with : ℕ → Result2 → Option (ℕ × Denial)
denied_with number (Denied denial) = Some (number, denial)
denied_with number _ = None

abbrev pub denial_of : Step → Option (ℕ × Denial)
denial_of step = denied_with step.0 step.2

-- all denials of a transcript in order, each with its line's number
abbrev pub denials : List Step → List (ℕ × Denial)
denials steps = filter_map denial_of steps

-- the denial of the last line, where it was denied
abbrev pub last_denial : List Step → Option (ℕ × Denial)
last_denial [] = None
last_denial (step ∷ []) = denial_of step
last_denial (step ∷ next ∷ steps) = last_denial (next ∷ steps)
