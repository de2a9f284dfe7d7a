-- Lines that are right are right as far as any of them; before the first bad one all are.
use Rattle.std.proofs.Common.{◌≡◌, ℕ, zero, suc, ◌≤◌, false, List, [], ◌∷◌, take, refl, ap, subst, arith}
use Rattle.mx_parts.proofs.ListLaws.{take_none}
use Rattle.mx_parts.proofs.OnwardLaws.{fewer, kept, onward}
use Rattle.mx_parts.specs.FirstBad.{AreKept, IsFirstBad}
use Rattle.mx_script.specs.declared.lines.Line.{Line}
use Rattle.mx_transcript.specs.Settings.{Setting}
use Rattle.mx_transcript.specs.Transcripts.{Step}
use Rattle.mx_upcall.specs.Control.{Control}

pub kept_to : (setting : Setting) (start : Control) (lines : List (ℕ × Line)) (steps : List Step) (k : ℕ)
    → AreKept setting start lines steps → AreKept setting start lines (take k steps)
kept_to setting start lines steps k are =
    kept setting start lines (take k steps) (fewer setting start false lines steps k (onward setting start lines steps are))

take_of_take : {A : Type 0} (k n : ℕ) (xs : List A) → k ≤ n → take k (take n xs) ≡ take k xs
take_of_take k n [] h = ap (take k) (take_none n)
take_of_take zero zero (x ∷ xs) h = refl
take_of_take zero (suc n) (x ∷ xs) h = refl
take_of_take (suc k) zero (x ∷ xs) h = absurd (omega (arith, h))
take_of_take (suc k) (suc n) (x ∷ xs) h = ap (λ ys. x ∷ ys) (take_of_take k n xs (omega (arith, h)))

pub fewer_kept : (setting : Setting) (start : Control) (lines : List (ℕ × Line)) (steps : List Step) (j k : ℕ) → j ≤ k
    → AreKept setting start lines (take k steps) → AreKept setting start lines (take j steps)
fewer_kept setting start lines steps j k h are =
    subst (AreKept setting start lines) (take_of_take j k steps h) (kept_to setting start lines (take k steps) j are)

pub kept_before : (setting : Setting) (start : Control) (lines : List (ℕ × Line)) (steps : List Step) (place k : ℕ)
    → IsFirstBad setting start lines steps place → k ≤ place → AreKept setting start lines (take k steps)
kept_before setting start lines steps place k bad h = fewer_kept setting start lines steps k place h bad.before
