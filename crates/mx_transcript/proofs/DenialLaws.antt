-- Laws of the denials of a transcript: one line more, and how the last line is kept.
use Rattle.std.proofs.Common.{◌≡◌, ℕ, suc, ◌-◌, ◌≤◌, List, [], ◌∷◌, ◌++◌, drop, length, Option, Some, None, slice_get, refl, ap, ◌∙◌, arith}
use Rattle.std.specs.List.{cons_option}
use Rattle.std.proofs.lemmas.List.Elements.{filter_map-append}
use Rattle.mx_sdw.specs.declared.denials.Denial.{Denial}
use Rattle.mx_transcript.specs.declared.transcripts.Event2.{Event2}
use Rattle.mx_transcript.specs.declared.transcripts.LineEnd.{LineEnd}
use Rattle.mx_transcript.specs.declared.transcripts.Result2.{Result2}
use Rattle.mx_transcript.specs.declared.transcripts.Result2.TheVariants.{Done, A, Pr, Moved, Denied, Refused, HistoryFull}
use Rattle.mx_transcript.specs.Denials.{denied_with, denial_of, denials, last_denial}
use Rattle.mx_transcript.specs.Recorded.{Recorded, recorded, steps_from}
use Rattle.mx_transcript.specs.Transcripts.{Step}

-- the denial of a line that is kept, if there is the line
abbrev pub kept_denial : Option LineEnd → Option (ℕ × Denial)
kept_denial None = None
kept_denial (Some line) = denied_with line.number line.result

pub not_denied : (number : ℕ) (result : Result2) → ((denial : Denial) → result ≡ Denied denial → ⊥) → None ≡ denied_with number result
not_denied number (Denied denial) other = absurd (other denial refl)
not_denied number Done other = refl
not_denied number (A word) other = refl
not_denied number (Pr n pointer) other = refl
not_denied number (Moved ring procedure) other = refl
not_denied number Refused other = refl
not_denied number HistoryFull other = refl

kept_from : (begun : ℕ) (events : List Event2) (line : LineEnd) (lines : List LineEnd)
    → kept_denial (slice_get (line ∷ lines) (length lines)) ≡ last_denial (steps_from begun events (line ∷ lines))
kept_from begun events line [] = refl
kept_from begun events line (next ∷ lines) = kept_from line.end (drop (line.end - begun) events) next lines

-- the line that is kept last tells the last denial
pub last_kept : (now : Recorded) (events : List Event2) (lines : List LineEnd) (most most' : ℕ) → recorded events lines most most' ≡ now
    → kept_denial (slice_get lines (length lines - 1)) ≡ last_denial now.steps
last_kept now events [] most most' is = ap (λ (r : Recorded). last_denial r.steps) is
last_kept now events (line ∷ lines) most most' is =
    let n : suc (length lines) - 1 ≡ length lines = omega arith in
    ap (λ i. kept_denial (slice_get (line ∷ lines) i)) n
    ∙ (kept_from 0 events line lines ∙ ap (λ (r : Recorded). last_denial r.steps) is)

-- the last denial is that of the line that came last
pub last_of : (steps : List Step) (step : Step) → last_denial (steps ++ step ∷ []) ≡ denial_of step
last_of [] step = refl
last_of (first ∷ []) step = refl
last_of (first ∷ next ∷ steps) step = last_of (next ∷ steps) step

-- the denials of lines and then of others
pub denials_append : (steps others : List Step) → denials (steps ++ others) ≡ denials steps ++ denials others
denials_append steps others = filter_map-append denial_of steps others

-- at most a denial a line
few_more : (first : Option (ℕ × Denial)) (ds : List (ℕ × Denial)) (n : ℕ) → length ds ≤ n → length (cons_option first ds) ≤ suc n
few_more None ds n few = omega arith
few_more (Some denial) ds n few = omega arith

pub few_denials : (steps : List Step) → length (denials steps) ≤ length steps
few_denials [] = omega arith
few_denials (step ∷ steps) = few_more (denial_of step) (denials steps) (length steps) (few_denials steps)
