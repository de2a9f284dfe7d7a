-- Helpers of the cutting: which lines the moments of a process begin, and up to what time they go.
use Rattle.std.specs.Prelude.{◌≡◌, ℕ, ◌==◌, ◌≤◌, ◌<◌, List, map, length, get_or}
use Rattle.std.specs.List.{filter}
use Rattle.mx_transcript.specs.Transcripts.{Step}
use Rattle.mx_judging.specs.Stories.{NeverFalls}
use Rattle.mx_judging.specs.declared.courses.Course.{Course}
use Rattle.mx_judging.specs.declared.courses.Moment.{Moment}

-- the times of moments
abbrev pub times : List Moment → List ℕ
times moments = map (λ (moment : Moment). moment.time) moments

-- the lines that they begin: no event of the line came before
abbrev pub lines_begun : List Moment → List ℕ
lines_begun moments = map (λ (moment : Moment). moment.line) (filter (λ (moment : Moment). moment.first == 0) moments)

-- those of each process
abbrev pub all_begun : List Course → List (List ℕ)
all_begun courses = map (λ (course : Course). lines_begun course.moments.items) courses

-- the lines of a transcript
abbrev pub numbers_of : List Step → List ℕ
numbers_of steps = map (λ (step : Step). step.0) steps

-- the times never fall, and none is later than this one
pub record IsUpTo (times : List ℕ) (now : ℕ) : Type 0 where
  pub never : NeverFalls times
  pub most : (i : ℕ) → i < length times → get_or times i 0 ≤ now
