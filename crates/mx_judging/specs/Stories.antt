-- The order in which a run is told: a merge of what its processes did, and in time.
use Rattle.std.specs.Prelude.{◌≡◌, ℕ, ◌+◌, ◌==◌, ◌≤◌, ◌<◌, List, [], map, length, get_or}
use Rattle.std.specs.List.{filter, range_with_len}
use Rattle.mx_judging.specs.declared.courses.Course.{Course}
use Rattle.mx_judging.specs.declared.courses.Moment.{Moment}
use Rattle.mx_judging.specs.declared.order.Turn.{Turn}

-- the times of the moments of each process, in their order
abbrev pub Times : Type 0
Times = List (List ℕ)

abbrev pub times_of : List Course → Times
times_of courses = map (λ (course : Course). map (λ (moment : Moment). moment.time) course.moments.items) courses

-- no time is before the one that stands before it
pub record NeverFalls (times : List ℕ) : Type 0 where
  pub each : (i : ℕ) → i + 1 < length times → get_or times i 0 ≤ get_or times (i + 1) 0

-- nor is any of a process's
pub record AreRising (times : Times) : Type 0 where
  pub each : (p : ℕ) → NeverFalls (get_or times p [])

-- the places of the moments of a process that are told, in the order in which they are
abbrev pub places_of : ℕ → List Turn → List ℕ
places_of p turns = map (λ (turn : Turn). turn.place) (filter (λ (turn : Turn). turn.process == p) turns)

-- the moments of each process are told, each once and in their order
pub record IsMerge (times : Times) (turns : List Turn) : Type 0 where
  pub each : (p : ℕ) → places_of p turns ≡ range_with_len 0 (length (get_or times p []))

-- the time of a moment in its turn
abbrev pub time_in : Times → Turn → ℕ
time_in times turn = get_or (get_or times turn.process []) turn.place 0

-- none is told behind one of a later time
pub record IsInTime (times : Times) (turns : List Turn) : Type 0 where
  pub never : NeverFalls (map (time_in times) turns)
