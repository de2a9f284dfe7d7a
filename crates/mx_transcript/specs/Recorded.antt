-- Helpers: how transcripts are kept. All events of a process stand in one list, and each line says where its own end.
use Rattle.std.specs.Prelude.{◌≡◌, ℕ, ◌+◌, ◌-◌, ◌≤◌, min, nat_lt, Bool, List, [], ◌∷◌, take, drop, length, ⊤}
use Rattle.mx_transcript.specs.Transcripts.{Step}
use Rattle.mx_transcript.specs.declared.transcripts.Event2.{Event2}
use Rattle.mx_transcript.specs.declared.transcripts.LineEnd.{LineEnd}

-- the lines that end so, where the events begin with the one of this number
abbrev pub steps_from : ℕ → List Event2 → List LineEnd → List Step
steps_from begun events [] = []
steps_from begun events (line ∷ lines) =
    (line.number, take (line.end - begun) events, line.result) ∷ steps_from line.end (drop (line.end - begun) events) lines

-- the events after the last line's end
abbrev pub left_from : ℕ → List Event2 → List LineEnd → List Event2
left_from begun events [] = events
left_from begun events (line ∷ lines) = left_from line.end (drop (line.end - begun) events) lines

-- no line ends before it begins, nor beyond the events
abbrev pub AreEnds : ℕ → List Event2 → List LineEnd → Type 0
AreEnds begun events [] = ⊤
AreEnds begun events (line ∷ lines) =
    (begun ≤ line.end) × (line.end ≤ begun + length events) × AreEnds line.end (drop (line.end - begun) events) lines

-- the lines that have ended and the events of the line at work; whether there is room for one more event, and for how
-- many; and whether there is room for the end of one more line
pub record Recorded : Type 0 where
  pub steps : List Step
  pub events : List Event2
  pub event_room : Bool
  pub spare : ℕ
  pub line_room : Bool

abbrev pub recorded : List Event2 → List LineEnd → ℕ → ℕ → Recorded
recorded events lines most_events most_lines = record {
  steps = steps_from 0 events lines;
  events = left_from 0 events lines;
  event_room = nat_lt (length events) (min most_events 4294967295);
  spare = min most_events 4294967295 - length events;
  line_room = nat_lt (length lines) most_lines;
}

-- what is recorded is what it was
pub record IsStill (old new : Recorded) : Type 0 where
  pub steps : new.steps ≡ old.steps
  pub events : new.events ≡ old.events

-- events can be counted in 32 bits
pub record IsFew (events : List Event2) (lines : List LineEnd) : Type 0 where
  pub few : length events ≤ 4294967295
  pub ends : AreEnds 0 events lines
