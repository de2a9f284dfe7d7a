-- Helpers that only private contracts cite: how far a run text was read, and where one more line leads.
use Rattle.std.specs.Prelude.{◌≡◌, ℕ, ◌+◌, ◌==◌, ◌≤◌, nat_lt, Bool, true, false, List, [], ◌∷◌, ◌++◌, length, Option, None, Some, codes, if◌then◌else◌}
use Rattle.std.specs.Cmp.Lexicographic.{pointwise}
use Rattle.std.specs.List.{list_all}
use Rattle.mx_name.specs.Names.{is_free}
use Rattle.mx_reader.specs.Fields.{entry_number_at, process_at}
use Rattle.mx_reader.specs.ReadingEntries.{entry_at}
use Rattle.mx_reader.specs.ReadingEvents.{end_at, event_at}
use Rattle.mx_reader.specs.declared.drafts.Heading.{Heading}
use Rattle.mx_reader.specs.declared.drafts.Heading.TheVariants as heading
use Rattle.mx_reader.specs.declared.drafts.Stage.{Stage}
use Rattle.mx_reader.specs.declared.drafts.Stage.TheVariants as stage
use Rattle.mx_request.specs.Steps.{◌>>=◌, when}
use Rattle.mx_script.specs.Fronts.{after}
use Rattle.mx_script.specs.SessionTexts.{lines_text}
use Rattle.mx_state.specs.declared.journal.Entry as journaled
use Rattle.mx_transcript.specs.Recorded.{Recorded}
use Rattle.mx_transcript.specs.Transcripts.{Step}
use Rattle.mx_transcript.specs.declared.transcripts.Event2.{Event2}
use Rattle.mx_transcript.specs.declared.transcripts.Result2.{Result2}

-- no line yet; the count of entries, and those so far; and the parts that are whole, and one more with its lines so far and
-- the events of the line at work; and the end
pub data Progress : Type 0 where
  Nothing : Progress
  Counted : ℕ → List journaled.Entry → Progress
  Within : List journaled.Entry → List (List Step) → List Step → List Event2 → Progress
  Ended : List journaled.Entry → List (List Step) → Progress

-- whether there are events
abbrev pub is_some_event : List Event2 → Bool
is_some_event [] = false
is_some_event (event ∷ events) = true

-- of what is kept, what counts at a stage
abbrev pub progress_at : Stage → ℕ → List journaled.Entry → List (List Step) → List Step → List Event2 → Progress
progress_at stage.Nothing count journal parts steps events = Nothing
progress_at stage.Counted count journal parts steps events = Counted count journal
progress_at stage.Within count journal parts steps events = Within journal parts steps events
progress_at stage.Ended count journal parts steps events = Ended journal parts

-- `journal COUNT`
abbrev pub count_at : List ℕ → Option ℕ
count_at line = after (codes "journal ") line >>= λ text. entry_number_at text

-- `process P`, of this number
abbrev pub part_at : ℕ → List ℕ → Option ℕ
part_at number line = after (codes "process ") line >>= λ text. process_at text >>= λ p. when (p == number) p

-- behind so many whole parts: the end, or one more
abbrev pub heading_at : ℕ → List ℕ → Option Heading
heading_at number line =
    if pointwise ◌==◌ line (codes "end") then Some heading.End else (part_at number line >>= λ p. Some heading.Part)

abbrev pub headed : List journaled.Entry → List (List Step) → Heading → Progress
headed journal parts heading.End = Ended journal parts
headed journal parts heading.Part = Within journal parts [] []

abbrev pub head_step : List journaled.Entry → List (List Step) → List ℕ → Option Progress
head_step journal parts line = heading_at (length parts) line >>= λ next. Some (headed journal parts next)

-- in a part: one more event, or the end of the line at work
abbrev pub line_by : List Step → List Event2 → Option Event2 → Option (ℕ × Result2) → Option (List Step × List Event2)
line_by steps events (Some event) ends = Some (steps, events ++ event ∷ [])
line_by steps events None (Some ends) = Some (steps ++ (ends.0, events, ends.1) ∷ [], [])
line_by steps events None None = None

abbrev pub line_step : List Step → List Event2 → List ℕ → Option (List Step × List Event2)
line_step steps events line = line_by steps events (event_at line) (end_at line)

-- or, where no line is at work, what stands behind the part
abbrev pub within_by : List journaled.Entry → List (List Step) → List Step → List Event2 → List ℕ → Option (List Step × List Event2)
    → Option Progress
within_by journal parts steps events line (Some p) = Some (Within journal parts p.0 p.1)
within_by journal parts steps [] line None = head_step journal (parts ++ steps ∷ []) line
within_by journal parts steps (event ∷ events) line None = None

-- behind the count: entries, as many as it says
abbrev pub counted_step : ℕ → List journaled.Entry → List ℕ → Option Progress
counted_step count journal line =
    if nat_lt (length journal) count
    then (entry_at (length journal + 1) line >>= λ entry. Some (Counted count (journal ++ entry ∷ [])))
    else head_step journal [] line

-- where one more line leads, if it can stand there
abbrev pub step : Progress → List ℕ → Option Progress
step Nothing line = count_at line >>= λ count. Some (Counted count [])
step (Counted count journal) line = counted_step count journal line
step (Within journal parts steps events) line = within_by journal parts steps events line (line_step steps events line)
step (Ended journal parts) line = None

-- where lines lead
abbrev pub run : List (List ℕ) → Progress → Option Progress
run [] progress = Some progress
run (line ∷ lines) progress = step progress line >>= run lines

-- these bytes are whole lines that lead here, the next of which has this number, and this rest
pub record HasRead (spelled rest : List ℕ) (number : ℕ) (progress : Progress) : Type 0 where
  pub lines : List (List ℕ)
  pub parts : spelled ≡ lines_text lines ++ rest
  pub next : number ≡ length lines + 1
  pub whole : list_all (is_free 10) lines ≡ true
  pub leads : run lines Nothing ≡ Some progress

-- the run that was read, if it has ended and nothing follows
abbrev pub finished : Progress → List ℕ → Option (List journaled.Entry × List (List Step))
finished (Ended journal parts) [] = Some (journal, parts)
finished _ _ = None

-- the journal, if its entries were read, as many as were counted, and nothing follows
abbrev pub all_counted : Progress → List ℕ → Option (List journaled.Entry)
all_counted (Counted count journal) [] = when (length journal == count) journal
all_counted _ _ = None

-- what is kept: few entries are counted, and it is known whether a line is at work
pub record IsDraft (count : ℕ) (open_line : Bool) (events : List Event2) : Type 0 where
  pub few : count ≤ 262143
  pub at_work : open_line ≡ is_some_event events

-- what comes of a line in a part: whether a line is at work then, and where it leads
abbrev pub Follows : Recorded → List ℕ → Recorded → Option Bool → Type 0
Follows before line next None = (line_step before.steps before.events line ≡ None) × (next ≡ before)
Follows before line next (Some at_work) =
    (line_step before.steps before.events line ≡ Some (next.steps, next.events)) × (at_work ≡ is_some_event next.events)
