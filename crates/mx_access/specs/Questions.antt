-- Helpers that only private contracts cite: what the plain supervisor is asked about events, when, and what it says.
use Rattle.std.specs.Prelude.{◌≡◌, ℕ, suc, ◌-◌, ◌≤◌, ◌<◌, nat_lt, min, Bool, true, false, if◌then◌else◌, List, [], ◌∷◌, ◌++◌, length, map, take, Some, slice_get, slice_index_or}
use Rattle.std.specs.List.{Contains}
use Rattle.mx_access.specs.declared.questions.Question.{Question}
use Rattle.mx_access.specs.declared.questions.Turn.{Turn}
use Rattle.mx_core.specs.declared.elements.Event.TheVariants.{Seen, Missing}
use Rattle.mx_transcript.specs.Transcripts.{Step, events_of}
use Rattle.mx_transcript.specs.declared.transcripts.Event2.{Event2}
use Rattle.mx_transcript.specs.declared.transcripts.Event2.TheVariants.{Core, Entry}

-- about an event of process p, in a journal of so many entries: a reference at its point, a miss before and after its
-- entry, and of what the process entered nothing of note
abbrev pub question_of : ℕ → ℕ → Event2 → Question
question_of entries p (Core (Seen element)) = record {
  process = p;
  segno = element.segno;
  word = element.word;
  before = min element.point entries;
  point = min element.point entries;
}
question_of entries p (Core (Missing segno by)) = record {
  process = p;
  segno = segno;
  word = 0;
  before = min (by - 1) entries;
  point = min by entries;
}
question_of entries p (Entry number) = record { process = p; segno = 0; word = 0; before = 0; point = 0 }

-- about the events of process p and those after it
abbrev pub questions_from : ℕ → ℕ → List (List Event2) → List Question
questions_from entries p [] = []
questions_from entries p (events ∷ parts) = map (question_of entries p) events ++ questions_from entries (suc p) parts

-- about the events of transcripts
abbrev pub asked_of : ℕ → List (List Step) → List Question
asked_of entries transcripts = questions_from entries 0 (map events_of transcripts)

-- behind how many of these questions those of each process begin
pub record AreStarts (entries : ℕ) (transcripts : List (List Step)) (starts : List ℕ) : Type 0 where
  pub long : length starts ≡ length transcripts
  pub each : (p : ℕ) → p < length transcripts
      → slice_index_or starts p 0 ≡ length (questions_from entries 0 (take p (map events_of transcripts)))

-- its points are those of the journal
pub record IsWithin (entries : ℕ) (question : Question) : Type 0 where
  pub point : question.point ≤ entries
  pub before : question.before ≤ entries

abbrev pub AreWithin : ℕ → List Question → Type 0
AreWithin entries questions = (at : ℕ) (question : Question) → slice_get questions at ≡ Some question → IsWithin entries question

-- the question at a place is answered at its point, and where that is another, also at the point before
abbrev pub point_in : Question → Bool → ℕ
point_in question true = question.before
point_in question false = question.point

-- when, about which word of which process; each process from 65,535 on bears that number
abbrev pub turn : ℕ → Question → Bool → Turn
turn at question is_before = record {
  point = point_in question is_before;
  at = at;
  process = min question.process 65535;
  segno = question.segno;
  word = question.word;
  is_before = is_before;
}

abbrev pub turns_at : ℕ → Question → List Turn
turns_at at question =
    turn at question false ∷ (if nat_lt question.before question.point then turn at question true ∷ [] else [])

-- of questions, the first of which stands at a place
abbrev pub turns_from : ℕ → List Question → List Turn
turns_from at [] = []
turns_from at (question ∷ questions) = turns_at at question ++ turns_from (suc at) questions

pub record IsTurn (questions : List Question) (t : Turn) : Type 0 where
  pub question : Question
  pub is : slice_get questions t.at ≡ Some question
  pub whole : t ≡ turn t.at question t.is_before

-- the turns of the first so many questions, and no others
pub record AreTurns (questions : List Question) (count : ℕ) (turns : List Turn) : Type 0 where
  pub each : (t : Turn) → Contains turns t → IsTurn questions t
  pub now : (at : ℕ) (question : Question) → at < count → slice_get questions at ≡ Some question
      → Contains turns (turn at question false)
  pub before : (at : ℕ) (question : Question) → at < count → slice_get questions at ≡ Some question
      → question.before < question.point → Contains turns (turn at question true)

-- the turns of all questions about the events of transcripts
abbrev pub AreTurnsOf : ℕ → List (List Step) → List Turn → Type 0
AreTurnsOf entries transcripts turns = AreTurns (asked_of entries transcripts) (length (asked_of entries transcripts)) turns
