-- What a line came to, in words that do not tell where its entries stand in the journal: the reply to each of its entries, each word
-- that it read, and how it ended. So two runs in which a line was told and given the same have the same outcome of it.
use Rattle.std.specs.Prelude.{ℕ, List, [], ◌∷◌, ◌++◌, map, drop, codes, Option, None, Some}
use Rattle.std.specs.List.{flat_map}
use Rattle.mx_sdw.specs.Octal.{octal}
use Rattle.mx_core.specs.declared.elements.Event.TheVariants.{Seen, Missing}
use Rattle.mx_core.specs.declared.elements.Outcome.{Outcome}
use Rattle.mx_core.specs.declared.elements.Outcome.TheVariants as outcome
use Rattle.mx_request.specs.ReplyTexts.{reply_text}
use Rattle.mx_state.specs.declared.journal.Entry as journaled
use Rattle.mx_text.specs.RunText.{result_text}
use Rattle.mx_transcript.specs.Settings.{entry_at}
use Rattle.mx_transcript.specs.Transcripts.{Step}
use Rattle.mx_transcript.specs.declared.transcripts.Event2.{Event2}
use Rattle.mx_transcript.specs.declared.transcripts.Event2.TheVariants.{Core, Entry}

abbrev pub read_words : Outcome → List ℕ
read_words (outcome.Read value writer stamp) = codes "read " ++ octal value ++ codes ", "
read_words (outcome.Written value) = []
read_words (outcome.Entered ring) = []
read_words (outcome.Denied denial) = []

abbrev pub reply_words : Option journaled.Entry → List ℕ
reply_words None = []
reply_words (Some entry) = reply_text entry.reply ++ codes ", "

abbrev pub event_words : List journaled.Entry → Event2 → List ℕ
event_words journal (Core (Seen element)) = read_words element.outcome
event_words journal (Core (Missing segno by)) = []
event_words journal (Entry number) = reply_words (entry_at journal number)

abbrev pub events_words : List journaled.Entry → List Event2 → List ℕ
events_words journal [] = []
events_words journal (event ∷ events) = event_words journal event ++ events_words journal events

-- the outcome of a line
abbrev pub outcome_of : List journaled.Entry → Step → List ℕ
outcome_of journal step = events_words journal step.1 ++ result_text step.2

-- the outcomes of the lines of a process, and those of the lines of all processes in order
abbrev pub outcomes_of : List journaled.Entry → List Step → List (List ℕ)
outcomes_of journal steps = map (outcome_of journal) steps

abbrev pub outcomes_in : List journaled.Entry → List (List Step) → List (List ℕ)
outcomes_in journal transcripts = flat_map (outcomes_of journal) (drop 1 transcripts)
