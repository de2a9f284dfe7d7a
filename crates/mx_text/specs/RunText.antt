-- The run text: how a journal and transcripts are printed.
use Rattle.std.specs.Prelude.{ℕ, ◌+◌, List, [], ◌∷◌, ◌++◌, length, codes}
use Rattle.std.specs.Fmt.{decimal}
use Rattle.mx_sdw.specs.Denials.{denial_text}
use Rattle.mx_sdw.specs.Octal.{octal}
use Rattle.mx_core.specs.declared.elements.Element.{Element}
use Rattle.mx_core.specs.declared.elements.Event.TheVariants.{Seen, Missing}
use Rattle.mx_core.specs.declared.elements.Kind.{Kind}
use Rattle.mx_core.specs.declared.elements.Kind.TheVariants as kind
use Rattle.mx_core.specs.declared.elements.Outcome.{Outcome}
use Rattle.mx_core.specs.declared.elements.Outcome.TheVariants as outcome
use Rattle.mx_ptr.specs.Pointers.{PointerParts}
use Rattle.mx_state.specs.declared.journal.Entry as journaled
use Rattle.mx_transcript.specs.declared.transcripts.Event2.{Event2}
use Rattle.mx_transcript.specs.declared.transcripts.Event2.TheVariants.{Core, Entry}
use Rattle.mx_transcript.specs.declared.transcripts.Result2.{Result2}
use Rattle.mx_transcript.specs.declared.transcripts.Result2.TheVariants as result
use Rattle.mx_request.specs.Fields.{address_text}
use Rattle.mx_request.specs.ReplyTexts.{reply_text}
use Rattle.mx_request.specs.RequestTexts.{request_text}
use Rattle.mx_transcript.specs.Transcripts.{Step}

-- `NUMBER PROCESS RING REQUEST = REPLY`, and a newline
abbrev pub entry_text : ℕ → journaled.Entry → List ℕ
entry_text number entry =
    decimal number ++ codes " " ++ decimal entry.process ++ codes " " ++ decimal entry.ring ++ codes " "
    ++ request_text entry.request ++ codes " = " ++ reply_text entry.reply ++ codes "\n"

-- entries, the first of this number
abbrev pub entries_text : ℕ → List journaled.Entry → List ℕ
entries_text number [] = []
entries_text number (entry ∷ entries) = entry_text number entry ++ entries_text (number + 1) entries

abbrev pub kind_text : Kind → List ℕ
kind_text kind.Read = codes "read"
kind_text kind.Ind = codes "ind"
kind_text kind.Write = codes "write"
kind_text kind.Fetch = codes "fetch"
kind_text kind.Call = codes "call"
kind_text kind.Return = codes "return"

abbrev pub outcome_text : Outcome → List ℕ
outcome_text (outcome.Read value writer stamp) =
    codes " word " ++ octal value ++ codes " from " ++ decimal writer ++ codes " stamp " ++ decimal stamp
outcome_text (outcome.Written value) = codes " word " ++ octal value
outcome_text (outcome.Entered ring) = codes " enter " ++ decimal ring
outcome_text (outcome.Denied denial) = codes " denied " ++ denial_text denial

-- `KIND S|W ring R point K ..`
abbrev pub element_text : Element → List ℕ
element_text element =
    kind_text element.kind ++ codes " " ++ address_text element.segno element.word ++ codes " ring " ++ decimal element.ring
    ++ codes " point " ++ decimal element.point ++ outcome_text element.outcome ++ codes "\n"

abbrev pub event_text : Event2 → List ℕ
event_text (Core (Seen element)) = element_text element
event_text (Core (Missing segno by)) = codes "missing " ++ octal segno ++ codes " by " ++ decimal by ++ codes "\n"
event_text (Entry number) = codes "entry " ++ decimal number ++ codes "\n"

abbrev pub events_text : List Event2 → List ℕ
events_text [] = []
events_text (event ∷ events) = event_text event ++ events_text events

-- `N RING S|W`: a pointer register and the pointer that it holds now
abbrev pub register_text : ℕ → PointerParts → List ℕ
register_text number p = decimal number ++ codes " " ++ decimal p.ring ++ codes " " ++ address_text p.segno p.word

abbrev pub result_text : Result2 → List ℕ
result_text result.Done = codes "done"
result_text (result.A word) = codes "a " ++ octal word
result_text (result.Pr number pointer) = codes "pr " ++ register_text number pointer
result_text (result.Moved ring procedure) =
    codes "ring " ++ decimal ring ++ codes " at " ++ address_text procedure.segno procedure.word
result_text (result.Denied denial) = codes "denied " ++ denial_text denial
result_text result.Refused = codes "refused"
result_text result.HistoryFull = codes "history_full"

-- a line: its events, then `line N RESULT`
abbrev pub step_text : Step → List ℕ
step_text step = events_text step.1 ++ codes "line " ++ decimal step.0 ++ codes " " ++ result_text step.2 ++ codes "\n"

abbrev pub steps_text : List Step → List ℕ
steps_text [] = []
steps_text (step ∷ steps) = step_text step ++ steps_text steps

-- the parts of the processes from this one on, each headed `process P`
abbrev pub parts_text : ℕ → List (List Step) → List ℕ
parts_text p [] = []
parts_text p (steps ∷ parts) = codes "process " ++ decimal p ++ codes "\n" ++ steps_text steps ++ parts_text (p + 1) parts

-- `journal COUNT`, the entries, the parts and `end`
abbrev pub run_text : List journaled.Entry → List (List Step) → List ℕ
run_text journal transcripts =
    codes "journal " ++ decimal (length journal) ++ codes "\n" ++ entries_text 1 journal ++ parts_text 0 transcripts ++ codes "end\n"
