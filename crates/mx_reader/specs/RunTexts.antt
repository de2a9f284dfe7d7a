-- Run texts: which bytes are the text of a journal and transcripts.
use Rattle.std.specs.Prelude.{◌≡◌, ℕ, Bool, true, false, ◌&&◌, List}
use Rattle.std.specs.List.{list_all}
use Rattle.mx_core.specs.declared.elements.Event.TheVariants.{Seen}
use Rattle.mx_core.specs.declared.elements.Kind.{Kind}
use Rattle.mx_core.specs.declared.elements.Kind.TheVariants as kind
use Rattle.mx_core.specs.declared.elements.Outcome.{Outcome}
use Rattle.mx_core.specs.declared.elements.Outcome.TheVariants as outcome
use Rattle.mx_hier.specs.declared.asking.Status.TheVariants.{Link}
use Rattle.mx_request.specs.RequestTexts.{is_path}
use Rattle.mx_request.specs.declared.replies.Reply.{Reply}
use Rattle.mx_request.specs.declared.replies.Reply.TheVariants.{Status}
use Rattle.mx_spelling.specs.Spelling.{IsSpellable, bounds_reply, fits_event}
use Rattle.mx_state.specs.declared.journal.Entry as journaled
use Rattle.mx_text.specs.RunText.{run_text}
use Rattle.mx_transcript.specs.Transcripts.{Step}
use Rattle.mx_transcript.specs.declared.transcripts.Event2.{Event2}
use Rattle.mx_transcript.specs.declared.transcripts.Event2.TheVariants.{Core}

-- the target of a link is a path, which has at most 168 bytes
abbrev pub tells_path : Reply → Bool
tells_path (Status (Link target)) = is_path target
tells_path _ = true

-- what a line can say of a reference of each kind: a word with the store that it is of, where one is read; a word, where
-- one is written; a ring, where one is entered; and a denial
abbrev pub comes_to : Kind → Outcome → Bool
comes_to which (outcome.Denied denial) = true
comes_to kind.Read (outcome.Read value writer stamp) = true
comes_to kind.Ind (outcome.Read value writer stamp) = true
comes_to kind.Fetch (outcome.Read value writer stamp) = true
comes_to kind.Write (outcome.Written value) = true
comes_to kind.Call (outcome.Entered ring) = true
comes_to kind.Return (outcome.Entered ring) = true
comes_to _ _ = false

abbrev pub tells_outcome : Event2 → Bool
tells_outcome (Core (Seen e)) = comes_to e.kind e.outcome
tells_outcome _ = true

-- a reply and an event that a line can say
abbrev pub says_reply : Reply → Bool
says_reply reply = bounds_reply reply && tells_path reply

abbrev pub says_event : Event2 → Bool
says_event event = fits_event event && tells_outcome event

-- the bytes are the text of this journal and these transcripts
pub record IsRunText (spelled : List ℕ) (journal : List journaled.Entry) (transcripts : List (List Step)) : Type 0 where
  pub spellable : IsSpellable journal transcripts
  pub replies : list_all (λ entry. tells_path entry.reply) journal ≡ true
  pub events : list_all (list_all (λ step. list_all tells_outcome step.1)) transcripts ≡ true
  pub text : spelled ≡ run_text journal transcripts

-- the bytes are the text of some journal and transcripts
abbrev pub IsSomeRun : List ℕ → Type 0
IsSomeRun spelled = (journal : List journaled.Entry) × (transcripts : List (List Step)) × IsRunText spelled journal transcripts
