-- What the lines and parts of lines of a run text say, each by its text.
use Rattle.std.specs.Prelude.{◌≡◌, ℕ, ◌++◌, Bool, true, ◌&&◌, List, codes}
use Rattle.std.specs.Fmt.{decimal}
use Rattle.mx_reader.specs.RunTexts.{says_event, says_reply, tells_path}
use Rattle.mx_request.specs.ReplyTexts.{reply_text}
use Rattle.mx_request.specs.declared.replies.Reply.{Reply}
use Rattle.mx_spelling.specs.Spelling.{fits_entry, fits_result, is_line_number}
use Rattle.mx_state.specs.declared.journal.Entry as journaled
use Rattle.mx_text.specs.RunText.{entry_text, event_text, result_text}
use Rattle.mx_transcript.specs.declared.transcripts.Event2.{Event2}
use Rattle.mx_transcript.specs.declared.transcripts.Result2.{Result2}

-- the text of a reply that can be said
pub record IsReply (text : List ℕ) (reply : Reply) : Type 0 where
  pub spelled : reply_text reply ≡ text
  pub says : says_reply reply ≡ true

-- the line of an event, without its newline
pub record IsEvent (line : List ℕ) (event : Event2) : Type 0 where
  pub spelled : event_text event ≡ line ++ codes "\n"
  pub says : says_event event ≡ true

-- the line that ends a line's events: its number and its result, without its newline
abbrev pub end_text : ℕ × Result2 → List ℕ
end_text ends = codes "line " ++ decimal ends.0 ++ codes " " ++ result_text ends.1

abbrev pub says_end : ℕ × Result2 → Bool
says_end ends = is_line_number ends.0 && fits_result ends.1

pub record IsEnd (line : List ℕ) (ends : ℕ × Result2) : Type 0 where
  pub spelled : end_text ends ≡ line
  pub says : says_end ends ≡ true

-- the line of an entry of this number, without its newline
abbrev pub says_entry : journaled.Entry → Bool
says_entry entry = fits_entry entry && tells_path entry.reply

pub record IsEntry (number : ℕ) (line : List ℕ) (entry : journaled.Entry) : Type 0 where
  pub spelled : entry_text number entry ≡ line ++ codes "\n"
  pub says : says_entry entry ≡ true
