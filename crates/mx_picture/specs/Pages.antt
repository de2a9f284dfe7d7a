-- What a page adds: one text that begins and ends as a page of HTML does, with the drawing of the run within. What else stands in it is
-- of no definition.
use Rattle.std.specs.Prelude.{◌≡◌, ◌++◌, ℕ, List, Option, codes}
use Rattle.mx_io.specs.Bytes.{Appends}
use Rattle.mx_picture.specs.Drawings.{IsDrawing}
use Rattle.mx_script.specs.Sessions.{Outline}
use Rattle.mx_state.specs.declared.journal.Entry as journaled
use Rattle.mx_transcript.specs.Transcripts.{Step}

-- it begins and ends as a page does, and the drawing of the run stands within
pub record IsPage (x : Outline) (journal : List journaled.Entry) (transcripts : List (List Step)) (page : List ℕ) : Type 0 where
  pub above : List ℕ
  pub drawing : List ℕ
  pub below : List ℕ
  pub is_drawing : IsDrawing x journal transcripts drawing
  pub frame : page ≡ codes "<!DOCTYPE html>" ++ above ++ drawing ++ below ++ codes "</html>\n"

-- the sink gained one such page
pub record GainsPage (before after : Option (List ℕ)) (x : Outline) (journal : List journaled.Entry)
    (transcripts : List (List Step)) : Type 0 where
  pub page : List ℕ
  pub whole : IsPage x journal transcripts page
  pub gained : Appends before after page

-- the parts of a page: its beginning, some text, and its end
pub record GainsTop (before after : Option (List ℕ)) : Type 0 where
  pub above : List ℕ
  pub gained : Appends before after (codes "<!DOCTYPE html>" ++ above)

pub record Gains (before after : Option (List ℕ)) : Type 0 where
  pub text : List ℕ
  pub gained : Appends before after text

pub record GainsBottom (before after : Option (List ℕ)) : Type 0 where
  pub below : List ℕ
  pub gained : Appends before after (below ++ codes "</html>\n")
