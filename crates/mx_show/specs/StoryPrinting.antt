-- What a story adds to a sink: one text, which begins with how many processes and entries there are. What it tells is of no definition.
use Rattle.std.specs.Prelude.{◌≡◌, ◌++◌, ℕ, List, Option}
use Rattle.mx_io.specs.Bytes.{Appends}
use Rattle.mx_script.specs.Sessions.{Outline}
use Rattle.mx_show.specs.Lines.{opening_text}
use Rattle.mx_state.specs.declared.journal.Entry as journaled
use Rattle.mx_text.specs.Printing.{IsSent}

-- it begins with the counts of the run
pub record IsStory (x : Outline) (journal : List journaled.Entry) (text : List ℕ) : Type 0 where
  pub told : List ℕ
  pub text_is : text ≡ opening_text x journal ++ told

-- the sink gained one such text
pub record GainsStory (x : Outline) (journal : List journaled.Entry) (before after : Option (List ℕ)) : Type 0 where
  pub text : List ℕ
  pub story : IsStory x journal text
  pub gained : Appends before after text

-- something was told behind what stood in a buffer, and a part of all was sent
pub record PrintsSome (sink sink' : Option (List ℕ)) (before rest : List ℕ) : Type 0 where
  pub text : List ℕ
  pub is_sent : IsSent sink sink' rest (before ++ text)
