-- What a drawing adds: one text in the frame of an SVG, which goes to the sink piece by piece. It has one box for each reference of the
-- run. What else stands in it is of no definition.
use Rattle.std.specs.Prelude.{◌++◌, ℕ, List, Option}
use Rattle.mx_io.specs.Bytes.{Appends}
use Rattle.mx_script.specs.Sessions.{Outline}
use Rattle.mx_judging.specs.Judging.{AreAccesses}
use Rattle.mx_judging.specs.References.{AreReferences}
use Rattle.mx_state.specs.declared.journal.Entry as journaled
use Rattle.mx_text.specs.Printing.{IsSent}
use Rattle.mx_transcript.specs.Transcripts.{Step}
use Rattle.mx_picture.specs.Boxes.{HasBoxes, judged_of}
use Rattle.mx_picture.specs.declared.layout.Layout.{Layout}

-- a drawing with a box for each of the references that were placed: these are the references of the run, each once and those of a
-- process in its order, and each has the access that it was judged on
pub record IsDrawing (x : Outline) (journal : List journaled.Entry) (transcripts : List (List Step)) (drawing : List ℕ)
    : Type 0 where
  pub layout : Layout
  pub has : HasBoxes layout drawing
  pub references : AreReferences transcripts (judged_of layout)
  pub accesses : AreAccesses x journal (judged_of layout)

-- the sink gained such a drawing
pub record GainsDrawing (before after : Option (List ℕ)) (x : Outline) (journal : List journaled.Entry)
    (transcripts : List (List Step)) : Type 0 where
  pub drawing : List ℕ
  pub is_drawing : IsDrawing x journal transcripts drawing
  pub gained : Appends before after drawing

-- marks were added behind what stood in the buffer, and of all that a part was sent
pub record Draws (sink sink' : Option (List ℕ)) (before rest : List ℕ) : Type 0 where
  pub marks : List ℕ
  pub is_sent : IsSent sink sink' rest (before ++ marks)
