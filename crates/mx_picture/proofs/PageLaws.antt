-- Laws on a page that is sent piece by piece.
use Rattle.std.proofs.Common.{◌≡◌, ℕ, List, [], ◌++◌, codes, Option, Some, None, refl, sym, ◌∙◌, ap, append_assoc, append-nil}
use Rattle.mx_io.specs.Bytes.{Appends}
use Rattle.mx_picture.specs.Drawings.{GainsDrawing}
use Rattle.mx_script.specs.Sessions.{Outline}
use Rattle.mx_state.specs.declared.journal.Entry as journaled
use Rattle.mx_transcript.specs.Transcripts.{Step}
use Rattle.mx_text.specs.Printing.{IsSent}
use Rattle.mx_text.proofs.PrintingLaws.{appends_more}
use Rattle.mx_picture.specs.Pages.{Gains, GainsBottom, GainsPage, GainsTop}

-- nothing is sent
pub gains_none : (a : Option (List ℕ)) → Gains a a
gains_none (Some a) = record { text = []; gained = ap Some (sym (append-nil a)) }
gains_none None = record { text = []; gained = refl }

-- one piece
pub gains_one : (a b : Option (List ℕ)) (xs : List ℕ) → Appends a b xs → Gains a b
gains_one a b xs sent = record { text = xs; gained = sent }

-- what is sent of a text is some text
pub gains_sent : (a b : Option (List ℕ)) (rest text : List ℕ) → IsSent a b rest text → Gains a b
gains_sent a b rest text sent = record { text = sent.sent; gained = sent.appended }

-- one piece, and then more
pub gains_more : (a b c : Option (List ℕ)) → Gains a b → Gains b c → Gains a c
gains_more a b c first second = record {
  text = first.text ++ second.text;
  gained = appends_more a b c first.text second.text first.gained second.gained;
}

pub top_sent : (a b c : Option (List ℕ)) (xs : List ℕ) → Appends a b (codes "<!DOCTYPE html>") → Appends b c xs → GainsTop a c
top_sent a b c xs first second = record {
  above = xs;
  gained = appends_more a b c (codes "<!DOCTYPE html>") xs first second;
}

pub bottom_sent : (a b c : Option (List ℕ)) → Gains a b → Appends b c (codes "</html>\n") → GainsBottom a c
bottom_sent a b c first second = record {
  below = first.text;
  gained = appends_more a b c first.text (codes "</html>\n") first.gained second;
}

-- the parts make a page
pub page_sent : (x : Outline) (journal : List journaled.Entry) (transcripts : List (List Step)) (a b c d e f : Option (List ℕ))
    → GainsTop a b → GainsDrawing b c x journal transcripts → Gains c d → Gains d e → GainsBottom e f
    → GainsPage a f x journal transcripts
page_sent x journal transcripts a b c d e f top drawing lines run bottom =
    let begun = codes "<!DOCTYPE html>" ++ top.above in
    let texts = lines.text ++ (run.text ++ bottom.below) in
    let end = codes "</html>\n" in
    let rest = lines.text ++ (run.text ++ (bottom.below ++ end)) in
    let together : texts ++ end ≡ rest =
    append_assoc lines.text (run.text ++ bottom.below) end
    ∙ ap (λ xs. lines.text ++ xs) (append_assoc run.text bottom.below end) in
    let last = appends_more d e f run.text (bottom.below ++ end) run.gained bottom.gained in
    let below = appends_more c d f lines.text (run.text ++ (bottom.below ++ end)) lines.gained last in
    let middle = appends_more b c f drawing.drawing rest drawing.gained below in
    record {
      page = begun ++ (drawing.drawing ++ rest);
      whole = record {
        above = top.above;
        drawing = drawing.drawing;
        below = texts;
        is_drawing = drawing.is_drawing;
        frame = ap (λ xs. begun ++ (drawing.drawing ++ xs)) (sym together)
            ∙ sym (append_assoc begun drawing.drawing (texts ++ end))
            ∙ sym (append_assoc (begun ++ drawing.drawing) texts end);
      };
      gained = appends_more a b f begun (drawing.drawing ++ rest) top.gained middle;
    }
