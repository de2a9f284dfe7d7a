-- The boxes of references, one behind another, and the drawing that has them.
use Rattle.std.proofs.Common.{◌≡◌, ℕ, List, [], ◌∷◌, ◌++◌, Option, codes, refl, ap, sym, ◌∙◌, subst, append_assoc, append-nil}
use Rattle.mx_io.specs.Bytes.{Appends}
use Rattle.mx_text.proofs.PrintingLaws.{sent_before, sent_then, sent_whole}
use Rattle.mx_text.specs.Printing.{IsSent}
use Rattle.mx_script.specs.Sessions.{Outline}
use Rattle.mx_state.specs.declared.journal.Entry as journaled
use Rattle.mx_transcript.specs.Transcripts.{Step}
use Rattle.mx_judging.specs.Judging.{AreAccesses}
use Rattle.mx_judging.specs.References.{AreReferences}
use Rattle.mx_judging.specs.declared.replays.Judged.{Judged}
use Rattle.mx_picture.specs.declared.layout.Layout.{Layout}
use Rattle.mx_picture.specs.declared.layout.Placed.{Placed}
use Rattle.mx_picture.specs.Boxes.{AreBoxes, DrawsBoxes, GainsBoxes, IsBoxBehind, IsUpTo, head_text, judged_of, labelled, lane_top}
use Rattle.mx_picture.specs.Drawings.{Draws, GainsDrawing}
use Rattle.mx_picture.proofs.PieceLaws.{sent_none, sent_piece}

-- a piece, and the rest behind it
put_then : (before mid after piece rest : List ℕ) → mid ≡ before ++ piece → after ≡ mid ++ rest → after ≡ before ++ (piece ++ rest)
put_then before mid after piece rest put more =
    more ∙ ap (λ (v : List ℕ). v ++ rest) put ∙ append_assoc before piece rest

-- the head of a box, label by label
pub head_put : (p : Placed) (top : ℕ) (before a b c d e f g after : List ℕ)
    → a ≡ before ++ labelled (codes "<g class=\"box\" id=\"b") p.judged.process → b ≡ a ++ labelled (codes "-") p.line
    → c ≡ b ++ labelled (codes "-") p.nth → d ≡ c ++ labelled (codes "\" data-line=\"") p.judged.process
    → e ≡ d ++ labelled (codes "-") p.line → f ≡ e ++ labelled (codes "\" transform=\"translate(") p.x
    → g ≡ f ++ labelled (codes " ") top → after ≡ g ++ codes ")\">\n" → after ≡ before ++ head_text p top
head_put p top before a b c d e f g after first second third fourth fifth sixth seventh last =
    put_then before a after _ _ first (put_then a b after _ _ second (put_then b c after _ _ third (put_then c d after _ _ fourth
    (put_then d e after _ _ fifth (put_then e f after _ _ sixth (put_then f g after _ _ seventh last))))))

-- a box: its head, its marks and its end
pub box_behind : (layout : Layout) (p : Placed) (before headed marked after marks : List ℕ)
    → headed ≡ before ++ head_text p (lane_top layout p) → marked ≡ headed ++ marks → after ≡ marked ++ codes "</g>\n"
    → IsBoxBehind layout p before after
box_behind layout p before headed marked after marks head mark end =
    let top : List ℕ = head_text p (lane_top layout p) in
    let close : List ℕ = codes "</g>\n" in
    record {
      box = top ++ (marks ++ close);
      is_box = record { marks = marks; is = refl };
      added =
          end ∙ ap (λ (v : List ℕ). v ++ close) (mark ∙ ap (λ (v : List ℕ). v ++ marks) head)
          ∙ append_assoc (before ++ top) marks close ∙ append_assoc before top (marks ++ close);
    }

-- Boxes, one after another.
pub boxes_begun : (layout : Layout) (all : List Placed) (a : Option (List ℕ)) (before : List ℕ) → IsUpTo layout all all a a before before
boxes_begun layout all a before = record { sofar = []; is_sent = sent_none a before; goes = λ rest are. are }

pub box_next : (layout : Layout) (all placed after : List Placed) (p : Placed) (a b c : Option (List ℕ))
    (before buffer added kept : List ℕ) → IsUpTo layout all placed a b before buffer → placed ≡ p ∷ after
    → IsBoxBehind layout p buffer added → IsSent b c kept added → IsUpTo layout all after a c before kept
box_next layout all placed after p a b c before buffer added kept up now behind send =
    let goes : (rest : List ℕ) → AreBoxes layout (p ∷ after) rest → AreBoxes layout all (up.sofar ++ rest)
    = subst (λ (ps : List Placed). (rest : List ℕ) → AreBoxes layout ps rest → AreBoxes layout all (up.sofar ++ rest)) now up.goes in
    let P : List ℕ → Type 0 = λ v. AreBoxes layout all v in
    record {
      sofar = up.sofar ++ behind.box;
      is_sent = sent_piece a b c before up.sofar buffer behind.box added kept up.is_sent behind.added send;
      goes = λ rest are.
          subst P (sym (append_assoc up.sofar behind.box rest))
          (goes (behind.box ++ rest) (behind.box, rest, behind.is_box, refl, are));
    }

pub boxes_done : (layout : Layout) (all placed : List Placed) (a b : Option (List ℕ)) (before buffer : List ℕ)
    → IsUpTo layout all placed a b before buffer → placed ≡ [] → DrawsBoxes layout all a b before buffer
boxes_done layout all placed a b before buffer up empty =
    let goes : (rest : List ℕ) → AreBoxes layout [] rest → AreBoxes layout all (up.sofar ++ rest)
    = subst (λ (ps : List Placed). (rest : List ℕ) → AreBoxes layout ps rest → AreBoxes layout all (up.sofar ++ rest)) empty up.goes in
    let P : List ℕ → Type 0 = λ v. AreBoxes layout all v in
    record {
      boxes = up.sofar;
      are = subst P (append-nil up.sofar) (goes [] refl);
      is_sent = up.is_sent;
    }

-- The whole drawing: its frame, the marks behind the boxes, the boxes, and the marks upon them.
pub boxes_gained : (layout : Layout) (a b c d e : Option (List ℕ)) (none opened rest boxed drawn closed : List ℕ)
    → none ≡ [] → opened ≡ none ++ codes "<svg" → Draws a b opened rest → DrawsBoxes layout layout.placed.items b c rest boxed
    → Draws c d boxed drawn → closed ≡ drawn ++ codes "</svg>\n" → Appends d e closed → GainsBoxes a e layout
boxes_gained layout a b c d e none opened rest boxed drawn closed empty begin behind boxes above finish last =
    let head : List ℕ = codes "<svg" in
    let end : List ℕ = codes "</svg>\n" in
    let marks : List ℕ = behind.marks ++ (boxes.boxes ++ above.marks) in
    let text : List ℕ = ((opened ++ behind.marks) ++ boxes.boxes) ++ above.marks in
    let begun : opened ≡ head = begin ∙ ap (λ (v : List ℕ). v ++ head) empty in
    let sent : IsSent a d drawn text
    = sent_then a c d ((opened ++ behind.marks) ++ boxes.boxes) boxed drawn above.marks
    (sent_then a b c (opened ++ behind.marks) rest boxed boxes.boxes behind.is_sent boxes.is_sent) above.is_sent in
    let P : List ℕ → Type 0 = λ v. IsSent a d v (text ++ end) in
    let all : IsSent a d closed (text ++ end) = subst P (sym finish) (sent_before a d text drawn end sent) in
    let inner : text ≡ head ++ marks
    = append_assoc (opened ++ behind.marks) boxes.boxes above.marks ∙ append_assoc opened behind.marks (boxes.boxes ++ above.marks)
    ∙ ap (λ (v : List ℕ). v ++ marks) begun in
    record {
      drawing = text ++ end;
      has = record {
        behind = behind.marks;
        boxes = boxes.boxes;
        above = above.marks;
        are = boxes.are;
        frame = ap (λ (v : List ℕ). v ++ end) inner ∙ append_assoc head marks end;
      };
      gained = sent_whole a d e (text ++ end) closed all last;
    }

-- the references of a layout are those that were judged
pub drawing_gained : (layout : Layout) (x : Outline) (journal : List journaled.Entry) (transcripts : List (List Step)) (judged : List Judged)
    (a b : Option (List ℕ)) → judged_of layout ≡ judged → AreReferences transcripts judged → AreAccesses x journal judged
    → GainsBoxes a b layout → GainsDrawing a b x journal transcripts
drawing_gained layout x journal transcripts judged a b same all accesses gained = record {
  drawing = gained.drawing;
  is_drawing = record {
    layout = layout;
    has = gained.has;
    references = subst (AreReferences transcripts) (sym same) all;
    accesses = subst (AreAccesses x journal) (sym same) accesses;
  };
  gained = gained.gained;
}
