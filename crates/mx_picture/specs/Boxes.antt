-- The boxes of the references: one for each, in the order of the references, and each in the lane of its process in its row.
use Rattle.std.specs.Prelude.{◌≡◌, ℕ, ◌+◌, ◌*◌, ◌-◌, false, List, [], ◌∷◌, ◌++◌, map, get_or, Option, codes}
use Rattle.std.specs.Fmt.{decimal}
use Rattle.mx_io.specs.Bytes.{Appends}
use Rattle.mx_text.specs.Printing.{IsSent}
use Rattle.mx_judging.specs.declared.replays.Judged.{Judged}
use Rattle.mx_picture.specs.declared.layout.Layout.{Layout}
use Rattle.mx_picture.specs.declared.layout.Placed.{Placed}
use Rattle.mx_picture.specs.declared.layout.rows.Lane.{Lane}

-- the lane of a process in a row, where each row has the lanes of so many processes
abbrev pub no_lane : Lane
no_lane = record { top = 0; levels = 0; has_boxes = false }

abbrev pub lane_of : List Lane → ℕ → ℕ → ℕ → Lane
lane_of lanes processes row process = get_or lanes (row * processes + (process - 1)) no_lane

-- the top of the lane in which a reference stands
abbrev pub lane_top : Layout → Placed → ℕ
lane_top layout p = (lane_of layout.lanes.items layout.processes p.row p.judged.process).top

-- a label, and a number behind it
abbrev pub labelled : List ℕ → ℕ → List ℕ
labelled label n = label ++ decimal n

-- the head of a box: the process, the line and which of its references it is, and where it stands from the left and from the top
abbrev pub head_text : Placed → ℕ → List ℕ
head_text p top =
    labelled (codes "<g class=\"box\" id=\"b") p.judged.process ++ (labelled (codes "-") p.line ++ (labelled (codes "-") p.nth
    ++ (labelled (codes "\" data-line=\"") p.judged.process ++ (labelled (codes "-") p.line
    ++ (labelled (codes "\" transform=\"translate(") p.x ++ (labelled (codes " ") top ++ codes ")\">\n"))))))

-- this is the box of a reference: a group at the top of its lane
pub record IsBox (layout : Layout) (p : Placed) (text : List ℕ) : Type 0 where
  pub marks : List ℕ
  pub is : text ≡ head_text p (lane_top layout p) ++ (marks ++ codes "</g>\n")

-- these are the boxes of references, one behind another
abbrev pub AreBoxes : Layout → List Placed → List ℕ → Type 0
AreBoxes layout [] text = text ≡ []
AreBoxes layout (p ∷ placed) text =
    (box : List ℕ) × (rest : List ℕ) × IsBox layout p box × (text ≡ box ++ rest) × AreBoxes layout placed rest

-- a box was added
pub record IsBoxBehind (layout : Layout) (p : Placed) (before after : List ℕ) : Type 0 where
  pub box : List ℕ
  pub is_box : IsBox layout p box
  pub added : after ≡ before ++ box

-- the boxes of these references were added behind what stood in the buffer, and of all that a part was sent
pub record DrawsBoxes (layout : Layout) (placed : List Placed) (sink sink' : Option (List ℕ)) (before rest : List ℕ) : Type 0 where
  pub boxes : List ℕ
  pub are : AreBoxes layout placed boxes
  pub is_sent : IsSent sink sink' rest (before ++ boxes)

-- boxes were added up to these: with those of the references that are left, they are those of all
pub record IsUpTo (layout : Layout) (all placed : List Placed) (sink sink' : Option (List ℕ)) (before buffer : List ℕ) : Type 0 where
  pub sofar : List ℕ
  pub is_sent : IsSent sink sink' buffer (before ++ sofar)
  pub goes : (rest : List ℕ) → AreBoxes layout placed rest → AreBoxes layout all (sofar ++ rest)

-- this is a drawing with the boxes of all references of a layout
pub record HasBoxes (layout : Layout) (drawing : List ℕ) : Type 0 where
  pub behind : List ℕ
  pub boxes : List ℕ
  pub above : List ℕ
  pub are : AreBoxes layout layout.placed.items boxes
  pub frame : drawing ≡ codes "<svg" ++ (behind ++ (boxes ++ above)) ++ codes "</svg>\n"

-- the sink gained such a drawing
pub record GainsBoxes (before after : Option (List ℕ)) (layout : Layout) : Type 0 where
  pub drawing : List ℕ
  pub has : HasBoxes layout drawing
  pub gained : Appends before after drawing

-- the references that were placed, in their order
abbrev pub judged_of : Layout → List Judged
judged_of layout = map (λ (p : Placed). p.judged) layout.placed.items
