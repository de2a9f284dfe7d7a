-- A worked row: write access is taken away from process 2 on its number 8, and a word tells it so.
use Rattle.std.specs.Prelude.{◌≡◌, ℕ, Bool, true, false, ◌&&◌, ◌||◌, ◌==◌, List, [], ◌∷◌}
use Rattle.mx_sdw.specs.declared.denials.Denial.TheVariants.{NotWritable}
use Rattle.mx_sdw.specs.declared.operations.Op.TheVariants as op
use Rattle.mx_sdw.specs.Descriptors.{Descriptor, unknown_desc, segment_desc}
use Rattle.mx_core.specs.Causes.{IsCause}
use Rattle.mx_core.specs.Opening.{CanOpen, opening}
use Rattle.mx_core.specs.Put.{pick}
use Rattle.mx_core.specs.Steps.{CanAll, after, after_all}
use Rattle.mx_core.specs.World.{Kept, Judged, Missed, World}
use Rattle.mx_core.specs.declared.elements.Kind.TheVariants as kind
use Rattle.mx_core.specs.declared.elements.Outcome.TheVariants as outcome
use Rattle.mx_core.specs.declared.steps.Cause.TheVariants as cause
use Rattle.mx_core.specs.declared.steps.Step.{Step}
use Rattle.mx_core.specs.declared.steps.Step.TheVariants.{Append, Strike, Connect, Acknowledge, Answer, Settle, Split, Enter, LoadConnect, LoadDesc, LoadCell, StoreCell, Leave, Join}

-- brackets 4, 4, 4, readable, and writable or not, with 64 words from a page on
abbrev pub data_desc : Bool → ℕ → Descriptor
data_desc writable page = segment_desc (record { r1 = 4; r2 = 4; r3 = 4 }) true false writable 0 page 64

-- process 2 knows a segment as number 8; both know another as number 9
abbrev pub row_table : ℕ → ℕ → Descriptor
row_table p n =
    pick (p == 2 && n == 8) (data_desc true 20) (pick ((p == 1 || p == 2) && n == 9) (data_desc true 21) unknown_desc)

abbrev pub row_opening : World
row_opening = opening 2 128 3 row_table

-- process 1 makes an entry that takes write access to number 8 from process 2
abbrev pub row_entry : Step
row_entry = Append 1 (record { process = 2; segno = 8; desc = data_desc false 20 } ∷ []) []

-- The change is struck, connected, acknowledged by process 2, which is outside, and answered; process 1 hears of it and
-- stores in the other segment; process 2 reads that, then misses number 8, and is denied once the word settled.
abbrev pub row_steps : List Step
row_steps =
    row_entry ∷ Strike 2 8 ∷ Connect 2 ∷ Acknowledge 2 ∷ Answer
    ∷ Split ∷ Join 1 0
    ∷ Enter 1 ∷ LoadConnect 1 ∷ LoadDesc 1 9 op.Write 4 0 ∷ StoreCell 1 1 ∷ Leave 1
    ∷ Enter 2 ∷ LoadConnect 2 ∷ LoadDesc 2 9 op.Read 4 0 ∷ LoadCell 2 ∷ Leave 2
    ∷ Enter 2 ∷ LoadConnect 2 ∷ LoadDesc 2 8 op.Write 4 0 ∷ Leave 2
    ∷ Settle 2 8
    ∷ Enter 2 ∷ LoadConnect 2 ∷ LoadDesc 2 8 op.Write 4 0 ∷ Leave 2 ∷ []

abbrev pub row_trace : List Kept
row_trace =
    Judged (record { kind = kind.Read; segno = 9; word = 0; ring = 4; point = 3; outcome = outcome.Read 1 1 4 })
    op.Read (data_desc true 21)
    ∷ Missed 8 4
    ∷ Judged (record {
      kind = kind.Write;
      segno = 8;
      word = 0;
      ring = 4;
      point = 4;
      outcome = outcome.Denied
          NotWritable;
    }) op.Write (data_desc false 20)
    ∷ []

pub record RowLaw : Type 0 where
  pub opens : CanOpen 2 128 3 row_table
  pub enabled : CanAll row_opening row_steps
  -- without the Strike the entry is not answered
  pub unstruck : IsCause (after row_opening row_entry) Answer (cause.Unstruck 2 8)
  pub trace : (after_all row_opening row_steps).trace 2 ≡ row_trace
  pub floor_1 : ((after_all row_opening row_steps).process 1).floor ≡ 4
  pub floor_2 : ((after_all row_opening row_steps).process 2).floor ≡ 4
