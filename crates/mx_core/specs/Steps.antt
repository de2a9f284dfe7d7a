-- The step relation: each of the eighteen kinds has a condition and an effect.
use Rattle.std.specs.Prelude.{List, [], ◌∷◌}
use Rattle.mx_core.specs.Acknowledging.{CanConnect, after_connect, CanLook, after_look, CanAcknowledge, after_acknowledge, CanAnswer, after_answer}
use Rattle.mx_core.specs.Append.{CanAppend, after_append}
use Rattle.mx_core.specs.Cells.{CanLoadCell, after_load_cell, CanStoreCell, after_store_cell}
use Rattle.mx_core.specs.Clearing.{CanClear, after_clear}
use Rattle.mx_core.specs.Entering.{CanEnter, after_enter, CanLoadConnect, after_load_connect, CanLeave, after_leave}
use Rattle.mx_core.specs.Loading.{CanLoadDesc, after_load_desc, CanRecall, after_recall}
use Rattle.mx_core.specs.Notes.{CanSplit, after_split, CanJoin, after_join, CanReport, after_report}
use Rattle.mx_core.specs.Striking.{CanStrike, after_strike, CanSettle, after_settle}
use Rattle.mx_core.specs.World.{World}
use Rattle.mx_core.specs.declared.steps.Step.{Step}
use Rattle.mx_core.specs.declared.steps.Step.TheVariants.{Append, Strike, Connect, Look, Acknowledge, Answer, Settle, Clear, Split, Report, Enter, LoadConnect, LoadDesc, Recall, LoadCell, StoreCell, Leave, Join}

-- the step is enabled
abbrev pub Can : World → Step → Type 0
Can w (Append process changes given) = CanAppend w process changes given
Can w (Strike process segno) = CanStrike w process segno
Can w (Connect process) = CanConnect w process
Can w (Look process) = CanLook w process
Can w (Acknowledge process) = CanAcknowledge w process
Can w Answer = CanAnswer w
Can w (Settle process segno) = CanSettle w process segno
Can w (Clear cell) = CanClear w cell
Can w Split = CanSplit w
Can w (Report process length) = CanReport w process length
Can w (Enter process) = CanEnter w process
Can w (LoadConnect process) = CanLoadConnect w process
Can w (LoadDesc process segno op ring word) = CanLoadDesc w process
Can w (Recall process segno op ring word) = CanRecall w process segno
Can w (LoadCell process) = CanLoadCell w process
Can w (StoreCell process value) = CanStoreCell w process value
Can w (Leave process) = CanLeave w process
Can w (Join process note) = CanJoin w process note

-- the world after it
abbrev pub after : World → Step → World
after w (Append process changes given) = after_append w process changes given
after w (Strike process segno) = after_strike w process segno
after w (Connect process) = after_connect w process
after w (Look process) = after_look w process
after w (Acknowledge process) = after_acknowledge w process
after w Answer = after_answer w
after w (Settle process segno) = after_settle w process segno
after w (Clear cell) = after_clear w cell
after w Split = after_split w
after w (Report process length) = after_report w process length
after w (Enter process) = after_enter w process
after w (LoadConnect process) = after_load_connect w process
after w (LoadDesc process segno op ring word) =
    after_load_desc w process segno (record { op = op; ring = ring; word = word })
after w (Recall process segno op ring word) =
    after_recall w process segno (record { op = op; ring = ring; word = word })
after w (LoadCell process) = after_load_cell w process
after w (StoreCell process value) = after_store_cell w process value
after w (Leave process) = after_leave w process
after w (Join process note) = after_join w process note

-- each step of a list is enabled in the world that those before it left
abbrev pub CanAll : World → List Step → Type 0
CanAll w [] = Unit {0}
CanAll w (step ∷ rest) = Can w step × CanAll (after w step) rest

abbrev pub after_all : World → List Step → World
after_all w [] = w
after_all w (step ∷ rest) = after_all (after w step) rest
