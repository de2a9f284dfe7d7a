-- Each enabled step keeps the invariant, and so each list of them.
use Rattle.std.proofs.Common.{[], ◌∷◌}
use Rattle.mx_core.specs.Laws.{StepLaw, RunLaw, HistoryLaw}
use Rattle.mx_core.specs.Opening.{opening}
use Rattle.mx_core.specs.Steps.{after}
use Rattle.mx_core.specs.declared.steps.Step.TheVariants.{Append, Strike, Connect, Look, Acknowledge, Answer, Settle, Clear, Split, Report, Enter, LoadConnect, LoadDesc, Recall, LoadCell, StoreCell, Leave, Join}
use Rattle.mx_core.proofs.AppendLaw.{append_law}
use Rattle.mx_core.proofs.CellLaws.{load_cell_law, store_cell_law, clear_law}
use Rattle.mx_core.proofs.HistoryLaws.{strike_law, settle_law, answer_law, split_law, report_law}
use Rattle.mx_core.proofs.JudgingLaws.{load_desc_law, recall_law}
use Rattle.mx_core.proofs.OpeningLaw.{opening_law}
use Rattle.mx_core.proofs.ProcessLaws.{connect_law, look_law, acknowledge_law, enter_law, load_connect_law, leave_law, join_law}

pub step_law : StepLaw
step_law w (Append process changes given) g can = append_law w process changes given g can
step_law w (Strike process segno) g can = strike_law w process segno g can
step_law w (Connect process) g can = connect_law w process g can
step_law w (Look process) g can = look_law w process g can
step_law w (Acknowledge process) g can = acknowledge_law w process g can
step_law w Answer g can = answer_law w g can
step_law w (Settle process segno) g can = settle_law w process segno g can
step_law w (Clear cell) g can = clear_law w cell g can
step_law w Split g can = split_law w g can
step_law w (Report process length) g can = report_law w process length g can
step_law w (Enter process) g can = enter_law w process g can
step_law w (LoadConnect process) g can = load_connect_law w process g can
step_law w (LoadDesc process segno op ring word) g can =
    load_desc_law w process segno (record { op = op; ring = ring; word = word }) g can
step_law w (Recall process segno op ring word) g can =
    recall_law w process segno (record { op = op; ring = ring; word = word }) g can
step_law w (LoadCell process) g can = load_cell_law w process g can
step_law w (StoreCell process value) g can = store_cell_law w process value g can
step_law w (Leave process) g can = leave_law w process g can
step_law w (Join process note) g can = join_law w process note g can

pub run_law : RunLaw
run_law w [] g can = g
run_law w (step ∷ rest) g can = run_law (after w step) rest (step_law w step g can.0) can.1

pub history_law : HistoryLaw
history_law processes numbers start table steps opens can =
    run_law (opening processes numbers start table) steps (opening_law processes numbers start table opens) can
