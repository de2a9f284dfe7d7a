-- A step that has a cause is not enabled.
use Rattle.std.proofs.Common.{inl, inr}
use Rattle.mx_core.specs.FirstFailing.{First}
use Rattle.mx_core.specs.Laws.{CauseLaw}
use Rattle.mx_core.specs.declared.steps.Step.TheVariants.{Append, Strike, Connect, Look, Acknowledge, Answer, Settle, Clear, Split, Report, Enter, LoadConnect, LoadDesc, Recall, LoadCell, StoreCell, Leave, Join}

-- what holds is not the first that fails
past : {A N L : Type 0} → A → (L → ⊥) → First A N L → ⊥
past a later f = elim f [ inl fails ↦ fails.0 a | inr holds ↦ later holds.1 ]

none : ⊥ → ⊥
none x = x

pub cause_law : CauseLaw
cause_law w (Append p changes given) why is can =
    past can.range (past can.limit (past can.rest (past can.clear (past can.covered none)))) is
cause_law w (Strike p n) why is can = past can.range (past can.pending (past can.changed none)) is
cause_law w (Connect p) why is can = past can.range (past can.pending (past can.changed (past can.struck none))) is
cause_law w (Look p) why is can = past can.range (past can.pending (past can.connected (past can.inside none))) is
cause_law w (Acknowledge p) why is can = past can.range (past can.pending (past can.connected (past can.left none))) is
cause_law w Answer why is can = past can.pending (past can.struck (past can.acknowledged none)) is
cause_law w (Settle p n) why is can = past can.range (past can.rest (past can.fault none)) is
cause_law w (Clear cell) why is can = past can.range (past can.rest (past can.bare none)) is
cause_law w Split why is can = past can.rest none is
cause_law w (Report p n) why is can = past can.range (past can.within none) is
cause_law w (Enter p) why is can = past can.range (past can.outside none) is
cause_law w (LoadConnect p) why is can = past can.range (past can.entering none) is
cause_law w (LoadDesc p n op ring word) why is can = past can.range (past can.ready none) is
cause_law w (Recall p n op ring word) why is can = past can.range (past can.ready (past can.recall none)) is
cause_law w (LoadCell p) why is can = past can.range (past can.hold none) is
cause_law w (StoreCell p value) why is can = past can.range (past can.word (past can.hold none)) is
cause_law w (Leave p) why is can = past can.range (past can.inside none) is
cause_law w (Join p i) why is can = past can.range (past can.note none) is
