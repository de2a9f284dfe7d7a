use Rattle.std.proofs.Common.{◌≡◌, Bool, true, false, Option, Ok, Err, sym, ap, ◌∙◌, rules}
use Rattle.std.specs.Prelude.{MatchBool}
use Rattle.mx_sdw.specs.Judging.{judgement}
use Rattle.mx_sdw.specs.declared.denials.Denial.{Denial}
use Rattle.mx_sdw.specs.declared.descriptors.Cell.{Cell}
use Rattle.mx_core.specs.declared.elements.Outcome.{Outcome}
use Rattle.mx_rule.specs.Holding.{waiting_by}
use Rattle.mx_rule.proofs.Granted.{granted_within, denied_at_once, through_at_once, waits_then}
use Rattle.mx_rule.proofs.holding.held_cell.Goals as goal

no_by : (X Y : Type 0) (b : Bool) → b ≡ false → MatchBool b X Y → Y
no_by X Y true e h = cc
no_by X Y false e h = h

yes_by : (X Y : Type 0) (b : Bool) → b ≡ true → MatchBool b X Y → X
yes_by X Y true e h = h
yes_by X Y false e h = cc

pub returns-then-not-is_granted : goal.returns-then-not-is_granted
returns-then-not-is_granted c =
    let d = c.args.desc.now in
    let a = c.args.asked.now in
    let denied = no_by _ ((denial : Denial) × (judgement d a.op a.ring a.word ≡ Err denial)) c.is_granted.result
    (search rules) c.is_granted.ensures in
    sym (ap (λ (o : Option Outcome). waiting_by o d a) (denied_at_once d a denied.0 denied.1))

pub returns-then-transfers : goal.returns-then-transfers
returns-then-transfers c =
    let d = c.args.desc.now in
    let a = c.args.asked.now in
    let granted = yes_by ((cell : Cell) × (judgement d a.op a.ring a.word ≡ Ok cell)) _ c.is_granted.result
    (search rules) c.is_granted.ensures in
    sym (ap (λ (o : Option Outcome). waiting_by o d a)
    (through_at_once d a granted.0 granted.1 (sym c.transfers.ensures ∙ search rules)))

pub overflow_cast-result : goal.overflow_cast-result
overflow_cast-result c =
    let d = c.args.desc.now in
    let a = c.args.asked.now in
    let granted = yes_by ((cell : Cell) × (judgement d a.op a.ring a.word ≡ Ok cell)) _ c.is_granted.result
    (search rules) c.is_granted.ensures in
    let within = granted_within d a.op a.ring a.word granted.0 c.requires granted.1 in search rules

pub returns : goal.returns
returns c =
    let d = c.args.desc.now in
    let a = c.args.asked.now in
    let granted = yes_by ((cell : Cell) × (judgement d a.op a.ring a.word ≡ Ok cell)) _ c.is_granted.result
    (search rules) c.is_granted.ensures in
    let within = granted_within d a.op a.ring a.word granted.0 c.requires granted.1 in
    sym (ap (λ (o : Option Outcome). waiting_by o d a)
    (waits_then d a granted.0 granted.1 (sym c.transfers.ensures ∙ search rules)) ∙ search rules)
