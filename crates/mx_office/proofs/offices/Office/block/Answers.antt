use Rattle.std.proofs.Common.{◌≡◌, ℕ, sym, ◌∙◌, subst, rules}
use Rattle.mx_office.specs.Blocking.{IsStuck}
use Rattle.mx_office.specs.Holding.{LockedValue}
use Rattle.mx_office.specs.declared.answers.Answer.TheVariants.{Waiting}
use Rattle.mx_office.specs.declared.answers.EnterError.TheVariants.{HistoryFull}
use Rattle.mx_office.proofs.Blocks.{cut_by, err_as, resumed_by, waited_by}
use Rattle.mx_office.proofs.offices.Office.block.Goals as goal

pub resume-requires-clause-awake : goal.resume-requires-clause-awake
resume-requires-clause-awake g c = λ stuck.
    let entered = c.block.ensures.entered c.in-Ok.served c.in-Ok.is in
    c.sleep-locked.ensures (subst (λ (z : LockedValue × ℕ). IsStuck g.B.Sitting.session z.0 z.1)
    (λ i. (c.deref_mut-2.ensures.value i, (entered.grown.process ∙ sym c.process-p.ensures.value) i)) stuck)

pub returns-in-Ok-resume-clause-blocked : goal.returns-in-Ok-resume-clause-blocked
returns-in-Ok-resume-clause-blocked g c =
    let waits : c.in-Ok.served.answer ≡ Waiting = search rules in
    resumed_by g.B.Sitting.session g.B.Sitting.setup c.args.ring c.args.pass.now c.in-Ok.served c.block.new.pass
    (c.block.ensures.entered c.in-Ok.served c.in-Ok.is) waits c.in-Ok-resume.resume c.resume.new.pass
    (c.resume.ensures.entered c.in-Ok-resume.resume c.in-Ok-resume.is)
    (c.resume.ensures.given c.in-Ok-resume.resume c.in-Ok-resume.is)

pub returns-in-Err-HistoryFull-resume-clause-blocked : goal.returns-in-Err-HistoryFull-resume-clause-blocked
returns-in-Err-HistoryFull-resume-clause-blocked g c =
    let waits : c.in-Ok.served.answer ≡ Waiting = search rules in
    cut_by g.B.Sitting.session g.B.Sitting.setup c.args.ring c.args.pass.now c.in-Ok.served c.block.new.pass
    (c.block.ensures.entered c.in-Ok.served c.in-Ok.is) waits c.in-Err-HistoryFull-resume.field-0-0 c.resume.new.pass
    (c.resume.ensures.full c.in-Err-HistoryFull-resume.field-0-0
    (err_as c.resume.result c.in-Err-HistoryFull-resume.field-0
    (HistoryFull c.in-Err-HistoryFull-resume.field-0-0) c.in-Err-HistoryFull-resume.is
    c.in-Err-HistoryFull-resume.field-0-is))
