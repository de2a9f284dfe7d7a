use Rattle.std.proofs.Common.{[], ◌∷◌, ◌++◌, sym, ◌∙◌, ap, subst}
use Rattle.mx_sdw.specs.Rings.{Bracketing}
use Rattle.mx_line.proofs.TakenLaws.{onward_seen}
use Rattle.mx_line.specs.AtWork.{HasSeen, beside}
use Rattle.std.proofs.Common.{◌≡◌, ℕ}
use Rattle.mx_core.specs.declared.elements.Outcome.TheVariants.{Written, Entered, Denied}
use Rattle.mx_sdw.specs.declared.denials.Denial.{Denial}
use Rattle.mx_line.proofs.TakenLaws.{judged_gives, word_gives}
use Rattle.mx_line.specs.Looks.{looks}
use Rattle.mx_line.proofs.at_work.word_read.Goals as goal

pub returns-in-Read-clause-leads : goal.returns-in-Read-clause-leads
returns-in-Read-clause-leads c = λ seen walked.
    subst (HasSeen c.args.control.now c.args.line.now (seen ++ beside c.args.element.now c.args.desc.now ∷ [])) (sym c.standing.ensures.is)
    (onward_seen c.args.control.now c.args.line.now (seen ++ beside c.args.element.now c.args.desc.now ∷ []) c.feed.result
    (c.feed.ensures.onward seen (beside c.args.element.now c.args.desc.now) c.in-Read.writer c.in-Read.stamp walked c.in-Read.is
    (sym (c.r1.ensures ∙ ap (λ (b : Bracketing). b.r1) c.brackets.ensures))))

written_granted : (value : ℕ) (denial : Denial) → Written value ≡ Denied denial → ⊥
written_granted value denial e = cc

entered_granted : (ring : ℕ) (denial : Denial) → Entered ring ≡ Denied denial → ⊥
entered_granted ring denial e = cc

pub returns-in-Written-clause-known : goal.returns-in-Written-clause-known
returns-in-Written-clause-known c = λ right.
    word_gives c.args.place c.args.desc.now (Written c.in-Written.value)
    (judged_gives (looks c.args.place) c.args.desc.now c.args.element.now (Written c.in-Written.value) right c.in-Written.is
    (written_granted c.in-Written.value))

pub returns-in-Entered-clause-known : goal.returns-in-Entered-clause-known
returns-in-Entered-clause-known c = λ right.
    word_gives c.args.place c.args.desc.now (Entered c.in-Entered.ring)
    (judged_gives (looks c.args.place) c.args.desc.now c.args.element.now (Entered c.in-Entered.ring) right c.in-Entered.is
    (entered_granted c.in-Entered.ring))
