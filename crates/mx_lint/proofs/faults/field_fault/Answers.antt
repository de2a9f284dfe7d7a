use Rattle.std.proofs.Common.{◌<◌, ◌≤◌, refl, inl, sym, ◌∙◌, subst}
use Rattle.mx_lint.proofs.FieldLaws.{opened_read, ended_read, all_read, may_end, is_missing, is_wrong, one_read}
use Rattle.mx_lint.specs.declared.fields.Field.TheVariants.{Version}
use Rattle.mx_lint.proofs.faults.field_fault.Goals as goal

pub returns-then-i-least : goal.returns-then-i-least
returns-then-i-least c = (
  refl,
  is_missing c.args.form c.fields-row.result.now c.loop-i.i Version _ c.fields-row.ensures c.loop-i-test.true
      (subst (λ n. c.loop-i.i < n) c.least-least.ensures.least c.if-i-least.true) (ended_read _ _ _ c.in_default.is c.loop-i.invariant),
)

pub returns-then-not-branch : goal.returns-then-not-branch
returns-then-not-branch c = (
  refl,
  inl (is_wrong c.args.form c.fields-row.result.now c.loop-i.i Version _ _ _ c.fields-row.ensures c.loop-i-test.true
      (opened_read _ _ _ _ _ c.in-Some.is c.first_piece.ensures.pieces c.loop-i.invariant) (sym c.in_ok-reads.ensures ∙ c.if-not-branch.true)),
)

pub loop-i-preserved : goal.loop-i-preserved
loop-i-preserved c =
    one_read c.fields-row.result.now c.loop-i.i Version _ _ _ c.loop-i-test.true
    (opened_read _ _ _ _ _ c.in-Some.is c.first_piece.ensures.pieces c.loop-i.invariant) (sym c.in_ok-reads.ensures ∙ c.if-not-branch.false)

pub returns-in-Some-rest : goal.returns-in-Some-rest
returns-in-Some-rest c =
    c.behind_fault.ensures _ (all_read c.args.form c.fields-row.result.now c.loop-i.i _ _ c.fields-row.ensures c.loop-i-test.false
    (opened_read _ _ _ _ _ c.in-Some-rest.is refl c.loop-i.invariant))

pub returns-in_default : goal.returns-in_default
returns-in_default c =
    inl (may_end c.args.form c.fields-row.result.now c.loop-i.i _ c.fields-row.ensures c.loop-i-test.true
    (subst (λ n. n ≤ c.loop-i.i) c.least-least.ensures.least c.if-i-least.false) (ended_read _ _ _ c.in_default.is c.loop-i.invariant))
