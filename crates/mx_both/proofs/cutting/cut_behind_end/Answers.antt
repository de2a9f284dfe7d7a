use Rattle.std.proofs.Common.{◌==◌, sym, ap, ◌∙◌, arith}
use Rattle.std.specs.Cmp.Lexicographic.{pointwise}
use Rattle.mx_both.proofs.CuttingLaws.{ended_cut, no_end_cut, passed_on, passed_small}
use Rattle.mx_both.proofs.cutting.cut_behind_end.Goals as goal

pub overflow_add-lines : goal.overflow_add-lines
overflow_add-lines c =
    omega (
      arith,
      c.requires,
      passed_small _ c.loop-line.rest.now _ (c.in-Some.line.now, c.in-Some.after.now) c.loop-line.invariant (sym c.in-Some.ensures.cut),
    )

pub returns-then-eq : goal.returns-then-eq
returns-then-eq c =
    ended_cut _ c.loop-line.rest.now c.split_at.result.0.now c.split_at.result.1.now _ (c.in-Some.line.now, c.in-Some.after.now)
    c.loop-line.invariant (sym c.in-Some.ensures.cut) (ap (pointwise ◌==◌ c.in-Some.line.now) (sym c.as_slice.ensures) ∙ sym c.if-eq.ensures) c.split_at.ensures.front c.split_at.ensures.back

pub loop-line-preserved : goal.loop-line-preserved
loop-line-preserved c =
    passed_on _ c.loop-line.rest.now _ (c.in-Some.line.now, c.in-Some.after.now) c.loop-line.invariant (sym c.in-Some.ensures.cut)
    (ap (pointwise ◌==◌ c.in-Some.line.now) (sym c.as_slice.ensures) ∙ sym c.if-eq.ensures)

pub returns : goal.returns
returns c = no_end_cut _ c.loop-line.rest.now _ c.loop-line.invariant (sym c.in_default.ensures.cut)
