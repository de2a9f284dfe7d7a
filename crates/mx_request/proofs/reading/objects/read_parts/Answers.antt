use Rattle.std.proofs.Common.{◌≡◌, ◌-◌, ◌<◌, ap, sym, ◌∙◌, arith}
use Rattle.mx_request.specs.ReadingObjects.{with_fields}
use Rattle.mx_request.proofs.ObjectLaws.{fields_on, no_field, fields_end, no_last_field, no_fields_left}
use Rattle.mx_request.proofs.reading.objects.read_parts.Goals as goal

pub returns-then-not-branch : goal.returns-then-not-branch
returns-then-not-branch c =
    let low : c.loop-left._left < 128 = omega arith in
    sym (c.loop-left.invariant
    ∙ no_last_field c.loop-left.parts c.add.new.self c.loop-left._left c.loop-left.rest.now c.in_ok-add.field-0 low
    (sym c.in_default.ensures.cut) c.if-not-branch.true c.in_ok-add.ensures)

pub returns-in_default : goal.returns-in_default
returns-in_default c =
    let low : c.loop-left._left < 128 = omega arith in
    sym (c.loop-left.invariant
    ∙ fields_end c.loop-left.parts c.add.new.self c.loop-left._left c.loop-left.rest.now c.in_ok-add.field-0 low
    (sym c.in_default.ensures.cut) c.if-not-branch.false c.in_ok-add.ensures)

pub returns-then-not-branch-2 : goal.returns-then-not-branch-2
returns-then-not-branch-2 c =
    let low : c.loop-left._left < 128 = omega arith in
    sym (c.loop-left.invariant
    ∙ no_field c.loop-left.parts c.add-in-loop-left.new.self c.loop-left._left c.loop-left.rest.now (c.in-Some.field.now, c.in-Some.after.now)
    c.in_ok-add-2.field-0 low (sym c.in-Some.ensures.cut) c.if-not-branch-2.true c.in_ok-add-2.ensures)

pub loop-left-preserved : goal.loop-left-preserved
loop-left-preserved c =
    let low : c.loop-left._left < 128 = omega arith in
    c.loop-left.invariant
    ∙ fields_on c.loop-left.parts c.add-in-loop-left.new.self c.loop-left._left c.loop-left.rest.now (c.in-Some.field.now, c.in-Some.after.now)
    c.in_ok-add-2.field-0 low (sym c.in-Some.ensures.cut) c.if-not-branch-2.false c.in_ok-add-2.ensures

pub returns : goal.returns
returns c =
    let done : 128 - c.loop-left._left ≡ 0 = omega arith in
    sym (c.loop-left.invariant
    ∙ ap (λ k. with_fields k c.loop-left.parts c.loop-left.rest.now) done
    ∙ no_fields_left c.loop-left.parts c.loop-left.rest.now)
