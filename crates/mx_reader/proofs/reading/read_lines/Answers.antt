use Rattle.std.proofs.Common.{◌≡◌, Bool, Some, sym, subst, arith}
use Rattle.std.specs.Prelude.{if◌then◌else◌, None}
use Rattle.mx_reader.proofs.ReadLaws.{bad_line, counted, nothing_read, read_on}
use Rattle.mx_reader.specs.FirstBadLine.{IsFirstBad}
use Rattle.mx_reader.specs.Progress.{HasRead, Progress, step}
use Rattle.mx_reader.specs.RunTexts.{IsSomeRun}
use Rattle.mx_reader.proofs.reading.read_lines.Goals as goal

pub loop-line-init : goal.loop-line-init
loop-line-init c =
    subst (λ (draft : Progress). HasRead c.args.bytes.now c.args.bytes.now 1 draft) (sym c.requires.empty) (nothing_read c.args.bytes.now)

pub returns-then-not-branch-clause-bad_line : goal.returns-then-not-branch-clause-bad_line
returns-then-not-branch-clause-bad_line c =
    λ n e.
    let same : c.loop-line.number ≡ n = cc in
    let P : Bool → Type 0
    = λ goes. (if goes then Some c.read.new.self else None) ≡ step c.loop-line.draft c.in-Some.line.now in
    subst (IsFirstBad IsSomeRun c.args.bytes.now) same
    (bad_line _ c.loop-line.rest.now _ c.loop-line.draft (c.in-Some.line.now, c.in-Some.after.now)
    c.loop-line.invariant (sym c.in-Some.ensures.cut) (sym (subst P c.if-not-branch.true c.in_ok-read.ensures)))

pub overflow_add-number : goal.overflow_add-number
overflow_add-number c =
    omega (
      arith,
      counted _ c.loop-line.rest.now _ c.loop-line.draft (c.in-Some.line.now, c.in-Some.after.now) c.loop-line.invariant
          (sym c.in-Some.ensures.cut),
    )

pub loop-line-preserved : goal.loop-line-preserved
loop-line-preserved c =
    let P : Bool → Type 0
    = λ goes. (if goes then Some c.read.new.self else None) ≡ step c.loop-line.draft c.in-Some.line.now in
    read_on _ c.loop-line.rest.now _ c.loop-line.draft c.read.new.self (c.in-Some.line.now, c.in-Some.after.now)
    c.loop-line.invariant (sym c.in-Some.ensures.cut) (sym (subst P c.if-not-branch.false c.in_ok-read.ensures))
