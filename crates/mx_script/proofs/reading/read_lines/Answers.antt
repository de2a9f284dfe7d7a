use Rattle.std.proofs.Common.{◌≡◌, Bool, Some, sym, subst, arith}
use Rattle.std.specs.Prelude.{if◌then◌else◌, None}
use Rattle.mx_script.proofs.ReadingLaws.{nothing_read, read_on, counted, bad_line}
use Rattle.mx_script.specs.Drafts.{Draft, Follows}
use Rattle.mx_script.specs.FirstBadLine.{IsFirstBad}
use Rattle.mx_script.specs.Progress.{HasRead}
use Rattle.mx_script.proofs.reading.read_lines.Goals as goal

pub loop-line-init : goal.loop-line-init
loop-line-init c =
    subst (λ (draft : Draft). HasRead c.args.bytes.now c.args.bytes.now 1 draft) (sym c.requires.empty) (nothing_read c.args.bytes.now)

pub returns-then-not-branch-clause-bad_line : goal.returns-then-not-branch-clause-bad_line
returns-then-not-branch-clause-bad_line c =
    λ n e.
    let same : c.loop-line.number ≡ n = cc in
    let P : Bool → Type 0
    = λ goes. Follows c.loop-line.draft c.in-Some.line.now (if goes then Some c.read.new.self else None) in
    subst (IsFirstBad c.args.bytes.now) same
    (bad_line _ c.loop-line.rest.now _ c.loop-line.draft (c.in-Some.line.now, c.in-Some.after.now)
    c.loop-line.invariant (sym c.in-Some.ensures.cut) (subst P c.if-not-branch.true c.in_ok-read.ensures))

pub overflow_add-number : goal.overflow_add-number
overflow_add-number c =
    omega (
      arith,
      counted _ c.loop-line.rest.now _ c.loop-line.draft (c.in-Some.line.now, c.in-Some.after.now) c.loop-line.invariant
          (sym c.in-Some.ensures.cut),
    )

pub loop-line-preserved : goal.loop-line-preserved
loop-line-preserved c =
    let P : Bool → Type 0
    = λ goes. Follows c.loop-line.draft c.in-Some.line.now (if goes then Some c.read.new.self else None) in
    read_on _ c.loop-line.rest.now _ c.loop-line.draft c.read.new.self (c.in-Some.line.now, c.in-Some.after.now)
    c.loop-line.invariant (sym c.in-Some.ensures.cut) (subst P c.if-not-branch.false c.in_ok-read.ensures)
