use Rattle.std.proofs.Common.{◌≡◌, ◌≤◌, ◌+◌, ℕ, refl, arith}
use Rattle.mx_state.specs.Table.{descriptor}
use Rattle.mx_sup.specs.Supervised.{state_of}
use Rattle.mx_closing.proofs.Openings.{opens, may_open, keeps_now}
use Rattle.mx_closing.proofs.Tables.{rows_longer, rows_admissible}
use Rattle.mx_closing.proofs.opening.opening_key.Goals as goal

pub loop-i-preserved : goal.loop-i-preserved
loop-i-preserved c =
    let table : ℕ → ℕ → _ = descriptor (state_of c.args.supervisor.now) in
    let numbers = c.layout_of-layout.result.numbers in
    let i = c.loop-i.i in record {
      known = rows_longer numbers table i (i + 1) c.loop-i.base c.add_known.new.base c.loop-i.invariant.known refl
          c.in_ok-add_known.ensures.known;
      admissible = rows_admissible numbers table i c.loop-i.invariant.admissible c.in_ok-add_known.ensures.admissible;
    }

-- the loop has gone through all
ended : (i all : ℕ) → all ≤ i → i ≤ all → i ≡ all
ended i all over most = omega (arith, over, most)

pub returns-clause-may : goal.returns-clause-may
returns-clause-may c =
    may_open c.args.session.now c.args.supervisor.now c.layout_of-layout.result c.length-start.result
    c.limit-limit.result c.loop-i.i c.loop-i.base c.requires c.length-start.ensures.history
    c.layout_of-layout.ensures.some c.layout_of-layout.ensures.most c.length-start.ensures.value
    c.limit-limit.ensures.value c.limit-limit.ensures.most (ended c.loop-i.i c.layout_of-layout.result.processes c.loop-i-test.false c.loop-i.auto.i-end)
    c.loop-i.invariant.known
    c.loop-i.invariant.admissible

pub returns-clause-table : goal.returns-clause-table
returns-clause-table c =
    opens c.args.session.now c.args.supervisor.now c.layout_of-layout.result c.loop-i.i c.loop-i.base c.requires
    c.layout_of-layout.ensures.layout (ended c.loop-i.i c.layout_of-layout.result.processes c.loop-i-test.false c.loop-i.auto.i-end)
    c.loop-i.invariant.known

pub returns-clause-keeps : goal.returns-clause-keeps
returns-clause-keeps c =
    keeps_now c.args.session.now c.args.supervisor.now c.layout_of-layout.result c.length-start.result c.loop-i.i
    c.loop-i.base c.requires c.length-start.ensures.history c.layout_of-layout.ensures.layout
    c.length-start.ensures.value (ended c.loop-i.i c.layout_of-layout.result.processes c.loop-i-test.false c.loop-i.auto.i-end)
    c.loop-i.invariant.known
    (may_open c.args.session.now c.args.supervisor.now c.layout_of-layout.result c.length-start.result
    c.limit-limit.result c.loop-i.i c.loop-i.base c.requires c.length-start.ensures.history
    c.layout_of-layout.ensures.some c.layout_of-layout.ensures.most c.length-start.ensures.value
    c.limit-limit.ensures.value c.limit-limit.ensures.most
    (ended c.loop-i.i c.layout_of-layout.result.processes c.loop-i-test.false c.loop-i.auto.i-end)
    c.loop-i.invariant.known c.loop-i.invariant.admissible)
