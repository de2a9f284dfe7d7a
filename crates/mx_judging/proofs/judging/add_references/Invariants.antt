use Rattle.std.proofs.Common.{◌≡◌, ◌++◌, drop}
use Rattle.mx_judging.specs.References.{own_references}
use Rattle.mx_judging.proofs.judging.add_references.Given as goal

-- those of the events so far, and behind them those of the others
abbrev pub invariant-loop-event : goal.invariant-loop-event
invariant-loop-event l =
    l.found.items ++ own_references l.process (drop l.event-index l.events) ≡ l.initial.found.items ++ own_references l.process l.events
