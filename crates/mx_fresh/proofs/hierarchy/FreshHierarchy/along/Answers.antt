use Rattle.std.proofs.Common.{◌≡◌, ◌+◌, IfOk, fold, drop, sym, ap, subst, ◌∙◌, arith}
use Rattle.mx_hier.specs.Walks.{Stop, step, ended}
use Rattle.mx_fresh.specs.Stops.{stop_of}
use Rattle.mx_fresh.proofs.FoldLaws.{fold_on, none_left}
use Rattle.mx_fresh.proofs.hierarchy.FreshHierarchy.along.Goals as goal

pub loop-name-preserved : goal.loop-name-preserved
loop-name-preserved c =
    let h = c.args.self.now in
    ap (λ (stop : Stop). fold (step h) stop (drop (c.loop-name.name-index + 1) c.args.names.now)) c.in_ok-stop.ensures
    ∙ fold_on (step h) (stop_of c.loop-name.stop) c.args.names.now c.loop-name.name-index c.name-item.result (omega arith) c.name-item.is
    ∙ c.loop-name.invariant

pub returns : goal.returns
returns c =
    let h = c.args.self.now in
    subst (λ (meant : Stop). IfOk c.ended.result (λ stop. stop_of stop ≡ meant))
    (ap (ended h c.args.follow) (sym (ap (fold (step h) (stop_of c.loop-name.stop)) (none_left c.args.names.now c.loop-name.name-index c.loop-name-test.false)) ∙ c.loop-name.invariant))
    c.ended.ensures
