use Rattle.std.proofs.Common.{◌≡◌, ℕ, suc, ◌+◌, List, take, drop, Result, Err, ap, sym, ◌∙◌, subst, arith, rules}
use Rattle.std.specs.Result.{MatchResult}
use Rattle.mx_worlds.specs.Running.{StopsAt}
use Rattle.mx_worlds.specs.Shows.{Shows}
use Rattle.mx_core.specs.Steps.{CanAll, after_all}
use Rattle.mx_core.specs.declared.steps.Step.{Step}
use Rattle.mx_core.specs.declared.steps.StepError.{StepError}
use Rattle.mx_worlds.proofs.Runs.{can_more, after_more, take_next, split_next, found_here}
use Rattle.mx_worlds.proofs.worlds.World.run.Goals as goal

one_up : (i : ℕ) → i + 1 ≡ suc i
one_up i = omega arith

pub returns-in_err-step : goal.returns-in_err-step
returns-in_err-step c w shows =
    let steps = c.args.steps.now in
    let i = c.loop-step.step-index in
    let x = c.step-item.result in
    let at = found_here steps c.items-step-items.result.now i x (search rules) (search rules) c.step-item.is in
    let so_far = c.loop-step.invariant w shows in
    let h = c.in_err-step.ensures (after_all w (take i steps)) so_far.1 in
    let e : c.from_residual.result ≡ Err c.in_err-step.field-0.0 = search rules in
    subst (λ (r : Result _ StepError). MatchResult r
    (λ done. CanAll w steps × Shows c.step.new.self (after_all w steps))
    (λ why. StopsAt w steps why c.step.new.self)) (sym e)
    (record {
      made = take i steps;
      step = x;
      rest = drop (suc i) steps;
      split = split_next steps i x at;
      enabled = so_far.0;
      refused = h.0;
      left = h.1;
    })

pub loop-step-preserved : goal.loop-step-preserved
loop-step-preserved c w shows =
    let steps = c.args.steps.now in
    let i = c.loop-step.step-index in
    let x = c.step-item.result in
    let at = found_here steps c.items-step-items.result.now i x (search rules) (search rules) c.step-item.is in
    let so_far = c.loop-step.invariant w shows in
    let h = c.in_ok-step.ensures (after_all w (take i steps)) so_far.1 in
    let e = ap (λ (k : ℕ). take k steps) (one_up i) ∙ take_next steps i x at in
    subst (λ (l : List Step). CanAll w l × Shows c.step.new.self (after_all w l)) (sym e) (
      can_more w (take i steps) x so_far.0 h.0,
      subst (Shows c.step.new.self) (sym (after_more w (take i steps) x)) h.1,
    )
