use Rattle.std.proofs.Common.{[], ◌∷◌, ◌++◌, ap, ◌∙◌, arith}
use Rattle.mx_drill.specs.Drills.{drill_script}
use Rattle.mx_drill.proofs.ListLaws.{item_added}
use Rattle.mx_drill.proofs.sessions.scripts.Goals as goal

pub loop-p-preserved : goal.loop-p-preserved
loop-p-preserved c = record {
  made = item_added (drill_script c.args.number) c.loop-p.p c.loop-p.scripts c.push.new.self c.loop-p.invariant.least c.loop-p.invariant.made
      (c.in_ok-push.ensures.ok ∙ ap (λ x. c.loop-p.scripts ++ x ∷ []) c.in_ok-script.ensures);
  least = omega arith;
  most = omega arith;
}
