use Rattle.std.proofs.Common.{[], ◌∷◌, ◌++◌, ap, ◌∙◌, arith}
use Rattle.mx_aim.specs.Classes.{lowest}
use Rattle.mx_name.specs.Principals.{PlainPrincipal}
use Rattle.mx_script.specs.Sessions.{entrant}
use Rattle.mx_drill.specs.Drills.{drill_process}
use Rattle.mx_drill.proofs.ListLaws.{item_added}
use Rattle.mx_drill.proofs.sessions.principals.Goals as goal

pub loop-p-preserved : goal.loop-p-preserved
loop-p-preserved c = record {
  made = item_added drill_process c.loop-p.p c.loop-p.principals c.push.new.self c.loop-p.invariant.least c.loop-p.invariant.made
      (c.in_ok-push.ensures.ok ∙ ap (λ (who : PlainPrincipal). c.loop-p.principals ++ entrant who lowest ∷ []) c.driller.ensures);
  least = omega arith;
  most = omega arith;
}
