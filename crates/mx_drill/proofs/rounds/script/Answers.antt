use Rattle.std.proofs.Common.{[], ◌∷◌, ◌++◌, ap, sym, ◌∙◌, arith, append_assoc, append-nil}
use Rattle.mx_drill.specs.Drills.{initiation, rounds, round}
use Rattle.mx_drill.proofs.ListLaws.{item_added}
use Rattle.mx_drill.proofs.SessionLaws.{rounds_none, rounds_more}
use Rattle.mx_drill.proofs.rounds.script.Goals as goal

pub loop-s-preserved : goal.loop-s-preserved
loop-s-preserved c = record {
  made = item_added initiation c.loop-s.s c.loop-s.script c.push.new.self c.loop-s.invariant.least c.loop-s.invariant.made
      (c.in_ok-push.ensures.ok ∙ ap (λ line. c.loop-s.script ++ line ∷ []) c.in_ok-initiation.ensures);
  least = omega arith;
  most = omega arith;
}

pub loop-i-init : goal.loop-i-init
loop-i-init c = record {
  made = sym (append-nil c.loop-s.script) ∙ ap (λ lines. c.loop-s.script ++ lines) (sym (rounds_none c.args.number c.args.p));
  most = omega arith;
}

pub loop-i-preserved : goal.loop-i-preserved
loop-i-preserved c = record {
  made = c.in_ok-add_round.ensures ∙ (ap (λ lines. lines ++ round c.args.number c.args.p c.loop-i.i) c.loop-i.invariant.made
      ∙ (append_assoc c.loop-s.script (rounds c.args.number c.args.p c.loop-i.i) (round c.args.number c.args.p c.loop-i.i)
      ∙ ap (λ lines. c.loop-s.script ++ lines) (sym (rounds_more c.args.number c.args.p c.loop-i.i))));
  most = omega arith;
}
