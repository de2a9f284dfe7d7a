use Rattle.std.proofs.Common.{◌<◌, ◌∙◌, length, sym, arith}
use Rattle.mx_state.proofs.RenewingLaws.{front_admissible, left_out, put_in_front}
use Rattle.mx_state.proofs.renewing.renew.Goals as goal
use Rattle.mx_state.proofs.renewing.renew.Goals.{then-not-same, else-not-same}

pub loop-i-preserved : goal.loop-i-preserved
loop-i-preserved c =
    let xs = c.loop-i.held in
    let k = c.loop-i.count in
    let i = c.loop-i.i in
    let x = c.index-held-i.result in
    let desc = c.descriptor-desc.result in
    let hier = c.args.hier.now in
    let all = c.args.processes.now in
    let kept = c.loop-i.invariant in
    let within : i < length xs = omega arith in
    let test = c.is_same-same.ensures.test in
    elim c.if-not-same.branch [
      | then-not-same w ↦ record {
        few = omega arith;
        changes = rw (w.held-is, w.count-is) (kept.changes
            ∙ put_in_front hier all xs k i x desc kept.few within c.index-held-i.is c.descriptor-desc.ensures.value (sym test ∙ w.if-not-same.true));
        admissible = rw (w.held-is, w.count-is)
            (front_admissible xs k _ (omega arith) kept.admissible c.descriptor-desc.ensures.admissible);
      }
      | else-not-same w ↦ record {
        few = omega arith;
        changes = rw (w.held-is, w.count-is) (kept.changes
            ∙ left_out hier all xs k i x desc within c.index-held-i.is c.descriptor-desc.ensures.value (sym test ∙ w.if-not-same.false));
        admissible = rw (w.held-is, w.count-is) kept.admissible;
      }
    ]
