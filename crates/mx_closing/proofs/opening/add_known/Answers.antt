use Rattle.std.proofs.Common.{◌∙◌, ℕ, subst}
use Rattle.mx_sdw.specs.Admissible.{IsAdmissible}
use Rattle.mx_state.specs.Table.{descriptor}
use Rattle.mx_sup.specs.Supervised.{state_of}
use Rattle.mx_closing.proofs.Tables.{row_added, row_skipped, below_more}
use Rattle.mx_closing.proofs.opening.add_known.Goals as goal
use Rattle.mx_closing.proofs.opening.add_known.Goals.{then-not-is_same+in_ok-push, else-not-is_same}

pub loop-segno-preserved : goal.loop-segno-preserved
loop-segno-preserved c =
    let row : ℕ → _ = descriptor (state_of c.args.supervisor.now) c.args.p in
    let n = c.loop-segno.segno in
    let admissible = below_more (λ k. IsAdmissible (row k)) n c.loop-segno.invariant.admissible
    (subst IsAdmissible c.descriptor-desc.ensures.value c.descriptor-desc.ensures.admissible) in
    elim c.if-not-is_same.branch [
      | then-not-is_same+in_ok-push w ↦ record {
        known = row_added c.args.base.now c.loop-segno.base c.if-not-is_same.base c.args.p n row
            c.descriptor-desc.result c.unknown-unknown.result c.is_same.result c.loop-segno.invariant.known
            c.descriptor-desc.ensures.value c.unknown-unknown.ensures c.is_same.ensures.test
            w.if-not-is_same.true (w.base-is ∙ w.in_ok-push.ensures.ok);
        admissible = admissible;
      }
      | else-not-is_same w ↦ record {
        known = w.base-is ∙ row_skipped c.args.base.now c.loop-segno.base c.args.p n row
            c.descriptor-desc.result c.unknown-unknown.result c.is_same.result c.loop-segno.invariant.known
            c.descriptor-desc.ensures.value c.unknown-unknown.ensures c.is_same.ensures.test w.if-not-is_same.false;
        admissible = admissible;
      }
    ]
