use Rattle.std.proofs.Common.{ℕ, ap, ◌∙◌}
use Rattle.mx_lint.specs.Lines.{first_line, without_lines}
use Rattle.mx_lint.proofs.FaultLaws.{diagnosed}
use Rattle.mx_lint.proofs.linting.diagnose.Goals as goal

pub returns : goal.returns
returns c = record {
  line = record {
    first = c.requires;
    text_is = c.first_line-ends.ensures.line
        ∙ ap first_line (c.approach-place.ensures.rest ∙ ap (λ (n : ℕ). without_lines n c.args.bytes.now) c.saturating_sub.ensures);
  };
  fault_is = diagnosed c.args.bytes.now _ _ c.args.number c.saturating_sub.result _ _ _ _ c.saturating_sub.ensures c.approach-place.ensures.place
      c.approach-place.ensures.rest c.version_of.ensures c.first_line-ends.ensures.ends c.in_ok-fault.ensures;
}
