use Rattle.std.proofs.Common.{◌≡◌, ℕ, ◌+◌, List, length, ap, sym, ◌∙◌, subst, rules}
use Rattle.mx_core.specs.Lists.{Lists}
use Rattle.mx_core.proofs.Lists.{value_added}
use Rattle.mx_rule.specs.Openings.{blank_number}
use Rattle.mx_rule.proofs.opening.blanks.Goals as goal

pub loop-word-preserved : goal.loop-word-preserved
loop-word-preserved c =
    let words = c.loop-word.words in
    let count : c.loop-word.word ≡ length words.items = search rules in (
      c.in_ok-push.ensures.len ∙ ap (λ (k : ℕ). k + 1) c.loop-word.invariant.0,
      subst (λ (l : List ℕ). Lists l (blank_number c.args.layout.now c.args.start)) (sym c.in_ok-push.ensures.items)
          (value_added words.items (blank_number c.args.layout.now c.args.start) c.blank.result c.loop-word.invariant.1
          (c.blank.ensures ∙ ap (blank_number c.args.layout.now c.args.start) count)),
    )
