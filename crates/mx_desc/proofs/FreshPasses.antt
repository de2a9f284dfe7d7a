-- One pass more is dealt.
use Rattle.std.proofs.Common.{◌≡◌, ℕ, ◌+◌, true, List, [], ◌∷◌, ◌++◌, length, ap, ◌∙◌, arith}
use Rattle.mx_rule.specs.Shown.{fresh_view}
use Rattle.mx_desc.specs.Openings.{AreFreshPasses}
use Rattle.mx_desc.specs.Passes.{PassValue}

pub one_more_pass : {E : Type 0} (start p q : ℕ) (passes : List (PassValue E)) (pass : PassValue E)
    → AreFreshPasses start p passes → q ≡ p + length passes → pass.view ≡ fresh_view start q → pass.amount ≡ 0
    → pass.keeps ≡ true
    → AreFreshPasses start p (passes ++ pass ∷ [])
one_more_pass start p q [] pass fresh is view amount keeps =
    (view ∙ ap (fresh_view start) (let a = is in omega arith), amount, keeps, tt)
one_more_pass start p q (x ∷ passes) pass fresh is view amount keeps = (
  fresh.0,
  fresh.1,
  fresh.2,
  one_more_pass start (p + 1) q passes pass fresh.3 (omega arith) view amount keeps,
)
