-- The passes as a run begins.
use Rattle.std.proofs.Common.{◌≡◌, ℕ, List, [], ◌∷◌, ◌+◌, ◌++◌, ap, subst, Option, Some, None}
use Rattle.std.specs.Prelude.{MatchOption, option_to_list}
use Rattle.mx_core.specs.declared.words.Stage.TheVariants.{Outside}
use Rattle.mx_desc.specs.Openings.{AreFreshPasses}
use Rattle.mx_desc.specs.Passes.{PassValue}
use Rattle.mx_rule.specs.declared.views.PassView.{PassView}

-- the last of the fresh passes is outside, and remembers nothing
fresh_last : {E : Type 0} (start p : ℕ) (passes : List (PassValue E)) (pass : PassValue E)
    → AreFreshPasses start p (passes ++ pass ∷ []) → (pass.view.stage ≡ Outside) × (pass.view.memory ≡ [])
fresh_last {E = E} start p [] pass fresh =
    (ap (λ (v : PassView E). v.stage) fresh.0, ap (λ (v : PassView E). v.memory) fresh.0)
fresh_last start p (x ∷ passes) pass fresh = fresh_last start (p + 1) passes pass fresh.3

-- so is what is popped, where there is one
pub popped_last : {E : Type 0} (start : ℕ) (items rest : List (PassValue E)) (pass : Option (PassValue E))
    → items ≡ rest ++ option_to_list pass → AreFreshPasses start 1 items
    → MatchOption pass (Unit {0}) (λ p. (p.view.stage ≡ Outside) × (p.view.memory ≡ []))
popped_last start items rest None is fresh = tt
popped_last start items rest (Some pass) is fresh =
    fresh_last start 1 rest pass (subst (AreFreshPasses start 1) is fresh)
