-- The passes as a run begins.
use Rattle.std.proofs.Common.{◌≡◌, ◌∙◌, ℕ, List, [], ◌∷◌, ◌+◌, ◌++◌, ap, subst, Option, Some, None}
use Rattle.std.proofs.lemmas.List.{append-nil}
use Rattle.std.specs.Prelude.{MatchOption, option_to_list}
use Rattle.mx_desc.specs.Openings.{AreFreshPasses}
use Rattle.mx_desc.specs.Passes.{PassValue}
use Rattle.mx_rule.specs.declared.views.PassView.{PassView}
use Rattle.rule_tests.specs.Passing.{IsNew, AreNew}

-- fresh passes are new
pub fresh_are_new : {E : Type 0} (start p : ℕ) (passes : List (PassValue E)) → AreFreshPasses start p passes
    → AreNew passes
fresh_are_new start p [] fresh = tt
fresh_are_new {E = E} start p (pass ∷ rest) fresh = (
  (ap (λ (v : PassView E). v.stage) fresh.0, ap (λ (v : PassView E). v.memory) fresh.0, fresh.2),
  fresh_are_new start (p + 1) rest fresh.3,
)

-- of new passes the last is new, and so are the others
pub last_is_new : {E : Type 0} (passes : List (PassValue E)) (pass : PassValue E) → AreNew (passes ++ pass ∷ [])
    → IsNew pass × AreNew passes
last_is_new [] pass new = (new.0, tt)
last_is_new (x ∷ passes) pass new = let rest = last_is_new passes pass new.1 in (rest.0, (new.0, rest.1))

-- so they are where one is taken, if there is one
pub taken_is_new : {E : Type 0} (items rest : List (PassValue E)) (pass : Option (PassValue E))
    → items ≡ rest ++ option_to_list pass → AreNew items
    → MatchOption pass (Unit {0}) (λ p. IsNew p) × AreNew rest
taken_is_new items rest None is new = (tt, subst AreNew (is ∙ append-nil rest) new)
taken_is_new items rest (Some pass) is new = last_is_new rest pass (subst AreNew is new)
