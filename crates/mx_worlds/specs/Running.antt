-- Where a list of steps stops: those before a step are made, and that step is refused.
use Rattle.std.specs.Prelude.{◌≡◌, List, ◌∷◌, ◌++◌}
use Rattle.mx_core.specs.Causes.{IsRefusal}
use Rattle.mx_worlds.specs.Shows.{Shows}
use Rattle.mx_core.specs.Steps.{CanAll, after_all}
use Rattle.mx_core.specs.World.{World}
use Rattle.mx_core.specs.declared.steps.Step.{Step}
use Rattle.mx_core.specs.declared.steps.StepError.{StepError}
use Rattle.mx_worlds.specs.declared.worlds.World.{World as Running}

pub record StopsAt (w : World) (steps : List Step) (why : StepError) (m : Running) : Type 0 where
  pub made : List Step
  pub step : Step
  pub rest : List Step
  pub split : steps ≡ made ++ step ∷ rest
  pub enabled : CanAll w made
  pub refused : IsRefusal (after_all w made) step why
  pub left : Shows m (after_all w made)
