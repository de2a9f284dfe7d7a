-- A process that the office told of something, and that did nothing itself.
use Rattle.std.specs.Prelude.{◌≡◌}
use Rattle.mx_desc.specs.Passes.{PassValue}

-- it is where it was, with the same memory, and room for as many events
pub record HasKept {E : Type 0} (o o' : PassValue E) : Type 0 where
  pub stage : o'.view.stage ≡ o.view.stage
  pub memory : o'.view.memory ≡ o.view.memory
  pub spare : o'.spare ≡ o.spare
