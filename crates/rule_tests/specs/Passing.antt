-- Passes of processes that did nothing yet.
use Rattle.std.specs.Prelude.{◌≡◌, true, List, [], ◌∷◌}
use Rattle.mx_core.specs.declared.words.Stage.TheVariants.{Outside}
use Rattle.mx_desc.specs.Passes.{PassValue}

-- the process is outside, and remembers nothing; its pass keeps its trace
abbrev pub IsNew : {E : Type 0} → PassValue E → Type 0
IsNew pass = (pass.view.stage ≡ Outside) × (pass.view.memory ≡ []) × (pass.keeps ≡ true)

abbrev pub AreNew : {E : Type 0} → List (PassValue E) → Type 0
AreNew [] = Unit {0}
AreNew (pass ∷ rest) = IsNew pass × AreNew rest
