-- The opening, as the passes of a run begin.
use Rattle.std.specs.Prelude.{◌≡◌, ℕ, ◌+◌, true, List, [], ◌∷◌}
use Rattle.mx_rule.specs.Shown.{fresh_view}
use Rattle.mx_rule.specs.declared.views.SuperView.{SuperView}
use Rattle.mx_desc.specs.Passes.{PassValue}

-- the supervisor's seat is as the opening after so many entries gives it: no entry came and no word was written since,
-- and no pass was dealt
pub record IsOpening {E : Type 0} (start : ℕ) (v : SuperView E) : Type 0 where
  pub begun : v.start ≡ start
  pub none : v.history ≡ []
  pub still : v.length ≡ start
  pub unwritten : v.words ≡ []
  pub first : v.next ≡ 1

-- the passes are those of the processes from this one on, none of which did anything yet, or has an entry of its own;
-- each keeps its trace
abbrev pub AreFreshPasses : {E : Type 0} → ℕ → ℕ → List (PassValue E) → Type 0
AreFreshPasses start p [] = Unit {0}
AreFreshPasses start p (pass ∷ rest) =
    (pass.view ≡ fresh_view start p) × (pass.amount ≡ 0) × (pass.keeps ≡ true) × AreFreshPasses start (p + 1) rest
