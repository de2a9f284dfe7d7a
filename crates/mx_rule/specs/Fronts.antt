-- Histories as seats keep them, the last entry first: one who was told of less has a front of what another has.
use Rattle.std.specs.Prelude.{◌≡◌, nat_le, List, ◌++◌, length}
use Rattle.mx_core.specs.Put.{pick}

-- the one is the other without what came later
pub record IsFront {A : Type 0} (front whole : List A) : Type 0 where
  pub later : List A
  pub is : whole ≡ later ++ front

-- the longer of two
abbrev pub longer_of : {A : Type 0} → List A → List A → List A
longer_of xs ys = pick (nat_le (length xs) (length ys)) ys xs
