-- Lines `end`.
use Rattle.std.specs.Prelude.{ℕ, ◌==◌, Bool, ◌&&◌, not, List, codes}
use Rattle.std.specs.Cmp.Lexicographic.{pointwise}
use Rattle.mx_name.specs.Names.{is_free}

-- a whole line other than `end`
abbrev pub is_other : List ℕ → Bool
is_other line = is_free 10 line && not (pointwise ◌==◌ line (codes "end"))
