-- How many interleavings there are: the multinomial coefficient of the numbers of lines.
use Rattle.std.specs.Prelude.{ℕ, zero, suc, ◌+◌, ◌*◌, List, [], ◌∷◌}

-- in how many ways k things can be chosen from n
abbrev pub choose : ℕ → ℕ → ℕ
choose n zero = 1
choose zero (suc k) = 0
choose (suc n) (suc k) = choose n k + choose n (suc k)

-- in how many ways the lines of processes can be put among so many lines that came before them: those of the first at any places
-- among all, and those of each later one likewise
abbrev pub orders_among : ℕ → List ℕ → ℕ
orders_among before [] = 1
orders_among before (count ∷ counts) = choose (before + count) count * orders_among (before + count) counts

abbrev pub orders_of : List ℕ → ℕ
orders_of counts = orders_among 0 counts
