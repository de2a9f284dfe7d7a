-- The access part of the invariant: lengths, descriptor words, processes, and what is known settled.
use Rattle.std.specs.Prelude.{◌≡◌, ℕ, ◌+◌, ◌≤◌, Some}
use Rattle.mx_core.specs.Processes.{IsGoodProcess}
use Rattle.mx_core.specs.RightWords.{IsWord}
use Rattle.mx_core.specs.World.{Note, World}

-- 1 and 6 of a note, of which nothing exceeds what the supervisor knows settled
pub record IsGoodNote (start answered : ℕ) (told : ℕ → ℕ → ℕ) (o : Note) : Type 0 where
  pub low : start ≤ o.floor
  pub high : o.floor ≤ answered
  pub own : (p n : ℕ) → o.told p n ≤ o.floor
  pub most : (p n : ℕ) → o.told p n ≤ told p n

pub record IsAccess (w : World) : Type 0 where
  -- 1: at most one entry is not answered
  pub start_low : w.start ≤ w.answered
  pub answered_low : w.answered ≤ w.length
  pub length_high : w.length ≤ w.answered + 1
  -- 2, 3 and the supervisor's part of 6
  pub words : (p n : ℕ) → IsWord w.start w.answered w.length (λ q. w.table q p n) (w.told p n) (w.word p n)
  -- 1, 4, 5, 10, 11 of each process
  pub processes : (p : ℕ) → IsGoodProcess w.start w.answered w.length (λ q n. w.table q p n) (w.word p) (w.process p)
  -- 6: nobody knows more settled than the supervisor
  pub tolds : (o p n : ℕ) → (w.process o).told p n ≤ w.told p n
  pub notes : (i : ℕ) (o : Note) → w.note i ≡ Some o → IsGoodNote w.start w.answered w.told o
