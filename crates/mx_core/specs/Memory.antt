-- The memory's part of the invariant: cells, and the pages in which they lie.
use Rattle.std.specs.Prelude.{◌≡◌, ◌≢◌, ℕ, suc, ◌^◌, ◌<◌, ◌≤◌, Bool, IsTrue}
use Rattle.mx_sdw.specs.Descriptors.{Descriptor}
use Rattle.mx_reads.specs.Held.{Held}
use Rattle.mx_core.specs.Pages.{page_of, covers}
use Rattle.mx_core.specs.Words.{zero_cell}

-- a cell holds a word of 36 bits; one with writer 0 is zero, and the stamp of another lies from the opening to the
-- answered length
pub record IsCell (start answered : ℕ) (held : Held) : Type 0 where
  pub word : held.value < 2 ^ 36
  pub zero : held.writer ≡ 0 → held ≡ zero_cell
  pub low : held.writer ≢ 0 → start ≤ held.stamp
  pub high : held.writer ≢ 0 → held.stamp ≤ answered

-- no descriptor covers the page
abbrev pub IsBare : (ℕ → ℕ → Descriptor) → ℕ → Type 0
IsBare h page = (p n : ℕ) → IsTrue (covers (h p n) page) → ⊥

pub record IsMemory (start answered length : ℕ) (table : ℕ → ℕ → ℕ → Descriptor) (given : ℕ → ℕ → Bool)
    (ready clean : ℕ → Bool)
    (cell : ℕ → Held) : Type 0 where
  -- 1 and 7
  pub cells : (c : ℕ) → IsCell start answered (cell c)
  -- 13: a clean cell is zero with writer 0, and its page is bare, answered and pending; a page that is covered is ready
  pub clean_zero : (c : ℕ) → IsTrue (clean c) → cell c ≡ zero_cell
  pub clean_bare : (c : ℕ) → IsTrue (clean c) → IsBare (table answered) (page_of c)
  pub clean_bare_next : (c : ℕ) → IsTrue (clean c) → IsBare (table length) (page_of c)
  pub covered_ready : (page p n : ℕ) → IsTrue (covers (table answered p n) page) → IsTrue (ready page)
  pub covered_ready_next : (page p n : ℕ) → IsTrue (covers (table length p n) page) → IsTrue (ready page)
  -- 14: before an entry gave a page out, the page was bare
  pub given_bare : (before page : ℕ) → start ≤ before → before < length → IsTrue (given (suc before) page)
      → IsBare (table before) page
