-- The invariant of the core, in its five parts. Numbers name the clauses: 1 lengths, floors and stamps, 2 words, 3
-- faults, 4 bases, memories and holds, 5 acknowledgements, 6 what is known settled, 7 cells, 8 traces, 9 reads, 10
-- connect words and flags, 11 looks, 12 uses (it follows from 14), 13 clean cells and covered pages, 14 given pages.
use Rattle.std.specs.Prelude.{ℕ, ◌+◌}
use Rattle.mx_reads.specs.Held.{AreRight}
use Rattle.mx_core.specs.Access.{IsAccess}
use Rattle.mx_core.specs.Deeds.{deeds, front, present, holding}
use Rattle.mx_core.specs.Memory.{IsMemory}
use Rattle.mx_core.specs.Shapes.{IsShaped}
use Rattle.mx_core.specs.Traces.{IsGoodTrace}
use Rattle.mx_core.specs.World.{World}

pub record Good (w : World) : Type 0 where
  -- what the world has at all, and marks
  pub shape : IsShaped w
  -- 1 to 6, 10, 11
  pub access : IsAccess w
  -- 8
  pub traces : (p : ℕ) → IsGoodTrace w.start (w.process p).floor (λ q n. w.table q p n) (w.word p) (w.trace p)
  -- 7 and 9: each read that was kept is right, and each cell holds what may be read there, in its present use
  pub reads : AreRight (w.processes + 1) w.answered (deeds w) (front w.start w.entry) (present w) (holding w)
  -- 13 and 14
  pub memory : IsMemory w.start w.answered w.length w.table w.given w.ready w.clean w.cell
