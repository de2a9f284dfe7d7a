-- The arrows of the drawing: each leads from a read to the store that the read names.
use Rattle.std.specs.Prelude.{◌≡◌, ℕ, ◌+◌, ◌*◌}
use Rattle.mx_core.specs.declared.elements.Outcome.{Outcome}
use Rattle.mx_core.specs.declared.elements.Outcome.TheVariants as outcome
use Rattle.mx_judging.specs.declared.replays.Judged.{Judged}

-- the cell of a reference
abbrev pub cell_of : Judged → ℕ
cell_of j = j.desc.page * 64 + j.element.word

-- a write of this process, at this point, of this value
abbrev pub IsWriteOf : Judged → ℕ → ℕ → ℕ → Type 0
IsWriteOf store value writer stamp =
    (store.element.outcome ≡ outcome.Written value) × (store.process ≡ writer) × (store.element.point ≡ stamp)

-- the read names this write, by its value, its writer and its stamp
abbrev pub IsNamed : Outcome → Judged → Type 0
IsNamed (outcome.Read value writer stamp) store = IsWriteOf store value writer stamp
IsNamed _ store = ⊥

-- it is the store that the read names, in the same cell
pub record IsStoreFor (store read : Judged) : Type 0 where
  pub named : IsNamed read.element.outcome store
  pub cell : cell_of store ≡ cell_of read
