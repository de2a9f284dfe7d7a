-- LoadCell and StoreCell by a pass.
use Rattle.std.specs.Prelude.{◌^◌, ◌≡◌, ℕ, ◌<◌, ◌++◌, max, true, [], ◌∷◌, Some, None}
use Rattle.mx_sdw.specs.Operations.{writes}
use Rattle.mx_reads.specs.Held.{Held}
use Rattle.mx_core.specs.Judging.{loads}
use Rattle.mx_core.specs.Loading.{element_of}
use Rattle.mx_core.specs.Pages.{cell_at}
use Rattle.mx_core.specs.declared.elements.Kept.TheVariants.{Judged}
use Rattle.mx_core.specs.declared.elements.Outcome.TheVariants as outcome
use Rattle.mx_core.specs.declared.words.Asked.{Asked}
use Rattle.mx_core.specs.declared.words.Triple.{Triple}
use Rattle.mx_rule.specs.Codes.{cell_code, cell_said, IsCellCode}
use Rattle.mx_rule.specs.Layout.{Layout}
use Rattle.mx_rule.specs.Parts.{CellAt}
use Rattle.mx_rule.specs.Shown.{PassView}
use Rattle.mx_rule.specs.Allowing.{PassWrites, PassTells}

abbrev pub stored_view : {E : Type 0} → Triple → Asked → ℕ → PassView E → PassView E
stored_view u a value v = record v {
  hold = None;
  trace = v.trace ++ Judged (element_of u.segno a v.floor (outcome.Written value)) a.op u.desc ∷ [];
}

abbrev pub StoreCellAllowed : Type 0 → Type 0
StoreCellAllowed S = (y : Layout) (v : PassView S) (u : Triple) (a : Asked) (value : ℕ)
    → v.basis ≡ Some u → v.hold ≡ Some a → writes a.op ≡ true → value < 2 ^ 36 → cell_at u.desc a.word < 65536
    → PassWrites S y v (CellAt (cell_at u.desc a.word))
    (cell_code (record { value = value; writer = v.process; stamp = v.floor })) (stored_view u a value v)

abbrev pub read_view : {E : Type 0} → Triple → Asked → Held → PassView E → PassView E
read_view u a held v = record v {
  floor = max v.floor held.stamp;
  hold = None;
  trace =
      v.trace
      ++ Judged (element_of u.segno a v.floor (outcome.Read held.value held.writer held.stamp)) a.op u.desc ∷ [];
}

abbrev pub LoadCellAllowed : Type 0 → Type 0
LoadCellAllowed S = (y : Layout) (v : PassView S) (u : Triple) (a : Asked)
    → v.basis ≡ Some u → v.hold ≡ Some a → loads a.op ≡ true → cell_at u.desc a.word < 65536
    → PassTells S y v (CellAt (cell_at u.desc a.word)) (λ n. read_view u a (cell_said n) v) IsCellCode
