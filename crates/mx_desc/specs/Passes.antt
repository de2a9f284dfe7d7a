-- A pass, as contracts see it.
use Rattle.std.specs.Prelude.{◌≡◌, ℕ, ◌+◌, ◌≤◌, ◌-◌, ◌^◌, Bool, false, List, length, Option, Some}
use Rattle.atomic_table.specs.Seated.{TableId}
use Rattle.mx_core.specs.declared.elements.Kept.{Kept}
use Rattle.mx_core.specs.declared.words.Triple.{Triple}
use Rattle.mx_rule.specs.declared.layout.Layout.{Layout}
use Rattle.mx_rule.specs.declared.views.PassView.{PassView}
use Rattle.mx_desc.specs.Traces.{IsTraceOf}

-- what its process knows, how many own entries its share has, whether it keeps its trace, and for how many more events
-- that has room
pub record PassValue (E : Type 0) : Type 0 where
  pub view : PassView E
  pub amount : ℕ
  pub keeps : Bool
  pub spare : ℕ

-- the same, but that no trace is kept: there is room for as many events as can be asked for
abbrev pub without_trace : {E : Type 0} → PassValue E → PassValue E
without_trace o = record o { keeps = false; spare = 2 ^ 64 - 1 }

-- What its type says. It is of the run's table, which opened after as many entries, and it was told of no more than its
-- floor says. The trace, where it keeps one, and the basis that it keeps are those that the rule knows of the process.
-- Its share has one part of the ledger.
pub record IsPass {E : Type 0} (table place : TableId) (layout y : Layout) (start parts : ℕ) (v : PassView E)
    (trace : Option (List Kept)) (basis : Option Triple) : Type 0 where
  pub here : place ≡ table
  pub laid : y ≡ layout
  pub begun : v.start ≡ start
  pub behind : start + length v.history ≤ v.floor
  pub kept : IsTraceOf v.trace trace
  pub based : basis ≡ v.basis
  pub part : parts ≡ 1

-- it has judged since it went in, and its last reference was no miss
pub record HasBasis {E : Type 0} (v : PassView E) : Type 0 where
  pub on : Triple
  pub is : v.basis ≡ Some on
