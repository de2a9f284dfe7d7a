-- The supervisor, as contracts see it.
use Rattle.std.specs.Prelude.{◌≡◌, ℕ, ◌+◌, IsTrue, List, length}
use Rattle.atomic_table.specs.Seated.{TableId}
use Rattle.mx_rule.specs.Shown.{office_of}
use Rattle.mx_rule.specs.declared.layout.Layout.{Layout}
use Rattle.mx_rule.specs.declared.views.NumberAt.{NumberAt}
use Rattle.mx_rule.specs.declared.views.SuperView.{SuperView}
use Rattle.mx_desc.specs.Slots.{ShowsSlots, fault_in}
use Rattle.mx_desc.specs.declared.slots.Slot.{Slot}

-- the slots keep the present descriptors, and which words are faults
abbrev pub AreKept : {E : Type 0} → Layout → SuperView E → List Slot → Type 0
AreKept y v slots = ShowsSlots y ((office_of v).table v.length) (λ p n. fault_in ((office_of v).word p n)) slots

-- What its type says: it is of the run's table, which opened after as many entries; its history has all entries since;
-- and its slots are right.
pub record IsSuper {E : Type 0} (table place : TableId) (layout y : Layout) (start : ℕ) (v : SuperView E)
    (slots : List Slot) : Type 0 where
  pub here : place ≡ table
  pub laid : y ≡ layout
  pub begun : v.start ≡ start
  pub counted : start + length v.history ≡ v.length
  pub kept : AreKept y v slots

-- While the supervisor waits for a process it keeps looks, and notes who has left; nothing else of what it knows
-- changes, and nobody who has left is forgotten.
pub record IsWaiting {E : Type 0} (v v' : SuperView E) : Type 0 where
  pub looks : List NumberAt
  pub acknowledged : List ℕ
  pub after : v' ≡ record v { looks = looks; acknowledged = acknowledged }
  pub kept : (p : ℕ) → IsTrue ((office_of v).acknowledged p) → IsTrue ((office_of v').acknowledged p)
