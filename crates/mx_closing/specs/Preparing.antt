-- A session whose setup is entered, and whose shared words are open.
use Rattle.std.specs.Prelude.{◌≡◌, ℕ, ◌+◌, length}
use Rattle.mx_desc.specs.Openings.{IsOpening}
use Rattle.mx_request.specs.Versions.{last_number}
use Rattle.mx_rule.specs.Dealing.{opening_view}
use Rattle.mx_rule.specs.Openings.{ArePlaced, MayOpen}
use Rattle.mx_rule.specs.Seats.{super_of}
use Rattle.mx_script.specs.Sessions.{Outline}
use Rattle.mx_sup.specs.Entering.{IsOpened}
use Rattle.mx_closing.specs.Keeping.{KeepsJournal}
use Rattle.mx_closing.specs.Opening.{layout_of}
use Rattle.mx_closing.specs.declared.preparing.Prepared.{Prepared}

-- The setup was entered and nothing else, and this is the initializer's part. The supervisor's seat is of these words,
-- which open after the setup with the descriptors that are listed, and keeps the journal, whichever seats it deals.
pub record IsPrepared (x : Outline) (prepared : Prepared) : Type 0 where
  pub opened : IsOpened x prepared.supervisor prepared.part
  pub slots : prepared.words.shared.table_id.slots ≡ 0
  pub layout : prepared.words.shared.key.layout ≡ layout_of x
  pub place : prepared.seat.seat.table_id ≡ prepared.words.shared.table_id
  pub laid : prepared.seat.layout ≡ layout_of x
  pub opening : IsOpening (length prepared.supervisor.journal) (super_of prepared.seat.seat.me.0)
  pub view : super_of prepared.seat.seat.me.0
      ≡ opening_view (length x.principals) (last_number x.version + 1) (length prepared.supervisor.journal) prepared.base
  pub listed : prepared.base ≡ (super_of prepared.seat.seat.me.0).base
  pub placed : ArePlaced (layout_of x) prepared.base
  pub may : MayOpen (layout_of x) (length prepared.supervisor.journal) prepared.base
  pub keeps : (next : ℕ) → KeepsJournal x prepared.supervisor.journal (record (super_of prepared.seat.seat.me.0) { next = next })
