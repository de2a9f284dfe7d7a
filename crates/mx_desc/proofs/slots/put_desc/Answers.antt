use Rattle.std.proofs.Common.{refl, sym, subst}
use Rattle.mx_core.specs.Put.{put}
use Rattle.mx_desc.specs.Slots.{ShowsSlots}
use Rattle.mx_desc.proofs.SlotLaws.{one_put, put_at, put_elsewhere}
use Rattle.mx_desc.proofs.slots.put_desc.Goals as goal

pub returns-clause-shown : goal.returns-clause-shown
returns-clause-shown c table fault shows =
    let y = c.args.layout.now in
    let a = c.args.change.now in
    let table' = put table a.process (put (table a.process) a.segno a.desc) in
    let old = shows.each a.process a.segno c.slot_of-old.result c.requires.pair c.slot_of-old.ensures in
    subst (ShowsSlots y table' fault) (sym c.put_slot.ensures)
    (one_put y c.requires.few table table' fault fault c.args.slots.now.items a.process a.segno _ c.requires.pair shows
    (record {
      present = sym (put_at table a.process a.segno a.desc);
      broken = old.broken;
      admissible = c.requires.desc;
      fits = old.fits;
    }) (put_elsewhere table a.process a.segno a.desc) (λ q m apart. refl))
