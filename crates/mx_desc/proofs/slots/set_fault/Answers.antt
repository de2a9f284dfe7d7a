use Rattle.std.proofs.Common.{refl, sym, subst}
use Rattle.mx_core.specs.Put.{put}
use Rattle.mx_desc.specs.Slots.{ShowsSlots}
use Rattle.mx_desc.proofs.SlotLaws.{one_put, put_at, put_elsewhere}
use Rattle.mx_desc.proofs.slots.set_fault.Goals as goal

pub returns-clause-shown : goal.returns-clause-shown
returns-clause-shown c table faults shows =
    let y = c.args.layout.now in
    let p = c.args.process in
    let n = c.args.segno in
    let faults' = put faults p (put (faults p) n c.args.fault) in
    let old = shows.each p n c.slot_of-old.result c.requires.pair c.slot_of-old.ensures in
    subst (ShowsSlots y table faults') (sym c.put_slot.ensures)
    (one_put y c.requires.few table table faults faults' c.args.slots.now.items p n _ c.requires.pair shows
    (record {
      present = old.present;
      broken = sym (put_at faults p n c.args.fault);
      admissible = old.admissible;
      fits = c.requires.fits;
    }) (λ q m apart. refl) (put_elsewhere faults p n c.args.fault))
