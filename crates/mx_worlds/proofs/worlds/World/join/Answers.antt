use Rattle.std.proofs.Common.{ap, rules}
use Rattle.mx_core.specs.Notes.{CanJoin}
use Rattle.mx_worlds.specs.Shows.{Counts, columns}
use Rattle.mx_core.proofs.ProcessLaws.{join_law}
use Rattle.mx_worlds.proofs.Seating.{join_parts, note_found}
use Rattle.mx_worlds.proofs.worlds.World.join.Goals as goal

pub returns : goal.returns
returns c w shows =
    let p = c.args.process in
    let m = c.args.self.now in
    let found = note_found m.notes.items w.made w.note c.args.note c.in-Some.floor
    shows.parts.notes c.in-Some.ensures in
    let can : CanJoin w p c.args.note = record {
      range = let e = ap (λ (x : Counts). x.processes) shows.parts.same in search rules;
      note = record { note = found.note; at = found.is };
    } in (
      can,
      record {
        parts = join_parts _ _ _ _ _ _ w c.from.result p c.index_mut.result.now c.join.new.self (search rules)
            (search rules) c.index_mut.ensures.value shows.parts c.args.note found.note found.is
            (λ h. c.join.ensures w.numbers (columns w p) found.note h found.floor_is);
        good = join_law w p c.args.note shows.good can;
      },
    )
