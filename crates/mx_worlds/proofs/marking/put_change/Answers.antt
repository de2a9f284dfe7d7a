use Rattle.std.proofs.Common.{rules}
use Rattle.mx_worlds.specs.Marking.{with_present}
use Rattle.mx_worlds.proofs.Seating.{put_shown}
use Rattle.mx_worlds.proofs.marking.put_change.Goals as goal

pub returns-then-place-len-clause-shown : goal.returns-then-place-len-clause-shown
returns-then-place-len-clause-shown c many f table in_place shows =
    let change = c.args.change.now in
    put_shown many c.args.seats.now.items f table c.from-place.result change.process change.segno change.desc
    c.index_mut.result.now c.put.new.self (search rules) (search rules) c.index_mut.ensures.value
    (λ h. c.put.ensures many (with_present f table change.process) h in_place.number) shows
