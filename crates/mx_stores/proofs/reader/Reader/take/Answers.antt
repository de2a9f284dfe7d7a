use Rattle.mx_stores.proofs.Choosing.{taken}
use Rattle.mx_stores.proofs.Unstored.{choice_has}
use Rattle.mx_stores.proofs.reader.Reader.take.Goals as goal

pub returns-in-Some-clause-taken : goal.returns-in-Some-clause-taken
returns-in-Some-clause-taken c = λ done rows below at reading.
    let place = c.in-Some.ensures.place done reading.chosen rows below reading.sighted in
    taken done c.args.rows.now c.args.self.now.process c.args.here c.in-Some.chosen.place c.args.deed.now
    c.args.self.now.sightings c.note.new.sightings at reading place
    (λ source e old. c.note.ensures done source rows below at e (c.in-Some.ensures.at done rows)
    (choice_has done _ c.args.self.now.process c.args.here reading.chosen c.args.deed.now c.in-Some.chosen.place place) old)
