use Rattle.std.proofs.Common.{◌≡◌, Some, rules}
use Rattle.std.specs.List.{slice_get}
use Rattle.mx_script.specs.SessionTexts.{fits_line}
use Rattle.mx_parts.proofs.ScriptLaws.{all_at, sayable_at}
use Rattle.mx_parts.proofs.departures.departure_of.Goals as goal

pub departure_within-requires-clause-line : goal.departure_within-requires-clause-line
departure_within-requires-clause-line c =
    let at : slice_get c.args.script.now c.args.place ≡ Some c.in-Some.line.now = search rules in
    sayable_at c.args.setting.now.session.now.version c.args.script.now c.args.place c.in-Some.line.now c.requires.sayable at

pub departure_within-requires-clause-fits : goal.departure_within-requires-clause-fits
departure_within-requires-clause-fits c =
    let at : slice_get c.args.script.now c.args.place ≡ Some c.in-Some.line.now = search rules in
    all_at fits_line c.args.script.now c.args.place c.in-Some.line.now c.requires.fits at
