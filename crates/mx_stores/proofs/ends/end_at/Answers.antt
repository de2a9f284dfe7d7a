use Rattle.std.proofs.Common.{◌≡◌, Some, length, refl}
use Rattle.std.specs.List.{slice_get}
use Rattle.std.proofs.lemmas.Option.{slice_get_read}
use Rattle.mx_stores.proofs.ends.end_at.Goals as goal

pub returns-in-Some : goal.returns-in-Some
returns-in-Some c = λ done tables table store ends at there.
    let own : slice_get c.args.ends.now c.args.storer ≡ Some c.in-Some.ends.now =
    slice_get_read c.args.ends.now (length c.args.ends.now) c.args.storer c.in-Some.ends.now refl
    c.in-Some.ensures.lookup.3.0 c.in-Some.ensures.lookup.1 in
    c.at.ensures _ (ends.each c.args.storer table c.in-Some.ends.now at own c.args.here store there)
