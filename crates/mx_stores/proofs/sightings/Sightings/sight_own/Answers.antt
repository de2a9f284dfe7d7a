use Rattle.std.proofs.Common.{refl, arith}
use Rattle.std.proofs.lemmas.Option.{slice_get_within}
use Rattle.mx_stores.specs.Tables.{number_of}
use Rattle.mx_stores.specs.declared.sightings.Latest.{Latest}
use Rattle.mx_stores.proofs.Noting.{own_more}
use Rattle.mx_stores.proofs.sightings.Sightings.sight_own.Goals as goal

pub returns : goal.returns
returns c = λ done source tables groups numbers p here place cell rising are fits at own seen.
    let kept : Latest = record { storer = c.args.storer; at = 0 } in
    let l = slice_get_within numbers c.args.index (number_of cell) at in
    let long = are.long in
    own_more done source tables groups numbers p here c.args.index c.args.storer place cell rising fits at seen
    c.args.self.now are kept c.keep.new.self own refl (c.keep.ensures.latest (omega arith)) c.keep.ensures.cursors
