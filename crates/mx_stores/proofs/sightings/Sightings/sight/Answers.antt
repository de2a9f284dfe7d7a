use Rattle.std.proofs.Common.{List, refl, ap, ◌∙◌, arith}
use Rattle.std.specs.List.{slice_get, slice_set}
use Rattle.std.proofs.lemmas.Option.{slice_get_within}
use Rattle.mx_stores.specs.SightedTables.{AreCursors}
use Rattle.mx_stores.specs.Tables.{number_of}
use Rattle.mx_stores.specs.declared.sightings.Cursors.{Cursors}
use Rattle.mx_stores.specs.declared.sightings.Latest.{Latest}
use Rattle.mx_stores.proofs.Grouping.{stands_at}
use Rattle.mx_stores.proofs.Noting.{other_more}
use Rattle.mx_stores.proofs.sightings.Sightings.sight.Goals as goal

pub returns : goal.returns
returns c = λ done source tables groups numbers p here place cell table own rising all are fits at n t g k small from after seen.
    let kept : Latest = record { storer = c.args.storer; at = c.args.at } in
    let l = slice_get_within numbers c.args.index (number_of cell) at in
    let long = are.long in
    let wide = are.wide in
    let m = slice_get_within groups c.args.storer own g in
    let cs = stands_at c.args.self.now.cursors.items c.args.storer (omega arith) in
    let was : AreCursors done source p here c.args.storer table own cs.0 =
    are.cursors c.args.storer table own cs.0 n t g cs.1 in
    let size = was.long in
    let o = slice_get_within own.cells.numbers.items c.args.group (number_of cell) k in
    let os = stands_at cs.0.at.items c.args.group (omega arith) in
    let moved = c.pass.ensures.cursors small cs.0 os.0
    (ap (λ (xs : List Cursors). slice_get xs c.args.storer) c.keep.ensures.cursors ∙ cs.1) os.1 in
    other_more done source tables groups numbers p here c.args.index c.args.storer place cell rising fits at seen
    c.args.self.now are kept c.pass.new.self table own cs.0 moved.0 c.args.group c.args.at os.0 n refl refl
    (c.pass.ensures.latest ∙ c.keep.ensures.latest (omega arith))
    (moved.1.0 ∙ ap (λ (xs : List Cursors). slice_set xs c.args.storer moved.0) c.keep.ensures.cursors)
    t g cs.1 (all.each c.args.storer table own t g) k os.1 moved.1.1 from after
