use Rattle.std.proofs.Common.{◌≡◌, ◌<◌, ◌≤◌, ◌++◌, ℕ, List, Some, length, ap, sym, ◌∙◌, rules, arith}
use Rattle.std.specs.List.{slice_get}
use Rattle.std.proofs.lemmas.Option.{slice_get_within, slice_get-get_or}
use Rattle.mx_stores.specs.declared.groups.Groups.{Groups}
use Rattle.mx_stores.proofs.Grouping.{numbers_more}
use Rattle.mx_stores.proofs.groups.all_numbers.Goals as goal

pub loop-storer-preserved : goal.loop-storer-preserved
loop-storer-preserved c =
    let within : c.loop-storer.storer < length c.args.groups.now = search rules in
    let at : slice_get c.args.groups.now c.loop-storer.storer ≡ Some c.index-groups-storer.result =
    slice_get-get_or c.args.groups.now c.loop-storer.storer c.index-groups-storer.result within
    ∙ ap (λ (g : Groups). Some g) (sym c.index-groups-storer.is) in
    let pushed : c.extend_from_slice.new.self.items ≡ c.loop-storer.numbers.items ++ c.index-groups-storer.result.cells.numbers.items =
    c.in_ok-extend_from_slice.ensures.items
    ∙ ap (λ (xs : List ℕ). c.loop-storer.numbers.items ++ xs) c.as_slice.ensures.value
    ∙ ap (λ (g : Groups). c.loop-storer.numbers.items ++ g.cells.numbers.items) (sym c.index-groups-storer.is) in
    numbers_more c.args.groups.now c.loop-storer.storer c.index-groups-storer.result c.loop-storer.numbers.items
    c.extend_from_slice.new.self.items pushed at c.loop-storer.invariant

pub returns : goal.returns
returns c = λ u k number own e f.
    let end : length c.args.groups.now ≤ c.loop-storer.storer = search rules in
    let within = slice_get_within c.args.groups.now u own e in
    c.loop-storer.invariant u k number own (omega arith) e f
