use Rattle.std.proofs.Common.{◌≡◌, ◌≤◌, ◌<◌, ℕ, Some, None, length, length-set, ap, sym, ◌∙◌, rules, arith}
use Rattle.std.specs.List.{slice_get}
use Rattle.std.proofs.lemmas.Option.{get_or_from_slice_get}
use Rattle.mx_stores.specs.Since.{first}
use Rattle.mx_stores.specs.Tables.{number_of}
use Rattle.mx_stores.proofs.FirstLaws.{AreFirstsTo, first_next, one_first, past_firsts, past_numbers}
use Rattle.mx_stores.proofs.firsts.bring_first.Goals as goal

pub loop-here-preserved : goal.loop-here-preserved
loop-here-preserved c =
    let within : c.loop-here.here < length c.loop-here.firsts = search rules in
    let is : slice_get c.args.cells.now.numbers.items c.loop-here.here ≡ Some c.in-Some.number = search rules in
    record {
      long = rw length-set c.loop-here.invariant.long;
      each = λ done u other are.
          let old : AreFirstsTo done u c.loop-here.here c.args.cells.now.numbers.items c.loop-here.firsts =
          c.loop-here.invariant.each done u other are in
          let fits = c.of_number-cell.ensures.fits in
          let at : slice_get c.args.cells.now.numbers.items c.loop-here.here ≡ Some (number_of c.of_number-cell.result) =
          is ∙ ap (λ (n : ℕ). Some n) (sym c.of_number-cell.ensures.number) in
          let end : slice_get c.loop-here.firsts c.loop-here.here ≡ Some (first done u c.of_number-cell.result) =
          old.after c.loop-here.here c.of_number-cell.result (omega arith) fits at in
          one_first done u c.loop-here.here c.args.cells.now.numbers.items c.loop-here.firsts c.of_number-cell.result
          c.least.result within fits at
          (c.least.ensures
          ∙ first_next done u c.of_number-cell.result c.overwritten.result _ (c.overwritten.ensures (done u) other)
          (get_or_from_slice_get c.loop-here.firsts c.loop-here.here _ _ end)) old;
    }

pub returns-in_default : goal.returns-in_default
returns-in_default c = λ done u other are.
    let none : slice_get c.args.cells.now.numbers.items c.loop-here.here ≡ None = search rules in
    past_numbers done u c.loop-here.here c.args.cells.now.numbers.items c.loop-here.firsts none
    (c.loop-here.invariant.each done u other are)

pub returns : goal.returns
returns c = λ done u other are.
    let end : length c.loop-here.firsts ≤ c.loop-here.here = search rules in
    past_firsts done u c.loop-here.here c.args.cells.now.numbers.items c.loop-here.firsts end
    (c.loop-here.invariant.each done u other are)
