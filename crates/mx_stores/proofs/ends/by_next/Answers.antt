use Rattle.std.proofs.Common.{◌≡◌, ◌+◌, ◌<◌, ◌≤◌, ◌++◌, ◌∷◌, [], ℕ, List, Option, Some, length, ap, sym, subst, ◌∙◌, rules, arith}
use Rattle.std.specs.List.{slice_get}
use Rattle.std.proofs.lemmas.Option.{slice_get_within, slice_get-get_or}
use Rattle.mx_stores.specs.declared.stores.Store.{Store}
use Rattle.mx_stores.proofs.EndLaws.{AreFirstEnds, longer, one_end_more, until_first}
use Rattle.mx_stores.proofs.ends.by_next.Goals as goal

pub loop-here-preserved : goal.loop-here-preserved
loop-here-preserved c =
    let within : c.loop-here.here < length c.args.table.now.stores.items = search rules in
    let at : slice_get c.args.table.now.stores.items c.loop-here.here ≡ Some c.index.result.now =
    slice_get-get_or c.args.table.now.stores.items c.loop-here.here c.index.result.now within
    ∙ ap (λ (s : Store). Some s) (sym c.index.ensures) in
    let pushed : c.push.new.self.items ≡ c.loop-here.ends.items ++ c.replaced.result ∷ [] = search rules in
    record {
      long = longer c.loop-here.ends.items c.push.new.self.items c.replaced.result c.loop-here.here pushed c.loop-here.invariant.long;
      each = λ done storer table.
          subst (λ (xs : List (Option ℕ)). AreFirstEnds done 0 storer (c.loop-here.here + 1) c.args.table.now.stores.items xs) (sym pushed)
          (one_end_more done 0 storer c.loop-here.here c.args.table.now.stores.items c.loop-here.ends.items c.index.result.now
          c.replaced.result c.loop-here.invariant.long at
          (until_first done storer c.index.result.now.place c.index.result.now.cell c.replaced.result
          (c.replaced.ensures (done storer) table at))
          (c.loop-here.invariant.each done storer table));
    }

pub returns : goal.returns
returns c = λ done storer table here s e.
    let end : length c.args.table.now.stores.items ≤ c.loop-here.here = search rules in
    let within = slice_get_within c.args.table.now.stores.items here s e in
    c.loop-here.invariant.each done storer table here s (omega arith) e
