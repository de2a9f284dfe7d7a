use Rattle.std.proofs.Common.{[], ◌∷◌, arith, length-append}
use Rattle.std.proofs.lemmas.List.Sums.{sum_by_push}
use Rattle.mx_closing.proofs.Returns.{one_more_back, taken}
use Rattle.mx_closing.proofs.finishing.retire_all.Goals as goal

pub loop-pass-preserved : goal.loop-pass-preserved
loop-pass-preserved g c =
    let so_far = c.loop-pass.invariant in
    let yielded = c.loop-pass.yielded in
    let pass = c.in-Some.pass in
    let parts = c.retire-own.ensures.part in
    let amount = c.retire-own.ensures.amount in
    let merged = c.merge.ensures in
    let sum = sum_by_push (λ o. o.amount) yielded pass in
    let many = length-append yielded (pass ∷ []) in record {
      all = taken c.args.passes.items yielded c.loop-pass.pass-iterator.rest.items c.next.new.self.rest.items pass
          so_far.all c.in-Some.ensures.steps.0;
      view = one_more_back c.args.chief.now c.loop-pass.chief c.retire-own.new.self yielded pass so_far.view
          c.retire-own.ensures.view;
      amount = (let before = so_far.amount in let more = merged.amount in omega (arith, before, more, amount, sum));
      parts = (let before = so_far.parts in let more = merged.parts in omega (arith, before, more, parts, many));
    }
