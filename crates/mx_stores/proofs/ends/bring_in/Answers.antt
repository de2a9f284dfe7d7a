use Rattle.std.proofs.Common.{◌≡◌, ◌≤◌, ◌<◌, ℕ, Option, Some, None, length, length-set, ap, ◌∙◌, rules, arith}
use Rattle.std.specs.List.{slice_get}
use Rattle.std.proofs.lemmas.Option.{get_or_from_slice_get}
use Rattle.mx_stores.specs.Tables.{IsStoreOf}
use Rattle.mx_stores.specs.Until.{overwritten, until}
use Rattle.mx_stores.proofs.EndLaws.{AreBroughtIn, one_brought, past_ends, past_stores, until_next}
use Rattle.mx_stores.proofs.Finds.{of}
use Rattle.mx_stores.proofs.ends.bring_in.Goals as goal

pub loop-here-preserved : goal.loop-here-preserved
loop-here-preserved c =
    let within : c.loop-here.here < length c.loop-here.ends = search rules in
    let at : slice_get c.args.table.now.stores.items c.loop-here.here ≡ Some c.in-Some.store.now = search rules in
    record {
      long = rw length-set c.loop-here.invariant.long;
      each = λ done storer u n table other are.
          let old : AreBroughtIn done u storer c.loop-here.here c.args.table.now.stores.items c.loop-here.ends =
          c.loop-here.invariant.each done storer u n table other are in
          let own : IsStoreOf (done storer) c.in-Some.store.now =
          of (done storer) _ table.stores table.sorted c.loop-here.here c.in-Some.store.now at in
          let end : slice_get c.loop-here.ends c.loop-here.here ≡ Some (until done u storer c.in-Some.store.now.place c.in-Some.store.now.cell) =
          old.after c.loop-here.here c.in-Some.store.now (omega arith) at in
          one_brought done u storer c.loop-here.here c.args.table.now.stores.items c.loop-here.ends c.in-Some.store.now
          c.least.result within at
          (c.least.ensures
          ∙ until_next done u storer c.in-Some.store.now.place c.in-Some.store.now.cell n c.overwritten.result _
          (c.overwritten.ensures (done u) other
          ∙ ap (λ (o : Option ℕ). overwritten c.in-Some.store.now.cell o (done u)) own.known)
          (get_or_from_slice_get c.loop-here.ends c.loop-here.here _ _ end)) old;
    }

pub returns : goal.returns
returns c = λ done storer u n table other are.
    let end : length c.loop-here.ends ≤ c.loop-here.here = search rules in
    past_ends done u storer c.loop-here.here c.args.table.now.stores.items c.loop-here.ends end
    (c.loop-here.invariant.each done storer u n table other are)

pub returns-in_default : goal.returns-in_default
returns-in_default c = λ done storer u n table other are.
    let none : slice_get c.args.table.now.stores.items c.loop-here.here ≡ None = search rules in
    past_stores done u storer c.loop-here.here c.args.table.now.stores.items c.loop-here.ends none
    (c.loop-here.invariant.each done storer u n table other are)
