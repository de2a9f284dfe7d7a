use Rattle.std.proofs.Common.{◌≡◌, ◌+◌, ◌<◌, ℕ, suc, List, Option, Some, None, length, replicate, ap, sym, subst, ◌∙◌, rules, arith}
use Rattle.std.specs.List.{slice_get}
use Rattle.std.proofs.lemmas.Option.{slice_get-get_or}
use Rattle.std.proofs.lemmas.List.{with_items_is}
use Rattle.mx_stores.specs.Groups.{AreFirsts}
use Rattle.mx_stores.specs.declared.stores.Table.{Table}
use Rattle.mx_stores.proofs.FirstLaws.{no_process, only_none}
use Rattle.mx_stores.proofs.firsts.firsts_of.Goals as goal

pub loop-other-init : goal.loop-other-init
loop-other-init c = λ done tables.
    let long : c.len.result ≡ length c.args.cells.now.numbers.items = search rules in
    let made : c.in_ok-firsts.firsts.items ≡ replicate c.len.result None =
    c.in_ok-firsts.ensures.items_if_clones_equal (only_none _ (λ x f. f)) in
    no_process done c.args.cells.now.numbers.items c.in_ok-firsts.firsts.items c.len.result long made

pub loop-other-preserved : goal.loop-other-preserved
loop-other-preserved c = λ done tables.
    let old : AreFirsts done c.loop-other.other c.args.cells.now.numbers.items c.loop-other.firsts.items =
    c.loop-other.invariant done tables in
    let within : c.loop-other.other < length c.args.tables.now = search rules in
    let next : suc c.loop-other.other ≡ c.loop-other.other + 1 = omega arith in
    let there : slice_get c.args.tables.now c.loop-other.other ≡ Some c.index-tables-other.result =
    slice_get-get_or c.args.tables.now c.loop-other.other c.index-tables-other.result within
    ∙ ap (λ (t : Table). Some t) (sym c.index-tables-other.is) in
    let lent : c.as_mut_slice.result.now ≡ c.loop-other.firsts.items = search rules in
    let long : length c.bring_first.new.firsts ≡ c.loop-other.firsts.len = search rules in
    subst (λ (xs : List (Option ℕ)). AreFirsts done (c.loop-other.other + 1) c.args.cells.now.numbers.items xs)
    (sym (with_items_is c.loop-other.firsts c.bring_first.new.firsts long))
    (subst (λ (n : ℕ). AreFirsts done n c.args.cells.now.numbers.items c.bring_first.new.firsts) next
    (c.bring_first.ensures done c.loop-other.other (tables c.loop-other.other c.index-tables-other.result there)
    (subst (λ (xs : List (Option ℕ)). AreFirsts done c.loop-other.other c.args.cells.now.numbers.items xs) (sym lent) old)))

pub returns : goal.returns
returns c = λ done tables.
    let end : c.loop-other.other ≡ length c.args.tables.now = search rules in
    subst (λ (n : ℕ). AreFirsts done n c.args.cells.now.numbers.items c.loop-other.firsts.items) end
    (c.loop-other.invariant done tables)
