use Rattle.std.proofs.Common.{◌+◌, sym, ◌∙◌, rules}
use Rattle.std.specs.Prelude.{nat_lt, ◌==◌, ◌&&◌, not}
use Rattle.mx_core.specs.Pages.{page_of, covered_anew}
use Rattle.mx_worlds.proofs.Marks.{lists_as, soil_put, soil_keep, soil_done}
use Rattle.mx_worlds.proofs.marking.soil.Goals.{then-covered_anew, else-covered_anew}
use Rattle.mx_worlds.proofs.marking.soil.Goals as goal

pub loop-page-preserved : goal.loop-page-preserved
loop-page-preserved c = elim c.if-covered_anew.branch [
  | then-covered_anew w ↦ rw w.clean-is (
    λ f has.
        let k = c.loop-page.page in
        let P = covered_anew c.args.changes.now in
        lists_as w.soil_page.new.clean.items
        (λ n. (f n && not (nat_lt (page_of n) k && P (page_of n))) && not (page_of n == k))
        (λ n. f n && not (nat_lt (page_of n) (k + 1) && P (page_of n)))
        (w.soil_page.ensures.shown (λ n. f n && not (nat_lt (page_of n) k && P (page_of n)))
        (c.loop-page.invariant.0 f has))
        (λ n under. soil_put P (f n) (page_of n) k (sym c.covered_anew.ensures ∙ w.if-covered_anew.true)),
    w.soil_page.ensures.len ∙ c.loop-page.invariant.1,
  )
  | else-covered_anew w ↦ rw w.clean-is (
    λ f has.
        let k = c.loop-page.page in
        let P = covered_anew c.args.changes.now in
        lists_as c.loop-page.clean.items (λ n. f n && not (nat_lt (page_of n) k && P (page_of n)))
        (λ n. f n && not (nat_lt (page_of n) (k + 1) && P (page_of n))) (c.loop-page.invariant.0 f has)
        (λ n under. soil_keep P (f n) (page_of n) k (sym c.covered_anew.ensures ∙ w.if-covered_anew.false)),
    c.loop-page.invariant.1,
  )
]

pub returns-clause-shown : goal.returns-clause-shown
returns-clause-shown c f has =
    lists_as c.loop-page.clean.items
    (λ n. f n && not (nat_lt (page_of n) c.loop-page.page && covered_anew c.args.changes.now (page_of n)))
    (λ n. f n && not (covered_anew c.args.changes.now (page_of n)))
    (c.loop-page.invariant.0 f has)
    (λ n under. soil_done (covered_anew c.args.changes.now) (f n) (page_of n) c.loop-page.page (search rules))
