use Rattle.std.proofs.Common.{◌+◌, true, sym, ◌∙◌, rules}
use Rattle.std.specs.Prelude.{nat_lt, ◌&&◌, ◌||◌, slice_set}
use Rattle.mx_core.specs.Pages.{gives}
use Rattle.mx_core.specs.Put.{put}
use Rattle.mx_worlds.proofs.Marks.{lists_as, ready_put, ready_keep, ready_done}
use Rattle.mx_worlds.proofs.Seating.{lists_set}
use Rattle.mx_worlds.proofs.marking.make_ready.Goals.{then-gives, else-gives}
use Rattle.mx_worlds.proofs.marking.make_ready.Goals as goal

pub loop-page-preserved : goal.loop-page-preserved
loop-page-preserved c = elim c.if-gives.branch [
  | then-gives w ↦ rw w.ready-is (
    λ f has.
        let k = c.loop-page.page in
        let P = gives c.args.given.now in
        lists_as (slice_set c.loop-page.ready.items k true) (put (λ p. (nat_lt p k && P p) || f p) k true)
        (λ p. (nat_lt p (k + 1) && P p) || f p)
        (lists_set c.loop-page.ready.items (λ p. (nat_lt p k && P p) || f p) k true (c.loop-page.invariant.0 f has))
        (λ n under. ready_put P f k (sym c.gives.ensures ∙ w.if-gives.true) n),
    c.loop-page.invariant.1,
  )
  | else-gives w ↦ rw w.ready-is (
    λ f has.
        let k = c.loop-page.page in
        let P = gives c.args.given.now in
        lists_as c.loop-page.ready.items (λ p. (nat_lt p k && P p) || f p) (λ p. (nat_lt p (k + 1) && P p) || f p)
        (c.loop-page.invariant.0 f has)
        (λ n under. ready_keep P f k (sym c.gives.ensures ∙ w.if-gives.false) n),
    c.loop-page.invariant.1,
  )
]

pub returns-clause-shown : goal.returns-clause-shown
returns-clause-shown c f has =
    lists_as _ (λ p. (nat_lt p c.loop-page.page && gives c.args.given.now p) || f p)
    (λ p. gives c.args.given.now p || f p)
    (c.loop-page.invariant.0 f has) (λ n under. ready_done (gives c.args.given.now) f c.loop-page.page n (search rules))
