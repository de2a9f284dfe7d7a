use Rattle.std.proofs.Common.{inl, inr, rules}
use Rattle.std.proofs.lemmas.Bool.{cases_lt}
use Rattle.mx_core.specs.Append.{IsCoveredAt}
use Rattle.mx_core.proofs.DecideAppend.{anew_under}
use Rattle.mx_worlds.proofs.Searching.{one_more, yes_by, not_by}
use Rattle.mx_worlds.proofs.worlds.World.first_not_given.Goals as goal

pub returns-then-not-is_given : goal.returns-then-not-is_given
returns-then-not-is_given c w shows range = record {
  fails = not_by (IsCoveredAt w c.args.changes.now c.args.given.now c.loop-page.page) c.is_given.result (search rules)
      (c.is_given.ensures w shows);
  before = λ j l. c.loop-page.invariant w shows j l;
}

pub loop-page-preserved : goal.loop-page-preserved
loop-page-preserved c w shows j under =
    one_more (IsCoveredAt w c.args.changes.now c.args.given.now) c.loop-page.page
    (λ k l. c.loop-page.invariant w shows k l)
    (yes_by (IsCoveredAt w c.args.changes.now c.args.given.now c.loop-page.page) c.is_given.result (search rules)
    (c.is_given.ensures w shows)) j under

pub returns : goal.returns
returns c w shows range page = elim (cases_lt page 1024) [
  | inl under ↦ c.loop-page.invariant w shows page (search rules)
  | inr over ↦ λ h. let m = anew_under c.args.changes.now page (λ i a at. (range i a at).desc) h in absurd
      (search rules)
]
