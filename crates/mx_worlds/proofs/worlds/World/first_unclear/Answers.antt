use Rattle.std.proofs.Common.{inl, inr, rules}
use Rattle.std.proofs.lemmas.Bool.{cases_lt}
use Rattle.mx_core.specs.Append.{IsClearAt}
use Rattle.mx_core.proofs.DecideAppend.{page_under}
use Rattle.mx_worlds.proofs.Searching.{one_more, yes_by, not_by}
use Rattle.mx_worlds.proofs.worlds.World.first_unclear.Goals as goal

pub returns-then-not-is_clear : goal.returns-then-not-is_clear
returns-then-not-is_clear c w shows range = record {
  fails = not_by (IsClearAt w c.args.given.now c.loop-page.page) c.is_clear.result (search rules)
      (c.is_clear.ensures w shows);
  before = λ j l. c.loop-page.invariant w shows j l;
}

pub loop-page-preserved : goal.loop-page-preserved
loop-page-preserved c w shows j under =
    one_more (IsClearAt w c.args.given.now) c.loop-page.page (λ k l. c.loop-page.invariant w shows k l)
    (yes_by (IsClearAt w c.args.given.now c.loop-page.page) c.is_clear.result (search rules)
    (c.is_clear.ensures w shows)) j under

pub returns : goal.returns
returns c w shows range page = elim (cases_lt page 1024) [
  | inl under ↦ c.loop-page.invariant w shows page (search rules)
  | inr over ↦ λ h. let m = page_under c.args.given.now page range h in absurd (search rules)
]
