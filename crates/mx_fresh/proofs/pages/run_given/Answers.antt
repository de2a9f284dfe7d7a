use Rattle.std.proofs.Common.{◌≡◌, inl, inr, sym, ap, ◌∙◌, arith}
use Rattle.std.proofs.lemmas.Bool.{cases_lt}
use Rattle.mx_pages.specs.Runs.{PageMap, run_at}
use Rattle.mx_pages.proofs.PageLaws.{page_found, no_page_found}
use Rattle.mx_fresh.proofs.pages.run_given.Goals as goal

pub loop-first-preserved : goal.loop-first-preserved
loop-first-preserved c = λ other high. elim (cases_lt other c.loop-first.first) [
  | inl before ↦ c.loop-first.invariant other before
  | inr here ↦ let same : other ≡ c.loop-first.first = omega (arith, here, high) in
      ap (run_at (record { free = c.args.free.now }) c.args.n) same ∙ sym c.if-run_at.ensures
]

pub returns-then-run_at-clause-value : goal.returns-then-run_at-clause-value
returns-then-run_at-clause-value c =
    let pages : PageMap = record { free = c.args.free.now } in
    sym (page_found (run_at pages c.args.n) c.loop-first.first (record {
      from_on = omega arith;
      within = c.loop-first-test.true;
      passing = sym c.if-run_at.ensures;
      before = λ number low high. c.loop-first.invariant number high;
    }))

pub returns-clause-value : goal.returns-clause-value
returns-clause-value c =
    let pages : PageMap = record { free = c.args.free.now } in
    sym (no_page_found (run_at pages c.args.n) (λ page below. c.loop-first.invariant page (omega (arith, below, c.loop-first-test.false))))
