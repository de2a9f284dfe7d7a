use Rattle.std.proofs.Common.{◌≡◌, ◌+◌, ◌-◌, inl, inr, sym, ap, ◌∙◌, arith}
use Rattle.std.proofs.lemmas.Bool.{cases_lt}
use Rattle.mx_pages.specs.Runs.{PageMap, is_free}
use Rattle.mx_pages.proofs.PageLaws.{row_fails, row_passes}
use Rattle.mx_fresh.proofs.pages.run_at.Goals as goal

pub returns-then-not-is_free : goal.returns-then-not-is_free
returns-then-not-is_free c =
    let pages : PageMap = record { free = c.args.free.now } in
    let there : c.args.first + (c.loop-page.page - c.args.first) ≡ c.loop-page.page = omega (arith, c.loop-page.auto.page) in
    sym (row_fails (is_free pages) c.args.first c.args.n (c.loop-page.page - c.args.first) (omega (arith, c.loop-page.auto.page, c.loop-page-test.true))
    (ap (is_free pages) there ∙ sym c.if-not-is_free.ensures))

pub loop-page-preserved : goal.loop-page-preserved
loop-page-preserved c = λ other low high. elim (cases_lt other c.loop-page.page) [
  | inl before ↦ c.loop-page.invariant other low before
  | inr here ↦ let same : other ≡ c.loop-page.page = omega (arith, here, high) in
      ap (is_free (record { free = c.args.free.now })) same ∙ sym c.if-not-is_free.ensures
]

pub returns : goal.returns
returns c =
    let pages : PageMap = record { free = c.args.free.now } in
    sym (row_passes (is_free pages) c.args.first c.args.n (λ k less. c.loop-page.invariant (c.args.first + k) (omega arith) (omega (arith, less, c.loop-page-test.false))))
