use Rattle.std.proofs.Common.{◌≡◌, ◌+◌, sym, subst, arith}
use Rattle.mx_pages.specs.Runs.{PageMap}
use Rattle.mx_pages.proofs.ScanLaws.{IsScanned, scan_taken, scan_free, scan_found, scan_full}
use Rattle.mx_pages.proofs.pages.lowest_run.Goals as goal
use Rattle.mx_pages.proofs.pages.lowest_run.Goals.{then-not-is_free, else-not-is_free+else-page-first}

pub returns-then-page-first : goal.returns-then-page-first
returns-then-page-first c =
    let pages : PageMap = record { free = c.args.free.now } in
    record { run = sym (scan_found pages c.args.n c.loop-page.first c.loop-page.page c.loop-page.invariant (omega arith) c.if-not-is_free.false c.if-page-first.true) }

pub loop-page-preserved : goal.loop-page-preserved
loop-page-preserved c =
    let pages : PageMap = record { free = c.args.free.now } in
    elim c.if-not-is_free.branch [
      | then-not-is_free w ↦ subst (λ first. IsScanned pages c.args.n first (c.loop-page.page + 1)) (sym w.first-is)
          (scan_taken pages c.args.n c.loop-page.first c.loop-page.page c.loop-page.invariant w.if-not-is_free.true)
      | else-not-is_free+else-page-first w ↦ subst (λ first. IsScanned pages c.args.n first (c.loop-page.page + 1)) (sym w.first-is)
          (scan_free pages c.args.n c.loop-page.first c.loop-page.page c.loop-page.invariant w.if-not-is_free.false w.if-page-first.false)
    ]

pub returns : goal.returns
returns c =
    let pages : PageMap = record { free = c.args.free.now } in
    let end : c.loop-page.page ≡ 1024 = omega arith in
    record { run = sym (scan_full pages c.args.n c.loop-page.first (omega arith) (subst (IsScanned pages c.args.n c.loop-page.first) end c.loop-page.invariant)) }
