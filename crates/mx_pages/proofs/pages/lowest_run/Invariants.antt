use Rattle.mx_pages.proofs.ScanLaws.{IsScanned}
use Rattle.mx_pages.proofs.pages.lowest_run.Given as goal

abbrev pub invariant-loop-page : goal.invariant-loop-page
invariant-loop-page l = IsScanned (record { free = l.free }) l.n l.first l.page
