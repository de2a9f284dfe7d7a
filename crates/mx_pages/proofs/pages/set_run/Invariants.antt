use Rattle.mx_pages.proofs.ScanLaws.{IsSetTo}
use Rattle.mx_pages.proofs.pages.set_run.Given as goal

abbrev pub invariant-loop-page : goal.invariant-loop-page
invariant-loop-page l = IsSetTo l.value l.initial.free l.free l.first l.page
