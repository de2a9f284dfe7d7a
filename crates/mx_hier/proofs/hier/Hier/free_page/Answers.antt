use Rattle.std.proofs.Common.{◌≡◌, Some, sym, subst}
use Rattle.mx_hier.specs.Branches.{Hierarchy, segment_at}
use Rattle.mx_hier.proofs.SoundLaws.{page_apart}
use Rattle.mx_hier.proofs.hier.Hier.free_page.Goals as goal

pub returns-clause-apart : goal.returns-clause-apart
returns-clause-apart c =
    let s = c.self.inside in
    let h : Hierarchy = record { root = s.root; branches = s.tables.branches; next = s.tables.next; pages = s.pages; objects = s.objects.entries } in
    let page = c.in_ok-page.page in
    λ uid segment is has.
    page_apart h page uid segment c.self.invariant c.in_ok-page.ensures.lowest.free
    (subst (λ (h : Hierarchy). segment_at h uid ≡ Some segment) (sym c.self.view_is) is) has
