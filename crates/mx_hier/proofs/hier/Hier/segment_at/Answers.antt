use Rattle.std.proofs.Common.{sym}
use Rattle.mx_hier.proofs.SoundLaws.{stored_at}
use Rattle.mx_hier.proofs.hier.Hier.segment_at.Goals as goal

pub returns-in-Segment-clause-stored : goal.returns-in-Segment-clause-stored
returns-in-Segment-clause-stored c =
    rw c.segment.ensures
    (stored_at c.self.inside.tables.branches c.self.inside.tables.next c.args.uid c.self.inside.pages c.self.inside.objects.entries c.in_ok-boxed.field-0.now c.in-Segment.boxed
    (sym c.in_ok-boxed.ensures.value) c.in-Segment.is c.self.invariant)
