use Rattle.mx_hier.proofs.SoundLaws.{sound_paged}
use Rattle.mx_hier.proofs.hier.Hier.take_page.Goals as goal

pub invariant_of-self : goal.invariant_of-self
invariant_of-self c =
    let s = c.self.inside in
    sound_paged s.tables.branches s.tables.next s.pages c.allot.new.self s.objects.entries c.allot.ensures.after c.self.invariant
