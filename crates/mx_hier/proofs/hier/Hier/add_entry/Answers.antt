use Rattle.mx_hier.proofs.SoundLaws.{sound_added}
use Rattle.mx_hier.proofs.hier.Hier.add_entry.Goals as goal

pub invariant_of-self-2 : goal.invariant_of-self-2
invariant_of-self-2 c = sound_added c.self.inside.pages c.self.inside.objects.entries c.self.inside.tables c.add.new.tables _ c.in_ok-add.ensures.ok c.requires.other c.in_ok-add.ensures.left c.self.invariant
