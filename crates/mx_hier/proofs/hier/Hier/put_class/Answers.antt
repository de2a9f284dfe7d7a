use Rattle.std.proofs.Common.{refl}
use Rattle.mx_hier.specs.SetClass.{classed}
use Rattle.mx_hier.proofs.SoundLaws.{sound_segment}
use Rattle.mx_hier.proofs.hier.Hier.put_class.Goals as goal

pub invariant_of-self : goal.invariant_of-self
invariant_of-self c =
    sound_segment c.args.uid (classed c.args.class) (λ s. refl) (λ s. refl) c.self.inside.pages c.self.inside.objects.entries c.self.inside.tables c.set_class.new.self c.set_class.ensures c.self.invariant
