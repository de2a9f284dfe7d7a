use Rattle.std.proofs.Common.{refl}
use Rattle.mx_hier.specs.SetBrackets.{bracketed}
use Rattle.mx_hier.proofs.SoundLaws.{sound_segment}
use Rattle.mx_hier.proofs.hier.Hier.put_brackets.Goals as goal

pub invariant_of-self : goal.invariant_of-self
invariant_of-self c =
    sound_segment c.args.uid (bracketed c.args.brackets) (λ s. refl) (λ s. refl) c.self.inside.pages c.self.inside.objects.entries c.self.inside.tables c.set_brackets.new.self c.set_brackets.ensures c.self.invariant
