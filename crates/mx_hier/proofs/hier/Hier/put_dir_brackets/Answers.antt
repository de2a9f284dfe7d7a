use Rattle.mx_hier.specs.SetDirectoryBrackets.{dir_bracketed}
use Rattle.mx_hier.proofs.SoundLaws.{sound_directory}
use Rattle.mx_hier.proofs.hier.Hier.put_dir_brackets.Goals as goal

pub invariant_of-self-else-uid-eq0 : goal.invariant_of-self-else-uid-eq0
invariant_of-self-else-uid-eq0 c =
    sound_directory c.args.uid (dir_bracketed c.args.d1 c.args.d2) c.self.inside.pages c.self.inside.objects.entries c.self.inside.tables c.set_dir_brackets.new.self c.set_dir_brackets.ensures c.self.invariant
