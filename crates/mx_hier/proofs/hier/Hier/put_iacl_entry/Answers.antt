use Rattle.mx_acl.specs.Access.{with_entry}
use Rattle.mx_hier.specs.InitialLists.{initial_changed}
use Rattle.mx_hier.proofs.SoundLaws.{sound_directory}
use Rattle.mx_hier.proofs.hier.Hier.put_iacl_entry.Goals as goal

pub invariant_of-self-in-Continue-branch-2 : goal.invariant_of-self-in-Continue-branch-2
invariant_of-self-in-Continue-branch-2 c =
    sound_directory c.args.uid (initial_changed c.args.kind (λ initial. with_entry initial c.args.id.now c.args.modes)) c.self.inside.pages c.self.inside.objects.entries c.self.inside.tables c.set_iacl.new.self c.in_ok-set_iacl.ensures.ok c.self.invariant
