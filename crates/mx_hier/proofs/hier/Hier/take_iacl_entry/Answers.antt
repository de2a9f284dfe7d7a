use Rattle.mx_acl.specs.Access.{without_entry}
use Rattle.mx_hier.specs.InitialLists.{initial_changed}
use Rattle.mx_hier.proofs.SoundLaws.{sound_directory}
use Rattle.mx_hier.proofs.hier.Hier.take_iacl_entry.Goals as goal

pub invariant_of-self-in-Continue-branch-2 : goal.invariant_of-self-in-Continue-branch-2
invariant_of-self-in-Continue-branch-2 c =
    sound_directory c.args.uid (initial_changed c.args.kind (λ initial. without_entry initial c.args.id.now)) c.self.inside.pages c.self.inside.objects.entries c.self.inside.tables c.remove_iacl.new.self c.in_ok-remove_iacl.ensures.ok c.self.invariant
