use Rattle.mx_acl.specs.Access.{without_entry}
use Rattle.mx_hier.proofs.SoundLaws.{sound_acl}
use Rattle.mx_hier.proofs.hier.Hier.take_acl_entry.Goals as goal

pub invariant_of-self-in-Continue-branch-2 : goal.invariant_of-self-in-Continue-branch-2
invariant_of-self-in-Continue-branch-2 c =
    sound_acl c.args.uid (λ acl. without_entry acl c.args.id.now) c.self.inside.pages c.self.inside.objects.entries c.self.inside.tables c.remove_acl.new.self c.in_ok-remove_acl.ensures.ok c.self.invariant
