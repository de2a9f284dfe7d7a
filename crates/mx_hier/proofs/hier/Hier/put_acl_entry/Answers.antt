use Rattle.mx_acl.specs.Access.{with_entry}
use Rattle.mx_hier.proofs.SoundLaws.{sound_acl}
use Rattle.mx_hier.proofs.hier.Hier.put_acl_entry.Goals as goal

pub invariant_of-self-in-Continue-branch-2 : goal.invariant_of-self-in-Continue-branch-2
invariant_of-self-in-Continue-branch-2 c =
    sound_acl c.args.uid (λ acl. with_entry acl c.args.id.now c.args.modes) c.self.inside.pages c.self.inside.objects.entries c.self.inside.tables c.set_acl.new.self c.in_ok-set_acl.ensures.ok c.self.invariant
