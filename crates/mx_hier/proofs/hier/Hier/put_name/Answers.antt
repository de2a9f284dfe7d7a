use Rattle.std.proofs.Common.{◌≡◌, false, is_some, sym, subst}
use Rattle.mx_hier.specs.Branches.{Hierarchy, uid_in, holder}
use Rattle.mx_hier.specs.Callers.{on}
use Rattle.mx_hier.proofs.ChangeLaws.{name_free}
use Rattle.mx_hier.proofs.SoundLaws.{sound_renamed}
use Rattle.mx_hier.proofs.hier.Hier.put_name.Goals as goal

pub rename-requires : goal.rename-requires
rename-requires c = record {
  free = λ branch is. name_free c.self.inside.tables.branches c.args.uid c.args.name.now branch is c.requires.below
      (subst (λ (h : Hierarchy). on (λ dir. is_some (uid_in h.branches dir c.args.name.now)) (holder h c.args.uid) ≡ false) (sym c.self.view_is) c.requires.free);
}

pub invariant_of-self-2 : goal.invariant_of-self-2
invariant_of-self-2 c = sound_renamed c.args.uid c.args.name.now c.self.inside.pages c.self.inside.objects.entries c.self.inside.tables c.rename.new.self c.in_ok-rename.ensures.ok c.self.invariant
