use Rattle.std.proofs.Common.{sym, ap, ◌∙◌}
use Rattle.std.specs.Option.{option_map}
use Rattle.mx_hier.specs.Branches.{Hierarchy, segment_at}
use Rattle.mx_hier.proofs.SoundLaws.{run_of, sound_without, sound_freed}
use Rattle.mx_hier.proofs.hier.Hier.remove.Goals as goal

pub invariant_of-self : goal.invariant_of-self
invariant_of-self c =
    sound_freed c.args.uid c.from.result c.from-in-Some.result c.in-Some.run' c.self.inside.pages c.free.new.self c.self.inside.objects.entries
    c.self.inside.tables c.remove.new.self c.remove.ensures
    (c.in-Some.ensures.value ∙ ap (λ (h : Hierarchy). option_map run_of (segment_at h c.args.uid)) (sym c.self.view_is))
    c.from.ensures c.from-in-Some.ensures c.free.ensures.only c.self.invariant

pub invariant_of-self-in_default : goal.invariant_of-self-in_default
invariant_of-self-in_default c =
    sound_without c.args.uid c.self.inside.pages c.self.inside.objects.entries c.self.inside.tables c.remove.new.self c.remove.ensures c.self.invariant
