use Rattle.std.proofs.Common.{◌==◌, ℕ, option_map, sym, ap, ◌∙◌}
use Rattle.mx_object.specs.Objects.{PlainObjectMap}
use Rattle.mx_fresh.proofs.FindLaws.{lookup_found}
use Rattle.mx_fresh.proofs.hierarchy.object_of.Goals as goal

pub returns-in-Some : goal.returns-in-Some
returns-in-Some c = ap (option_map (λ (pair : ℕ × PlainObjectMap). pair.1)) c.in-Some.ensures ∙ sym (lookup_found (λ other. c.args.uid == other) c.args.objects.now)

pub returns-in-None : goal.returns-in-None
returns-in-None c = ap (option_map (λ (pair : ℕ × PlainObjectMap). pair.1)) c.in-None.ensures ∙ sym (lookup_found (λ other. c.args.uid == other) c.args.objects.now)
