use Rattle.std.proofs.Common.{ℕ, List, option_map, sym, ap, ◌∙◌}
use Rattle.mx_name.specs.Names.{same_name}
use Rattle.mx_fresh.proofs.FindLaws.{lookup_found}
use Rattle.mx_fresh.proofs.known.number_named.Goals as goal

pub returns-in-Some : goal.returns-in-Some
returns-in-Some c = ap (option_map (λ (pair : List ℕ × ℕ). pair.1)) c.in-Some.ensures ∙ sym (lookup_found (same_name c.args.name.now) c.args.names.now)

pub returns-in-None : goal.returns-in-None
returns-in-None c = ap (option_map (λ (pair : List ℕ × ℕ). pair.1)) c.in-None.ensures ∙ sym (lookup_found (same_name c.args.name.now) c.args.names.now)
