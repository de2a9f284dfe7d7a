use Rattle.std.proofs.Common.{◌==◌, ℕ, List, not, rules}
use Rattle.std.proofs.lemmas.Fn.{filter_same}
use Rattle.mx_fresh.proofs.known.forget.Goals as goal

pub returns : goal.returns
returns c = filter_same _ (λ (pair : List ℕ × ℕ). not (pair.1 == c.args.segno)) _ (λ x b f' k. search rules) _ _ c.retain.ensures.filtered
