use Rattle.std.proofs.Common.{◌≡◌, length, sym, ◌∙◌, rules}
use Rattle.std.specs.Prelude.{string_bytes}
use Rattle.mx_explain.proofs.WordLaws.{not_turns, filled}
use Rattle.mx_explain.proofs.words.Turns.read.Goals as goal

pub returns-else-is_order-clause-none : goal.returns-else-is_order-clause-none
returns-else-is_order-clause-none c =
    let some : length c.args.words.now ≡ 0 → ⊥ = search rules in
    not_turns _ (filled string_bytes c.args.words.now some) c.in_default.ensures (sym c.is_order.ensures ∙ c.if-is_order.false)
