use Rattle.std.proofs.Common.{rules, ap, sym, ◌∙◌}
use Rattle.mx_object.specs.Objects.{PlainObjectMap, symbols_of, has_twice}
use Rattle.mx_object.proofs.DefinitionLaws.{answer_defines}
use Rattle.mx_object.proofs.objects.ObjectMap.definition.Goals as goal

pub returns-clause-defines : goal.returns-clause-defines
returns-clause-defines c =
    answer_defines c.args.self.now c.args.symbol.now c.word_of.result
    (ap (λ (object : PlainObjectMap). has_twice (symbols_of object.definitions)) (sym c.self.view_is) ∙ c.self.invariant.once)
    (search rules)
