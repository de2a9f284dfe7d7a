use Rattle.std.proofs.Common.{List, length, rules, sym, subst}
use Rattle.std.proofs.lemmas.List.Sorted.{IsNonDecreasingBy-from_sort_by_key}
use Rattle.mx_access.specs.Questions.{AreTurns, asked_of}
use Rattle.mx_access.specs.declared.questions.Question.{Question}
use Rattle.mx_access.proofs.TurnLaws.{turns_all, turns_moved}
use Rattle.mx_access.proofs.questions.turns_of.Goals as goal

pub returns-clause-turns : goal.returns-clause-turns
returns-clause-turns c =
    let asked : List Question = asked_of c.args.entries c.args.transcripts.now in
    turns_moved asked (length asked) c.in_ok-all.all.turns.items _ c.sort_unstable_by_key.ensures.permutation
    (subst (AreTurns asked (length asked)) (sym c.in_ok-all.ensures.turns) (turns_all asked))

pub returns-clause-ordered : goal.returns-clause-ordered
returns-clause-ordered c = IsNonDecreasingBy-from_sort_by_key (λ t. t.point) _ c.sort_unstable_by_key.ensures.sorted (λ a r q k. search rules)
