use Rattle.std.proofs.Common.{rules, ◌≡◌}
use Rattle.std.proofs.lemmas.List.Sorted.{IsNonDecreasingBy-from_sort_by_key, answers_always}
use Rattle.mx_judging.specs.References.{references_in}
use Rattle.mx_judging.proofs.judging.sorted_references.Goals as goal

pub returns-clause-sorted : goal.returns-clause-sorted
returns-clause-sorted c = IsNonDecreasingBy-from_sort_by_key (λ r. r.1.point) _ c.in_ok-sort_by_key.ensures.sorted (λ a r q k. search rules)

pub returns-clause-stable : goal.returns-clause-stable
returns-clause-stable c =
    let all : c.add_all_references.new.found.items ≡ references_in c.args.transcripts.now = search rules in
    rw (← all) (c.sort_by_key.ensures.stable (λ r. r.1.point) (answers_always _ _ _ (λ f a r g h. search rules)))
