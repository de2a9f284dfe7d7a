use Rattle.std.proofs.Common.{rules}
use Rattle.std.proofs.lemmas.List.Sorted.{IsNonDecreasingBy-from_sort_by_key}
use Rattle.mx_stores.proofs.Tables.{sorted_stores}
use Rattle.mx_stores.proofs.stores.Table.new.Goals as goal

pub returns : goal.returns
returns c = record {
  stores = sorted_stores _ _ _ c.sort_unstable_by_key.ensures.permutation c.in_ok-stores.ensures;
  sorted = IsNonDecreasingBy-from_sort_by_key (λ s. s.order) _ c.sort_unstable_by_key.ensures.sorted (λ a r q k. search rules);
  reach = search rules;
}
