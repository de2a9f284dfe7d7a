use Rattle.std.proofs.Common.{◌≡◌, ℕ, List, Err, subst, rules}
use Rattle.std.specs.List.Sorted.{IsBinarySearchResult}
use Rattle.std.specs.Ordering.{nat_cmp}
use Rattle.mx_stores.proofs.CellLaws.{not_found}
use Rattle.mx_stores.proofs.cells.Cells.find.Goals as goal

pub returns-in-Err : goal.returns-in-Err
returns-in-Err c = λ rising.
    let same : c.deref.result.now ≡ c.args.self.now.numbers.items = search rules in
    let none : c.binary_search.result ≡ Err c.in-Err.field-0 = search rules in
    not_found c.args.self.now.numbers.items c.args.number c.in-Err.field-0 c.binary_search.result none rising
    (subst (λ (xs : List ℕ). IsBinarySearchResult (λ y. nat_cmp y c.args.number) xs c.binary_search.result) same
    c.binary_search.ensures.position)
