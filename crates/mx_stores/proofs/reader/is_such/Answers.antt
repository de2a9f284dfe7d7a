use Rattle.std.proofs.Common.{◌≡◌, true, ap, not, ◌∙◌, ℕ, length, rules}
use Rattle.mx_reads.specs.Deeds.{Stores}
use Rattle.mx_stores.specs.Choices.{stores_word}
use Rattle.mx_stores.specs.Least.{is_by}
use Rattle.mx_stores.proofs.Choosing.{such_yes}
use Rattle.mx_stores.proofs.reader.is_such.Goals as goal

pub returns-then-stores_word : goal.returns-then-stores_word
returns-then-stores_word c = λ done tables table ends at there own w.
    let word : stores_word c.args.read.now.cell c.args.read.now.value c.args.read.now.stamp (Stores c.args.store.now.cell c.args.store.now.value c.args.store.now.point) ≡ true = search rules in
    let point : c.read.inside.point ≡ c.args.read.now.point = search rules in
    (λ i. not (c.is_by.ensures i)) ∙ ap (λ (q : ℕ). not (is_by c.end_at.result q)) point
    ∙ such_yes done (length tables) c.args.read.now c.args.storer c.args.store.now own w word c.end_at.result
    (c.end_at.ensures done tables table c.args.store.now ends at there)
