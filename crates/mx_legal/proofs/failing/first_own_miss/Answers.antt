use Rattle.std.proofs.Common.{Bool, List, [], ap, slice_index_or, ◌∙◌}
use Rattle.mx_reads.specs.Deeds.{Deed}
use Rattle.mx_legal.proofs.DeciderLaws.{miss_found}
use Rattle.mx_legal.proofs.failing.first_own_miss.Goals as goal

pub returns : goal.returns
returns c =
    miss_found c.change_law.ensures c.args._session.now c.args.journal.now c.args._transcripts.now c.args.p c.row.result.now
    c.row-2.result.now c.first_bad_miss.result
    (c.row.ensures ∙ ap (λ (rows : List (List Deed)). slice_index_or rows c.args.p []) c.deref.ensures.value ∙ c.requires.deeds c.args.p)
    (c.row-2.ensures ∙ ap (λ (rows : List (List Bool)). slice_index_or rows c.args.p []) c.deref-2.ensures.value ∙ c.requires.changes c.args.p)
    c.first_bad_miss.ensures
