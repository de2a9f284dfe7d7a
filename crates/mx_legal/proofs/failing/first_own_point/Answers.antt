use Rattle.std.proofs.Common.{List, [], ap, length, slice_index_or, ◌∙◌}
use Rattle.mx_reads.specs.Deeds.{Deed}
use Rattle.mx_state.specs.declared.journal.Entry.{Entry}
use Rattle.mx_legal.proofs.DeciderLaws.{point_found}
use Rattle.mx_legal.proofs.failing.first_own_point.Goals as goal

pub returns : goal.returns
returns c =
    point_found c.args.session.now c.args.journal.now c.args._transcripts.now c.args.p c.row.result.now c.setup_entries.result
    (length c.items.result.now) c.first_bad_point.result
    (c.row.ensures ∙ ap (λ (rows : List (List Deed)). slice_index_or rows c.args.p []) c.deref.ensures.value ∙ c.requires.deeds c.args.p)
    c.setup_entries.ensures (ap (λ (entries : List Entry). length entries) c.items.ensures) c.first_bad_point.ensures
