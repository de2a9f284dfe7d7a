use Rattle.std.proofs.Common.{Bool, List, [], ap, length, slice_index_or, ◌∙◌}
use Rattle.mx_reads.specs.Deeds.{Deed}
use Rattle.mx_state.specs.declared.journal.Entry.{Entry}
use Rattle.mx_legal.proofs.DeciderLaws.{deed_found}
use Rattle.mx_legal.proofs.fronts.first_bad_deed.Goals as goal

pub returns : goal.returns
returns c =
    deed_found c.change_law.ensures c.args.session.now c.args.journal.now c.args.transcripts.now c.args.p c.row-own.result.now
    c.row.result.now c.setup_entries.result (length c.items.result.now) c.args.wrong_read c.in_ok-miss.miss c.first_bad_point-point.result
    c.earlier.result c.earlier-2.result
    (c.row-own.ensures ∙ ap (λ (rows : List (List Deed)). slice_index_or rows c.args.p []) c.deref.ensures.value ∙ c.requires.access.deeds c.args.p)
    (c.row.ensures ∙ ap (λ (rows : List (List Bool)). slice_index_or rows c.args.p []) c.deref-2.ensures.value ∙ c.requires.access.changes c.args.p)
    c.setup_entries.ensures (ap (λ (entries : List Entry). length entries) c.items.ensures) c.requires.reads c.in_ok-miss.ensures
    c.first_bad_point-point.ensures c.earlier.ensures c.earlier-2.ensures
