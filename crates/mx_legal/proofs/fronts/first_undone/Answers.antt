use Rattle.std.proofs.Common.{List, [], ap, subst, sym, slice_index_or, ◌∙◌}
use Rattle.std.specs.List.{All}
use Rattle.mx_sdw.specs.Admissible.{IsAdmissible}
use Rattle.mx_sdw.specs.Descriptors.{Descriptor}
use Rattle.mx_transcript.specs.Access.{descriptor_of}
use Rattle.mx_transcript.specs.Transcripts.{part}
use Rattle.mx_legal.proofs.DeciderLaws.{are_beside, found_part, none_found, none_undone, undone_of}
use Rattle.mx_legal.proofs.fronts.first_undone.Goals as goal

pub first_bad_line-requires-clause-beside : goal.first_bad_line-requires-clause-beside
first_bad_line-requires-clause-beside c =
    let row = c.row.ensures ∙ ap (λ (rows : List (List Descriptor)). slice_index_or rows c.args.p []) c.deref.ensures.value in
    are_beside (descriptor_of c.args.session.now c.args.journal.now c.args.p) c.args.transcripts.now c.args.p c.in-Some.transcript.now
    c.row.result.now
    (found_part c.args.transcripts.now c.items.result.now c.args.p c.in-Some.transcript.now c.items.ensures c.in-Some.ensures.lookup.3.0
    c.in-Some.ensures.lookup.1)
    (row ∙ c.requires.access.descriptors c.args.p)
    (subst (λ (r : List Descriptor). All IsAdmissible r) (sym row) (c.requires.access.admissible c.args.p))

pub returns-in-None : goal.returns-in-None
returns-in-None c =
    none_undone c.args.session.now c.args.journal.now c.args.p (part c.args.transcripts.now c.args.p)
    (none_found c.args.transcripts.now c.items.result.now c.args.p c.items.ensures c.in-None.ensures.lookup.3)

pub returns-in-Some : goal.returns-in-Some
returns-in-Some c =
    undone_of c.args.session.now c.args.journal.now c.args.transcripts.now c.args.p c.in-Some.transcript.now c.first_bad_line.result
    (found_part c.args.transcripts.now c.items.result.now c.args.p c.in-Some.transcript.now c.items.ensures c.in-Some.ensures.lookup.3.0
    c.in-Some.ensures.lookup.1)
    c.first_bad_line.ensures
