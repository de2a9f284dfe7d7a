use Rattle.std.proofs.Common.{List, [], ap, subst, sym, slice_index_or, ◌∙◌}
use Rattle.std.specs.List.{All}
use Rattle.mx_sdw.specs.Admissible.{IsAdmissible}
use Rattle.mx_sdw.specs.Descriptors.{Descriptor}
use Rattle.mx_transcript.specs.Access.{descriptor_of}
use Rattle.mx_breach.proofs.BesideLaws.{are_beside, found_part}
use Rattle.mx_breach.proofs.departing.departure_of.Goals as goal

pub departure_at-requires-clause-beside : goal.departure_at-requires-clause-beside
departure_at-requires-clause-beside c =
    let row = c.row.ensures ∙ ap (λ (rows : List (List Descriptor)). slice_index_or rows c.args.p []) c.deref.ensures.value in
    are_beside (descriptor_of c.args.session.now c.args.journal.now c.args.p) c.args.transcripts.now c.args.p c.in-Some.transcript.now
    c.row.result.now
    (found_part c.args.transcripts.now c.items.result.now c.args.p c.in-Some.transcript.now c.items.ensures c.in-Some.ensures.lookup.3.0
    c.in-Some.ensures.lookup.1)
    (row ∙ c.requires.access.descriptors c.args.p)
    (subst (λ (r : List Descriptor). All IsAdmissible r) (sym row) (c.requires.access.admissible c.args.p))
