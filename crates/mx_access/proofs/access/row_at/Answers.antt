use Rattle.std.proofs.Common.{◌≡◌, List, IfOk, drop, rules, sym, subst}
use Rattle.std.specs.List.{slice_index_or}
use Rattle.mx_access.specs.Rows.{AreToldOf, IsRow}
use Rattle.mx_access.proofs.AllRowLaws.{part_is}
use Rattle.mx_transcript.specs.Transcripts.{Step, part, events_of}
use Rattle.mx_access.proofs.access.row_at.Goals as goal

pub of-requires-clause-told : goal.of-requires-clause-told
of-requires-clause-told c =
    let session = c.args.session.now in
    let journal = c.args.entries.now in
    let p = c.args.p in
    let cut : c.split_at.result.1.now ≡ drop (slice_index_or c.args.starts.now p 0) c.args.told.now = search rules in
    subst (λ (steps : List Step). AreToldOf session journal p (events_of steps) c.split_at.result.1.now)
    (sym (part_is c.args.transcripts.now p c.index-transcripts-p.result c.requires.place c.index-transcripts-p.is))
    (subst (AreToldOf session journal p (events_of (part c.args.transcripts.now p))) (sym cut) (c.requires.told.each p c.requires.place))

pub returns : goal.returns
returns c =
    subst (λ (steps : List Step). IfOk c.of.result (IsRow c.args.session.now c.args.entries.now c.args.p (events_of steps)))
    (part_is c.args.transcripts.now c.args.p c.index-transcripts-p.result c.requires.place c.index-transcripts-p.is) c.of.ensures
