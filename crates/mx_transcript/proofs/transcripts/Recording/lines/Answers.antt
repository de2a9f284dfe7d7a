use Rattle.std.proofs.Common.{rules, ◌≡◌, length}
use Rattle.mx_transcript.proofs.RecordedLaws.{as_many}
use Rattle.mx_transcript.proofs.transcripts.Recording.lines.Goals as goal

pub returns : goal.returns
returns c =
    let e : c.len.result ≡ length c.self.inside.lines.items = search rules in
    as_many _ _ _ _ _ _ c.self.view_is e
