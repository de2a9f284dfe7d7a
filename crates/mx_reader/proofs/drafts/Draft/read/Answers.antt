use Rattle.std.proofs.Common.{◌+◌, length, None, [], ◌∷◌, ◌++◌, ap, subst, sym, ◌∙◌}
use Rattle.mx_reader.proofs.ProgressLaws.{part_read}
use Rattle.mx_reader.specs.Progress.{Follows, Progress, heading_at, progress_at, step}
use Rattle.mx_transcript.specs.Recorded.{Recorded}
use Rattle.mx_reader.proofs.drafts.Draft.read.Goals as goal

-- the part at work has ended, and is one of those that are whole
pub returns-in_ok-push-in-Within : goal.returns-in_ok-push-in-Within
returns-in_ok-push-in-Within c =
    let d = c.self.inside in
    let follows : Follows d.recording c.args.line.now c.add_line.new.recording None
    = subst (Follows d.recording c.args.line.now c.add_line.new.recording) c.in_default-2.is c.in_ok-at_work-in-Within.ensures.goes in
    let stands = sym (ap (λ s. progress_at s d.count d.journal d.transcripts d.recording.steps d.recording.events) c.in-Within.is) ∙ c.self.view_is in
    let told = ap (λ ts. heading_at (length ts + 1) c.args.line.now) (sym c.items-in-Within.ensures)
    ∙ sym c.read_heading-in-Within.ensures ∙ c.in-Some-read_heading-2.is in
    let whole = c.in_ok-push-in-Within.ensures.ok
    ∙ ap (λ ss. d.transcripts ++ ss ∷ [])
    (c.finish.ensures ∙ ap (λ (r : Recorded). r.steps) (c.replace-recording.ensures.value ∙ follows.1)) in
    let anew = c.in_ok-room-in-Within in
    let stage = c.stage_of-self-inside-in-Within.result in
    let next = c.push.new.self in
    let leads =
    ap (λ (r : Recorded). progress_at stage d.count d.journal next r.steps r.events) c.replace-recording.ensures.after
    ∙ ap (λ ss. progress_at stage d.count d.journal next ss anew.room.events) anew.ensures.steps
    ∙ ap (λ es. progress_at stage d.count d.journal next [] es) anew.ensures.events
    ∙ c.stage_of-self-inside-in-Within.ensures d.journal next d.count in
    part_read d.journal d.transcripts next d.recording.steps d.recording.events c.args.line.now
    c.in-Some-read_heading-2.heading _ follows.0 (sym c.self.invariant.at_work ∙ c.if-self.false) told whole leads
    ∙ ap (λ (p : Progress). step p c.args.line.now) stands
