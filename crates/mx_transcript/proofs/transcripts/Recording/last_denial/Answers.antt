use Rattle.std.proofs.Common.{rules, ◌≡◌, ◌-◌, ◌∙◌, ap, sym, length, slice_get}
use Rattle.mx_transcript.proofs.DenialLaws.{kept_denial, last_kept, not_denied}
use Rattle.mx_transcript.specs.Denials.{denied_with}
use Rattle.mx_transcript.proofs.transcripts.Recording.last_denial.Goals as goal

pub returns-in_default : goal.returns-in_default
returns-in_default c =
    let same : c.deref.result.now ≡ c.self.inside.lines.items = search rules in
    not_denied c.in_ok-line.line.now.number c.in_ok-line.line.now.result c.in_default.not-Denied
    ∙ (ap kept_denial c.in_ok-line.ensures.value
    ∙ (ap (λ lines. kept_denial (slice_get lines (length lines - 1))) same ∙ last_kept _ _ _ _ _ c.self.view_is))

pub returns : goal.returns
returns c =
    let same : c.deref.result.now ≡ c.self.inside.lines.items = search rules in
    ap (λ result. denied_with c.in_ok-line.line.now.number result) (sym c.in-Denied.is)
    ∙ (ap kept_denial c.in_ok-line.ensures.value
    ∙ (ap (λ lines. kept_denial (slice_get lines (length lines - 1))) same ∙ last_kept _ _ _ _ _ c.self.view_is))
