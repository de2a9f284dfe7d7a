use Rattle.std.proofs.Common.{◌≡◌, ◌+◌, List, Result, Err, ap, subst, ◌∙◌, arith}
use Rattle.std.specs.Prelude.{IfOk}
use Rattle.mx_both.proofs.BothLaws.{bad_run, bad_run_small, bad_session, parts_are}
use Rattle.mx_both.specs.BothTexts.{IsSomeBoth}
use Rattle.mx_both.specs.declared.reading.Both.{Both}
use Rattle.mx_both.specs.declared.reading.ReadBoth.{ReadBoth}
use Rattle.mx_both.specs.declared.reading.ReadBoth.TheVariants.{BadLine}
use Rattle.mx_reader.specs.FirstBadLine.{IsFirstBad}
use Rattle.mx_reader.specs.declared.reading.ReadText.{ReadText}
use Rattle.mx_script.specs.Sessions.{Outline}
use Rattle.mx_script.specs.declared.reading.SessionError.{SessionError}
use Rattle.mx_script.specs.SessionTexts.{IsText}
use Rattle.mx_state.specs.declared.journal.Entry as journaled
use Rattle.mx_transcript.specs.Transcripts.{Step}
use Rattle.mx_both.proofs.reading.read_both.Goals as goal

pub returns-in-Ok-run-clause-only : goal.returns-in-Ok-run-clause-only
returns-in-Ok-run-clause-only g c =
    λ session journal transcripts is.
    let parts = parts_are _ c.cut_behind_end-cut.result.session.now c.cut_behind_end-cut.result.run.now c.cut_behind_end-cut.result.lines
    session journal transcripts c.cut_behind_end-cut.ensures is in
    let one : c.in-Ok.session ≡ session = subst (λ (r : Result Outline SessionError). IfOk r (λ y. y ≡ session)) c.in-Ok.is
    (c.read_texts-session.ensures.session.only session parts.session) in
    let run : (c.in-Ok-run.journal, c.in-Ok-run.transcripts) ≡ (journal, transcripts) =
    subst (λ (r : Result (List journaled.Entry × List (List Step)) ReadText). IfOk r (λ y. y ≡ (journal, transcripts))) c.in-Ok-run.is
    (c.read_texts-session.ensures.run.only journal transcripts parts.run) in
    (one, ap (λ p. p.0) run, ap (λ p. p.1) run)

same_error : (a b : ReadBoth) → ◌≡◌ {A = Result Both ReadBoth} (Err a) (Err b) → a ≡ b
same_error a b e = cc

pub returns-in-Err-clause-bad_line : goal.returns-in-Err-clause-bad_line
returns-in-Err-clause-bad_line g c =
    λ n e.
    let is = c.of_session.ensures n (same_error c.of_session.result (BadLine n) e) in
    bad_session _ c.cut_behind_end-cut.result.session.now c.cut_behind_end-cut.result.run.now c.cut_behind_end-cut.result.lines n
    c.cut_behind_end-cut.ensures (c.read_texts-session.ensures.session.bad_line n (c.in-Err.is ∙ ap Err is))

pub of_run-requires : goal.of_run-requires
of_run-requires g c =
    λ n is.
    let bad = c.read_texts-session.ensures.run.bad_line n (c.in-Err-run.is ∙ ap Err is) in
    let small = bad_run_small _ c.cut_behind_end-cut.result.session.now c.cut_behind_end-cut.result.run.now c.cut_behind_end-cut.result.lines
    n c.cut_behind_end-cut.ensures bad in
    omega (arith, small, c.requires)

pub returns-in-Err-run-clause-bad_line : goal.returns-in-Err-run-clause-bad_line
returns-in-Err-run-clause-bad_line g c =
    λ n e.
    let line = c.of_run.ensures n (same_error c.of_run.result (BadLine n) e) in
    let bad = c.read_texts-session.ensures.run.bad_line line.0 (c.in-Err-run.is ∙ ap Err line.1.0) in
    let found = subst (λ (r : Result Outline SessionError). IfOk r (λ x. IsText c.cut_behind_end-cut.result.session.now x)) c.in-Ok.is
    c.read_texts-session.ensures.session.found in
    subst (IsFirstBad IsSomeBoth c.args.bytes.now) line.1.1
    (bad_run _ c.cut_behind_end-cut.result.session.now c.cut_behind_end-cut.result.run.now c.cut_behind_end-cut.result.lines
    line.0 c.in-Ok.session c.cut_behind_end-cut.ensures found bad)
