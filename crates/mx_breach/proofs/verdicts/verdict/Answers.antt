use Rattle.std.proofs.Common.{inl, inr, rules}
use Rattle.std.proofs.lemmas.Result.{IfOk-weaker}
use Rattle.mx_transcript.specs.Legal.{IsLegal}
use Rattle.mx_breach.proofs.verdicts.verdict.Goals as goal

pub returns-in-None : goal.returns-in-None
returns-in-None g c =
    let legal : IsLegal c.args.session.now c.args.journal.now c.args.transcripts.now = search rules in
    IfOk-weaker c.legal_text.result _ _ (λ text is. inl (legal, is)) c.legal_text.ensures

pub returns-in-Some : goal.returns-in-Some
returns-in-Some g c = IfOk-weaker c.breach_text.result _ _ (λ text is. inr is) c.breach_text.ensures
