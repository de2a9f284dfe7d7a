use Rattle.std.proofs.Common.{sym, ◌∙◌}
use Rattle.std.proofs.lemmas.Bool.{false≢true}
use Rattle.mx_run.proofs.CommandLaws.{not_accepted}
use Rattle.mx_run.proofs.words.Command.read.Goals as goal

pub returns-in-None : goal.returns-in-None
returns-in-None c =
    not_accepted _ (λ r. false≢true (sym c.if-is_word.false ∙ c.is_word.ensures.1 r)) c.in-None.ensures.value
    (λ r. false≢true (sym c.if-is_word-2.false ∙ c.is_word-2.ensures.1 r))
