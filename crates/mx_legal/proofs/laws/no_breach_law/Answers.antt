use Rattle.mx_legal.proofs.BreachLaws.{good_has_none}
use Rattle.mx_legal.proofs.laws.no_breach_law.Goals as goal

pub returns : goal.returns
returns c = λ session journal transcripts process line is legal breach.
    good_has_none session journal transcripts process line ((c.legal_law.ensures session journal transcripts is).0 legal) breach
