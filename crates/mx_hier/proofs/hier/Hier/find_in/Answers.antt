use Rattle.std.proofs.Common.{ℕ, true, List, [], ◌∷◌, Option, Result, ap, sym, ◌∙◌}
use Rattle.mx_hier.specs.declared.branches.Directory.{Directory}
use Rattle.mx_hier.specs.declared.refusals.Refusal.{Refusal}
use Rattle.mx_hier.specs.Walks.{walk, told}
use Rattle.mx_hier.specs.Who.{subject}
use Rattle.mx_hier.proofs.FindLaws.{not_found}
use Rattle.mx_hier.proofs.hier.Hier.find_in.Goals as goal

pub returns-in-Err-clause-value : goal.returns-in-Err-clause-value
returns-in-Err-clause-value c =
    let who = subject c.args.who.now in
    let walked : List (List ℕ) → Result ℕ (Refusal × Option Directory) = walk 10 c.args.self.now true c.args.dir in
    not_found c.args.self.now who (walked (c.args.name.now ∷ [])) c.in-Err.field-0
    (sym c.in-Err.is ∙ c.in_ok-uid.ensures ∙ ap (λ (names : List (List ℕ)). told who (walked names)) c.of.ensures)
