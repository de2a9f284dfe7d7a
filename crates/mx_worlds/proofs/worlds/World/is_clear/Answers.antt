use Rattle.std.proofs.Common.{◌≡◌, Bool, false, true, sym, ◌∙◌, rules}
use Rattle.std.specs.Prelude.{MatchBool}
use Rattle.std.proofs.lemmas.Bool.{both_ways}
use Rattle.mx_worlds.specs.Marking.{IsCleanPage}
use Rattle.mx_core.specs.Pages.{gives}
use Rattle.mx_worlds.proofs.worlds.World.is_clear.Goals as goal

clear_by : (P : Type 0) (given b : Bool) → given ≡ true → MatchBool b P (P → ⊥)
    → MatchBool b (given ≡ true → P) ((given ≡ true → P) → ⊥)
clear_by P given true e clean = λ h. clean
clear_by P given false e not_clean = λ all. not_clean (all e)

pub returns-then-not-gives : goal.returns-then-not-gives
returns-then-not-gives c w shows = λ given.
    absurd (both_ways (gives c.args.given.now c.args.page) (sym c.gives.ensures ∙ search rules) given)

pub returns : goal.returns
returns c w shows =
    clear_by (IsCleanPage w c.args.page) (gives c.args.given.now c.args.page) c.is_clean.result
    (sym c.gives.ensures ∙ search rules) (c.is_clean.ensures w shows)
