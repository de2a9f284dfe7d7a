use Rattle.std.proofs.Common.{◌≡◌, Bool, false, true, ap, sym, ◌∙◌, rules}
use Rattle.std.specs.Prelude.{MatchBool, ◌||◌}
use Rattle.std.proofs.lemmas.Bool.{both_ways}
use Rattle.mx_core.specs.Pages.{gives, covered_anew}
use Rattle.mx_worlds.proofs.Seating.{value_is}
use Rattle.mx_worlds.proofs.worlds.World.is_given.Goals as goal

-- whether one of the two tests answers yes
given_by : (anew gives ready b : Bool) → anew ≡ true → b ≡ (gives || ready)
    → MatchBool b (anew ≡ true → (gives || ready) ≡ true) ((anew ≡ true → (gives || ready) ≡ true) → ⊥)
given_by anew gives ready true e is = λ h. sym is
given_by anew gives ready false e is = λ all. both_ways (gives || ready) (sym is) (all e)

pub returns-then-not-covered_anew : goal.returns-then-not-covered_anew
returns-then-not-covered_anew c w shows = λ anew.
    absurd (both_ways (covered_anew c.args.changes.now c.args.page) (sym c.covered_anew.ensures ∙ search rules) anew)

pub returns-then-gives : goal.returns-then-gives
returns-then-gives c w shows =
    given_by (covered_anew c.args.changes.now c.args.page) (gives c.args.given.now c.args.page) (w.ready c.args.page)
    c.gives.result (sym c.covered_anew.ensures ∙ search rules)
    (c.if-gives.true ∙ sym (ap (λ (b : Bool). b || w.ready c.args.page) (sym c.gives.ensures ∙ c.if-gives.true)))

pub returns-else-gives : goal.returns-else-gives
returns-else-gives c w shows =
    given_by (covered_anew c.args.changes.now c.args.page) (gives c.args.given.now c.args.page) (w.ready c.args.page)
    c.index.result.now (sym c.covered_anew.ensures ∙ search rules)
    (value_is c.args.self.now.ready.items w.ready c.args.page c.index.result.now shows.parts.memory.ready_pages
    (search rules) c.index.ensures
    ∙ sym (ap (λ (b : Bool). b || w.ready c.args.page) (sym c.gives.ensures ∙ c.if-gives.false)))
