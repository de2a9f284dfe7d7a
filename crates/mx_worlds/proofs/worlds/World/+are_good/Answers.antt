use Rattle.std.proofs.Common.{◌≡◌, zero, suc, Bool, true, false, List, ◌∷◌, Some, refl, sym, subst, arith}
use Rattle.std.specs.Prelude.{MatchBool}
use Rattle.std.proofs.lemmas.Option.{slice_get_within}
use Rattle.mx_core.specs.Append.{IsGoodChange}
use Rattle.mx_worlds.specs.Marking.{AreGood}
use Rattle.mx_core.specs.World.{World}
use Rattle.mx_core.specs.declared.changes.Change.{Change}
use Rattle.mx_core.proofs.Lists.{split_up}
use Rattle.mx_worlds.proofs.worlds.World.+are_good.Goals as goal

same_at : {A : Type 0} (a b : A) → Some a ≡ Some b → a ≡ b
same_at a b h = cc

rest_by : (w : World) (first : Change) (rest : List Change) (b : Bool) → IsGoodChange w first
    → MatchBool b (AreGood w rest) (AreGood w rest → ⊥)
    → MatchBool b (AreGood w (first ∷ rest)) (AreGood w (first ∷ rest) → ⊥)
rest_by w first rest true good all = go
  where
    go : AreGood w (first ∷ rest)
    go zero a at = subst (IsGoodChange w) (same_at first a at) good
    go (suc i) a at = all i a at
rest_by w first rest false good not_all = λ all. not_all (λ i a at. all (suc i) a at)

first_by : (w : World) (first : Change) (rest : List Change) → (IsGoodChange w first → ⊥) → AreGood w (first ∷ rest) → ⊥
first_by w first rest bad all = bad (all 0 first refl)

pub returns-in-empty : goal.returns-in-empty
returns-in-empty t c w shows = λ i a at.
    let under = slice_get_within c.args.changes.now i a at in
    let none = c.in-empty.len_below in absurd (omega arith)

pub returns-then-is_good : goal.returns-then-is_good
returns-then-is_good t c w shows =
    subst (λ (l : List Change). MatchBool c.are_good.result (AreGood w l) (AreGood w l → ⊥))
    (sym (split_up c.args.changes.now c.change-item.result c.in-len1-up.len_at_least c.change-item.is))
    (rest_by w c.change-item.result _ c.are_good.result
    (subst (λ (b : Bool). MatchBool b (IsGoodChange w c.change-item.result) (IsGoodChange w c.change-item.result → ⊥))
    c.if-is_good.true (c.is_good.ensures w shows)) (c.are_good.ensures w shows))

pub returns-else-is_good : goal.returns-else-is_good
returns-else-is_good t c w shows =
    subst (λ (b : Bool). MatchBool b (AreGood w c.args.changes.now) (AreGood w c.args.changes.now → ⊥))
    (sym c.if-is_good.false)
    (subst (λ (l : List Change). AreGood w l → ⊥)
    (sym (split_up c.args.changes.now c.change-item.result c.in-len1-up.len_at_least c.change-item.is))
    (first_by w c.change-item.result _
    (subst (λ (b : Bool). MatchBool b (IsGoodChange w c.change-item.result) (IsGoodChange w c.change-item.result → ⊥))
    c.if-is_good.false (c.is_good.ensures w shows))))
