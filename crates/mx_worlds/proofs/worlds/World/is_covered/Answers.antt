use Rattle.std.proofs.Common.{◌≡◌, inl, inr, ℕ, ◌<◌, Bool, true, refl, subst, rules}
use Rattle.std.specs.Prelude.{IsTrue, MatchBool}
use Rattle.std.proofs.lemmas.Bool.{cases_lt}
use Rattle.mx_core.specs.Pages.{covers}
use Rattle.mx_worlds.specs.Shows.{columns}
use Rattle.mx_core.specs.World.{World}
use Rattle.mx_core.proofs.OpeningLaw.{unknown_bare}
use Rattle.mx_worlds.proofs.Searching.{one_more}
use Rattle.mx_worlds.proofs.Seating.{seat_shown}
use Rattle.mx_worlds.proofs.worlds.World.is_covered.Goals as goal

-- one of the process's first numbers has a descriptor that covers the page, or none has
abbrev Found : World → ℕ → ℕ → Type 0
Found w p page = (j : ℕ) × (j < w.numbers) × (covers (w.table w.length p j) page ≡ true)

abbrev None : World → ℕ → ℕ → Type 0
None w p page = (j : ℕ) → j < w.numbers → covers (w.table w.length p j) page ≡ true → ⊥

pub returns-then-covers : goal.returns-then-covers
returns-then-covers c w shows =
    let m = c.args.self.now in
    let p = c.loop-place.place in
    let s = seat_shown m.seats.items w p p c.index.result.now refl (search rules) c.index.ensures shows.parts.shows in
    let found = subst (λ (b : Bool). MatchBool b (Found w p c.args.page) (None w p c.args.page)) c.if-covers.true
    (c.covers.ensures w.numbers (columns w p) s) in
    λ bare. bare p found.0 found.2

pub loop-place-preserved : goal.loop-place-preserved
loop-place-preserved c w shows q n under =
    let m = c.args.self.now in
    let p = c.loop-place.place in
    let s = seat_shown m.seats.items w p p c.index.result.now refl (search rules) c.index.ensures shows.parts.shows in
    let none = subst (λ (b : Bool). MatchBool b (Found w p c.args.page) (None w p c.args.page)) c.if-covers.false
    (c.covers.ensures w.numbers (columns w p) s) in
    one_more (λ (r : ℕ). (k : ℕ) → IsTrue (covers (w.table w.length r k) c.args.page) → ⊥) p
    (λ r l k. c.loop-place.invariant w shows r k l)
    (λ k h. elim (cases_lt k w.numbers) [
      | inl inside ↦ none k inside h
      | inr beyond ↦ unknown_bare (w.table w.length p k) c.args.page (shows.good.shape.beyond w.length p k beyond) h
    ]) q under n
