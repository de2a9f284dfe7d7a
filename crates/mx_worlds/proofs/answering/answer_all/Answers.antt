use Rattle.std.proofs.Common.{inl, inr, ℕ, sym, subst, arith, rules}
use Rattle.std.proofs.lemmas.Option.{slice_get_within}
use Rattle.mx_worlds.specs.Seating.{answered_columns}
use Rattle.mx_worlds.specs.Shows.{ShowsSeat}
use Rattle.mx_worlds.specs.declared.seats.Seat.{Seat}
use Rattle.mx_worlds.proofs.Seating.{at_place, set_found}
use Rattle.mx_worlds.proofs.answering.answer_all.Goals as goal

pub loop-place-preserved : goal.loop-place-preserved
loop-place-preserved c = (
  λ many f init p s at. elim (set_found c.loop-place.seats.items c.loop-place.place p c.answer.new.self s at) [
    | inl a ↦
        let old = c.loop-place.invariant.0 many f init c.loop-place.place c.index_mut.result.now
        (at_place c.loop-place.seats.items c.loop-place.place c.index_mut.result.now (search rules)
        c.index_mut.ensures.value) in
        let new = c.answer.ensures many (f c.loop-place.place) (old.1 (search rules)) in (
          λ under. subst (λ (x : Seat). ShowsSeat many x (answered_columns (f p))) (sym a.1)
              (subst (λ (q : ℕ). ShowsSeat many c.answer.new.self (answered_columns (f q))) (sym a.0) new),
          λ over. let e = a.0 in absurd (omega arith),
        )
    | inr b ↦
        let i = c.loop-place.invariant.0 many f init p s b.1 in (
          λ under. i.0 (let n = b.0 in omega arith),
          λ over. i.1 (omega arith),
        )
  ],
  c.loop-place.invariant.1,
)

pub returns-clause-shown : goal.returns-clause-shown
returns-clause-shown c many f init p s at =
    let under = slice_get_within c.loop-place.seats.items p s at in
    (c.loop-place.invariant.0 many f init p s at).0 (search rules)
