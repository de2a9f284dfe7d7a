-- What is known at a point is what lies among the first m events, m being the mark of an entry up to it.
use Rattle.std.proofs.Common.{◌≡◌, inl, inr, ℕ, zero, suc, ◌+◌, ◌<◌, ◌≤◌, Bool, true, false, List, [], ◌∷◌, ◌++◌, length, refl, ap, sym, ◌∙◌, subst, Some, None, arith, rules}
use Rattle.std.specs.Prelude.{◌==◌, nat_le, max}
use Rattle.std.specs.List.{slice_get}
use Rattle.std.proofs.lemmas.Bool.{cases_eq, cases_lt}
use Rattle.mx_ties.specs.Fronts.{IsCovered, mark_when, front_after, FrontLaw}
use Rattle.mx_ties.specs.Views.{Marked}

when : (owner u n q mark : ℕ) → owner ≡ u → n ≤ q → mark_when (owner == u) (nat_le n q) mark ≡ mark
when owner u n q mark e l = search rules

-- what the mark counts, where it counts
counts : (owner u n q mark i : ℕ) → i < mark_when (owner == u) (nat_le n q) mark → (owner ≡ u) × (n ≤ q) × (i < mark)
counts owner u n q mark i l = elim (cases_eq owner u) [
  | inr other ↦ absurd (none (owner == u) (nat_le n q) (search rules) l)
  | inl e ↦ elim (cases_lt q n) [
    | inl above ↦ absurd (none' (owner == u) (nat_le n q) (search rules) l)
    | inr within ↦ (e, within, subst (λ (m : ℕ). i < m) (when owner u n q mark e within) l)
  ]
]
  where
    none : (a b : Bool) → a ≡ false → i < mark_when a b mark → ⊥
    none a b e l = let l' : i < mark_when false b mark = subst (λ (c : Bool). i < mark_when c b mark) e l in absurd
        (omega arith)

    none' : (a b : Bool) → b ≡ false → i < mark_when a b mark → ⊥
    none' true b e l = let l' : i < mark_when true false mark = subst
        (λ (c : Bool). i < mark_when true c mark) e l in absurd (omega arith)
    none' false b e l = absurd (omega arith)

pub covered : (start : ℕ) (history : List Marked) (u i q : ℕ) → i < front_after start history u q
    → IsCovered start history u i q
covered start [] u i q l = absurd (omega arith)
covered start (marked ∷ history) u i q l =
    elim (cases_lt i (mark_when (marked.entry.process == u) (nat_le (suc start) q) marked.mark)) [
      | inl here ↦ let c = counts marked.entry.process u (suc start) q marked.mark i here in
          record { place = 0; marked = marked; at = refl; own = c.0; within = omega arith; under = c.2 }
      | inr not ↦ let c = covered (suc start) history u i q (omega arith) in
          let within = c.within in
          record {
            place = suc c.place;
            marked = c.marked;
            at = c.at;
            own = c.own;
            within = omega arith;
            under = c.under;
          }
    ]

pub fronted : (start : ℕ) (history : List Marked) (u i q place : ℕ) (marked : Marked)
    → slice_get history place ≡ Some marked
    → marked.entry.process ≡ u → start + suc place ≤ q → i < marked.mark → i < front_after start history u q
fronted start [] u i q place marked h own within under = absurd (nothing h)
  where
    nothing : None ≡ Some marked → ⊥
    nothing h = cc
fronted start (first ∷ history) u i q zero marked h own within under =
    let e : first ≡ marked = cc in
    let w = when first.entry.process u (suc start) q first.mark (ap (λ (m : Marked). m.entry.process) e ∙ own)
    (omega arith) in
    let f = ap (λ (m : Marked). m.mark) e in omega arith
fronted start (first ∷ history) u i q (suc place) marked h own within under =
    let more = fronted (suc start) history u i q place marked h own (omega arith) under in omega arith

pub front_law : FrontLaw
front_law start history u i q = (
  covered start history u i q,
  λ c. fronted start history u i q c.place c.marked c.at c.own c.within c.under,
)
