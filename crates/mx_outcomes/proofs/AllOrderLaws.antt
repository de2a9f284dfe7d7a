-- Laws on orders that follow one another: from the first to the last they are all.
use Rattle.std.proofs.Common.{◌≡◌, ◌⊎◌, inl, inr, ℕ, List, [], ◌∷◌, ◌++◌, refl, sym, ap, ◌∙◌, subst, arith}
use Rattle.std.proofs.lemmas.Bool.{cases_lt}
use Rattle.mx_outcomes.proofs.OrderLaws.{rests, stands_first}
use Rattle.mx_outcomes.specs.Interleavings.{ComesBefore, IsArrangement, IsInterleaving, IsFirst, IsNext, IsLast}
use Rattle.mx_outcomes.specs.AllOrders.{IsAmong, AreInterleavings, AreRising, AreAllOrders, Follow}

compare_behind : (p q : ℕ) (order other : List ℕ) → p ≡ q → ComesBefore order other ⊎ ((order ≡ other) ⊎ ComesBefore other order)
    → ComesBefore (p ∷ order) (q ∷ other) ⊎ ((p ∷ order ≡ q ∷ other) ⊎ ComesBefore (q ∷ other) (p ∷ order))
compare_behind p q order other e (inl before) = inl (inr (e, before))
compare_behind p q order other e (inr (inl is)) = inr (inl (ap (λ (x : ℕ). x ∷ order) e ∙ ap (λ (l : List ℕ). q ∷ l) is))
compare_behind p q order other e (inr (inr before)) = inr (inr (inr (sym e, before)))

-- of two orders of the same lines one comes before the other, or they are the same
compare : (order other : List ℕ) → IsArrangement order other → ComesBefore order other ⊎ ((order ≡ other) ⊎ ComesBefore other order)
compare [] [] same = inr (inl refl)
compare [] (q ∷ other) same = let some = stands_first q q other refl in let none = same q in absurd (omega (arith, some, none))
compare (p ∷ order) [] same = let some = stands_first p p order refl in let none = same p in absurd (omega (arith, some, none))
compare (p ∷ order) (q ∷ other) same = elim (cases_lt p q) [
  | inl less ↦ inl (inl less)
  | inr most ↦ elim (cases_lt q p) [
    | inl less ↦ inr (inr (inl less))
    | inr least ↦ let e : p ≡ q = omega (arith, most, least) in
        compare_behind p q order other e (compare order other (rests p q order other (sym e) same))
  ]
]

reach : (orders : List (List ℕ)) (first last order : List ℕ) → Follow first orders last → IsLast last → IsArrangement first order
    → (ComesBefore order first → ⊥) → IsAmong order (orders ++ last ∷ [])
reach [] first last order is end same not = elim (compare first order same) [
  | inl before ↦ absurd (end order (subst (λ (l : List ℕ). IsArrangement l order) is same)
      (subst (λ (l : List ℕ). ComesBefore l order) is before))
  | inr (inl e) ↦ inl (sym e ∙ is)
  | inr (inr before) ↦ absurd (not before)
]
reach (one ∷ orders) first last order follow end same not = elim (compare first order same) [
  | inl before ↦ inr (reach orders follow.1.0 last order follow.1.1.1 end (λ p. sym (follow.1.1.0.arrangement p) ∙ same p)
      (λ earlier. follow.1.1.0.least order same before earlier))
  | inr (inl e) ↦ inl (sym e ∙ sym follow.0)
  | inr (inr before) ↦ absurd (not before)
]

interleavings : (counts : List ℕ) (orders : List (List ℕ)) (first last : List ℕ) → Follow first orders last → IsInterleaving counts first
    → AreInterleavings counts (orders ++ last ∷ [])
interleavings counts [] first last is mine = (subst (λ (l : List ℕ). IsInterleaving counts l) is mine, tt)
interleavings counts (one ∷ orders) first last follow mine = (
  subst (λ (l : List ℕ). IsInterleaving counts l) (sym follow.0) mine,
  interleavings counts orders follow.1.0 last follow.1.1.1 (λ p. sym (follow.1.1.0.arrangement p) ∙ mine p),
)

rising : (orders : List (List ℕ)) (first last : List ℕ) → Follow first orders last → AreRising (orders ++ last ∷ [])
rising [] first last is = tt
rising (one ∷ []) first last follow = (
  subst (λ (l : List ℕ). ComesBefore one l) follow.1.1.1 (subst (λ (l : List ℕ). ComesBefore l follow.1.0) (sym follow.0) follow.1.1.0.after),
  tt,
)
rising (one ∷ two ∷ orders) first last follow = (
  subst (λ (l : List ℕ). ComesBefore one l) (sym follow.1.1.1.0)
      (subst (λ (l : List ℕ). ComesBefore l follow.1.0) (sym follow.0) follow.1.1.0.after),
  rising (two ∷ orders) follow.1.0 last follow.1.1.1,
)

pub all_orders : (counts : List ℕ) (orders : List (List ℕ)) (first last : List ℕ) → Follow first orders last → IsFirst first
    → IsInterleaving counts first → IsLast last → AreAllOrders counts (orders ++ last ∷ [])
all_orders counts orders first last follow begun mine end = record {
  each = interleavings counts orders first last follow mine;
  all = λ order theirs. reach orders first last order follow end (λ p. mine p ∙ sym (theirs p))
      (λ before. begun order (λ p. mine p ∙ sym (theirs p)) before);
  rising = rising orders first last follow;
}

pub follow_more : (orders : List (List ℕ)) (first last next : List ℕ) → Follow first orders last → IsNext last next
    → Follow first (orders ++ last ∷ []) next
follow_more [] first last next is more = (sym is, (next, (subst (λ (l : List ℕ). IsNext l next) (sym is) more, refl)))
follow_more (one ∷ orders) first last next follow more =
    (follow.0, (follow.1.0, (follow.1.1.0, follow_more orders follow.1.0 last next follow.1.1.1 more)))
