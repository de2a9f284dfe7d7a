-- Laws on the first order of the lines of processes.
use Rattle.std.proofs.Common.{◌≡◌, inl, inr, ℕ, zero, suc, ◌+◌, ◌<◌, ◌≤◌, List, [], ◌∷◌, ◌++◌, length, replicate, take, get_or, refl, sym, ap, ◌∙◌, subst, arith}
use Rattle.std.proofs.lemmas.Bool.{cases_eq, cases_lt}
use Rattle.std.proofs.lemmas.List.{length-take, get_or_past, get_or-take}
use Rattle.mx_outcomes.specs.Interleavings.{times, lines_of, IsInterleaving, IsFirst}
use Rattle.mx_outcomes.specs.Turning.{AreUpTo, IsRising}
use Rattle.mx_outcomes.proofs.OrderLaws.{times_append, times_here, times_there, stands_among, stands_first, stands_behind, rising_least}

times_all : (p n : ℕ) → times p (replicate n p) ≡ n
times_all p zero = refl
times_all p (suc n) = times_here p p (replicate n p) refl ∙ ap (λ (k : ℕ). suc k) (times_all p n)

times_none : (p q n : ℕ) → (q ≡ p → ⊥) → times p (replicate n q) ≡ 0
times_none p q zero not = refl
times_none p q (suc n) not = times_there p q (replicate n q) not ∙ times_none p q n not

is_one : (p q n : ℕ) → 1 ≤ times p (replicate n q) → q ≡ p
is_one p q n h = elim (cases_eq q p) [
  | inl e ↦ e
  | inr not ↦ let none = times_none p q n not in absurd (omega (arith, none, h))
]

rising_all : (p n : ℕ) → IsRising (replicate n p)
rising_all p zero = tt
rising_all p (suc n) = ((λ q h. let e = is_one q p n h in omega (arith, e)), rising_all p n)

rising_on : (order : List ℕ) (p n : ℕ) → IsRising order → AreUpTo p order → IsRising (order ++ replicate n p)
rising_on [] p n rising up = rising_all p n
rising_on (q ∷ order) p n rising up =
    let mine : q ≤ p = up q (stands_first q q order refl) in (
      (λ x h. elim (stands_among x order (replicate n p) h) [
        | inl among ↦ rising.0 x among
        | inr last ↦ let e = is_one x p n last in omega (arith, e, mine)
      ]),
      rising_on order p n rising.1 (λ x h. up x (stands_behind x q order h)),
    )

-- what each process of these has, where one more is counted
lines_more : (counts : List ℕ) (i p : ℕ) → i < length counts
    → lines_of (take (i + 1) counts) p ≡ lines_of (take i counts) p + times p (replicate (get_or counts i 0) (i + 1))
lines_more counts i zero within =
    let none = times_none zero (i + 1) (get_or counts i 0) (λ e. omega (arith, e)) in omega (arith, none)
lines_more counts i (suc m) within = elim (cases_lt m i) [
  | inl less ↦
      let none = times_none (suc m) (i + 1) (get_or counts i 0) (λ e. omega (arith, e, less)) in
      let a : get_or (take (i + 1) counts) m 0 ≡ get_or counts m 0 = get_or-take (i + 1) counts m 0 (omega (arith, less)) in
      let b : get_or (take i counts) m 0 ≡ get_or counts m 0 = get_or-take i counts m 0 less in
      omega (arith, none, a, b)
  | inr more ↦
      let b : get_or (take i counts) m 0 ≡ 0 = get_or_past (take i counts) m 0 (omega (arith, more, length-take {A = ℕ})) in
      elim (cases_eq m i) [
        | inl e ↦
            let one : i + 1 ≡ suc m = omega (arith, e) in
            let all : times (suc m) (replicate (get_or counts i 0) (i + 1)) ≡ get_or counts i 0 =
            ap (λ (q : ℕ). times (suc m) (replicate (get_or counts i 0) q)) one ∙ times_all (suc m) (get_or counts i 0) in
            let a : get_or (take (i + 1) counts) m 0 ≡ get_or counts m 0 = get_or-take (i + 1) counts m 0 (omega (arith, e)) in
            let same : get_or counts m 0 ≡ get_or counts i 0 = ap (λ (k : ℕ). get_or counts k 0) e in
            omega (arith, all, a, b, same)
        | inr not ↦
            let none = times_none (suc m) (i + 1) (get_or counts i 0) (λ e. not (omega (arith, e))) in
            let past : i < m = elim (cases_lt i m) [
              | inl less ↦ less
              | inr other ↦ absurd (not (omega (arith, more, other)))
            ] in
            let a : get_or (take (i + 1) counts) m 0 ≡ 0 = get_or_past (take (i + 1) counts) m 0 (omega (arith, past, length-take {A = ℕ})) in
            omega (arith, none, a, b)
      ]
]

module _ (counts order after : List ℕ) (i : ℕ) (within : i < length counts) (right : IsInterleaving (take i counts) order)
    (rising : IsRising order) (up : AreUpTo i order) (is : after ≡ order ++ replicate (get_or counts i 0) (i + 1)) where
  pub right_more : IsInterleaving (take (i + 1) counts) after
  right_more p =
      let all : times p after ≡ times p (order ++ replicate (get_or counts i 0) (i + 1)) = ap (times p) is in
      let parts = times_append p order (replicate (get_or counts i 0) (i + 1)) in
      let lines = lines_more counts i p within in
      let before = right p in omega (arith, all, parts, lines, before)

  pub rising_more : IsRising after
  rising_more = subst IsRising (sym is) (rising_on order (i + 1) (get_or counts i 0) rising
      (λ q h. let most = up q h in omega (arith, most)))

  pub up_more : AreUpTo (i + 1) after
  up_more = subst (AreUpTo (i + 1)) (sym is) (λ q h. elim (stands_among q order (replicate (get_or counts i 0) (i + 1)) h) [
    | inl among ↦ let most = up q among in omega (arith, most)
    | inr last ↦ let e = is_one q (i + 1) (get_or counts i 0) last in omega (arith, e)
  ])

pub is_first : (order : List ℕ) → IsRising order → IsFirst order
is_first order rising other same before = rising_least order other rising same before
