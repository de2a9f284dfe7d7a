-- Laws on orders of processes: what is risen comes first, and what falls last.
use Rattle.std.proofs.Common.{◌≡◌, ◌<◌, ◌≤◌, ◌⊎◌, inl, inr, ℕ, suc, ◌+◌, ◌==◌, Bool, true, false, if◌then◌else◌, List, [], ◌∷◌, ◌++◌, length, reverse, refl, sym, ap, ◌∙◌, subst, arith}
use Rattle.std.proofs.lemmas.Bool.{cases_Bool, cases_eq, cases_lt, eqb-true}
use Rattle.std.proofs.lemmas.Grind.{reverse_onto}
use Rattle.mx_outcomes.specs.Interleavings.{times, ComesBefore, IsArrangement, IsNext}
use Rattle.mx_outcomes.specs.Turning.{AreUpTo, IsRising, IsFalling}

pub same_test : (p q : ℕ) → q ≡ p → (q == p) ≡ true
same_test p q e = rw e (grind arith)

pub other_test : (p q : ℕ) → (q ≡ p → ⊥) → (q == p) ≡ false
other_test p q n = elim (cases_Bool (q == p)) [
  | inl e ↦ absurd (n (eqb-true q p e))
  | inr e ↦ e
]

pub times_here : (p q : ℕ) (order : List ℕ) → q ≡ p → times p (q ∷ order) ≡ suc (times p order)
times_here p q order e = ap (λ (b : Bool). if b then suc (times p order) else times p order) (same_test p q e)

pub times_there : (p q : ℕ) (order : List ℕ) → (q ≡ p → ⊥) → times p (q ∷ order) ≡ times p order
times_there p q order n = ap (λ (b : Bool). if b then suc (times p order) else times p order) (other_test p q n)

pub times_append : (p : ℕ) (front back : List ℕ) → times p (front ++ back) ≡ times p front + times p back
times_append p [] back = omega arith
times_append p (q ∷ front) back = elim (cases_eq q p) [
  | inl e ↦ let here = times_here p q (front ++ back) e in let first = times_here p q front e in
      let rest = times_append p front back in omega (arith, here, first, rest)
  | inr n ↦ times_there p q (front ++ back) n ∙ times_append p front back ∙ ap (λ (k : ℕ). k + times p back) (sym (times_there p q front n))
]

-- a number stands in a list with another in front, or behind others
pub stands_behind : (p q : ℕ) (order : List ℕ) → 1 ≤ times p order → 1 ≤ times p (q ∷ order)
stands_behind p q order h = elim (cases_eq q p) [
  | inl e ↦ let here = times_here p q order e in omega (arith, here, h)
  | inr n ↦ let there = times_there p q order n in omega (arith, there, h)
]

pub stands_first : (p q : ℕ) (order : List ℕ) → q ≡ p → 1 ≤ times p (q ∷ order)
stands_first p q order e = let here = times_here p q order e in omega (arith, here)

pub stands_where : (p q : ℕ) (order : List ℕ) → 1 ≤ times p (q ∷ order) → (q ≡ p) ⊎ (1 ≤ times p order)
stands_where p q order h = elim (cases_eq q p) [
  | inl e ↦ inl e
  | inr n ↦ let there = times_there p q order n in inr (omega (arith, there, h))
]

pub stands_among : (p : ℕ) (front back : List ℕ) → 1 ≤ times p (front ++ back) → (1 ≤ times p front) ⊎ (1 ≤ times p back)
stands_among p front back h = elim (cases_lt 0 (times p front)) [
  | inl some ↦ inl (omega arith)
  | inr none ↦ let all = times_append p front back in inr (omega (arith, all, none, h))
]

pub stands_in_back : (p : ℕ) (front back : List ℕ) → 1 ≤ times p back → 1 ≤ times p (front ++ back)
stands_in_back p front back h = let all = times_append p front back in omega (arith, all, h)

pub stands_in_front : (p : ℕ) (front back : List ℕ) → 1 ≤ times p front → 1 ≤ times p (front ++ back)
stands_in_front p front back h = let all = times_append p front back in omega (arith, all, h)

-- without their first numbers, which are the same
pub rests : (p q : ℕ) (order other : List ℕ) → q ≡ p → IsArrangement (p ∷ order) (q ∷ other) → IsArrangement order other
rests p q order other e same x = elim (cases_eq p x) [
  | inl is ↦ let one = times_here x p order is in let two = times_here x q other (e ∙ is) in let both = same x in
      omega (arith, one, two, both)
  | inr not ↦ sym (times_there x p order not) ∙ same x ∙ times_there x q other (λ is. not (sym e ∙ is))
]

pub rising_least : (order other : List ℕ) → IsRising order → IsArrangement order other → ComesBefore other order → ⊥
rising_least [] [] rising same before = before
rising_least [] (q ∷ other) rising same before = before
rising_least (p ∷ order) [] rising same before = before
rising_least (p ∷ order) (q ∷ other) rising same (inl less) =
    let there : 1 ≤ times q (p ∷ order) = subst (λ (n : ℕ). 1 ≤ n) (sym (same q)) (stands_first q q other refl) in
    elim (stands_where q p order there) [
      | inl e ↦ omega (arith, e, less)
      | inr h ↦ let from = rising.0 q h in omega (arith, from, less)
    ]
rising_least (p ∷ order) (q ∷ other) rising same (inr both) =
    rising_least order other rising.1 (rests p q order other both.0 same) both.1

pub falling_last : (order other : List ℕ) → IsFalling order → IsArrangement order other → ComesBefore order other → ⊥
falling_last [] [] falling same before = before
falling_last [] (q ∷ other) falling same before = before
falling_last (p ∷ order) [] falling same before = before
falling_last (p ∷ order) (q ∷ other) falling same (inl less) =
    let there : 1 ≤ times q (p ∷ order) = subst (λ (n : ℕ). 1 ≤ n) (sym (same q)) (stands_first q q other refl) in
    elim (stands_where q p order there) [
      | inl e ↦ omega (arith, e, less)
      | inr h ↦ let to = falling.0 q h in omega (arith, to, less)
    ]
falling_last (p ∷ order) (q ∷ other) falling same (inr both) =
    falling_last order other falling.1 (rests p q order other (sym both.0) same) both.1

-- the pivot in the place of a greater number of a rising list
pub rising_still : (low high : List ℕ) (next pivot : ℕ) → IsRising (low ++ next ∷ high) → AreUpTo pivot low → pivot < next
    → IsRising (low ++ pivot ∷ high)
rising_still [] high next pivot rising up above = ((λ q h. let from = rising.0 q h in omega (arith, from, above)), rising.1)
rising_still (p ∷ low) high next pivot rising up above =
    let mine : p ≤ pivot = up p (stands_first p p low refl) in (
      (λ q h. elim (stands_among q low (pivot ∷ high) h) [
        | inl lower ↦ rising.0 q (stands_in_front q low (next ∷ high) lower)
        | inr others ↦ elim (stands_where q pivot high others) [
          | inl e ↦ omega (arith, e, mine)
          | inr higher ↦ rising.0 q (stands_in_back q low (next ∷ high) (stands_behind q next high higher))
        ]
      ]),
      rising_still low high next pivot rising.1 (λ q h. up q (stands_behind q p low h)) above,
    )

-- numbers of a rising list that are greater than the pivot are at least the next one
pub at_least : (low high : List ℕ) (next pivot q : ℕ) → IsRising (low ++ next ∷ high) → AreUpTo pivot low → pivot < q
    → 1 ≤ times q (low ++ next ∷ high) → next ≤ q
at_least low high next pivot q rising up above there = elim (stands_among q low (next ∷ high) there) [
  | inl lower ↦ let to = up q lower in absurd (omega (arith, to, above))
  | inr others ↦ elim (stands_where q next high others) [
    | inl e ↦ omega (arith, e)
    | inr higher ↦ (tail low rising).0 q higher
  ]
]
  where
    tail : (front : List ℕ) → IsRising (front ++ next ∷ high) → IsRising (next ∷ high)
    tail [] r = r
    tail (p ∷ front) r = tail front r.1

swapped : (x pivot next : ℕ) (tail low high : List ℕ) → times x tail ≡ times x (low ++ next ∷ high)
    → times x (pivot ∷ tail) ≡ times x (next ∷ (low ++ pivot ∷ high))
swapped x pivot next tail low high same =
    let a = times_append x (pivot ∷ []) tail in
    let b = times_append x low (next ∷ high) in
    let c = times_append x (next ∷ []) high in
    let d = times_append x (next ∷ []) (low ++ pivot ∷ high) in
    let e = times_append x low (pivot ∷ high) in
    let f = times_append x (pivot ∷ []) high in
    omega (arith, a, b, c, d, e, f, same)

module _ (pivot next : ℕ) (tail low high : List ℕ) (falling : IsFalling tail) (same : IsArrangement tail (low ++ next ∷ high))
    (above : pivot < next) (up : AreUpTo pivot low) (rising : IsRising (low ++ next ∷ high)) where
  abbrev before : List ℕ → List ℕ
  before front = front ++ pivot ∷ tail

  abbrev later : List ℕ → List ℕ
  later front = front ++ next ∷ (low ++ pivot ∷ high)

  next_same : (front : List ℕ) → IsArrangement (before front) (later front)
  next_same front x = times_append x front (pivot ∷ tail)
      ∙ ap (λ (n : ℕ). times x front + n) (swapped x pivot next tail low high (same x))
      ∙ sym (times_append x front (next ∷ (low ++ pivot ∷ high)))

  next_after : (front : List ℕ) → ComesBefore (before front) (later front)
  next_after [] = inl above
  next_after (p ∷ front) = inr (refl, next_after front)

  next_least : (front other : List ℕ) → IsArrangement (before front) other → ComesBefore (before front) other
      → ComesBefore other (later front) → ⊥
  next_least [] [] alike after earlier = after
  next_least [] (q ∷ other) alike (inl less) earlier =
      let there : 1 ≤ times q (pivot ∷ tail) = subst (λ (n : ℕ). 1 ≤ n) (sym (alike q)) (stands_first q q other refl) in
      let behind : 1 ≤ times q tail = elim (stands_where q pivot tail there) [
        | inl e ↦ absurd (omega (arith, e, less))
        | inr h ↦ h
      ] in
      let most : next ≤ q = at_least low high next pivot q rising up less (subst (λ (n : ℕ). 1 ≤ n) (same q) behind) in
      elim earlier [
        | inl lower ↦ omega (arith, lower, most)
        | inr both ↦ rising_least (low ++ pivot ∷ high) other (rising_still low high next pivot rising up above)
            (rests next q (low ++ pivot ∷ high) other both.0
            (λ x. sym (swapped x pivot next tail low high (same x)) ∙ alike x)) both.1
      ]
  next_least [] (q ∷ other) alike (inr both) earlier =
      falling_last tail other falling (rests pivot q tail other (sym both.0) alike) both.1
  next_least (p ∷ front) [] alike after earlier = after
  next_least (p ∷ front) (q ∷ other) alike (inl less) (inl lower) = omega (arith, less, lower)
  next_least (p ∷ front) (q ∷ other) alike (inl less) (inr both) = let e = both.0 in omega (arith, less, e)
  next_least (p ∷ front) (q ∷ other) alike (inr both) (inl lower) = let e = both.0 in omega (arith, lower, e)
  next_least (p ∷ front) (q ∷ other) alike (inr first) (inr second) =
      next_least front other (rests p q (before front) other (sym first.0) alike) first.1 second.1

  pub next_is : (front : List ℕ) → IsNext (before front) (later front)
  next_is front = record { arrangement = next_same front; after = next_after front; least = next_least front }

-- turned round
pub turned : (x : ℕ) (xs : List ℕ) → reverse (x ∷ xs) ≡ reverse xs ++ x ∷ []
turned x xs = reverse_onto xs x []

pub times_reverse : (p : ℕ) (order : List ℕ) → times p order ≡ times p (reverse order)
times_reverse p [] = refl
times_reverse p (q ∷ order) =
    let a = times_append p (q ∷ []) order in
    let b = times_append p (reverse order) (q ∷ []) in
    let c = times_reverse p order in
    let d : times p (reverse (q ∷ order)) ≡ times p (reverse order ++ q ∷ []) = ap (times p) (turned q order) in
    omega (arith, a, b, c, d)

rising_end : (order : List ℕ) (p : ℕ) → IsRising order → AreUpTo p order → IsRising (order ++ p ∷ [])
rising_end [] p rising up = ((λ q h. absurd (omega (arith, h))), tt)
rising_end (q ∷ order) p rising up =
    let mine : q ≤ p = up q (stands_first q q order refl) in (
      (λ x h. elim (stands_among x order (p ∷ []) h) [
        | inl among ↦ rising.0 x among
        | inr last ↦ elim (stands_where x p [] last) [
          | inl e ↦ omega (arith, e, mine)
          | inr none ↦ absurd (omega (arith, none))
        ]
      ]),
      rising_end order p rising.1 (λ x h. up x (stands_behind x q order h)),
    )

pub falling_turned : (order : List ℕ) → IsFalling order → IsRising (reverse order)
falling_turned [] falling = tt
falling_turned (p ∷ order) falling = subst IsRising (sym (turned p order))
    (rising_end (reverse order) p (falling_turned order falling.1)
    (λ q h. falling.0 q (subst (λ (n : ℕ). 1 ≤ n) (sym (times_reverse q order)) h)))

pub falling_onto : (p q : ℕ) (order : List ℕ) → q ≤ p → IsFalling (q ∷ order) → IsFalling (p ∷ q ∷ order)
falling_onto p q order most falling = (
  (λ x h. elim (stands_where x q order h) [
    | inl e ↦ omega (arith, e, most)
    | inr behind ↦ let to = falling.0 x behind in omega (arith, to, most)
  ]),
  falling,
)

pub falling_short : (order : List ℕ) → length order ≤ 1 → IsFalling order
falling_short [] few = tt
falling_short (p ∷ []) few = ((λ q h. absurd (omega (arith, h))), tt)
falling_short (p ∷ q ∷ order) few = absurd (omega arith)

pub up_to_more : (p q : ℕ) (order : List ℕ) → AreUpTo p order → q ≤ p → AreUpTo p (order ++ q ∷ [])
up_to_more p q order up most x h = elim (stands_among x order (q ∷ []) h) [
  | inl among ↦ up x among
  | inr last ↦ elim (stands_where x q [] last) [
    | inl e ↦ omega (arith, e, most)
    | inr none ↦ absurd (omega (arith, none))
  ]
]
