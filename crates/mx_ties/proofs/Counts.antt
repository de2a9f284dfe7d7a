-- Each process names all of its entries.
use Rattle.std.proofs.Common.{◌≡◌, inl, inr, ℕ, zero, suc, ◌+◌, ◌<◌, ◌≤◌, Bool, true, false, List, [], ◌∷◌, length, refl, ap, sym, ◌∙◌, subst, Some, None, arith, rules}
use Rattle.std.specs.Prelude.{◌==◌, if◌then◌else◌}
use Rattle.std.specs.List.{slice_get}
use Rattle.std.proofs.lemmas.Bool.{cases_eq}
use Rattle.mx_ties.specs.Counting.{numbers_in, IsRising, IsOwn, AreOwn, total, AreProcesses, CountingLaw}

-- a number above the first stands in the rest
own_rest : (first p owner : ℕ) (owners : List ℕ) (number : ℕ) → first < number → IsOwn first p (owner ∷ owners) number
    → IsOwn (first + 1) p owners number
own_rest first p owner owners number above own = at own.place own.is own.owner
  where
    at : (place : ℕ) → number ≡ first + place → slice_get (owner ∷ owners) place ≡ Some p
        → IsOwn (first + 1) p owners number
    at zero is h = absurd (omega arith)
    at (suc place) is h = record { place = place; is = omega arith; owner = h }

all_rest : (first p owner : ℕ) (owners numbers : List ℕ) (low : ℕ) → first < low → IsRising low numbers
    → AreOwn first p (owner ∷ owners) numbers
    → AreOwn (first + 1) p owners numbers
all_rest first p owner owners [] low above rising own = tt
all_rest first p owner owners (number ∷ numbers) low above rising own =
    let least = rising.0 in (
      own_rest first p owner owners number (omega arith) own.0,
      all_rest first p owner owners numbers (number + 1)
          (omega arith) rising.1 own.1,
    )

own_first : (first p owner : ℕ) (owners : List ℕ) (number : ℕ) → number ≡ first
    → IsOwn first p (owner ∷ owners) number → owner ≡ p
own_first first p owner owners number same own = at own.place own.is own.owner
  where
    at : (place : ℕ) → number ≡ first + place → slice_get (owner ∷ owners) place ≡ Some p → owner ≡ p
    at zero is h = cc
    at (suc place) is h = absurd (omega arith)

-- how many numbers, and which
pub record Fits (numbers all : List ℕ) : Type 0 where
  pub most : length numbers ≤ length all
  pub same : length all ≤ length numbers → numbers ≡ all

none_left : (all : List ℕ) → length all ≤ 0 → [] ≡ all
none_left [] l = refl
none_left (x ∷ all) l = absurd (omega arith)

fits_none : (all : List ℕ) → Fits [] all
fits_none all = record { most = omega arith; same = none_left all }

fits_both : (first : ℕ) (numbers all : List ℕ) → Fits numbers all → Fits (first ∷ numbers) (first ∷ all)
fits_both first numbers all f = let most = f.most in record {
  most = omega arith;
  same = λ l. ap (λ (ns : List ℕ). first ∷ ns) (f.same (omega arith));
}

fits_less : (first : ℕ) (own : Bool) (numbers all : List ℕ) → Fits numbers all
    → Fits numbers (if own then first ∷ all else all)
fits_less first true numbers all f = let most = f.most in record {
  most = omega arith;
  same = λ l. absurd (omega arith);
}
fits_less first false numbers all f = f

own_true : (owner p first : ℕ) (all : List ℕ) → owner ≡ p → (if owner == p then first ∷ all else all) ≡ first ∷ all
own_true owner p first all e = search rules

pub fits : (owners : List ℕ) (first p : ℕ) (numbers : List ℕ) → IsRising first numbers → AreOwn first p owners numbers
    → Fits numbers (numbers_in first p owners)
fits owners first p [] rising own = fits_none (numbers_in first p owners)
fits [] first p (number ∷ numbers) rising own = absurd (nothing own.0.owner)
  where
    nothing : None ≡ Some p → ⊥
    nothing h = cc
fits (owner ∷ owners) first p (number ∷ numbers) rising own =
    let least = rising.0 in
    elim (cases_eq number first) [
      | inl e ↦
          let mine = own_first first p owner owners number e own.0 in
          let rest : IsRising (first + 1) numbers = subst (λ (n : ℕ). IsRising (n + 1) numbers) e rising.1 in
          let more = fits owners (first + 1) p numbers rest
          (all_rest first p owner owners numbers (first + 1) (omega arith) rest own.1) in
          subst (λ (ns : List ℕ). Fits (number ∷ numbers) ns)
          (sym (own_true owner p first (numbers_in (first + 1) p owners) mine))
          (subst (λ (n : ℕ). Fits (n ∷ numbers) (first ∷ numbers_in (first + 1) p owners)) (sym e)
          (fits_both first numbers (numbers_in (first + 1) p owners) more))
      | inr n ↦
          let rising' : IsRising (first + 1) (number ∷ numbers) = (omega arith, rising.1) in
          fits_less first (owner == p) (number ∷ numbers) (numbers_in (first + 1) p owners)
          (fits owners (first + 1) p (number ∷ numbers) rising'
          (all_rest first p owner owners (number ∷ numbers) (first + 1) (omega arith) rising' own))
    ]

-- sums
total_most : (n : ℕ) (f g : ℕ → ℕ) → ((p : ℕ) → f p ≤ g p) → total n f ≤ total n g
total_most zero f g l = omega arith
total_most (suc n) f g l = let below = total_most n f g l in let here = l (suc n) in omega arith

total_same : (n : ℕ) (f g : ℕ → ℕ) → ((p : ℕ) → f p ≤ g p) → total n g ≤ total n f → (p : ℕ) → 1 ≤ p → p ≤ n → g p ≤ f p
total_same zero f g l e p some most = absurd (omega arith)
total_same (suc n) f g l e p some most =
    let below = total_most n f g l in
    let here = l (suc n) in
    elim (cases_eq p (suc n)) [
      | inl is ↦ subst (λ (k : ℕ). g k ≤ f k) (sym is) (omega arith)
      | inr not ↦ total_same n f g l (omega arith) p some (omega arith)
    ]

-- one entry more
abbrev one_at : Bool → ℕ → ℕ
one_at true n = suc n
one_at false n = n

length_when : (own : Bool) (first : ℕ) (all : List ℕ)
    → length (if own then first ∷ all else all) ≡ one_at own (length all)
length_when true first all = refl
length_when false first all = refl

total_else : (n owner : ℕ) (f : ℕ → ℕ) → n < owner → total n (λ p. one_at (owner == p) (f p)) ≡ total n f
total_else zero owner f above = refl
total_else (suc n) owner f above =
    let below = total_else n owner f (omega arith) in
    let here : one_at (owner == suc n) (f (suc n)) ≡ f (suc n) = other (owner == suc n) (search rules) in omega arith
  where
    other : (b : Bool) → b ≡ false → one_at b (f (suc n)) ≡ f (suc n)
    other b e = subst (λ (c : Bool). one_at c (f (suc n)) ≡ f (suc n)) (sym e) refl

total_one : (n owner : ℕ) (f : ℕ → ℕ) → 1 ≤ owner → owner ≤ n
    → total n (λ p. one_at (owner == p) (f p)) ≡ suc (total n f)
total_one zero owner f some most = absurd (omega arith)
total_one (suc n) owner f some most = elim (cases_eq owner (suc n)) [
  | inl is ↦
      let below = total_else n owner f (omega arith) in
      let here : one_at (owner == suc n) (f (suc n)) ≡ suc (f (suc n)) = mine (owner == suc n)
      (search rules) in omega arith
  | inr not ↦
      let below = total_one n owner f some (omega arith) in
      let here : one_at (owner == suc n) (f (suc n)) ≡ f (suc n) = other (owner == suc n) (search rules) in omega arith
]
  where
    mine : (b : Bool) → b ≡ true → one_at b (f (suc n)) ≡ suc (f (suc n))
    mine b e = subst (λ (c : Bool). one_at c (f (suc n)) ≡ suc (f (suc n))) (sym e) refl

    other : (b : Bool) → b ≡ false → one_at b (f (suc n)) ≡ f (suc n)
    other b e = subst (λ (c : Bool). one_at c (f (suc n)) ≡ f (suc n)) (sym e) refl

total_equal : (n : ℕ) (f g : ℕ → ℕ) → ((p : ℕ) → f p ≡ g p) → total n f ≡ total n g
total_equal n f g e = ap (total n) (λ i p. e p i)

total_none : (n : ℕ) → total n (λ p. 0) ≡ 0
total_none zero = refl
total_none (suc n) = let below = total_none n in omega arith

total_all : (owners : List ℕ) (n first : ℕ) → AreProcesses n owners
    → total n (λ p. length (numbers_in first p owners)) ≡ length owners
total_all [] n first are = total_none n
total_all (owner ∷ owners) n first are =
    total_equal n (λ p. length (numbers_in first p (owner ∷ owners)))
    (λ p. one_at (owner == p) (length (numbers_in (first + 1) p owners)))
    (λ p. length_when (owner == p) first (numbers_in (first + 1) p owners))
    ∙ total_one n owner (λ p. length (numbers_in (first + 1) p owners)) are.0 are.1
    ∙ ap suc (total_all owners n (first + 1) are.2)

pub counting_law : CountingLaw
counting_law count first owners named are rising own sum p some most =
    let all = total_all owners count first are in
    let few = λ (u : ℕ). (fits owners first u (named u) (rising u) (own u)).most in
    (fits owners first p (named p) (rising p) (own p)).same
    (total_same count (λ u. length (named u)) (λ u. length (numbers_in first u owners)) few (omega arith) p some most)
