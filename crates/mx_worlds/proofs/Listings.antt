-- What the tests of an entry's lists say of each two of their items.
use Rattle.std.proofs.Common.{◌≡◌, inl, inr, ℕ, zero, suc, ◌+◌, ◌<◌, ◌≤◌, List, [], ◌∷◌, Bool, true, false, refl, ap, sym, ◌∙◌, subst, Some, None, arith}
use Rattle.std.specs.Prelude.{IsTrue, nat_le, nat_lt, ◌==◌, ◌&&◌, max, not}
use Rattle.std.specs.List.{slice_get}
use Rattle.std.proofs.lemmas.Bool.{cases_Bool, both_ways, and_parts, and_from, and_cases, or_cases, or_parts, or_left, ltb-true, ltb-false, leb-true, eqb-true, eq-eqb, lt-ltb, le-leb, not_from_false}
use Rattle.mx_worlds.specs.Listing.{lists_pair, pairs_once, share, lists_page, pages_once, pages_within}
use Rattle.mx_core.specs.Pages.{gives}
use Rattle.mx_core.specs.declared.changes.Change.{Change}
use Rattle.mx_core.specs.declared.changes.Run.{Run}

nothing_at : {A : Type 0} (a : A) → None ≡ Some a → ⊥
nothing_at a h = cc

same_at : {A : Type 0} (a b : A) → Some a ≡ Some b → a ≡ b
same_at a b h = cc

lower : (i j : ℕ) → suc i ≡ suc j → i ≡ j
lower i j e = omega arith

not_true : (b : Bool) → not b ≡ true → b ≡ false
not_true true h = cc
not_true false h = refl

-- a change of the pair of another stands in the list
pub record HasPair (changes : List Change) (pair : Change) : Type 0 where
  pub place : ℕ
  pub other : Change
  pub at : slice_get changes place ≡ Some other
  pub process : other.process ≡ pair.process
  pub segno : other.segno ≡ pair.segno

abbrev pub HasNoPair : List Change → Change → Type 0
HasNoPair changes pair = (j : ℕ) (b : Change) → slice_get changes j ≡ Some b → b.process ≡ pair.process
    → b.segno ≡ pair.segno → ⊥

pair_listed : (changes : List Change) (pair : Change) → lists_pair changes pair ≡ true → HasPair changes pair
pair_listed [] pair h = cc
pair_listed (c ∷ rest) pair h = elim (or_cases (c.process == pair.process && c.segno == pair.segno)
    (lists_pair rest pair) h) [
      | inl here ↦
          let both = and_parts (c.process == pair.process) (c.segno == pair.segno) here in record {
            place = 0;
            other = c;
            at = refl;
            process = eqb-true c.process pair.process both.0;
            segno = eqb-true c.segno pair.segno both.1;
          }
      | inr there ↦
          let has = pair_listed rest pair there in record {
            place = suc has.place;
            other = has.other;
            at = has.at;
            process = has.process;
            segno = has.segno;
          }
    ]

pair_unlisted : (changes : List Change) (pair : Change) → lists_pair changes pair ≡ false → HasNoPair changes pair
pair_unlisted [] pair h j b at p n = nothing_at b at
pair_unlisted (c ∷ rest) pair h zero b at p n =
    let parts = or_parts (c.process == pair.process && c.segno == pair.segno) (lists_pair rest pair) h in
    let e = same_at c b at in
    both_ways (c.process == pair.process && c.segno == pair.segno) parts.0
    (and_from (c.process == pair.process) (c.segno == pair.segno)
    (eq-eqb c.process pair.process (ap (λ (x : Change). x.process) e ∙ p))
    (eq-eqb c.segno pair.segno (ap (λ (x : Change). x.segno) e ∙ n)))
pair_unlisted (c ∷ rest) pair h (suc j) b at p n =
    let parts = or_parts (c.process == pair.process && c.segno == pair.segno) (lists_pair rest pair) h in
    pair_unlisted rest pair parts.1 j b at p n

abbrev pub PairsOnce : List Change → Type 0
PairsOnce changes = (i j : ℕ) (a b : Change) → slice_get changes i ≡ Some a → slice_get changes j ≡ Some b
    → a.process ≡ b.process → a.segno ≡ b.segno → i ≡ j

pub pairs_are_once : (changes : List Change) → pairs_once changes ≡ true → PairsOnce changes
pairs_are_once [] h i j a b at at' p n = absurd (nothing_at a at)
pairs_are_once (c ∷ rest) h zero zero a b at at' p n = refl
pairs_are_once (c ∷ rest) h zero (suc j) a b at at' p n =
    let parts = and_parts (not (lists_pair rest c)) (pairs_once rest) h in
    let e = same_at c a at in
    absurd (pair_unlisted rest c (not_true (lists_pair rest c) parts.0) j b at'
    (sym p ∙ sym (ap (λ (x : Change). x.process) e)) (sym n ∙ sym (ap (λ (x : Change). x.segno) e)))
pairs_are_once (c ∷ rest) h (suc i) zero a b at at' p n =
    let parts = and_parts (not (lists_pair rest c)) (pairs_once rest) h in
    let e = same_at c b at' in
    absurd (pair_unlisted rest c (not_true (lists_pair rest c) parts.0) i a at
    (p ∙ sym (ap (λ (x : Change). x.process) e)) (n ∙ sym (ap (λ (x : Change). x.segno) e)))
pairs_are_once (c ∷ rest) h (suc i) (suc j) a b at at' p n =
    let parts = and_parts (not (lists_pair rest c)) (pairs_once rest) h in
    ap suc (pairs_are_once rest parts.1 i j a b at at' p n)

pub pairs_are_twice : (changes : List Change) → pairs_once changes ≡ false → PairsOnce changes → ⊥
pairs_are_twice [] h all = cc
pairs_are_twice (c ∷ rest) h all = elim (cases_Bool (lists_pair rest c)) [
  | inl has ↦
      let pair = pair_listed rest c has in
      let e = all 0 (suc pair.place) c pair.other refl pair.at (sym pair.process) (sym pair.segno) in omega arith
  | inr has ↦ elim (and_cases (not (lists_pair rest c)) (pairs_once rest) h) [
    | inl no_first ↦ both_ways (not (lists_pair rest c)) no_first (not_from_false (lists_pair rest c) has)
    | inr no_rest ↦ pairs_are_twice rest no_rest
        (λ i j a b at at' p n. lower i j (all (suc i) (suc j) a b at at' p n))
  ]
]

-- a run has a page
gives_parts : (run : Run) (page : ℕ) → IsTrue (gives (run ∷ []) page) → (run.page ≤ page)
    × (page < run.page + run.pages)
gives_parts run page h = elim (or_cases (nat_le run.page page && nat_lt page (run.page + run.pages)) false h) [
  | inl here ↦
      let both = and_parts (nat_le run.page page) (nat_lt page (run.page + run.pages)) here in
      (leb-true run.page page both.0, ltb-true page (run.page + run.pages) both.1)
  | inr there ↦ cc
]

gives_from : (run : Run) (page : ℕ) → run.page ≤ page → page < run.page + run.pages → IsTrue (gives (run ∷ []) page)
gives_from run page low high =
    or_left (nat_le run.page page && nat_lt page (run.page + run.pages)) false
    (and_from (nat_le run.page page) (nat_lt page (run.page + run.pages)) (le-leb run.page page low)
    (lt-ltb page (run.page + run.pages) high))

shared : (a b : Run) → share a b ≡ true
    → IsTrue (gives (a ∷ []) (max a.page b.page)) × IsTrue (gives (b ∷ []) (max a.page b.page))
shared a b h =
    let both = and_parts (nat_lt (max a.page b.page) (a.page + a.pages))
    (nat_lt (max a.page b.page) (b.page + b.pages)) h in (
      gives_from a (max a.page b.page) (omega arith) (ltb-true (max a.page b.page) (a.page + a.pages) both.0),
      gives_from b (max a.page b.page) (omega arith) (ltb-true (max a.page b.page) (b.page + b.pages) both.1),
    )

unshared : (a b : Run) → share a b ≡ false → (page : ℕ) → IsTrue (gives (a ∷ []) page) → IsTrue (gives (b ∷ []) page)
    → ⊥
unshared a b h page f g =
    let one = gives_parts a page f in
    let two = gives_parts b page g in
    let a_low = one.0 in
    let a_high = one.1 in
    let b_low = two.0 in
    let b_high = two.1 in
    elim (and_cases (nat_lt (max a.page b.page) (a.page + a.pages)) (nat_lt (max a.page b.page) (b.page + b.pages)) h) [
      | inl x ↦ let over = ltb-false (max a.page b.page) (a.page + a.pages) x in absurd (omega arith)
      | inr x ↦ let over = ltb-false (max a.page b.page) (b.page + b.pages) x in absurd (omega arith)
    ]

-- a run of the list has a page of another
record HasPage (given : List Run) (run : Run) : Type 0 where
  place : ℕ
  other : Run
  at : slice_get given place ≡ Some other
  page : ℕ
  one : IsTrue (gives (run ∷ []) page)
  two : IsTrue (gives (other ∷ []) page)

page_listed : (given : List Run) (run : Run) → lists_page given run ≡ true → HasPage given run
page_listed [] run h = cc
page_listed (c ∷ rest) run h = elim (or_cases (share run c) (lists_page rest run) h) [
  | inl here ↦
      let both = shared run c here in
      record { place = 0; other = c; at = refl; page = max run.page c.page; one = both.0; two = both.1 }
  | inr there ↦
      let has = page_listed rest run there in record {
        place = suc has.place;
        other = has.other;
        at = has.at;
        page = has.page;
        one = has.one;
        two = has.two;
      }
]

page_unlisted : (given : List Run) (run : Run) → lists_page given run ≡ false → (j page : ℕ) (b : Run)
    → slice_get given j ≡ Some b → IsTrue (gives (run ∷ []) page) → IsTrue (gives (b ∷ []) page) → ⊥
page_unlisted [] run h j page b at f g = nothing_at b at
page_unlisted (c ∷ rest) run h zero page b at f g =
    let parts = or_parts (share run c) (lists_page rest run) h in
    unshared run c parts.0 page f
    (subst (λ (x : Run). IsTrue (gives (x ∷ []) page)) (sym (same_at c b at)) g)
page_unlisted (c ∷ rest) run h (suc j) page b at f g =
    let parts = or_parts (share run c) (lists_page rest run) h in page_unlisted rest run parts.1 j page b at f g

abbrev pub PagesOnce : List Run → Type 0
PagesOnce given = (i j page : ℕ) (a b : Run) → slice_get given i ≡ Some a → slice_get given j ≡ Some b
    → IsTrue (gives (a ∷ []) page) → IsTrue (gives (b ∷ []) page) → i ≡ j

pub pages_are_once : (given : List Run) → pages_once given ≡ true → PagesOnce given
pages_are_once [] h i j page a b at at' f g = absurd (nothing_at a at)
pages_are_once (c ∷ rest) h zero zero page a b at at' f g = refl
pages_are_once (c ∷ rest) h zero (suc j) page a b at at' f g =
    let parts = and_parts (not (lists_page rest c)) (pages_once rest) h in
    absurd (page_unlisted rest c (not_true (lists_page rest c) parts.0) j page b at'
    (subst (λ (x : Run). IsTrue (gives (x ∷ []) page)) (sym (same_at c a at)) f) g)
pages_are_once (c ∷ rest) h (suc i) zero page a b at at' f g =
    let parts = and_parts (not (lists_page rest c)) (pages_once rest) h in
    absurd (page_unlisted rest c (not_true (lists_page rest c) parts.0) i page a at
    (subst (λ (x : Run). IsTrue (gives (x ∷ []) page)) (sym (same_at c b at')) g) f)
pages_are_once (c ∷ rest) h (suc i) (suc j) page a b at at' f g =
    let parts = and_parts (not (lists_page rest c)) (pages_once rest) h in
    ap suc (pages_are_once rest parts.1 i j page a b at at' f g)

pub pages_are_twice : (given : List Run) → pages_once given ≡ false → PagesOnce given → ⊥
pages_are_twice [] h all = cc
pages_are_twice (c ∷ rest) h all = elim (cases_Bool (lists_page rest c)) [
  | inl has ↦
      let other = page_listed rest c has in
      let e = all 0 (suc other.place) other.page c other.other refl other.at other.one other.two in omega arith
  | inr has ↦ elim (and_cases (not (lists_page rest c)) (pages_once rest) h) [
    | inl no_first ↦ both_ways (not (lists_page rest c)) no_first (not_from_false (lists_page rest c) has)
    | inr no_rest ↦ pages_are_twice rest no_rest
        (λ i j page a b at at' f g. lower i j (all (suc i) (suc j) page a b at at' f g))
  ]
]

abbrev pub PagesWithin : List Run → Type 0
PagesWithin given = (i : ℕ) (a : Run) → slice_get given i ≡ Some a → a.page + a.pages ≤ 1024

pub pages_are_within : (given : List Run) → pages_within given ≡ true → PagesWithin given
pages_are_within [] h i a at = absurd (nothing_at a at)
pages_are_within (c ∷ rest) h zero a at =
    let parts = and_parts (nat_le (c.page + c.pages) 1024) (pages_within rest) h in
    subst (λ (x : Run). x.page + x.pages ≤ 1024) (same_at c a at) (leb-true (c.page + c.pages) 1024 parts.0)
pages_are_within (c ∷ rest) h (suc i) a at =
    let parts = and_parts (nat_le (c.page + c.pages) 1024) (pages_within rest) h in
    pages_are_within rest parts.1 i a at

pub pages_are_beyond : (given : List Run) → pages_within given ≡ false → PagesWithin given → ⊥
pages_are_beyond [] h all = cc
pages_are_beyond (c ∷ rest) h all = elim (and_cases (nat_le (c.page + c.pages) 1024) (pages_within rest) h) [
  | inl over ↦ both_ways (nat_le (c.page + c.pages) 1024) over (le-leb (c.page + c.pages) 1024 (all 0 c refl))
  | inr no_rest ↦ pages_are_beyond rest no_rest (λ i a at. all (suc i) a at)
]
