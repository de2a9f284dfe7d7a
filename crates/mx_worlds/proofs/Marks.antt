-- Lists of marks after one page or cell more: what a loop over pages has marked below a page, one over the cells of a
-- page below a cell.
use Rattle.std.proofs.Common.{◌≡◌, ◌≢◌, inl, inr, ℕ, ◌+◌, ◌*◌, ◌/◌, ◌<◌, ◌≤◌, List, length, Bool, true, false, refl, ap, sym, ◌∙◌, Some, arith}
use Rattle.std.specs.Prelude.{nat_le, nat_lt, ◌==◌, ◌&&◌, ◌||◌, not}
use Rattle.std.specs.Cmp.{both_ways as same_tests}
use Rattle.std.proofs.lemmas.Bool.{cases_eq, cases_lt, and_parts, and_from, and_right, or_left, lt-ltb, le-ltb, le-leb, lt-leb, ltb-true, leb-true, eq-eqb, ne_eqb, not_from_true, not_from_false, eqb-true}
use Rattle.mx_core.specs.Put.{put}
use Rattle.mx_core.specs.Lists.{Lists}
use Rattle.mx_core.proofs.Puts.{put_all}

-- a list has the values of another function that agrees up to its length
pub lists_as : {A : Type 0} (xs : List A) (f g : ℕ → A) → Lists xs f → ((n : ℕ) → n < length xs → f n ≡ g n)
    → Lists xs g
lists_as xs f g has same n under = has n under ∙ ap Some (same n under)

-- one more makes no difference elsewhere
apart_under : (m k : ℕ) → m ≢ k → nat_lt m k ≡ nat_lt m (k + 1)
apart_under m k apart = elim (cases_lt m k) [
  | inl under ↦ lt-ltb m k under ∙ sym (lt-ltb m (k + 1) (omega arith))
  | inr over ↦ le-ltb m k over ∙ sym (le-ltb m (k + 1) (omega arith))
]

and_true : (b : Bool) → (b && true) ≡ b
and_true true = refl
and_true false = refl

-- a page made ready where it is given
module _ (P f : ℕ → Bool) (k : ℕ) where
  pub ready_put : P k ≡ true → (n : ℕ)
      → put (λ p. (nat_lt p k && P p) || f p) k true n ≡ ((nat_lt n (k + 1) && P n) || f n)
  ready_put is = put_all (λ m b. b ≡ ((nat_lt m (k + 1) && P m) || f m)) (λ p. (nat_lt p k && P p) || f p) k true
      (sym (or_left (nat_lt k (k + 1) && P k) (f k)
      (and_from (nat_lt k (k + 1)) (P k) (lt-ltb k (k + 1) (omega arith)) is)))
      (λ m apart. ap (λ (t : Bool). (t && P m) || f m) (apart_under m k apart))

  pub ready_keep : P k ≡ false → (n : ℕ)
      → ((nat_lt n k && P n) || f n) ≡ ((nat_lt n (k + 1) && P n) || f n)
  ready_keep is n = elim (cases_eq n k) [
    | inl e ↦
        let not_given = ap P e ∙ is in
        ap (λ (t : Bool). t || f n)
        (and_right (nat_lt n k) (P n) not_given ∙ sym (and_right (nat_lt n (k + 1)) (P n) not_given))
    | inr apart ↦ ap (λ (t : Bool). (t && P n) || f n) (apart_under n k apart)
  ]

  pub ready_done : (n : ℕ) → n < k → ((nat_lt n k && P n) || f n) ≡ (P n || f n)
  ready_done n under = ap (λ (t : Bool). (t && P n) || f n) (lt-ltb n k under)

-- a cell clean no longer where its page is covered
module _ (P : ℕ → Bool) (b : Bool) (m k : ℕ) where
  pub soil_put : P k ≡ true
      → ((b && not (nat_lt m k && P m)) && not (m == k)) ≡ (b && not (nat_lt m (k + 1) && P m))
  soil_put is = elim (cases_eq m k) [
    | inl e ↦
        and_right (b && not (nat_lt m k && P m)) (not (m == k)) (not_from_true (m == k) (eq-eqb m k e))
        ∙ sym (and_right b (not (nat_lt m (k + 1) && P m)) (not_from_true (nat_lt m (k + 1) && P m)
        (and_from (nat_lt m (k + 1)) (P m) (lt-ltb m (k + 1) (omega arith)) (ap P e ∙ is))))
    | inr apart ↦
        ap (λ (t : Bool). (b && not (nat_lt m k && P m)) && t) (not_from_false (m == k) (ne_eqb m k apart))
        ∙ and_true (b && not (nat_lt m k && P m))
        ∙ ap (λ (t : Bool). b && not (t && P m)) (apart_under m k apart)
  ]

  pub soil_keep : P k ≡ false → (b && not (nat_lt m k && P m)) ≡ (b && not (nat_lt m (k + 1) && P m))
  soil_keep is = elim (cases_eq m k) [
    | inl e ↦
        let bare = ap P e ∙ is in
        ap (λ (t : Bool). b && not t)
        (and_right (nat_lt m k) (P m) bare ∙ sym (and_right (nat_lt m (k + 1)) (P m) bare))
    | inr apart ↦ ap (λ (t : Bool). b && not (t && P m)) (apart_under m k apart)
  ]

  pub soil_done : m < k → (b && not (nat_lt m k && P m)) ≡ (b && not (P m))
  soil_done under = ap (λ (t : Bool). b && not (t && P m)) (lt-ltb m k under)

pub soil_none : (P : ℕ → Bool) (b : Bool) (m : ℕ) → b ≡ (b && not (nat_lt m 0 && P m))
soil_none P b m = sym (ap (λ (t : Bool). b && not (t && P m)) (le-ltb m 0 (omega arith)) ∙ and_true b)

-- the cells of a page from the first on
pub page_none : (b : Bool) (low n : ℕ) → b ≡ (b && not (nat_le low n && nat_lt n low))
page_none b low n = elim (cases_lt n low) [
  | inl under ↦ sym (ap (λ (t : Bool). b && not (t && nat_lt n low)) (lt-leb low n under) ∙ and_true b)
  | inr over ↦ sym (ap (λ (t : Bool). b && not t) (and_right (nat_le low n) (nat_lt n low) (le-ltb n low over))
      ∙ and_true b)
]

pub page_put : (f : ℕ → Bool) (low k n : ℕ) → low ≤ k
    → put (λ c. f c && not (nat_le low c && nat_lt c k)) k false n ≡ (f n && not (nat_le low n && nat_lt n (k + 1)))
page_put f low k n from = put_all (λ m b. b ≡ (f m && not (nat_le low m && nat_lt m (k + 1))))
    (λ c. f c && not (nat_le low c && nat_lt c k)) k false
    (sym (and_right (f k) (not (nat_le low k && nat_lt k (k + 1))) (not_from_true (nat_le low k && nat_lt k (k + 1))
    (and_from (nat_le low k) (nat_lt k (k + 1)) (le-leb low k from) (lt-ltb k (k + 1) (omega arith))))))
    (λ m apart. ap (λ (t : Bool). f m && not (nat_le low m && t)) (apart_under m k apart)) n

pub page_done : (b : Bool) (page low n : ℕ) → low ≡ 64 * page
    → (b && not (nat_le low n && nat_lt n (low + 64))) ≡ (b && not (n / 64 == page))
page_done b page low n e = ap (λ (t : Bool). b && not t)
    (same_tests (nat_le low n && nat_lt n (low + 64)) (n / 64 == page)
    (λ t.
    let both = and_parts (nat_le low n) (nat_lt n (low + 64)) t in
    let from = leb-true low n both.0 in
    let to = ltb-true n (low + 64) both.1 in
    eq-eqb (n / 64) page (omega arith))
    (λ t.
    let at = eqb-true (n / 64) page t in
    and_from (nat_le low n) (nat_lt n (low + 64)) (le-leb low n (omega arith)) (lt-ltb n (low + 64) (omega arith))))
