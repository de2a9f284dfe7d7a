-- What stands at a number of a list of lots, and the number at which a segment stands.
use Rattle.std.proofs.Common.{ℕ, zero, suc, ◌≡◌, ◌+◌, ◌-◌, ◌<◌, ◌≤◌, Bool, true, false, cond, ◌==◌, ltb, ◌||◌, List, [], ◌∷◌, ◌++◌, length, get_or, map, set, Option, None, Some, IfSome, refl, ap, sym, ◌∙◌, ◌⊎◌, inl, inr, arith}
use Rattle.std.specs.List.{position_or_len}
use Rattle.std.proofs.lemmas.Bool.{eqb-true, eqb-false, eq-eqb, ltb-false, lt-ltb, cases_lt, false≢true}
use Rattle.std.proofs.lemmas.List.{get_or-set_other, get_or_past, get_or_append_left, get_or-append_right}
use Rattle.std.proofs.lemmas.List.Quantifiers.{position-Some}
use Rattle.std.proofs.lemmas.List.Sums.{position_or_len_is, fails_before_first}
use Rattle.mx_sdw.specs.Rings.{Bracketing}
use Rattle.mx_kst.specs.declared.lots.Lot.{Lot}
use Rattle.mx_kst.specs.declared.lots.Lot.TheVariants.{Free, Stack, Branch, Linkage}
use Rattle.mx_kst.specs.Sections.{PlainSection, IsWithinPage}
use Rattle.mx_kst.specs.Lots.{is_branch, is_segment, is_section_of, lot_of, number_of}
use Rattle.mx_kst.specs.Initiating.{lots_given}
use Rattle.mx_kst.specs.Terminating.{lot_without, lots_without}

pub mapped_at : {A : Type 0} (f : A → A) (xs : List A) (n : ℕ) (d : A) → f d ≡ d → get_or (map f xs) n d ≡ f (get_or xs n d)
mapped_at f [] n d e = sym e
mapped_at f (x ∷ xs) zero d e = refl
mapped_at f (x ∷ xs) (suc n) d e = mapped_at f xs n d e

set_to_default : {A : Type 0} (xs : List A) (n : ℕ) (d : A) → get_or (set xs n d) n d ≡ d
set_to_default [] n d = refl
set_to_default (x ∷ xs) zero d = refl
set_to_default (x ∷ xs) (suc n) d = set_to_default xs n d

pub segment_is : (uid : ℕ) (lot : Lot) → is_segment uid lot ≡ true → lot ≡ Branch uid
segment_is uid (Branch other) e = ap Branch (eqb-true other uid e)
segment_is uid Free e = absurd (cc)
segment_is uid (Stack ring) e = absurd (cc)
segment_is uid (Linkage of page brackets words) e = absurd (cc)

-- the lots after `terminate`, one at a time
pub freed : (lots : List Lot) (segno n : ℕ)
    → lot_of (lots_without segno lots) n ≡ cond (n == segno || is_section_of segno (lot_of lots n)) Free (lot_of lots n)
freed lots segno n = mapped_at (lot_without segno) (set lots segno Free) n Free refl ∙ by_test (n == segno) refl
  where
    by_test : (b : Bool) → (n == segno) ≡ b
        → lot_without segno (get_or (set lots segno Free) n Free) ≡ cond (b || is_section_of segno (lot_of lots n)) Free (lot_of lots n)
    by_test true e =
        let same : n ≡ segno = eqb-true n segno e in
        ap (lot_without segno) (ap (λ k. get_or (set lots segno Free) k Free) same ∙ set_to_default lots segno Free)
    by_test false e = ap (lot_without segno) (get_or-set_other lots segno n Free Free (eqb-false n segno e))

-- a segment's number is given
pub branch_within : (lots : List Lot) (n : ℕ) → is_branch (lot_of lots n) ≡ true → n < length lots
branch_within lots n branch = elim (cases_lt n (length lots)) [ inl below ↦ below | inr past ↦ absurd (false≢true (sym (ap is_branch (get_or_past lots n Free past)) ∙ branch)) ]

-- the number of a segment stands for it
pub stands : (lots : List Lot) (uid own : ℕ) → number_of lots uid ≡ Some own → lot_of lots own ≡ Branch uid
stands lots uid own e = segment_is uid (lot_of lots own) (position-Some (is_segment uid) lots own Free e).1

itself : (uid : ℕ) (lot : Lot) → lot ≡ Branch uid → is_segment uid lot ≡ true
itself uid lot e = ap (is_segment uid) e ∙ eq-eqb uid uid refl

-- a segment that has no number stands nowhere
pub nowhere : (lots : List Lot) (uid m : ℕ) → number_of lots uid ≡ None → lot_of lots m ≡ Branch uid → ⊥
nowhere lots uid m e p = by_test (ltb (position_or_len (is_segment uid) lots) (length lots)) refl e
  where
    by_test : (b : Bool) → ltb (position_or_len (is_segment uid) lots) (length lots) ≡ b
        → ◌≡◌ {A = Option ℕ} (cond b (Some (position_or_len (is_segment uid) lots)) None) None → ⊥
    by_test true t e = absurd (cc)
    by_test false t e =
        let past : length lots ≤ position_or_len (is_segment uid) lots = ltb-false (position_or_len (is_segment uid) lots) (length lots) t in
        let within : m < length lots = branch_within lots m (ap is_branch p) in
        false≢true (sym (fails_before_first (is_segment uid) lots m Free (omega arith)) ∙ itself uid (lot_of lots m) p)

-- where a segment first stands is its number
pub first_place : (lots : List Lot) (uid n : ℕ) → lot_of lots n ≡ Branch uid → ((m : ℕ) → lot_of lots m ≡ Branch uid → m ≡ n) → number_of lots uid ≡ Some n
first_place lots uid n p only =
    let within : n < length lots = branch_within lots n (ap is_branch p) in
    let before : (m : ℕ) → m < n → is_segment uid (get_or lots m Free) ≡ false = λ m below. by_test m below (is_segment uid (lot_of lots m)) refl in
    let is = position_or_len_is (is_segment uid) lots n Free (omega arith) before (λ _. itself uid (lot_of lots n) p) in
    ap (λ k. cond (ltb k (length lots)) (Some k) None) is ∙ ap (λ b. cond b (Some n) None) (lt-ltb n (length lots) within)
  where
    by_test : (m : ℕ) → m < n → (b : Bool) → is_segment uid (lot_of lots m) ≡ b → b ≡ false
    by_test m below true t = let same : m ≡ n = only m (segment_is uid (lot_of lots m) t) in absurd (omega arith)
    by_test m below false t = refl

given_branch : (segno uid i v : ℕ) (section : Option PlainSection) → lot_of (lots_given segno uid section) i ≡ Branch v → (i ≡ 0) × (uid ≡ v)
given_branch segno uid zero v None e = (refl, cc)
given_branch segno uid (suc i) v None e = absurd (cc)
given_branch segno uid zero v (Some section) e = (refl, cc)
given_branch segno uid (suc zero) v (Some section) e = absurd (cc)
given_branch segno uid (suc (suc i)) v (Some section) e = absurd (cc)

given_section : (segno uid i of page words : ℕ) (brackets : Bracketing) (section : Option PlainSection) → lot_of (lots_given segno uid section) i ≡ Linkage of page brackets words
    → (i ≡ 1) × (segno ≡ of) × (IfSome section (λ s. IsWithinPage s.page s.words) → IsWithinPage page words)
given_section segno uid zero of page words brackets None e = absurd (cc)
given_section segno uid (suc i) of page words brackets None e = absurd (cc)
given_section segno uid zero of page words brackets (Some section) e = absurd (cc)
given_section segno uid (suc zero) of page words brackets (Some section) e = (refl, cc, λ fits. so fits)
  where
    so : IsWithinPage section.page section.words → IsWithinPage page words
    so fits = let own : section.page ≡ page = cc in let count : section.words ≡ words = cc in rw (← own, ← count) fits
given_section segno uid (suc (suc i)) of page words brackets (Some section) e = absurd (cc)

given_first : (segno uid : ℕ) (section : Option PlainSection) → lot_of (lots_given segno uid section) 0 ≡ Branch uid
given_first segno uid None = refl
given_first segno uid (Some section) = refl

-- where a segment stands among lots with others after them
pub where_branch : (lots : List Lot) (segno uid n v : ℕ) (section : Option PlainSection) → lot_of (lots ++ lots_given segno uid section) n ≡ Branch v
    → (lot_of lots n ≡ Branch v) ⊎ ((n ≡ length lots) × (uid ≡ v))
where_branch lots segno uid n v section e = elim (cases_lt n (length lots)) [
  | inl below ↦ inl (sym (get_or_append_left lots (lots_given segno uid section) Free n below) ∙ e)
  | inr past ↦
      let given = given_branch segno uid (n - length lots) v section (sym (get_or-append_right lots (lots_given segno uid section) (length lots) n Free refl past) ∙ e) in
      inr (omega arith, given.1)
]

pub where_section : (lots : List Lot) (segno uid n of page words : ℕ) (brackets : Bracketing) (section : Option PlainSection)
    → lot_of (lots ++ lots_given segno uid section) n ≡ Linkage of page brackets words
    → (lot_of lots n ≡ Linkage of page brackets words)
    ⊎ ((n ≡ length lots + 1) × (segno ≡ of) × (IfSome section (λ s. IsWithinPage s.page s.words) → IsWithinPage page words))
where_section lots segno uid n of page words brackets section e = elim (cases_lt n (length lots)) [
  | inl below ↦ inl (sym (get_or_append_left lots (lots_given segno uid section) Free n below) ∙ e)
  | inr past ↦
      let given = given_section segno uid (n - length lots) of page words brackets section (sym (get_or-append_right lots (lots_given segno uid section) (length lots) n Free refl past) ∙ e) in
      inr (omega arith, given.1, given.2)
]

at_seam : (xs ys : List Lot) (n i : ℕ) → n ≡ length xs + i → get_or (xs ++ ys) n Free ≡ get_or ys i Free
at_seam xs ys n i e =
    get_or-append_right xs ys (length xs) n Free refl (omega arith)
    ∙ ap (λ k. get_or ys k Free) (let rest : n - length xs ≡ i = omega arith in rest)

pub given_stands : (lots : List Lot) (segno uid : ℕ) (section : Option PlainSection) → lot_of (lots ++ lots_given segno uid section) (length lots) ≡ Branch uid
given_stands lots segno uid section = at_seam lots (lots_given segno uid section) (length lots) 0 (omega arith) ∙ given_first segno uid section

pub section_stands : (lots : List Lot) (segno uid n : ℕ) (section : PlainSection) → n ≡ length lots + 1
    → lot_of (lots ++ lots_given segno uid (Some section)) n ≡ Linkage segno section.page section.brackets section.words
section_stands lots segno uid n section e = at_seam lots (lots_given segno uid (Some section)) n 1 e
