-- A table by uid stays one that knows the number of each segment.
use Rattle.std.proofs.Common.{ℕ, ◌≡◌, ◌↔◌, ◌+◌, ◌<◌, ◌≤◌, is_some, is_none, Bool, true, false, ◌&&◌, cond, ◌==◌, eqb, ◌||◌, List, ◌++◌, length, Option, None, Some, refl, ap, sym, ◌∙◌, ◌⊎◌, inl, inr, ltb, map, slice_set, length-append, subst, arith}
use Rattle.std.specs.List.{range_with_len}
use Rattle.std.proofs.lemmas.Bool.{cases_eq, eq-eqb, ne_eqb, true≢false, ltb-false}
use Rattle.std.proofs.lemmas.List.{get_or_append_left, length-map, length-set}
use Rattle.mx_kst.specs.declared.lots.Lot.{Lot}
use Rattle.mx_kst.specs.declared.lots.Lot.TheVariants.{Free, Branch}
use Rattle.mx_kst.specs.declared.segments.Known.{Known}
use Rattle.mx_kst.specs.Index.{Indexes}
use Rattle.mx_kst.specs.Initiating.{known_by, known_as, lots_given, lots_with, is_full, numbers_needed}
use Rattle.mx_kst.specs.KnownSegments.{KnownSegments, IsSound}
use Rattle.mx_kst.specs.Lots.{stacks, is_branch, is_section_of, lot_of, number_of, numbers_left}
use Rattle.mx_kst.specs.Sections.{PlainSection}
use Rattle.mx_kst.specs.Terminating.{lot_without, lots_without}
use Rattle.mx_kst.proofs.LotLaws.{branch_within, stands, nowhere, where_branch, given_stands, freed}
use Rattle.mx_kst.proofs.SoundLaws.{no_segment, number_is}

none_some : (n : ℕ) → ◌≡◌ {A = Option ℕ} None (Some n) → ⊥
none_some n e = cc

-- at first no segment has a number
pub indexed_first : (by_uid : ℕ → Option ℕ) (lots : List Lot) → ((q : ℕ) → by_uid q ≡ None) → lots ≡ stacks → Indexes by_uid lots
indexed_first by_uid lots empty e = λ uid n. (
  (λ f. absurd (none_some n (sym (empty uid) ∙ f))),
  (λ f. absurd (no_segment (range_with_len 0 8) n uid (ap (λ xs. lot_of xs n) (sym e) ∙ f))),
)

-- what the table gives is the number of a segment
pub number_by : (k : KnownSegments) (by_uid : ℕ → Option ℕ) (uid : ℕ) → IsSound k → Indexes by_uid k.lots → by_uid uid ≡ number_of k.lots uid
number_by k by_uid uid sound index = by_found (by_uid uid) refl (number_of k.lots uid) refl
  where
    by_found : (o : Option ℕ) → by_uid uid ≡ o → (p : Option ℕ) → number_of k.lots uid ≡ p → by_uid uid ≡ number_of k.lots uid
    by_found (Some n) e p f = e ∙ sym ((number_is k sound uid n).1 ((index uid n).0 e))
    by_found None e (Some n) f = (index uid n).1 (stands k.lots uid n f) ∙ sym f
    by_found None e None f = e ∙ sym f

-- with one segment more
module _ (by_uid after : ℕ → Option ℕ) (lots : List Lot) (uid : ℕ) (section : Option PlainSection) (index : Indexes by_uid lots) where
  fresh_indexed : number_of lots uid ≡ None → ((q : ℕ) → after q ≡ cond (uid == q) (Some (length lots)) (by_uid q))
      → Indexes after (lots ++ lots_given (length lots) uid section)
  fresh_indexed none is = λ q n. (to q n (cases_eq uid q), from q n)
    where
      to : (q n : ℕ) → (uid ≡ q) ⊎ (uid ≡ q → ⊥) → after q ≡ Some n → lot_of (lots ++ lots_given (length lots) uid section) n ≡ Branch q
      to q n (inl same) e =
          let got : after q ≡ Some (length lots) = is q ∙ ap (λ b. cond b (Some (length lots)) (by_uid q)) (eq-eqb uid q same) in
          let at : length lots ≡ n = cc in
          ap (lot_of (lots ++ lots_given (length lots) uid section)) (sym at) ∙ given_stands lots (length lots) uid section ∙ ap Branch same
      to q n (inr other) e =
          let old : by_uid q ≡ Some n = sym (is q ∙ ap (λ b. cond b (Some (length lots)) (by_uid q)) (ne_eqb uid q other)) ∙ e in
          let stood = (index q n).0 old in
          get_or_append_left lots (lots_given (length lots) uid section) Free n (branch_within lots n (ap is_branch stood)) ∙ stood

      from : (q n : ℕ) → lot_of (lots ++ lots_given (length lots) uid section) n ≡ Branch q → after q ≡ Some n
      from q n e = elim (where_branch lots (length lots) uid n q section e) [
        | inl stood ↦
            let other : uid ≡ q → ⊥ = λ same. nowhere lots uid n none (stood ∙ ap Branch (sym same)) in
            is q ∙ ap (λ b. cond b (Some (length lots)) (by_uid q)) (ne_eqb uid q other) ∙ (index q n).1 stood
        | inr new ↦ is q ∙ ap (λ b. cond b (Some (length lots)) (by_uid q)) (eq-eqb uid q new.1) ∙ ap Some (sym new.0)
      ]

  pub initiated_indexed : ((q : ℕ) → after q
      ≡ cond ((known_as lots uid section).fresh && (uid == q)) (Some (known_as lots uid section).segno) (by_uid q))
      → Indexes after (lots_with lots (known_as lots uid section) uid section)
  initiated_indexed is = by_number (number_of lots uid) refl is
    where
      by_number : (o : Option ℕ) → number_of lots uid ≡ o
          → ((q : ℕ) → after q ≡ cond ((known_by o (length lots) section).fresh && (uid == q)) (Some (known_by o (length lots) section).segno) (by_uid q))
          → Indexes after (lots_with lots (known_by o (length lots) section) uid section)
      by_number (Some own) e is = λ q n. ((λ f. (index q n).0 (sym (is q) ∙ f)), (λ f. is q ∙ (index q n).1 f))
      by_number None e is = fresh_indexed e is

-- with one segment less
either_false : (a b : Bool) → a ≡ false → b ≡ false → (a || b) ≡ false
either_false a b e f = rw (e, f) refl

no_section : (segno uid : ℕ) (lot : Lot) → lot ≡ Branch uid → is_section_of segno lot ≡ false
no_section segno uid lot e = ap (is_section_of segno) e

module _ (by_uid after : ℕ → Option ℕ) (lots : List Lot) (segno uid : ℕ) (index : Indexes by_uid lots) (own : lot_of lots segno ≡ Branch uid)
    (is : (q : ℕ) → after q ≡ cond (uid == q) None (by_uid q)) where
  stays : (q n : ℕ) → (n ≡ segno → ⊥) → lot_of lots n ≡ Branch q → lot_of (lots_without segno lots) n ≡ Branch q
  stays q n apart e =
      freed lots segno n
      ∙ ap (λ b. cond b Free (lot_of lots n)) (either_false (n == segno) (is_section_of segno (lot_of lots n)) (ne_eqb n segno apart) (no_section segno q (lot_of lots n) e))
      ∙ e

  stood : (q n : ℕ) → lot_of (lots_without segno lots) n ≡ Branch q → (n ≡ segno → ⊥) × (lot_of lots n ≡ Branch q)
  stood q n e = by_test (n == segno) (is_section_of segno (lot_of lots n)) refl (sym (freed lots segno n) ∙ e)
    where
      by_test : (a b : Bool) → (n == segno) ≡ a → cond (a || b) Free (lot_of lots n) ≡ Branch q → (n ≡ segno → ⊥) × (lot_of lots n ≡ Branch q)
      by_test true b t f = absurd (cc)
      by_test false true t f = absurd (cc)
      by_test false false t f = ((λ same. true≢false (sym (eq-eqb n segno same) ∙ t)), f)

  to : (q n : ℕ) → (uid ≡ q) ⊎ (uid ≡ q → ⊥) → after q ≡ Some n → lot_of (lots_without segno lots) n ≡ Branch q
  to q n (inl same) e = absurd (none_some n (sym (is q ∙ ap (λ b. cond b None (by_uid q)) (eq-eqb uid q same)) ∙ e))
  to q n (inr other) e =
      let old : by_uid q ≡ Some n = sym (is q ∙ ap (λ b. cond b None (by_uid q)) (ne_eqb uid q other)) ∙ e in
      let at = (index q n).0 old in
      stays q n (λ here. other (same_uid (sym own ∙ ap (lot_of lots) (sym here) ∙ at))) at
    where
      same_uid : Branch uid ≡ Branch q → uid ≡ q
      same_uid f = cc

  from : (q n : ℕ) → lot_of (lots_without segno lots) n ≡ Branch q → after q ≡ Some n
  from q n e =
      let old = stood q n e in
      let number = (index q n).1 old.1 in
      is q ∙ ap (λ b. cond b None (by_uid q)) (ne_eqb uid q (λ same. old.0 (same_number same number))) ∙ number
    where
      same_number : uid ≡ q → by_uid q ≡ Some n → n ≡ segno
      same_number same number =
          let at : by_uid q ≡ Some segno = ap by_uid (sym same) ∙ (index uid segno).1 own in
          cc

  pub terminated_indexed : Indexes after (lots_without segno lots)
  terminated_indexed = λ q n. (to q n (cases_eq uid q), from q n)

-- the same of what a program has: the table, and the lots after it
pub initiated_index : (by_uid after : ℕ → Option ℕ) (lots new : List Lot) (uid : ℕ) (section : Option PlainSection) (known : Known) → Indexes by_uid lots
    → known ≡ known_as lots uid section → new ≡ lots_with lots (known_as lots uid section) uid section
    → ((q : ℕ) → after q ≡ cond (known.fresh && (uid == q)) (Some known.segno) (by_uid q)) → Indexes after new
initiated_index by_uid after lots new uid section known index same e is =
    subst (Indexes after) (sym e) (initiated_indexed by_uid after lots uid section index
    (λ q. is q ∙ ap (λ (x : Known). cond (x.fresh && (uid == q)) (Some x.segno) (by_uid q)) same))

pub terminated_index : (by_uid after : ℕ → Option ℕ) (lots new : List Lot) (segno uid : ℕ) → Indexes by_uid lots → lot_of lots segno ≡ Branch uid
    → new ≡ lots_without segno lots → ((q : ℕ) → after q ≡ cond (uid == q) None (by_uid q)) → Indexes after new
terminated_index by_uid after lots new segno uid index own e is =
    subst (Indexes after) (sym e) (terminated_indexed by_uid after lots segno uid index own is)

-- there is room for the number of a segment that gets one
pub room_for : (k : KnownSegments) (uid : ℕ) (section : Option PlainSection) → is_full k uid (is_some section) ≡ false
    → (known_as k.lots uid section).fresh ≡ true → 0 < numbers_left k.last k.lots
room_for k uid section room fresh = by_number (number_of k.lots uid) room fresh
  where
    needed : (b : Bool) → 0 < numbers_needed b
    needed true = omega arith
    needed false = omega arith

    by_number : (o : Option ℕ) → (is_none o && ltb (numbers_left k.last k.lots) (numbers_needed (is_some section))) ≡ false
        → (known_by o (length k.lots) section).fresh ≡ true → 0 < numbers_left k.last k.lots
    by_number (Some own) room fresh = absurd (cc)
    by_number None room fresh =
        omega (arith, ltb-false (numbers_left k.last k.lots) (numbers_needed (is_some section)) room, needed (is_some section))

-- and for those that are left
pub room_after : (last : ℕ) (lots : List Lot) (known : Known) (uid : ℕ) (section : Option PlainSection) (old new : ℕ)
    → numbers_left last lots ≤ old → old ≤ new + cond known.fresh 1 0 → numbers_left last (lots_with lots known uid section) ≤ new
room_after last lots known uid section old new room less = by_test known.fresh less
  where
    some : (section : Option PlainSection) → 1 ≤ length (lots_given known.segno uid section)
    some None = omega arith
    some (Some s) = omega arith

    by_test : (b : Bool) → old ≤ new + cond b 1 0 → numbers_left last (cond b (lots ++ lots_given known.segno uid section) lots) ≤ new
    by_test true less = omega (arith, some section, length-append lots (lots_given known.segno uid section))
    by_test false less = omega arith

pub room_left : (last : ℕ) (lots new : List Lot) (segno old spare : ℕ) → new ≡ lots_without segno lots → numbers_left last lots ≤ old → old ≤ spare
    → numbers_left last new ≤ spare
room_left last lots new segno old spare e room more =
    let same : length new ≡ length lots = ap length e ∙ length-map (slice_set lots segno Free) (lot_without segno) ∙ length-set lots segno Free in
    omega arith
