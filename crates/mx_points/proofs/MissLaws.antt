-- A miss is right exactly where its entry is another process's, changed the pair, and lies between the last miss of the
-- number and the next own entry.
use Rattle.std.proofs.Common.{◌≡◌, ◌↔◌, ℕ, zero, suc, ◌+◌, ◌<◌, ◌≤◌, max, Bool, true, if◌then◌else◌, List, Option, Some, inl, inr, get_or, set, length, take, drop, refl, ap, sym, subst, ◌∙◌, arith}
use Rattle.std.specs.List.{slice_get}
use Rattle.std.proofs.lemmas.List.{get_or-set_other, get_or-set_same, length-set}
use Rattle.std.proofs.lemmas.Bool.{cases_lt, cases_eq, eq-eqb, ne_eqb}
use Rattle.std.proofs.lemmas.Option.{slice_get_within}
use Rattle.mx_state.specs.declared.journal.Entry as journaled
use Rattle.mx_reads.specs.Deeds.{Deed, Enters, Stores, Loads, Refers, Misses}
use Rattle.mx_transcript.specs.Misses.{AreRightMisses, IsRightMiss}
use Rattle.mx_transcript.specs.Settings.{entry_at}
use Rattle.mx_points.specs.Fronts.{AreRightMissesTo, IsBadAt}
use Rattle.mx_points.specs.Seen.{AreLasts, HasRightMiss, MayMiss, first_entry, greatest, lasts_after, missed}
use Rattle.mx_points.proofs.Places.{get_taken, taken_below, taken_more}
use Rattle.mx_points.proofs.SeenLaws.{above_all, above_each, below_if, below_next, greatest_more, same_next}

missed_own : (segno by : ℕ) → missed segno (Misses segno by) ≡ by
missed_own segno by = ap (λ (b : Bool). if b then by else 0) (eq-eqb segno segno refl)

missed_other : (segno own by : ℕ) → (own ≡ segno → ⊥) → missed segno (Misses own by) ≡ 0
missed_other segno own by other = ap (λ (b : Bool). if b then by else 0) (ne_eqb own segno other)

-- what another miss was by, where it is of this number
missed_below : (segno by : ℕ) (deed : Deed) → 0 < by → ((earlier : ℕ) → deed ≡ Misses segno earlier → earlier < by) → missed segno deed < by
missed_below segno by (Enters number) h each = h
missed_below segno by (Stores cell value point) h each = h
missed_below segno by (Loads cell value writer stamp point) h each = h
missed_below segno by (Refers point) h each = h
missed_below segno by (Misses own earlier) h each = elim (cases_eq own segno) [
  | inl same ↦
      let e : missed segno (Misses own earlier) ≡ earlier =
      ap (λ (n : ℕ). missed n (Misses own earlier)) (sym same) ∙ missed_own own earlier in
      let f : earlier < by = each earlier (ap (λ (n : ℕ). Misses n earlier) same) in
      omega arith
  | inr other ↦ let e : missed segno (Misses own earlier) ≡ 0 = missed_other segno own earlier other in omega arith
]

-- no entry has the number 0
numbered : (journal : List journaled.Entry) (by : ℕ) (entry : journaled.Entry) → entry_at journal by ≡ Some entry → 0 < by
numbered journal zero entry at = absurd cc
numbered journal (suc place) entry at = omega arith

module _ (journal : List journaled.Entry) (is_changed : ℕ → ℕ → Type 0) (p : ℕ) (done : List Deed) (place segno by : ℕ) (changed : Bool)
    (last : ℕ) (next : Option ℕ) (at : slice_get done place ≡ Some (Misses segno by)) (tells : (changed ≡ true) ↔ is_changed segno by)
    (low : last ≡ greatest (missed segno) 0 (take place done)) (high : next ≡ first_entry (drop place done)) where
  miss_right : MayMiss journal p changed last next by → IsRightMiss journal is_changed p done place segno by
  miss_right may =
      let low' : greatest (missed segno) 0 (take place done) < by = omega (arith, may.after) in record {
        entry = may.entry;
        at = may.at;
        other = may.other;
        changed = tells.0 may.changed;
        rising = λ before earlier h there.
            let f : missed segno (Misses segno earlier) < by =
            above_each (missed segno) 0 (take place done) by low' before (Misses segno earlier) (get_taken place done before h ∙ there) in
            let e : missed segno (Misses segno earlier) ≡ earlier = missed_own segno earlier in
            omega arith;
        before_next = below_next done place by next (high ∙ same_next done place (Misses segno by) at refl) may.before;
      }

  miss_may : IsRightMiss journal is_changed p done place segno by → MayMiss journal p changed last next by
  miss_may is =
      let h : 0 < by = numbered journal by is.entry is.at in
      let all : greatest (missed segno) 0 (take place done) < by =
      above_all (missed segno) 0 (take place done) by h
      (λ before deed there.
      let l : before < place = taken_below place done before deed there in
      missed_below segno by deed h
      (λ earlier same. is.rising before earlier l
      (sym (get_taken place done before l) ∙ there ∙ ap (λ (d : Deed). Some d) same))) in
      record {
        entry = is.entry;
        at = is.at;
        other = is.other;
        changed = tells.1 is.changed;
        after = omega arith;
        before = below_if done place by next (high ∙ same_next done place (Misses segno by) at refl) is.before_next;
      }

-- one more deed that is a right miss, or none
one_miss_more : (journal : List journaled.Entry) (is_changed : ℕ → ℕ → Type 0) (p : ℕ) (done : List Deed) (place : ℕ)
    → AreRightMissesTo journal is_changed p done place
    → ((segno by : ℕ) → slice_get done place ≡ Some (Misses segno by) → IsRightMiss journal is_changed p done place segno by)
    → AreRightMissesTo journal is_changed p done (place + 1)
one_miss_more journal is_changed p done place good here other segno by h there = elim (cases_lt other place) [
  | inl lower ↦ good other segno by lower there
  | inr higher ↦
      let same : place ≡ other = omega (arith, h, higher) in
      subst (λ (k : ℕ). IsRightMiss journal is_changed p done k segno by) same
      (here segno by (ap (λ (k : ℕ). slice_get done k) same ∙ there))
]

pub no_misses : (journal : List journaled.Entry) (is_changed : ℕ → ℕ → Type 0) (p : ℕ) (done : List Deed)
    → AreRightMissesTo journal is_changed p done 0
no_misses journal is_changed p done place segno by h at = absurd (omega arith)

pub fewer_misses : (journal : List journaled.Entry) (is_changed : ℕ → ℕ → Type 0) (p : ℕ) (done : List Deed) (m n : ℕ) → m ≤ n
    → AreRightMissesTo journal is_changed p done n → AreRightMissesTo journal is_changed p done m
fewer_misses journal is_changed p done m n h all place segno by l at = all place segno by (omega arith) at

-- all misses of a process
pub all_misses : (journal : List journaled.Entry) (is_changed : ℕ → ℕ → Type 0) (p : ℕ) (done : List Deed)
    → AreRightMissesTo journal is_changed p done (length done) ↔ AreRightMisses journal is_changed p done
all_misses journal is_changed p done = (
  λ all place segno by at. all place segno by (slice_get_within done place (Misses segno by) at) at,
  λ all place segno by h at. all place segno by at,
)

-- ---- the last misses
-- one more deed that is no miss
no_miss : (done : List Deed) (place : ℕ) (deed : Deed) (lasts : List ℕ) → slice_get done place ≡ Some deed
    → ((segno : ℕ) → missed segno deed ≡ 0) → AreLasts done place lasts → AreLasts done (suc place) lasts
no_miss done place deed lasts at none are = record {
  long = are.long;
  each = λ segno h.
      let e : greatest (missed segno) 0 (take (suc place) done) ≡ max (greatest (missed segno) 0 (take place done)) (missed segno deed) =
      ap (greatest (missed segno) 0) (taken_more done place deed at) ∙ greatest_more (missed segno) 0 (take place done) deed in
      let f : get_or lasts segno 0 ≡ greatest (missed segno) 0 (take place done) = are.each segno h in
      let g : missed segno deed ≡ 0 = none segno in
      omega arith;
}

-- one more miss
one_miss : (done : List Deed) (place own by : ℕ) (lasts : List ℕ) → slice_get done place ≡ Some (Misses own by)
    → get_or lasts own 0 < by → own < 65536 → AreLasts done place lasts → AreLasts done (suc place) (set lasts own by)
one_miss done place own by lasts at above fits are = record {
  long = length-set lasts own by ∙ are.long;
  each = λ segno h.
      let e : greatest (missed segno) 0 (take (suc place) done) ≡ max (greatest (missed segno) 0 (take place done)) (missed segno (Misses own by)) =
      ap (greatest (missed segno) 0) (taken_more done place (Misses own by) at) ∙ greatest_more (missed segno) 0 (take place done) (Misses own by) in
      let f : get_or lasts segno 0 ≡ greatest (missed segno) 0 (take place done) = are.each segno h in
      let long : own < length lasts = omega (arith, are.long) in
      elim (cases_eq own segno) [
        | inl same ↦
            let g : missed segno (Misses own by) ≡ by = ap (λ (n : ℕ). missed n (Misses own by)) (sym same) ∙ missed_own own by in
            let k : get_or (set lasts own by) segno 0 ≡ by =
            ap (λ (n : ℕ). get_or (set lasts own by) n 0) (sym same) ∙ get_or-set_same lasts own by 0 long in
            let m : get_or lasts own 0 ≡ get_or lasts segno 0 = ap (λ (n : ℕ). get_or lasts n 0) same in
            omega arith
        | inr other ↦
            let g : missed segno (Misses own by) ≡ 0 = missed_other segno own by other in
            let k : get_or (set lasts own by) segno 0 ≡ get_or lasts segno 0 =
            get_or-set_other lasts own segno by 0 (λ e. other (sym e)) in
            omega arith
      ];
}

after_one : (done : List Deed) (place : ℕ) (deed : Deed) (lasts : List ℕ) → slice_get done place ≡ Some deed
    → ((segno by : ℕ) → deed ≡ Misses segno by → get_or lasts segno 0 < by)
    → ((segno by : ℕ) → deed ≡ Misses segno by → segno < 65536)
    → AreLasts done place lasts → AreLasts done (suc place) (lasts_after deed lasts)
after_one done place (Enters number) lasts at above fits are = no_miss done place (Enters number) lasts at (λ segno. refl) are
after_one done place (Stores cell value point) lasts at above fits are =
    no_miss done place (Stores cell value point) lasts at (λ segno. refl) are
after_one done place (Loads cell value writer stamp point) lasts at above fits are =
    no_miss done place (Loads cell value writer stamp point) lasts at (λ segno. refl) are
after_one done place (Refers point) lasts at above fits are = no_miss done place (Refers point) lasts at (λ segno. refl) are
after_one done place (Misses segno by) lasts at above fits are =
    one_miss done place segno by lasts at (above segno by refl) (fits segno by refl) are

pub lasts_more : (journal : List journaled.Entry) (p : ℕ) (changed : Bool) (next : Option ℕ) (done : List Deed) (place : ℕ) (deed : Deed)
    (lasts new : List ℕ) → slice_get done place ≡ Some deed → HasRightMiss journal p changed lasts next deed
    → ((segno by : ℕ) → deed ≡ Misses segno by → segno < 65536) → new ≡ lasts_after deed lasts
    → AreLasts done place lasts → AreLasts done (place + 1) new
lasts_more journal p changed next done place deed lasts new at right fits same are =
    let one : suc place ≡ place + 1 = omega arith in
    subst (λ (n : ℕ). AreLasts done n new) one
    (subst (AreLasts done (suc place)) (sym same)
    (after_one done place deed lasts at (λ segno by is. (right segno by is).after) fits are))

-- ---- a deed at its place
module _ (journal : List journaled.Entry) (is_changed : ℕ → ℕ → Type 0) (p : ℕ) (done : List Deed) (place : ℕ) (deed : Deed)
    (changed : Bool) (lasts : List ℕ) (next : Option ℕ) (at : slice_get done place ≡ Some deed)
    (tells : (segno by : ℕ) → slice_get done place ≡ Some (Misses segno by) → (changed ≡ true) ↔ is_changed segno by)
    (fits : (segno by : ℕ) → deed ≡ Misses segno by → segno < 65536)
    (low : AreLasts done place lasts) (high : next ≡ first_entry (drop place done))
    (good : AreRightMissesTo journal is_changed p done place) where
  pub right_deed : HasRightMiss journal p changed lasts next deed → AreRightMissesTo journal is_changed p done (place + 1)
  right_deed right =
      one_miss_more journal is_changed p done place good
      (λ segno by there.
      let same : Some deed ≡ Some (Misses segno by) = sym at ∙ there in
      let is : deed ≡ Misses segno by = cc in
      miss_right journal is_changed p done place segno by changed (get_or lasts segno 0) next there (tells segno by there)
      (low.each segno (fits segno by is)) high (right segno by is))

  pub wrong_deed : (HasRightMiss journal p changed lasts next deed → ⊥)
      → IsBadAt (AreRightMissesTo journal is_changed p done) (length done) place
  wrong_deed wrong = record {
    within = slice_get_within done place deed at;
    good = good;
    bad = λ all.
        wrong (λ segno by is.
        let there : slice_get done place ≡ Some (Misses segno by) = at ∙ ap (λ (d : Deed). Some d) is in
        miss_may journal is_changed p done place segno by changed (get_or lasts segno 0) next there (tells segno by there)
        (low.each segno (fits segno by is)) high (all place segno by (omega arith) there));
  }

-- what the list of changes tells at a place
pub tells_at : (set_here : Bool) (changes : List Bool) (done : List Deed) (place : ℕ) (is_changed : ℕ → ℕ → Type 0)
    → (set_here ≡ true) ↔ (slice_get changes place ≡ Some true)
    → ((place segno by : ℕ) → slice_get done place ≡ Some (Misses segno by) → (slice_get changes place ≡ Some true) ↔ is_changed segno by)
    → (segno by : ℕ) → slice_get done place ≡ Some (Misses segno by) → (set_here ≡ true) ↔ is_changed segno by
tells_at set_here changes done place is_changed first tells segno by there = (
  λ e. (tells place segno by there).0 (first.0 e),
  λ e. first.1 ((tells place segno by there).1 e),
)
