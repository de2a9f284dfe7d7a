-- What `terminate` leaves is sound, and what it leaves in words of the numbers and names alone.
use Rattle.std.proofs.Common.{ℕ, zero, suc, ◌≡◌, ◌<◌, ◌≤◌, Bool, true, false, cond, ◌==◌, ltb, ◌||◌, List, [], ◌∷◌, take, get_or, map, set, None, Some, refl, ap, sym, subst, ◌∙◌}
use Rattle.std.specs.List.{range_with_len}
use Rattle.std.proofs.lemmas.List.{length-map, length-set, take-map, take-set-le, get_or-take}
use Rattle.std.proofs.lemmas.Bool.{ltb-true, ltb-false, false≢true}
use Rattle.mx_sdw.specs.Rings.{Bracketing}
use Rattle.mx_kst.specs.declared.lots.Lot.{Lot}
use Rattle.mx_kst.specs.declared.lots.Lot.TheVariants.{Free, Stack, Branch, Linkage}
use Rattle.mx_kst.specs.Lots.{stacks, is_branch, is_section_of, lot_of}
use Rattle.mx_kst.specs.Names.{RingNames, named}
use Rattle.mx_kst.specs.KnownSegments.{KnownSegments, IsSound}
use Rattle.mx_kst.specs.Terminating.{lot_without, lots_without, names_without, terminate, IsTerminated}
use Rattle.mx_kst.proofs.LotLaws.{freed}
use Rattle.mx_kst.proofs.NameLaws.{unnamed, still_apart, other_number}

was_branch : (b : Bool) (lot left : Lot) (uid : ℕ) → left ≡ cond b Free lot → left ≡ Branch uid → lot ≡ Branch uid
was_branch true lot left uid e p = absurd (cc)
was_branch false lot left uid e p = sym e ∙ p

was_section : (b : Bool) (lot left : Lot) (of page words : ℕ) (brackets : Bracketing) → left ≡ cond b Free lot → left ≡ Linkage of page brackets words
    → (b ≡ false) × (lot ≡ Linkage of page brackets words)
was_section true lot left of page words brackets e p = absurd (cc)
was_section false lot left of page words brackets e p = (refl, sym e ∙ p)

branch_no_section : (segno : ℕ) (lot : Lot) → is_branch lot ≡ true → is_section_of segno lot ≡ false
branch_no_section segno (Branch uid) e = refl
branch_no_section segno Free e = refl
branch_no_section segno (Stack ring) e = refl
branch_no_section segno (Linkage of page brackets words) e = absurd (cc)

second_false : (a b : Bool) → (a || b) ≡ false → b ≡ false
second_false true b e = absurd (cc)
second_false false b e = e

-- another segment stays
branch_stays : (lots : List Lot) (segno n : ℕ) → (n == segno) ≡ false → is_branch (lot_of lots n) ≡ true → is_branch (lot_of (lots_without segno lots) n) ≡ true
branch_stays lots segno n other branch =
    let own = branch_no_section segno (lot_of lots n) branch in
    ap is_branch (freed lots segno n ∙ ap (λ b. cond (b || is_section_of segno (lot_of lots n)) Free (lot_of lots n)) other ∙ ap (λ b. cond b Free (lot_of lots n)) own) ∙ branch

no_branch : (rings : List ℕ) (n : ℕ) → is_branch (get_or (map Stack rings) n Free) ≡ false
no_branch [] n = refl
no_branch (ring ∷ rings) zero = refl
no_branch (ring ∷ rings) (suc n) = no_branch rings n

-- a segment has a number from 8 on
from_eight : (lots : List Lot) (segno : ℕ) → take 8 lots ≡ stacks → is_branch (lot_of lots segno) ≡ true → 8 ≤ segno
from_eight lots segno first branch = by_test (ltb segno 8) refl
  where
    by_test : (b : Bool) → ltb segno 8 ≡ b → 8 ≤ segno
    by_test true t =
        let below : segno < 8 = ltb-true segno 8 t in
        let read = get_or-take 8 lots segno Free below in
        let stack : is_branch (get_or stacks segno Free) ≡ false = no_branch (range_with_len 0 8) segno in
        let same : get_or stacks segno Free ≡ lot_of lots segno = ap (λ xs. get_or xs segno Free) (sym first) ∙ read in
        absurd (false≢true (sym stack ∙ ap is_branch same ∙ branch))
    by_test false t = ltb-false segno 8 t

first_stay : (lots : List Lot) (segno : ℕ) → take 8 lots ≡ stacks → 8 ≤ segno → take 8 (lots_without segno lots) ≡ stacks
first_stay lots segno first above =
    take-map (lot_without segno) 8 (set lots segno Free)
    ∙ ap (map (lot_without segno)) (take-set-le 8 lots segno Free above ∙ first)

pub terminated_sound : (k : KnownSegments) (segno : ℕ) → IsSound k → is_branch (lot_of k.lots segno) ≡ true
    → IsSound (record k { lots = lots_without segno k.lots; names = map (names_without segno) k.names })
terminated_sound k segno sound branch = record {
  stacks_first = first_stay k.lots segno sound.stacks_first (from_eight k.lots segno sound.stacks_first branch);
  within = simp (length-map, length-set) sound.within;
  most = sound.most;
  rings = length-map k.names (names_without segno) ∙ sound.rings;
  one_number = λ m n uid p q. sound.one_number m n uid (was m uid p) (was n uid q);
  one_entry = λ ring. still_apart k.names segno ring (sound.one_entry ring);
  names_known = λ ring n name e.
      let other = other_number segno n (named k.names ring name) (sym (unnamed k.names segno ring name (sound.one_entry ring)) ∙ e) in
      branch_stays k.lots segno n other.1 (sound.names_known ring n name other.0);
  section_next = λ n of page words brackets e.
      let old = was_section (n == segno || is_section_of segno (lot_of k.lots n)) (lot_of k.lots n) (lot_of (lots_without segno k.lots) n) of page words brackets (freed k.lots segno n) e in
      let other : (of == segno) ≡ false = sym (ap (is_section_of segno) old.1) ∙ second_false (n == segno) (is_section_of segno (lot_of k.lots n)) old.0 in
      let stood = sound.section_next n of page words brackets old.1 in
      (stood.0, branch_stays k.lots segno of other stood.1);
  section_within = λ n of page words brackets e.
      let old = was_section (n == segno || is_section_of segno (lot_of k.lots n)) (lot_of k.lots n) (lot_of (lots_without segno k.lots) n) of page words brackets (freed k.lots segno n) e in
      sound.section_within n of page words brackets old.1;
}
  where
    was : (m uid : ℕ) → lot_of (lots_without segno k.lots) m ≡ Branch uid → lot_of k.lots m ≡ Branch uid
    was m uid p = was_branch (m == segno || is_section_of segno (lot_of k.lots m)) (lot_of k.lots m) (lot_of (lots_without segno k.lots) m) uid (freed k.lots segno m) p

-- the same of lots and names that are those
pub sound_after : (k : KnownSegments) (segno : ℕ) (lots : List Lot) (names : List RingNames) → IsSound k → is_branch (lot_of k.lots segno) ≡ true
    → lots ≡ lots_without segno k.lots → names ≡ map (names_without segno) k.names → IsSound (record k { lots = lots; names = names })
sound_after k segno lots names sound branch p q =
    subst (λ (xs : List Lot). IsSound (record k { lots = xs; names = names })) (sym p)
    (subst (λ (xs : List RingNames). IsSound (record k { lots = lots_without segno k.lots; names = xs })) (sym q) (terminated_sound k segno sound branch))

-- what a segment's number leaves, of lots and names that are those
pub terminate_is : (k : KnownSegments) (segno : ℕ) (lots : List Lot) (names : List RingNames) → is_branch (lot_of k.lots segno) ≡ true
    → lots ≡ lots_without segno k.lots → names ≡ map (names_without segno) k.names → terminate k segno ≡ Some (record k { lots = lots; names = names })
terminate_is k segno lots names branch p q =
    subst (λ (xs : List Lot). terminate k segno ≡ Some (record k { lots = xs; names = names })) (sym p)
    (subst (λ (xs : List RingNames). terminate k segno ≡ Some (record k { lots = lots_without segno k.lots; names = xs })) (sym q)
    (ap (λ (b : Bool). cond b (Some (record k { lots = lots_without segno k.lots; names = map (names_without segno) k.names })) None) branch))

module _ (k after : KnownSegments) (segno : ℕ) (sound : IsSound k) where
  abbrev left : KnownSegments
  left = record k { lots = lots_without segno k.lots; names = map (names_without segno) k.names }

  in_words : IsTerminated k segno left
  in_words = record {
    lots = freed k.lots segno;
    names = λ ring name. unnamed k.names segno ring name (sound.one_entry ring);
    given = simp (length-map, length-set);
    last = refl;
  }

  -- and in words of the numbers and names alone
  pub terminated : terminate k segno ≡ Some after → IsTerminated k segno after
  terminated e = by_test (is_branch (lot_of k.lots segno)) e
    where
      by_test : (b : Bool) → cond b (Some left) None ≡ Some after → IsTerminated k segno after
      by_test true e = let same : left ≡ after = cc in subst (IsTerminated k segno) same in_words
      by_test false e = absurd (cc)

  pub sound_terminated : terminate k segno ≡ Some after → IsSound after
  sound_terminated e = by_test (is_branch (lot_of k.lots segno)) refl e
    where
      by_test : (b : Bool) → is_branch (lot_of k.lots segno) ≡ b → cond b (Some left) None ≡ Some after → IsSound after
      by_test true branch e = let same : left ≡ after = cc in subst IsSound same (terminated_sound k segno sound branch)
      by_test false branch e = absurd (cc)
