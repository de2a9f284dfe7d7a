-- What is sound at first, and what a segment's number is where all is sound.
use Rattle.std.proofs.Common.{ℕ, zero, suc, ◌≡◌, ◌↔◌, ◌≤◌, List, [], ◌∷◌, get_or, map, replicate, None, Some, refl, ap, sym, subst, ◌∙◌, arith}
use Rattle.std.specs.List.{IsDistinct, range_with_len}
use Rattle.std.specs.Map.{keys_of, lookup}
use Rattle.mx_sdw.specs.Rings.{Bracketing}
use Rattle.mx_kst.specs.declared.lots.Lot.{Lot}
use Rattle.mx_kst.specs.declared.lots.Lot.TheVariants.{Free, Stack, Branch, Linkage}
use Rattle.mx_kst.specs.Lots.{stacks, lot_of, number_of}
use Rattle.mx_name.specs.Names.{same_name}
use Rattle.mx_kst.specs.Names.{RingNames, no_names}
use Rattle.mx_kst.specs.KnownSegments.{KnownSegments, IsSound, at_first}
use Rattle.mx_kst.proofs.LotLaws.{stands, first_place}

pub no_segment : (rings : List ℕ) (n uid : ℕ) → get_or (map Stack rings) n Free ≡ Branch uid → ⊥
no_segment [] n uid e = cc
no_segment (ring ∷ rings) zero uid e = cc
no_segment (ring ∷ rings) (suc n) uid e = no_segment rings n uid e

no_section : (rings : List ℕ) (n of page words : ℕ) (brackets : Bracketing) → get_or (map Stack rings) n Free ≡ Linkage of page brackets words → ⊥
no_section [] n of page words brackets e = cc
no_section (ring ∷ rings) zero of page words brackets e = cc
no_section (ring ∷ rings) (suc n) of page words brackets e = no_section rings n of page words brackets e

no_name : (rings n : ℕ) → ◌≡◌ {A = RingNames} (get_or (replicate rings []) n []) []
no_name zero n = refl
no_name (suc rings) zero = refl
no_name (suc rings) (suc n) = no_name rings n

first_sound : (last : ℕ) → 7 ≤ last → last ≤ 255 → IsSound (at_first last)
unfolding IsDistinct
first_sound last some most = record {
  stacks_first = refl;
  within = omega (arith, some);
  most = most;
  rings = refl;
  one_number = λ m n uid p q. absurd (no_segment (range_with_len 0 8) m uid p);
  one_entry = λ ring. subst (λ (es : RingNames). IsDistinct same_name (keys_of es)) (sym (no_name 8 ring)) tt;
  names_known = λ ring segno name e. absurd (none_some segno (ap (lookup (same_name name)) (sym (no_name 8 ring)) ∙ e));
  section_next = λ n of page words brackets e. absurd (no_section (range_with_len 0 8) n of page words brackets e);
  section_within = λ n of page words brackets e. absurd (no_section (range_with_len 0 8) n of page words brackets e);
}
  where
    none_some : (segno : ℕ) → None ≡ Some segno → ⊥
    none_some segno e = cc

pub sound_first : (last : ℕ) (lots : List Lot) (names : List RingNames) → 7 ≤ last → last ≤ 255 → lots ≡ stacks → names ≡ no_names
    → IsSound (record { last = last; lots = lots; names = names })
sound_first last lots names some most p q =
    subst (λ (xs : List Lot). IsSound (record { last = last; lots = xs; names = names })) (sym p)
    (subst (λ (xs : List RingNames). IsSound (record { last = last; lots = stacks; names = xs })) (sym q) (first_sound last some most))

-- the number of a segment is the one that stands for it
pub number_is : (k : KnownSegments) → IsSound k → (uid n : ℕ) → (number_of k.lots uid ≡ Some n) ↔ (lot_of k.lots n ≡ Branch uid)
number_is k sound uid n = (stands k.lots uid n, λ p. first_place k.lots uid n p (λ m q. sound.one_number m n uid q p))
