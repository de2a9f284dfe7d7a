-- The names of the rings, one name at a time.
use Rattle.std.proofs.Common.{ℕ, ◌≡◌, ◌<◌, Bool, true, false, cond, not, ◌==◌, ◌||◌, List, [], ◌∷◌, ◌++◌, length, map, set, Option, is_some, ◌⊎◌, inl, inr, None, Some, refl, ap, sym, ◌∙◌}
use Rattle.std.specs.List.{IsDistinct, list_any}
use Rattle.std.specs.Map.{keys_of, lookup}
use Rattle.std.specs.Cmp.{IsEquivalence}
use Rattle.std.specs.Cmp.Lexicographic.{lists_equiv, bytes_decides}
use Rattle.std.specs.Cmp.{nat_eq_equiv}
use Rattle.std.proofs.lemmas.Bool.{cases_eq, cases_lt}
use Rattle.std.proofs.lemmas.List.{get_or-set_same, get_or-set_other, set_past, map_push, length-set}
use Rattle.std.proofs.lemmas.Map.Keys.{IsDistinct-push}
use Rattle.std.proofs.lemmas.Map.Entries.{option_filter, lookup-filter-values}
use Rattle.std.proofs.lemmas.Map.Made.{IsDistinct-keys_filter}
use Rattle.mx_name.specs.Names.{same_name}
use Rattle.mx_kst.specs.Names.{RingNames, names_in, named}
use Rattle.mx_kst.specs.Initiating.{with_name}
use Rattle.mx_kst.specs.Terminating.{names_without, other_than}
use Rattle.mx_kst.proofs.LotLaws.{mapped_at}

pub same_name_laws : IsEquivalence same_name
same_name_laws = lists_equiv nat_eq_equiv

pub ring_without : (names : List RingNames) (segno ring : ℕ) → names_in (map (names_without segno) names) ring ≡ names_without segno (names_in names ring)
ring_without names segno ring = mapped_at (names_without segno) names ring [] refl

filtered : (segno : ℕ) (found : Option ℕ) → option_filter (λ number. not (number == segno)) found ≡ other_than segno found
filtered segno None = refl
filtered segno (Some number) = by_test (number == segno)
  where
    by_test : (b : Bool) → cond (not b) (Some number) None ≡ cond b None (Some number)
    by_test true = refl
    by_test false = refl

-- the names after `terminate`, one at a time
pub unnamed : (names : List RingNames) (segno ring : ℕ) (name : List ℕ) → IsDistinct same_name (keys_of (names_in names ring))
    → named (map (names_without segno) names) ring name ≡ other_than segno (named names ring name)
unnamed names segno ring name apart =
    ap (lookup (same_name name)) (ring_without names segno ring)
    ∙ lookup-filter-values same_name_laws (λ number. not (number == segno)) name (names_in names ring) apart
    ∙ filtered segno (named names ring name)

pub still_apart : (names : List RingNames) (segno ring : ℕ) → IsDistinct same_name (keys_of (names_in names ring))
    → IsDistinct same_name (keys_of (names_in (map (names_without segno) names) ring))
still_apart names segno ring apart =
    rw (ring_without names segno ring) (IsDistinct-keys_filter same_name (λ entry. not (entry.1 == segno)) (names_in names ring) apart)

pub other_number : (segno n : ℕ) (found : Option ℕ) → other_than segno found ≡ Some n → (found ≡ Some n) × ((n == segno) ≡ false)
other_number segno n None e = absurd (cc)
other_number segno n (Some number) e = by_test (number == segno) refl e
  where
    by_test : (b : Bool) → (number == segno) ≡ b → cond b None (Some number) ≡ Some n → (◌≡◌ {A = Option ℕ} (Some number) (Some n)) × ((n == segno) ≡ false)
    by_test true t e = absurd (cc)
    by_test false t e = let same : number ≡ n = cc in (e, (ap (λ k. k == segno) (sym same) ∙ t))

set_cases : (names : List RingNames) (ring r : ℕ) (of_ring : RingNames)
    → (names_in (set names ring of_ring) r ≡ names_in names r) ⊎ ((r ≡ ring) × (names_in (set names ring of_ring) r ≡ of_ring))
set_cases names ring r of_ring = elim (cases_eq r ring) [
  | inl same ↦ elim (cases_lt ring (length names)) [
    | inl within ↦ inr (same, ap (names_in (set names ring of_ring)) same ∙ get_or-set_same names ring of_ring [] within)
    | inr past ↦ inl (ap (λ xs. names_in xs r) (set_past names ring of_ring past))
  ]
  | inr other ↦ inl (get_or-set_other names ring r of_ring [] other)
]

lookup_pushed : (test : List ℕ → Bool) (es : RingNames) (name : List ℕ) (segno n : ℕ) → lookup test (es ++ (name, segno) ∷ []) ≡ Some n
    → (lookup test es ≡ Some n) ⊎ (segno ≡ n)
lookup_pushed test [] name segno n e = by_test (test name) e
  where
    by_test : (b : Bool) → cond b (Some segno) None ≡ Some n → (◌≡◌ {A = Option ℕ} None (Some n)) ⊎ (segno ≡ n)
    by_test true e = inr (cc)
    by_test false e = inl e
lookup_pushed test (f ∷ es) name segno n e = by_test (test f.0) e (lookup_pushed test es name segno n)
  where
    by_test : (b : Bool) → cond b (Some f.1) (lookup test (es ++ (name, segno) ∷ [])) ≡ Some n
        → (lookup test (es ++ (name, segno) ∷ []) ≡ Some n → (lookup test es ≡ Some n) ⊎ (segno ≡ n))
        → (cond b (Some f.1) (lookup test es) ≡ Some n) ⊎ (segno ≡ n)
    by_test true e rest = inl e
    by_test false e rest = rest e

found_is_any : (test : List ℕ → Bool) (es : RingNames) → is_some (lookup test es) ≡ list_any test (keys_of es)
found_is_any test [] = refl
found_is_any test (e ∷ es) = by_test (test e.0) (found_is_any test es)
  where
    by_test : (b : Bool) → is_some (lookup test es) ≡ list_any test (keys_of es)
        → is_some (cond b (Some e.1) (lookup test es)) ≡ (b || list_any test (keys_of es))
    by_test true rest = refl
    by_test false rest = rest

-- a name stands for the number that it stood for, or for the one that it got
pub named_with : (names : List RingNames) (ring segno r n : ℕ) (name : Option (List ℕ)) (other : List ℕ)
    → named (with_name names ring name segno) r other ≡ Some n → (named names r other ≡ Some n) ⊎ (segno ≡ n)
named_with names ring segno r n None other e = inl e
named_with names ring segno r n (Some name) other e = by_test (is_some (named names ring name)) e
  where
    by_test : (b : Bool) → named (cond b names (set names ring (names_in names ring ++ (name, segno) ∷ []))) r other ≡ Some n
        → (named names r other ≡ Some n) ⊎ (segno ≡ n)
    by_test true e = inl e
    by_test false e = elim (set_cases names ring r (names_in names ring ++ (name, segno) ∷ [])) [
      | inl same ↦ inl (ap (lookup (same_name other)) (sym same) ∙ e)
      | inr own ↦ elim (lookup_pushed (same_name other) (names_in names ring) name segno n (ap (lookup (same_name other)) (sym own.1) ∙ e)) [
        | inl stood ↦ inl (ap (λ k. lookup (same_name other) (names_in names k)) own.0 ∙ stood)
        | inr got ↦ inr got
      ]
    ]

pub apart_with : (names : List RingNames) (ring segno r : ℕ) (name : Option (List ℕ)) → ((q : ℕ) → IsDistinct same_name (keys_of (names_in names q)))
    → IsDistinct same_name (keys_of (names_in (with_name names ring name segno) r))
apart_with names ring segno r None apart = apart r
apart_with names ring segno r (Some name) apart = by_test (is_some (named names ring name)) refl
  where
    by_test : (b : Bool) → is_some (named names ring name) ≡ b
        → IsDistinct same_name (keys_of (names_in (cond b names (set names ring (names_in names ring ++ (name, segno) ∷ []))) r))
    by_test true t = apart r
    by_test false t = elim (set_cases names ring r (names_in names ring ++ (name, segno) ∷ [])) [
      | inl same ↦ rw same (apart r)
      | inr own ↦
          let keys : keys_of (names_in names ring ++ (name, segno) ∷ []) ≡ keys_of (names_in names ring) ++ name ∷ [] = map_push (λ (e : List ℕ × ℕ). e.0) (names_in names ring) (name, segno) in
          let new = IsDistinct-push same_name_laws (keys_of (names_in names ring)) name (apart ring) (sym (found_is_any (same_name name) (names_in names ring)) ∙ t) in
          rw own.1 (rw keys new)
    ]

pub length_with : (names : List RingNames) (ring segno : ℕ) (name : Option (List ℕ)) → length (with_name names ring name segno) ≡ length names
length_with names ring segno None = refl
length_with names ring segno (Some name) = by_test (is_some (named names ring name))
  where
    by_test : (b : Bool) → length (cond b names (set names ring (names_in names ring ++ (name, segno) ∷ []))) ≡ length names
    by_test true = refl
    by_test false = length-set names ring (names_in names ring ++ (name, segno) ∷ [])

pushed_found : (test : List ℕ → Bool) (es : RingNames) (name : List ℕ) (segno : ℕ) → test name ≡ true → is_some (lookup test es) ≡ false
    → lookup test (es ++ (name, segno) ∷ []) ≡ Some segno
pushed_found test [] name segno t none = ap (λ b. cond b (Some segno) None) t
pushed_found test (e ∷ es) name segno t none = by_test (test e.0) none (pushed_found test es name segno t)
  where
    by_test : (b : Bool) → is_some (cond b (Some e.1) (lookup test es)) ≡ false
        → (is_some (lookup test es) ≡ false → lookup test (es ++ (name, segno) ∷ []) ≡ Some segno)
        → cond b (Some e.1) (lookup test (es ++ (name, segno) ∷ [])) ≡ Some segno
    by_test true none rest = absurd (cc)
    by_test false none rest = rest none

pushed_passed : (test : List ℕ → Bool) (es : RingNames) (name : List ℕ) (segno : ℕ) → test name ≡ false
    → lookup test (es ++ (name, segno) ∷ []) ≡ lookup test es
pushed_passed test [] name segno t = ap (λ b. cond b (Some segno) None) t
pushed_passed test (e ∷ es) name segno t = ap (cond (test e.0) (Some e.1)) (pushed_passed test es name segno t)

-- every name but the new one stands for what it stood for
pub others_with : (names : List RingNames) (ring segno r : ℕ) (name : Option (List ℕ)) (other : List ℕ) → (r ≡ ring → name ≡ Some other → ⊥)
    → named (with_name names ring name segno) r other ≡ named names r other
others_with names ring segno r None other apart = refl
others_with names ring segno r (Some name) other apart = by_test (is_some (named names ring name))
  where
    same : same_name other name ≡ true → name ≡ other
    same t = sym ((bytes_decides other name).0 t)

    differs : r ≡ ring → (b : Bool) → same_name other name ≡ b → b ≡ false
    differs here true t = absurd (apart here (ap Some (same t)))
    differs here false t = refl

    by_test : (b : Bool) → named (cond b names (set names ring (names_in names ring ++ (name, segno) ∷ []))) r other ≡ named names r other
    by_test true = refl
    by_test false = elim (set_cases names ring r (names_in names ring ++ (name, segno) ∷ [])) [
      | inl kept ↦ ap (lookup (same_name other)) kept
      | inr own ↦
          ap (lookup (same_name other)) own.1
          ∙ pushed_passed (same_name other) (names_in names ring) name segno (differs own.0 (same_name other name) refl)
          ∙ ap (λ q. lookup (same_name other) (names_in names q)) (sym own.0)
    ]

-- the name stands for its number, where it stands for no other
pub own_with : (names : List RingNames) (ring segno : ℕ) (name : List ℕ) → ring < length names
    → ((n : ℕ) → named names ring name ≡ Some n → n ≡ segno) → named (with_name names ring (Some name) segno) ring name ≡ Some segno
own_with names ring segno name within only = by_test (is_some (named names ring name)) refl
  where
    found : (o : Option ℕ) → named names ring name ≡ o → is_some o ≡ true → named names ring name ≡ Some segno
    found None e t = absurd (cc)
    found (Some n) e t = e ∙ ap Some (only n e)

    by_test : (b : Bool) → is_some (named names ring name) ≡ b
        → named (cond b names (set names ring (names_in names ring ++ (name, segno) ∷ []))) ring name ≡ Some segno
    by_test true t = found (named names ring name) refl t
    by_test false t =
        ap (lookup (same_name name)) (get_or-set_same names ring (names_in names ring ++ (name, segno) ∷ []) [] within)
        ∙ pushed_found (same_name name) (names_in names ring) name segno ((bytes_decides name name).1 refl) t
