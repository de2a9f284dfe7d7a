-- Lists of pairs whose keys differ, and one of their pairs.
use Rattle.std.proofs.Common.{ℕ, suc, ◌≡◌, ◌==◌, ◌+◌, ◌-◌, ◌<◌, Bool, true, false, cond, not, List, [], ◌∷◌, ◌++◌, length, set, position, Option, Some, None, refl, sym, ap, ◌∙◌, arith}
use Rattle.std.proofs.lemmas.List.{length_push, get_or_push, set-append_left, take_at, length-set, map-append, length-map}
use Rattle.std.proofs.lemmas.List.Folds.{position_or_len_push}
use Rattle.std.proofs.lemmas.Cmp.{nat_list_eq_equiv}
use Rattle.std.specs.Cmp.Lexicographic.{pointwise}
use Rattle.indexmap.specs.IndexMap.{swap_remove_entry}
use Rattle.std.proofs.lemmas.Bool.{lt-ltb}
use Rattle.std.specs.Option.{option_map_or, unwrap_or}
use Rattle.mx_hier.specs.Listed.{renamed}
use Rattle.mx_hier.proofs.SlotLaws.{unequal}
use Rattle.std.specs.Cmp.{IsEquivalence}
use Rattle.std.specs.List.{AllByRecursion, IsDistinct, position_or_len, swap_remove}
use Rattle.std.specs.Map.{keys_of, lookup, remove_entry}
use Rattle.std.proofs.lemmas.Map.Keys.{IsDistinct-head, IsDistinct-tail}

module _ {K X : Type 0} {eq : K → K → Bool} (laws : IsEquivalence eq) where
  differs : (key : K) (xs : List (K × X)) (pair : K × X) (ys : List (K × X)) → AllByRecursion (λ other. eq key other ≡ false) (keys_of (xs ++ pair ∷ ys)) → eq key pair.0 ≡ false
  differs key [] pair ys apart = apart.0
  differs key (x ∷ xs) pair ys apart = differs key xs pair ys apart.1

  -- a pair is taken out from between the others
  pub taken_out : (xs : List (K × X)) (pair : K × X) (ys : List (K × X)) → IsDistinct eq (keys_of (xs ++ pair ∷ ys)) → remove_entry (eq pair.0) (xs ++ pair ∷ ys) ≡ xs ++ ys
  taken_out [] pair ys distinct = ap (λ (test : Bool). cond test ys (pair ∷ remove_entry (eq pair.0) ys)) (laws.refl pair.0)
  taken_out (x ∷ xs) pair ys distinct =
      ap (λ (test : Bool). cond test (xs ++ pair ∷ ys) (x ∷ remove_entry (eq pair.0) (xs ++ pair ∷ ys)))
      (laws.symm pair.0 x.0 ∙ differs x.0 xs pair ys (IsDistinct-head eq x.0 (keys_of (xs ++ pair ∷ ys)) distinct))
      ∙ ap (λ (rest : List (K × X)). x ∷ rest) (taken_out xs pair ys (IsDistinct-tail eq x.0 (keys_of (xs ++ pair ∷ ys)) distinct))

-- keys differ where there are none
pub none_distinct : (pairs : List (List ℕ × ℕ)) → pairs ≡ [] → IsDistinct (pointwise ◌==◌) (keys_of pairs)
unfolding IsDistinct
none_distinct [] is = tt
none_distinct (pair ∷ pairs) is = absurd (cc)

swap_last : {A : Type 0} (xs : List A) (x d : A) (place : ℕ) → place < length xs → swap_remove (xs ++ x ∷ []) place d ≡ set xs place x
swap_last xs x d place within =
    let count : length (xs ++ x ∷ []) - 1 ≡ length xs = omega (arith, length_push xs x) in
    rw (count, get_or_push xs x d (length xs) refl, set-append_left xs (x ∷ []) place x within) (take_at (set xs place x) (x ∷ []) (length xs) (length-set xs place x))

position_pushed : {A : Type 0} (test : A → Bool) (xs : List A) (y : A) (place : ℕ) → position_or_len test xs ≡ place → place < length xs → position test (xs ++ y ∷ []) ≡ Some place
position_pushed test xs y place is within =
    let found : position_or_len test (xs ++ y ∷ []) ≡ place =
    position_or_len_push test xs y ∙ ap (λ n. cond (n == length xs) (length xs + cond (test y) 0 1) n) is
    ∙ ap (λ (same : Bool). cond same (length xs + cond (test y) 0 1) place) (unequal place (length xs) (λ same. omega (arith, same, within))) in
    let count : length (xs ++ y ∷ []) ≡ length xs + 1 = length_push xs y in
    rw (found, lt-ltb place (length (xs ++ y ∷ [])) (omega (arith, count, within))) refl

-- the first pair of a name, and its place
record IsAt (old new : List ℕ) (uid : ℕ) (pairs : List (List ℕ × ℕ)) (place : ℕ) : Type 0 where
  first : position_or_len (pointwise ◌==◌ old) (keys_of pairs) ≡ place
  within : place < length pairs
  put : set pairs place (new, uid) ≡ renamed old new pairs

at_place : (old new : List ℕ) (uid : ℕ) (pairs : List (List ℕ × ℕ)) → lookup (pointwise ◌==◌ old) pairs ≡ Some uid → (place : ℕ) × IsAt old new uid pairs place
at_place old new uid [] is = absurd (cc)
at_place old new uid (pair ∷ pairs) is = by (pointwise ◌==◌ old pair.0) refl is (at_place old new uid pairs)
  where
    by : (test : Bool) → pointwise ◌==◌ old pair.0 ≡ test → cond test (Some pair.1) (lookup (pointwise ◌==◌ old) pairs) ≡ Some uid
        → (lookup (pointwise ◌==◌ old) pairs ≡ Some uid → (place : ℕ) × IsAt old new uid pairs place) → (place : ℕ) × IsAt old new uid (pair ∷ pairs) place
    by true same found rest = (
      0,
      record {
        first = ap (λ (test : Bool). cond (not test) (1 + position_or_len (pointwise ◌==◌ old) (keys_of pairs)) 0) same;
        within = omega arith;
        put = ap (λ (n : ℕ). (new, n) ∷ pairs) (sym (ap (λ (o : Option ℕ). unwrap_or o uid) found))
            ∙ sym (ap (λ (test : Bool). cond test ((new, pair.1) ∷ pairs) (pair ∷ renamed old new pairs)) same);
      },
    )
    by false same found rest = (
      suc (rest found).0,
      record {
        first = ap (λ (test : Bool). cond (not test) (1 + position_or_len (pointwise ◌==◌ old) (keys_of pairs)) 0) same ∙ omega (arith, (rest found).1.first);
        within = omega (arith, (rest found).1.within);
        put = ap (λ (others : List (List ℕ × ℕ)). pair ∷ others) (rest found).1.put
            ∙ sym (ap (λ (test : Bool). cond test ((new, pair.1) ∷ pairs) (pair ∷ renamed old new pairs)) same);
      },
    )

-- a new pair, put last, takes the place of the one that is removed
pub swapped : (old new : List ℕ) (uid : ℕ) (pairs : List (List ℕ × ℕ)) → lookup (pointwise ◌==◌ old) pairs ≡ Some uid
    → swap_remove_entry (pointwise ◌==◌ old) (pairs ++ (new, uid) ∷ []) ≡ renamed old new pairs
swapped old new uid [] is = absurd (cc)
swapped old new uid (pair ∷ pairs) is =
    let at = at_place old new uid (pair ∷ pairs) is in
    let keys : keys_of (pair ∷ (pairs ++ (new, uid) ∷ [])) ≡ keys_of (pair ∷ pairs) ++ new ∷ [] = map-append (λ (e : List ℕ × ℕ). e.0) (pair ∷ pairs) ((new, uid) ∷ []) in
    let count : length (keys_of (pair ∷ pairs)) ≡ length (pair ∷ pairs) = length-map (pair ∷ pairs) (λ (e : List ℕ × ℕ). e.0) in
    let place : position (pointwise ◌==◌ old) (keys_of (pair ∷ (pairs ++ (new, uid) ∷ []))) ≡ Some at.0 =
    ap (position (pointwise ◌==◌ old)) keys ∙ position_pushed (pointwise ◌==◌ old) (keys_of (pair ∷ pairs)) new at.0 at.1.first (omega (arith, count, at.1.within)) in
    ap (λ (found : Option ℕ). option_map_or (λ i. swap_remove (pair ∷ (pairs ++ (new, uid) ∷ [])) i pair) found (pair ∷ (pairs ++ (new, uid) ∷ []))) place
    ∙ swap_last (pair ∷ pairs) (new, uid) pair at.0 at.1.within ∙ at.1.put

pub renamed_none : (old new : List ℕ) (pairs : List (List ℕ × ℕ)) → lookup (pointwise ◌==◌ old) pairs ≡ None → renamed old new pairs ≡ pairs
renamed_none old new [] is = refl
renamed_none old new (pair ∷ pairs) is = by (pointwise ◌==◌ old pair.0) is (renamed_none old new pairs)
  where
    by : (test : Bool) → cond test (Some pair.1) (lookup (pointwise ◌==◌ old) pairs) ≡ None → (lookup (pointwise ◌==◌ old) pairs ≡ None → renamed old new pairs ≡ pairs)
        → cond test ((new, pair.1) ∷ pairs) (pair ∷ renamed old new pairs) ≡ pair ∷ pairs
    by true found rest = absurd (cc)
    by false found rest = ap (λ (others : List (List ℕ × ℕ)). pair ∷ others) (rest found)

pub renamed_between : (new : List ℕ) (xs : List (List ℕ × ℕ)) (pair : List ℕ × ℕ) (ys : List (List ℕ × ℕ)) → IsDistinct (pointwise ◌==◌) (keys_of (xs ++ pair ∷ ys))
    → renamed pair.0 new (xs ++ pair ∷ ys) ≡ xs ++ (new, pair.1) ∷ ys
renamed_between new [] pair ys distinct = ap (λ (test : Bool). cond test ((new, pair.1) ∷ ys) (pair ∷ renamed pair.0 new ys)) (nat_list_eq_equiv.refl pair.0)
renamed_between new (x ∷ xs) pair ys distinct =
    ap (λ (test : Bool). cond test ((new, x.1) ∷ (xs ++ pair ∷ ys)) (x ∷ renamed pair.0 new (xs ++ pair ∷ ys)))
    (nat_list_eq_equiv.symm pair.0 x.0 ∙ differs nat_list_eq_equiv x.0 xs pair ys (IsDistinct-head (pointwise ◌==◌) x.0 (keys_of (xs ++ pair ∷ ys)) distinct))
    ∙ ap (λ (rest : List (List ℕ × ℕ)). x ∷ rest) (renamed_between new xs pair ys (IsDistinct-tail (pointwise ◌==◌) x.0 (keys_of (xs ++ pair ∷ ys)) distinct))
