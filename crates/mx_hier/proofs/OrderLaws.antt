-- Names that are kept in byte order: where a name is put among them, and what is left when one is taken out.
use Rattle.std.proofs.Common.{ℕ, zero, suc, ◌≡◌, ◌+◌, ◌<◌, ◌≤◌, ◌++◌, ◌==◌, length, take, drop, get_or, Bool, true, false, cond, List, [], ◌∷◌, Ordering, Less, Equal, Greater, Result, Ok, Err, Option, Some, None, inl, inr, ◌⊎◌, is_lt, true≢false, refl, sym, ap, subst, ◌∙◌, arith, IsSorted}
use Rattle.std.specs.List.{sum_by, Contains}
use Rattle.std.specs.Option.{is_some}
use Rattle.std.specs.Result.{is_ok, IsOk}
use Rattle.std.specs.List.Sorted.{IsNonDecreasingBy, IsBinarySearchResult, IsSearchInRange}
use Rattle.std.specs.Ordering.{nat_cmp, ordering_reverse, ordering_index}
use Rattle.std.specs.Cmp.Lexicographic.{slice_cmp, pointwise, same_text}
use Rattle.std.specs.Map.{keys_of, lookup, remove_entry}
use Rattle.std.proofs.lemmas.Bool.{cases_order}
use Rattle.std.proofs.lemmas.Cmp.{nat_list_cmp_total, tied_itself}
use Rattle.std.proofs.lemmas.List.Sorted.{Contains-permutation}
use Rattle.std.proofs.lemmas.List.Sums.{sum_by-cons}
use Rattle.mx_hier.specs.List.{in_byte_order}
use Rattle.mx_hier.specs.Listed.{renamed}
use Rattle.mx_hier.proofs.SortLaws.{before, same_name, not_turned, Follows, Rises, rises_sorted, rises_is_sorted, rises_in_byte_order, sum_in_byte_order, one_order, reordered, ascending}

-- where b does not come before a, nor c before b, c does not come before a
later : (a b c : List ℕ) → before b a ≡ false → before c b ≡ false → before c a ≡ false
later a b c e f = by (slice_cmp nat_cmp c a) refl (slice_cmp nat_cmp b a) refl e
  where
    by : (o : Ordering) → slice_cmp nat_cmp c a ≡ o → (r : Ordering) → slice_cmp nat_cmp b a ≡ r → is_lt r ≡ false → is_lt o ≡ false
    by Equal is r other h = refl
    by Greater is r other h = refl
    by Less is Less other h = absurd (true≢false h)
    by Less is Equal other h =
        absurd (true≢false (sym (ap is_lt is) ∙ ap (before c) (sym (same_name b a other)) ∙ f))
    by Less is Greater other h =
        absurd (true≢false (sym (ap is_lt (nat_list_cmp_total.trans c a b is (nat_list_cmp_total.antisymm a b ∙ ap ordering_reverse other))) ∙ f))

-- no name of names that rise comes before the one that they follow, nor before an earlier one
never_before : (first : List ℕ) (names : List (List ℕ)) → Follows first names → Rises names → (k : ℕ) (d : List ℕ) → k < length names
    → before (get_or names k d) first ≡ false
never_before first [] follows up k d within = absurd (omega (arith, within))
never_before first (name ∷ names) follows up zero d within = follows
never_before first (name ∷ names) follows up (suc k) d within =
    later first name (get_or names k d) follows (never_before name names up.0 up.1 k d (omega (arith, within)))

never_earlier : (names : List (List ℕ)) → Rises names → (i j : ℕ) (d : List ℕ) → i ≤ j → j < length names
    → before (get_or names j d) (get_or names i d) ≡ false
never_earlier [] up i j d le within = absurd (omega (arith, within))
never_earlier (name ∷ names) up zero zero d le within = ap is_lt (tied_itself nat_list_cmp_total name)
never_earlier (name ∷ names) up zero (suc j) d le within = never_before name names up.0 up.1 j d (omega (arith, within))
never_earlier (name ∷ names) up (suc i) zero d le within = absurd (omega (arith, le))
never_earlier (name ∷ names) up (suc i) (suc j) d le within = never_earlier names up.1 i j d (omega (arith, le)) (omega (arith, within))

-- how names that rise compare with one name never falls, so that a binary search finds its place
rank_rises : (name a b : List ℕ) → before b a ≡ false → ordering_index (slice_cmp nat_cmp a name) ≤ ordering_index (slice_cmp nat_cmp b name)
rank_rises name a b up = by (slice_cmp nat_cmp a name) refl (slice_cmp nat_cmp b name) refl
  where
    by : (r : Ordering) → slice_cmp nat_cmp a name ≡ r → (o : Ordering) → slice_cmp nat_cmp b name ≡ o → ordering_index r ≤ ordering_index o
    by Less is o other = omega arith
    by Equal is Less other =
        absurd (true≢false (sym (ap is_lt other) ∙ ap (before b) (sym (same_name a name is)) ∙ up))
    by Equal is Equal other = omega arith
    by Equal is Greater other = omega arith
    by Greater is Less other =
        absurd (true≢false (sym (ap is_lt (nat_list_cmp_total.trans b name a other (nat_list_cmp_total.antisymm name a ∙ ap ordering_reverse is))) ∙ up))
    by Greater is Equal other =
        absurd (true≢false (sym (ap is_lt (nat_list_cmp_total.antisymm name a ∙ ap ordering_reverse is)) ∙ ap (λ n. before n a) (sym (same_name b name other)) ∙ up))
    by Greater is Greater other = omega arith

ranks_rise : (name : List ℕ) (names : List (List ℕ)) → Rises names → IsNonDecreasingBy (λ other. ordering_index (slice_cmp nat_cmp other name)) names
ranks_rise name names up i j d le within = rank_rises name (get_or names i d) (get_or names j d) (never_earlier names up i j d le within)

-- a name put where none before it is greater and none after it is less
rises_put : (name : List ℕ) (i : ℕ) (names : List (List ℕ)) → Rises names
    → ((k : ℕ) (d : List ℕ) → k < i → k < length names → before name (get_or names k d) ≡ false)
    → ((k : ℕ) (d : List ℕ) → i ≤ k → k < length names → before (get_or names k d) name ≡ false)
    → Rises (take i names ++ name ∷ drop i names)
rises_put name zero [] up front back = (tt, tt)
rises_put name zero (next ∷ names) up front back = (back 0 next (omega arith) (omega arith), up)
rises_put name (suc i) [] up front back = (tt, tt)
rises_put name (suc i) (next ∷ names) up front back =
    (follows i names up.0, rises_put name i names up.1 (λ k d p q. front (suc k) d (omega (arith, p)) (omega (arith, q))) (λ k d p q. back (suc k) d (omega (arith, p)) (omega (arith, q))))
  where
    follows : (i : ℕ) (names : List (List ℕ)) → Follows next names → Follows next (take i names ++ name ∷ drop i names)
    follows zero names old = front 0 next (omega arith) (omega arith)
    follows (suc i) [] old = front 0 next (omega arith) (omega arith)
    follows (suc i) (other ∷ others) old = old

rises_without : (i : ℕ) (names : List (List ℕ)) → Rises names → Rises (take i names ++ drop (suc i) names)
rises_without zero [] up = tt
rises_without zero (name ∷ names) up = up.1
rises_without (suc i) [] up = tt
rises_without (suc i) (name ∷ names) up = (follows i names up.0 up.1, rises_without i names up.1)
  where
    follows : (i : ℕ) (names : List (List ℕ)) → Follows name names → Rises names → Follows name (take i names ++ drop (suc i) names)
    follows zero [] old up = tt
    follows zero (other ∷ []) old up = tt
    follows zero (other ∷ next ∷ others) old up = later name other next old up.0
    follows (suc i) [] old up = tt
    follows (suc i) (other ∷ others) old up = old

-- the places that a binary search tells
abbrev pub place_in : Result ℕ ℕ → ℕ
place_in (Ok i) = i
place_in (Err i) = i

not_before : (a b : List ℕ) → slice_cmp nat_cmp a b ≡ Less → before b a ≡ false
not_before a b less = not_turned a b (ap is_lt less)

pub put_sorted : (name : List ℕ) (names : List (List ℕ)) (r : Result ℕ ℕ) → IsSorted (slice_cmp nat_cmp) names
    → IsSearchInRange r (length names) → IsBinarySearchResult (λ other. slice_cmp nat_cmp other name) names r
    → IsSorted (slice_cmp nat_cmp) (take (place_in r) names ++ name ∷ drop (place_in r) names)
put_sorted name names (Ok i) sorted within found =
    let up = rises_sorted names sorted in
    let same = λ (d : List ℕ). same_name (get_or names i d) name (found d) in
    rises_is_sorted (take i names ++ name ∷ drop i names)
    (rises_put name i names up
    (λ k d p q. ap (λ n. before n (get_or names k d)) (sym (same d)) ∙ never_earlier names up k i d (omega (arith, p)) within)
    (λ k d p q. ap (before (get_or names k d)) (sym (same d)) ∙ never_earlier names up i k d p q))
put_sorted name names (Err i) sorted within found =
    let up = rises_sorted names sorted in
    let parted = found (ranks_rise name names up) in
    rises_is_sorted (take i names ++ name ∷ drop i names)
    (rises_put name i names up
    (λ k d p q. not_before (get_or names k d) name (parted.0 k d (omega arith) p))
    (λ k d p q. ap is_lt (parted.1 k d p q)))

pub left_sorted : (i : ℕ) (names : List (List ℕ)) → IsSorted (slice_cmp nat_cmp) names → IsSorted (slice_cmp nat_cmp) (take i names ++ drop (suc i) names)
left_sorted i names sorted = rises_is_sorted (take i names ++ drop (suc i) names) (rises_without i names (rises_sorted names sorted))

pub inserted : {A E : Type 0} {new more : List (List ℕ)} (old : List (List ℕ)) (r : Result A E) → new ≡ cond (is_ok r) more old → IsOk r → new ≡ more
inserted old (Ok done) e ok = e
inserted old (Err why) e ok = absurd (cc)

-- a name that is there is found
unlike : (name other : List ℕ) (o : Ordering) → other ≡ name → slice_cmp nat_cmp other name ≡ o → (o ≡ Equal → ⊥) → ⊥
unlike name other o same is differs =
    differs (sym is ∙ ap (λ n. slice_cmp nat_cmp n name) same ∙ tied_itself nat_list_cmp_total name)

pub found_there : (name : List ℕ) (names : List (List ℕ)) (i : ℕ) → IsSorted (slice_cmp nat_cmp) names
    → IsBinarySearchResult (λ other. slice_cmp nat_cmp other name) names (Err i) → Contains names name → ⊥
found_there name names i sorted found there = by (cases_order there.0 i)
  where
    parted : (k : ℕ) → (k < i → slice_cmp nat_cmp (get_or names k name) name ≡ Less) × (i ≤ k → k < length names → slice_cmp nat_cmp (get_or names k name) name ≡ Greater)
    parted k =
        let both = found (ranks_rise name names (rises_sorted names sorted)) in
        (λ p. both.0 k name (omega arith) p, λ p q. both.1 k name p q)

    at : List ℕ
    at = get_or names there.0 name

    by : (there.0 ≡ i) ⊎ ((there.0 < i) ⊎ (i < there.0)) → ⊥
    by (inl same) = unlike name at Greater there.2 ((parted there.0).1 (omega (arith, same)) there.1) (λ e. absurd (cc))
    by (inr (inl below)) = unlike name at Less there.2 ((parted there.0).0 below) (λ e. absurd (cc))
    by (inr (inr above)) = unlike name at Greater there.2 ((parted there.0).1 (omega (arith, above)) there.1) (λ e. absurd (cc))

some_is : (o : Option ℕ) → is_some o ≡ true → (uid : ℕ) × (o ≡ Some uid)
some_is None e = absurd (cc)
some_is (Some uid) e = (uid, refl)

-- a name that has a uid is among the names in byte order
key_there : (name : List ℕ) (pairs : List (List ℕ × ℕ)) (uid : ℕ) → lookup (pointwise ◌==◌ name) pairs ≡ Some uid → Contains (keys_of pairs) name
key_there name [] uid e = absurd (cc)
key_there name (pair ∷ pairs) uid e = by (pointwise ◌==◌ name pair.0) refl e (key_there name pairs uid)
  where
    by : (test : Bool) → pointwise ◌==◌ name pair.0 ≡ test → cond test (Some pair.1) (lookup (pointwise ◌==◌ name) pairs) ≡ Some uid
        → (lookup (pointwise ◌==◌ name) pairs ≡ Some uid → Contains (keys_of pairs) name) → Contains (pair.0 ∷ keys_of pairs) name
    by true is e more = (0, omega arith, sym (same_text name pair.0 (sym is)))
    by false is e more = let later = more e in (suc later.0, omega (arith, later.1), later.2)

pub there_in_order : (name : List ℕ) (pairs : List (List ℕ × ℕ)) (uid : ℕ) → lookup (pointwise ◌==◌ name) pairs ≡ Some uid
    → Contains (in_byte_order (keys_of pairs)) name
there_in_order name pairs uid e =
    Contains-permutation (keys_of pairs) (in_byte_order (keys_of pairs)) name (reordered (keys_of pairs)) (key_there name pairs uid e)

-- names in byte order are those that hold the same names
pub kept_order : (names sorted : List (List ℕ)) → ((f : List ℕ → ℕ) → sum_by f sorted ≡ sum_by f names) → IsSorted (slice_cmp nat_cmp) sorted
    → sorted ≡ in_byte_order names
kept_order names sorted same up =
    one_order sorted (in_byte_order names) (rises_sorted sorted up) (rises_in_byte_order names) (λ f. same f ∙ sym (sum_in_byte_order f names))

-- sums over names: with one more, without one, and with another in its place
module _ (f : List ℕ → ℕ) where
  pub sum_put : (name : List ℕ) (i : ℕ) (names : List (List ℕ)) → sum_by f (take i names ++ name ∷ drop i names) ≡ f name + sum_by f names
  sum_put name zero names = sum_by-cons f name names
  sum_put name (suc i) [] = sum_by-cons f name []
  sum_put name (suc i) (next ∷ names) =
      omega (arith, sum_by-cons f next (take i names ++ name ∷ drop i names), sum_put name i names, sum_by-cons f next names)

  pub sum_left : (i : ℕ) (names : List (List ℕ)) (d : List ℕ) → i < length names → sum_by f names ≡ f (get_or names i d) + sum_by f (take i names ++ drop (suc i) names)
  sum_left i [] d within = absurd (omega (arith, within))
  sum_left zero (name ∷ names) d within = sum_by-cons f name names
  sum_left (suc i) (name ∷ names) d within =
      omega (arith, sum_by-cons f name names, sum_left i names d (omega (arith, within)), sum_by-cons f name (take i names ++ drop (suc i) names))

  -- what is left where the name that a search found is taken out
  pub taken_out : (name : List ℕ) (i : ℕ) (names : List (List ℕ)) → i < length names → get_or names i name ≡ name
      → sum_by f names ≡ f name + sum_by f (take i names ++ drop (suc i) names)
  taken_out name i names within is = let same = ap f is in omega (arith, same, sum_left i names name within)

  pub sum_last : (pairs : List (List ℕ × ℕ)) (name : List ℕ) (uid : ℕ) → sum_by f (keys_of (pairs ++ (name, uid) ∷ [])) ≡ f name + sum_by f (keys_of pairs)
  sum_last [] name uid = sum_by-cons f name []
  sum_last (pair ∷ pairs) name uid =
      omega (arith, sum_by-cons f pair.0 (keys_of (pairs ++ (name, uid) ∷ [])), sum_last pairs name uid, sum_by-cons f pair.0 (keys_of pairs))

  pub sum_removed : (name : List ℕ) (pairs : List (List ℕ × ℕ)) (uid : ℕ) → lookup (pointwise ◌==◌ name) pairs ≡ Some uid
      → sum_by f (keys_of pairs) ≡ f name + sum_by f (keys_of (remove_entry (pointwise ◌==◌ name) pairs))
  sum_removed name [] uid e = absurd (cc)
  sum_removed name (pair ∷ pairs) uid e = by (pointwise ◌==◌ name pair.0) refl e (sum_removed name pairs uid)
    where
      by : (test : Bool) → pointwise ◌==◌ name pair.0 ≡ test → cond test (Some pair.1) (lookup (pointwise ◌==◌ name) pairs) ≡ Some uid
          → (lookup (pointwise ◌==◌ name) pairs ≡ Some uid → sum_by f (keys_of pairs) ≡ f name + sum_by f (keys_of (remove_entry (pointwise ◌==◌ name) pairs)))
          → sum_by f (keys_of (pair ∷ pairs)) ≡ f name + sum_by f (keys_of (cond test pairs (pair ∷ remove_entry (pointwise ◌==◌ name) pairs)))
      by true is e more = let same = ap f (same_text name pair.0 (sym is)) in omega (arith, same, sum_by-cons f pair.0 (keys_of pairs))
      by false is e more =
          omega (arith, more e, sum_by-cons f pair.0 (keys_of pairs), sum_by-cons f pair.0 (keys_of (remove_entry (pointwise ◌==◌ name) pairs)))

  pub sum_renamed : (old new : List ℕ) (pairs : List (List ℕ × ℕ)) (uid : ℕ) → lookup (pointwise ◌==◌ old) pairs ≡ Some uid
      → f old + sum_by f (keys_of (renamed old new pairs)) ≡ f new + sum_by f (keys_of pairs)
  sum_renamed old new [] uid e = absurd (cc)
  sum_renamed old new (pair ∷ pairs) uid e = by (pointwise ◌==◌ old pair.0) refl e (sum_renamed old new pairs uid)
    where
      by : (test : Bool) → pointwise ◌==◌ old pair.0 ≡ test → cond test (Some pair.1) (lookup (pointwise ◌==◌ old) pairs) ≡ Some uid
          → (lookup (pointwise ◌==◌ old) pairs ≡ Some uid → f old + sum_by f (keys_of (renamed old new pairs)) ≡ f new + sum_by f (keys_of pairs))
          → f old + sum_by f (keys_of (cond test ((new, pair.1) ∷ pairs) (pair ∷ renamed old new pairs))) ≡ f new + sum_by f (keys_of (pair ∷ pairs))
      by true is e more =
          let same = ap f (same_text old pair.0 (sym is)) in
          omega (arith, same, sum_by-cons f pair.0 (keys_of pairs), sum_by-cons f new (keys_of pairs))
      by false is e more =
          omega (arith, more e, sum_by-cons f pair.0 (keys_of pairs), sum_by-cons f pair.0 (keys_of (renamed old new pairs)))

-- the names in byte order stay those of the entries: after one more, without one, and with another in its place
pub put_kept : (name : List ℕ) (uid : ℕ) (pairs new : List (List ℕ × ℕ)) (sorted put : List (List ℕ)) → sorted ≡ in_byte_order (keys_of pairs)
    → new ≡ pairs ++ (name, uid) ∷ [] → IsSorted (slice_cmp nat_cmp) put → ((f : List ℕ → ℕ) → sum_by f put ≡ f name + sum_by f sorted)
    → put ≡ in_byte_order (keys_of new)
put_kept name uid pairs new sorted put kept is up sums =
    kept_order (keys_of new) put
    (λ f. omega (arith, sums f, ap (sum_by f) kept, sum_in_byte_order f (keys_of pairs), ap (λ ps. sum_by f (keys_of ps)) is, sum_last f pairs name uid)) up

pub removed_kept : (name : List ℕ) (pairs new : List (List ℕ × ℕ)) (sorted left : List (List ℕ)) → sorted ≡ in_byte_order (keys_of pairs)
    → is_some (lookup (pointwise ◌==◌ name) pairs) ≡ true → new ≡ remove_entry (pointwise ◌==◌ name) pairs → IsSorted (slice_cmp nat_cmp) left
    → ((f : List ℕ → ℕ) → sum_by f sorted ≡ f name + sum_by f left) → left ≡ in_byte_order (keys_of new)
removed_kept name pairs new sorted left kept there is up sums =
    let uid = some_is (lookup (pointwise ◌==◌ name) pairs) there in
    kept_order (keys_of new) left
    (λ f. omega (arith, sums f, ap (sum_by f) kept, sum_in_byte_order f (keys_of pairs), ap (λ ps. sum_by f (keys_of ps)) is, sum_removed f name pairs uid.0 uid.1)) up

pub renamed_kept : (old new : List ℕ) (uid : ℕ) (pairs after : List (List ℕ × ℕ)) (sorted left put : List (List ℕ)) → sorted ≡ in_byte_order (keys_of pairs)
    → lookup (pointwise ◌==◌ old) pairs ≡ Some uid → after ≡ renamed old new pairs → IsSorted (slice_cmp nat_cmp) put
    → ((f : List ℕ → ℕ) → sum_by f sorted ≡ f old + sum_by f left) → ((f : List ℕ → ℕ) → sum_by f put ≡ f new + sum_by f left)
    → put ≡ in_byte_order (keys_of after)
renamed_kept old new uid pairs after sorted left put kept there is up without_old with_new =
    kept_order (keys_of after) put
    (λ f. omega (arith, without_old f, with_new f, ap (sum_by f) kept, sum_in_byte_order f (keys_of pairs), ap (λ ps. sum_by f (keys_of ps)) is, sum_renamed f old new pairs uid there)) up

-- such names are sorted, and have each name that has a uid
pub kept_sorted : (pairs : List (List ℕ × ℕ)) (sorted : List (List ℕ)) → sorted ≡ in_byte_order (keys_of pairs) → IsSorted (slice_cmp nat_cmp) sorted
kept_sorted pairs sorted kept = subst (IsSorted (slice_cmp nat_cmp)) (sym kept) (ascending (keys_of pairs))

pub kept_there : (name : List ℕ) (pairs : List (List ℕ × ℕ)) (sorted : List (List ℕ)) → sorted ≡ in_byte_order (keys_of pairs)
    → is_some (lookup (pointwise ◌==◌ name) pairs) ≡ true → Contains sorted name
kept_there name pairs sorted kept there =
    let uid = some_is (lookup (pointwise ◌==◌ name) pairs) there in
    subst (λ names. Contains names name) (sym kept) (there_in_order name pairs uid.0 uid.1)
