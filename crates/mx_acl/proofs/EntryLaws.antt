-- Entries in the strict order of their keys, as a map with this order and this equality of keys keeps them.
use Rattle.std.proofs.Common.{ℕ, zero, suc, ◌≡◌, ◌+◌, ◌<◌, Bool, true, false, cond, not, ◌&&◌, List, [], ◌∷◌, length, get_or, Some, refl, ap, sym, ◌∙◌, arith}
use Rattle.std.specs.Prelude.{T}
use Rattle.std.specs.Ordering.{is_lt, is_eq, ordering_reverse, eq_by_cmp}
use Rattle.std.specs.Cmp.{IsTotalOrder}
use Rattle.std.specs.declared.cmp.Ordering.{Ordering}
use Rattle.std.specs.declared.cmp.Ordering.TheVariants.{Less, Equal, Greater}
use Rattle.std.specs.List.{IsDistinct, AllByRecursion}
use Rattle.std.specs.List.Sorted.{IsSorted}
use Rattle.std.specs.Map.{keys_of, lookup, remove_entry}
use Rattle.std.specs.FinMap.Entries.{put, find, where_key, is_sorted, below_all, is_sorted-put, find-put, same_entries}
use Rattle.std.proofs.lemmas.Cmp.{eq_by_cmp_equiv}
use Rattle.std.proofs.lemmas.List.Sorted.{sorted_far, ranks_by}
use Rattle.std.proofs.lemmas.Map.Keys.{IsDistinct-head, IsDistinct-tail}

both : (a b : Bool) → T a → T b → T (a && b)
both true b p q = q
both false b p q = p

pub first : (a b : Bool) → T (a && b) → T a
first true b p = tt
first false b p = p

pub second : (a b : Bool) → T (a && b) → T b
second true b p = p
second false b p = absurd p

less_of : (r s : Ordering) → r ≡ ordering_reverse s → is_eq r ≡ false → is_lt s ≡ false → T (is_lt r)
less_of Less s e f g = tt
less_of Equal s e f g = absurd (cc)
less_of Greater Less e f g = absurd (cc)
less_of Greater Equal e f g = absurd (cc)
less_of Greater Greater e f g = absurd (cc)

not_less : (r s : Ordering) → s ≡ ordering_reverse r → T (is_lt r) → is_lt s ≡ false
not_less Less s e t = rw e refl
not_less Equal s e t = absurd t
not_less Greater s e t = absurd t

not_equal : (r : Ordering) → T (is_lt r) → is_eq r ≡ false
not_equal Less t = refl
not_equal Equal t = absurd t
not_equal Greater t = absurd t

module _ {K X : Type 0} (R : K → K → Ordering) (eq : K → K → Bool) (o : IsTotalOrder R) (ties : (x y : K) → eq x y ≡ eq_by_cmp R x y) where
  pub lookup_is_find : (q : K) (es : List (K × X)) → lookup (eq q) es ≡ find R q es
  lookup_is_find q [] = refl
  lookup_is_find q (e ∷ es) =
      ap (λ (b : Bool). cond b (Some e.1) (lookup (eq q) es)) (ties q e.0) ∙ ap (cond (eq_by_cmp R q e.0) (Some e.1)) (lookup_is_find q es)

  below_rest : (k : K) (es : List (K × X)) → AllByRecursion (λ y. eq k y ≡ false) (keys_of es)
      → ((j : ℕ) (d : K) → j < length (keys_of es) → is_lt (R (get_or (keys_of es) j d) k) ≡ false) → T (below_all R k es)
  below_rest k [] apart far = tt
  below_rest k (e ∷ es) apart far =
      both (is_lt (R k e.0)) (below_all R k es) (less_of (R k e.0) (R e.0 k) (o.antisymm k e.0) (sym (ties k e.0) ∙ apart.0) (far 0 k (omega arith)))
      (below_rest k es apart.1 (λ j d lt. far (suc j) d (omega arith)))

  -- keys in order, none twice, rise strictly
  pub strict : (es : List (K × X)) → IsSorted R (keys_of es) → IsDistinct eq (keys_of es) → T (is_sorted R es)
  strict [] up apart = tt
  strict (e ∷ es) up apart =
      both (below_all R e.0 es) (is_sorted R es)
      (below_rest e.0 es (IsDistinct-head eq e.0 (keys_of es) apart)
      (λ j d lt. sorted_far (λ x y. is_lt (R x y)) (ranks_by o (λ x. x)) (e.0 ∷ keys_of es) up 0 (suc j) d (omega arith) (omega arith)))
      (strict es (λ k d low high. let more : suc k + 1 ≡ suc (k + 1) = omega arith in rw more at (up (suc k) d (omega arith) (omega arith))) (IsDistinct-tail eq e.0 (keys_of es) apart))

  -- keys that rise strictly are in order
  pub rising : (es : List (K × X)) → T (is_sorted R es) → IsSorted R (keys_of es)
  rising [] t k d low high = absurd (omega arith)
  rising (e ∷ []) t k d low high = absurd (omega arith)
  rising (e ∷ f ∷ es) t zero d low high =
      not_less (R e.0 f.0) (R f.0 e.0) (o.antisymm f.0 e.0) (first (is_lt (R e.0 f.0)) (below_all R e.0 es) (first (below_all R e.0 (f ∷ es)) (is_sorted R (f ∷ es)) t))
  rising (e ∷ f ∷ es) t (suc k) d low high =
      let more : suc k + 1 ≡ suc (k + 1) = omega arith in
      rw more (rising (f ∷ es) (second (below_all R e.0 (f ∷ es)) (is_sorted R (f ∷ es)) t) k d (omega arith) (omega arith))

  -- a new value at a key, where the keys stay in order
  pub put_is : ((x y : K) → R x y ≡ Equal → x ≡ y) → (old new : List (K × X)) (key : K) (value : X) → T (is_sorted R old) → T (is_sorted R new)
      → ((q : K) → lookup (eq q) new ≡ cond (eq key q) (Some value) (lookup (eq q) old)) → new ≡ put R key value old
  put_is same old new key value t u updated =
      same_entries R o same new (put R key value old) u (is_sorted-put R o key value old t)
      (λ q. sym (lookup_is_find q new) ∙ updated q ∙ ap (λ (b : Bool). cond b (Some value) (lookup (eq q) old)) (ties key q ∙ (eq_by_cmp_equiv o).symm key q)
      ∙ ap (cond (eq_by_cmp R q key) (Some value)) (lookup_is_find q old) ∙ sym (find-put R o q key value old))

  all_kept : (q k : K) (es : List (K × X)) → R q k ≡ Equal → T (below_all R k es) → es ≡ where_key R (λ x. not (eq_by_cmp R q x)) es
  all_kept q k [] tied below = refl
  all_kept q k (e ∷ es) tied below =
      let apart : eq_by_cmp R q e.0 ≡ false = ap is_eq (o.congr q k e.0 tied) ∙ not_equal (R k e.0) (first (is_lt (R k e.0)) (below_all R k es) below) in
      rw apart (ap (λ (rest : List (K × X)). e ∷ rest) (all_kept q k es tied (second (is_lt (R k e.0)) (below_all R k es) below)))

  -- without the entry of a key
  pub removed_is : (q : K) (es : List (K × X)) → T (is_sorted R es) → remove_entry (eq q) es ≡ where_key R (λ x. not (eq_by_cmp R q x)) es
  removed_is q [] t = refl
  removed_is q (e ∷ es) t =
      ap (λ (b : Bool). cond b es (e ∷ remove_entry (eq q) es)) (ties q e.0) ∙ by_test (R q e.0) refl (removed_is q es (second (below_all R e.0 es) (is_sorted R es) t))
    where
      by_test : (r : Ordering) → R q e.0 ≡ r → remove_entry (eq q) es ≡ where_key R (λ x. not (eq_by_cmp R q x)) es
          → cond (is_eq r) es (e ∷ remove_entry (eq q) es) ≡ cond (not (is_eq r)) (e ∷ where_key R (λ x. not (eq_by_cmp R q x)) es) (where_key R (λ x. not (eq_by_cmp R q x)) es)
      by_test Less f ih = ap (λ (rest : List (K × X)). e ∷ rest) ih
      by_test Equal f ih = all_kept q e.0 es f (first (below_all R e.0 es) (is_sorted R es) t)
      by_test Greater f ih = ap (λ (rest : List (K × X)). e ∷ rest) ih
