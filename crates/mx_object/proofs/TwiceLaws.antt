-- The names that were seen so far, and whether one of those that are left is among them or stands twice.
use Rattle.std.proofs.Common.{ℕ, ◌≡◌, Bool, true, false, ◌||◌, List, [], ◌∷◌, ◌++◌, drop, get_or, length, ◌+◌, ◌<◌, not, cond, Bor, refl, ap, sym, ◌∙◌}
use Rattle.std.specs.Cmp.{nat_eq_equiv}
use Rattle.std.specs.Cmp.Lexicographic.{lists_equiv}
use Rattle.std.specs.List.{list_any}
use Rattle.std.proofs.lemmas.List.{at_drop_more}
use Rattle.mx_name.specs.Names.{same_name}
use Rattle.mx_object.specs.Objects.{symbols_of, has_twice}

abbrev pub is_seen : List (Bor (List ℕ)) → List ℕ → Bool
is_seen seen name = list_any (λ k. same_name name k.now) seen

abbrev pub twice_after : List (Bor (List ℕ)) → List (List ℕ × ℕ) → Bool
twice_after seen definitions = list_any (λ d. is_seen seen d.0) definitions || has_twice (symbols_of definitions)

none_seen : (definitions : List (List ℕ × ℕ)) → list_any (λ d. is_seen [] d.0) definitions ≡ false
none_seen [] = refl
none_seen (d ∷ ds) = none_seen ds

pub at_first : (definitions : List (List ℕ × ℕ)) → twice_after [] definitions ≡ has_twice (symbols_of definitions)
at_first definitions = rw (none_seen definitions) refl

same_flips : (x y : List ℕ) → same_name x y ≡ same_name y x
same_flips x y = (lists_equiv nat_eq_equiv).symm x y

or_false : (a : Bool) → (a || false) ≡ a
or_false true = refl
or_false false = refl

or_assoc : (a b c : Bool) → ((a || b) || c) ≡ (a || (b || c))
or_assoc true b c = refl
or_assoc false b c = refl

or_pairs : (a b c d : Bool) → ((a || b) || (c || d)) ≡ ((a || c) || (b || d))
or_pairs true b c d = refl
or_pairs false true true d = refl
or_pairs false true false d = refl
or_pairs false false c d = refl

seen_more : (seen : List (Bor (List ℕ))) (k : Bor (List ℕ)) (name : List ℕ) → is_seen (seen ++ k ∷ []) name ≡ (is_seen seen name || same_name k.now name)
seen_more [] k name = or_false (same_name name k.now) ∙ same_flips name k.now
seen_more (s ∷ ss) k name =
    ap (λ (b : Bool). same_name name s.now || b) (seen_more ss k name) ∙ sym (or_assoc (same_name name s.now) (is_seen ss name) (same_name k.now name))

any_more : (seen : List (Bor (List ℕ))) (k : Bor (List ℕ)) (ds : List (List ℕ × ℕ))
    → list_any (λ d. is_seen (seen ++ k ∷ []) d.0) ds ≡ (list_any (λ d. is_seen seen d.0) ds || list_any (same_name k.now) (symbols_of ds))
any_more seen k [] = refl
any_more seen k (d ∷ ds) =
    ap (λ (b : Bool). b || list_any (λ (e : List ℕ × ℕ). is_seen (seen ++ k ∷ []) e.0) ds) (seen_more seen k d.0)
    ∙ ap (λ (b : Bool). (is_seen seen d.0 || same_name k.now d.0) || b) (any_more seen k ds)
    ∙ or_pairs (is_seen seen d.0) (same_name k.now d.0) (list_any (λ (e : List ℕ × ℕ). is_seen seen e.0) ds) (list_any (same_name k.now) (symbols_of ds))

-- a new name joins those that were seen
pub one_more : (seen : List (Bor (List ℕ))) (k : Bor (List ℕ)) (word : ℕ) (ds : List (List ℕ × ℕ)) → is_seen seen k.now ≡ false
    → twice_after (seen ++ k ∷ []) ds ≡ twice_after seen ((k.now, word) ∷ ds)
one_more seen k word ds fresh =
    rw fresh
    (ap (λ (b : Bool). b || has_twice (symbols_of ds)) (any_more seen k ds)
    ∙ or_assoc (list_any (λ (d : List ℕ × ℕ). is_seen seen d.0) ds) (list_any (same_name k.now) (symbols_of ds)) (has_twice (symbols_of ds)))

absent : (b : Bool) → not b ≡ true → b ≡ false
absent true e = cc
absent false e = refl

-- a step of the search for a name that stands twice: the name at a place is new
pub step : (seen new : List (Bor (List ℕ))) (k : Bor (List ℕ)) (added whole : Bool) (xs : List (List ℕ × ℕ)) (i : ℕ) (item : List ℕ × ℕ)
    → i < length xs → item ≡ get_or xs i item → k.now ≡ item.0 → added ≡ not (is_seen seen k.now) → added ≡ true
    → new ≡ cond (is_seen seen k.now) seen (seen ++ k ∷ []) → twice_after seen (drop i xs) ≡ whole → twice_after new (drop (i + 1) xs) ≡ whole
step seen new k added whole xs i item within at name is first keys before =
    let fresh : is_seen seen k.now ≡ false = absent (is_seen seen k.now) (sym is ∙ first) in
    let all : twice_after seen (drop i xs) ≡ twice_after seen ((k.now, item.1) ∷ drop (i + 1) xs) =
    at_drop_more (twice_after seen) xs i item within ∙ ap (λ (d : List ℕ × ℕ). twice_after seen (d ∷ drop (i + 1) xs)) (sym at)
    ∙ ap (λ (n : List ℕ). twice_after seen ((n, item.1) ∷ drop (i + 1) xs)) (sym name) in
    rw keys (rw fresh (one_more seen k item.1 (drop (i + 1) xs) fresh ∙ sym all ∙ before))
