-- Laws on lists that are put together number by number.
use Rattle.std.proofs.Common.{◌≡◌, ℕ, zero, suc, ◌+◌, ◌*◌, ◌-◌, ◌<◌, ◌≤◌, Bool, true, List, [], ◌∷◌, ◌++◌, map, length, refl, ap, sym, ◌∙◌, arith, add-one, append-nil, append_assoc, length-append}
use Rattle.std.specs.Prelude.{◌&&◌}
use Rattle.std.specs.List.{flat_map, range_with_len, list_all}
use Rattle.std.proofs.lemmas.List.Concat.{flat_map-cons}
use Rattle.std.proofs.lemmas.List.Folds.{list_all-append}
use Rattle.std.proofs.lemmas.List.FromFn.{map-range_with_len_more}
use Rattle.std.proofs.lemmas.Grind.{flat_map-append}

-- one number more
range_suc : (a n : ℕ) → range_with_len a (suc n) ≡ range_with_len a n ++ (a + n) ∷ []
range_suc a zero = ap (λ (x : ℕ). x ∷ []) (omega arith)
range_suc a (suc n) =
    let e : a + 1 + n ≡ a + suc n = omega arith in
    ap (λ (xs : List ℕ). a ∷ xs) (range_suc (a + 1) n ∙ ap (λ (x : ℕ). range_with_len (a + 1) n ++ x ∷ []) e)

pub pieces_more : {X : Type 0} (f : ℕ → List X) (a n j : ℕ) → a + n ≡ j
    → flat_map f (range_with_len a (n + 1)) ≡ flat_map f (range_with_len a n) ++ f j
pieces_more f a n j e =
    ap (λ xs. flat_map f xs) (ap (λ m. range_with_len a m) (add-one n) ∙ range_suc a n)
    ∙ (flat_map-append f (range_with_len a n) ((a + n) ∷ [])
    ∙ ap (λ xs. flat_map f (range_with_len a n) ++ xs) (flat_map-cons f (a + n) [] ∙ (append-nil (f (a + n)) ∙ ap f e)))

both : {x y : Bool} → x ≡ true → y ≡ true → (x && y) ≡ true
both h k = rw (h, k) refl

-- what is true of each piece is true of all of them
pub all_pieces : {X : Type 0} (p : X → Bool) (f : ℕ → List X) (a n : ℕ)
    → ((i : ℕ) → a ≤ i → i < a + n → list_all p (f i) ≡ true) → list_all p (flat_map f (range_with_len a n)) ≡ true
all_pieces p f a zero each = refl
all_pieces p f a (suc n) each =
    rw (flat_map-cons f a (range_with_len (a + 1) n), list_all-append p (f a) (flat_map f (range_with_len (a + 1) n)))
    (both (each a (omega arith) (omega arith)) (all_pieces p f (a + 1) n (λ i low high. each i (omega arith) (omega arith))))

pub all_mapped : {X : Type 0} (p : X → Bool) (f : ℕ → X) (a n : ℕ) → ((i : ℕ) → a ≤ i → i < a + n → p (f i) ≡ true)
    → list_all p (map f (range_with_len a n)) ≡ true
all_mapped p f a zero each = refl
all_mapped p f a (suc n) each =
    both (each a (omega arith) (omega arith)) (all_mapped p f (a + 1) n (λ i low high. each i (omega arith) (omega arith)))

-- pieces of at most two items each
pub pieces_length : {X : Type 0} (f : ℕ → List X) (a n : ℕ) → ((i : ℕ) → length (f i) ≤ 2)
    → length (flat_map f (range_with_len a n)) ≤ 2 * n
pieces_length f a zero each = omega arith
pieces_length f a (suc n) each =
    let rest : List _ = flat_map f (range_with_len (a + 1) n) in
    let e : length (flat_map f (range_with_len a (suc n))) ≡ length (f a) + length rest
    = ap length (flat_map-cons f a (range_with_len (a + 1) n)) ∙ length-append (f a) rest in
    let h : length rest ≤ 2 * n = pieces_length f (a + 1) n each in
    omega (arith, each a)

-- A loop from 1 on puts a list together, piece by piece,
pub piece_added : {X : Type 0} (f : ℕ → List X) (s : ℕ) (start old new : List X) → 1 ≤ s → old ≡ start ++ flat_map f (range_with_len 1 (s - 1))
    → new ≡ old ++ f s → new ≡ start ++ flat_map f (range_with_len 1 (s + 1 - 1))
piece_added f s start old new some before added =
    let e : s - 1 + 1 ≡ s + 1 - 1 = omega arith in
    let more : flat_map f (range_with_len 1 (s + 1 - 1)) ≡ flat_map f (range_with_len 1 (s - 1)) ++ f s =
    ap (λ n. flat_map f (range_with_len 1 n)) (sym e) ∙ pieces_more f 1 (s - 1) s (omega arith) in
    added ∙ (ap (λ xs. xs ++ f s) before
    ∙ (append_assoc start (flat_map f (range_with_len 1 (s - 1))) (f s) ∙ ap (λ xs. start ++ xs) (sym more)))

-- or item by item.
pub item_added : {X : Type 0} (f : ℕ → X) (s : ℕ) (old new : List X) → 1 ≤ s → old ≡ map f (range_with_len 1 (s - 1)) → new ≡ old ++ f s ∷ []
    → new ≡ map f (range_with_len 1 (s + 1 - 1))
item_added f s old new some before added =
    let e : s - 1 + 1 ≡ s + 1 - 1 = omega arith in
    added ∙ (ap (λ xs. xs ++ f s ∷ []) before
    ∙ (sym (map-range_with_len_more f 1 (s - 1) s (omega arith)) ∙ ap (λ n. map f (range_with_len 1 n)) e))
