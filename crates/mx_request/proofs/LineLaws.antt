-- Laws of lines: a line of fields without blanks has those fields alone.
use Rattle.std.proofs.Common.{◌≡◌, ℕ, ◌≤◌, true, List, [], ◌∷◌, ◌++◌, length, Option, Some, None, refl, ap, sym, ◌∙◌, subst, arith}
use Rattle.std.specs.List.{list_all}
use Rattle.mx_name.proofs.CutLaws.{cut_again}
use Rattle.mx_name.specs.Cuts.{cut_at}
use Rattle.mx_name.specs.Names.{is_free}
use Rattle.mx_request.proofs.RuleLaws.{cut_none}
use Rattle.mx_request.proofs.StepLaws.{both, some_is}
use Rattle.mx_request.specs.Fields.{line_of}

-- two fronts without the byte, each with the byte behind it
pub same_cut : (byte : ℕ) (x y s t : List ℕ) → is_free byte x ≡ true → is_free byte y ≡ true → x ++ byte ∷ s ≡ y ++ byte ∷ t
    → (x ≡ y) × (s ≡ t)
same_cut byte x y s t a b e =
    let P : List ℕ × List ℕ → List ℕ × List ℕ → Type 0 = λ p q. (p.0 ≡ q.0) × (p.1 ≡ q.1) in
    let one : (x, s) ≡ (y, t) = some_is _ _ (sym (cut_again byte x s a) ∙ ap (cut_at byte) e ∙ cut_again byte y t b) in
    subst (P (x, s)) one (refl, refl)

-- a text without the byte is none that has it
pub not_cut : (byte : ℕ) (x y rest : List ℕ) → is_free byte x ≡ true → is_free byte y ≡ true → x ≡ y ++ byte ∷ rest → ⊥
not_cut byte x y rest a b e = no_some (y, rest) (sym (cut_none byte x a) ∙ ap (cut_at byte) e ∙ cut_again byte y rest b)
  where
    no_some : (p : List ℕ × List ℕ) → ◌≡◌ {A = Option (List ℕ × List ℕ)} None (Some p) → ⊥
    no_some p e = cc

both_of : {A : Type 0} (x y : A) (xs ys : List A) → x ≡ y → xs ≡ ys → x ∷ xs ≡ y ∷ ys
both_of x y xs ys e f = cc

-- two lines of at least one field each
pub same_fields : (xs ys : List (List ℕ)) → 1 ≤ length xs → 1 ≤ length ys → list_all (is_free 32) xs ≡ true
    → list_all (is_free 32) ys ≡ true → line_of xs ≡ line_of ys → xs ≡ ys
same_fields [] ys some more a b e = absurd (omega arith)
same_fields (x ∷ xs) [] some more a b e = absurd (omega arith)
same_fields (x ∷ []) (y ∷ []) some more a b e = ap (λ z. z ∷ []) e
same_fields (x ∷ []) (y ∷ v ∷ ys) some more a b e =
    absurd (not_cut 32 x y (line_of (v ∷ ys)) (both (is_free 32 x) _ a).0 (both (is_free 32 y) _ b).0 e)
same_fields (x ∷ u ∷ xs) (y ∷ []) some more a b e =
    absurd (not_cut 32 y x (line_of (u ∷ xs)) (both (is_free 32 y) _ b).0 (both (is_free 32 x) _ a).0 (sym e))
same_fields (x ∷ u ∷ xs) (y ∷ v ∷ ys) some more a b e =
    let f = both (is_free 32 x) (list_all (is_free 32) (u ∷ xs)) a in
    let g = both (is_free 32 y) (list_all (is_free 32) (v ∷ ys)) b in
    let same = same_cut 32 x y (line_of (u ∷ xs)) (line_of (v ∷ ys)) f.0 g.0 e in
    both_of x y (u ∷ xs) (v ∷ ys) same.0 (same_fields (u ∷ xs) (v ∷ ys) (omega arith) (omega arith) f.1 g.1 same.1)
