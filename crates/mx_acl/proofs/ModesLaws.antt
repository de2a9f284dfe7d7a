-- Modes and their texts: each of the fifteen has one text, and no other text is of modes.
use Rattle.std.proofs.Common.{ℕ, ◌≡◌, ◌==◌, Bool, true, false, cond, ltb, List, [], ◌∷◌, Some, refl, sym}
use Rattle.std.specs.List.{find, list_all}
use Rattle.std.specs.Cmp.Lexicographic.{pointwise, same_text}
use Rattle.mx_name.specs.Names.{is_free}
use Rattle.mx_name.proofs.TextLaws.{all_free}
use Rattle.mx_acl.specs.declared.modes.Modes.{Modes}
use Rattle.mx_acl.specs.declared.modes.Modes.TheVariants.{Null, R, E, W, Re, Rw, Ew, Rew, S, M, A, Sm, Sa, Ma, Sma}
use Rattle.mx_acl.specs.Modes.{modes_text, modes_of_text, all_modes}

found_passes : (p : Modes → Bool) (all : List Modes) (m : Modes) → find p all ≡ Some m → p m ≡ true
found_passes p [] m e = absurd (cc)
found_passes p (x ∷ xs) m e = by_test (p x) refl (found_passes p xs m) e
  where
    by_test : (b : Bool) → p x ≡ b → (find p xs ≡ Some m → p m ≡ true) → cond b (Some x) (find p xs) ≡ Some m → p m ≡ true
    by_test true t ih e = let same : x ≡ m = cc in rw (← same) t
    by_test false t ih e = ih e

-- what is read as modes is their text
pub modes_takes : (text : List ℕ) (m : Modes) → modes_of_text text ≡ Some m → modes_text m ≡ text
modes_takes text m e = sym (same_text text (modes_text m) (sym (found_passes (λ (modes : Modes). pointwise ◌==◌ text (modes_text modes)) all_modes m e)))

-- the text of modes is read as the modes
pub modes_again : (m : Modes) → modes_of_text (modes_text m) ≡ Some m
modes_again Null = refl
modes_again R = refl
modes_again E = refl
modes_again W = refl
modes_again Re = refl
modes_again Rw = refl
modes_again Ew = refl
modes_again Rew = refl
modes_again S = refl
modes_again M = refl
modes_again A = refl
modes_again Sm = refl
modes_again Sa = refl
modes_again Ma = refl
modes_again Sma = refl

letters : (m : Modes) → list_all (ltb 96) (modes_text m) ≡ true
letters Null = refl
letters R = refl
letters E = refl
letters W = refl
letters Re = refl
letters Rw = refl
letters Ew = refl
letters Rew = refl
letters S = refl
letters M = refl
letters A = refl
letters Sm = refl
letters Sa = refl
letters Ma = refl
letters Sma = refl

-- it has no byte below the small letters: no blank, no newline
pub modes_is_free : (byte : ℕ) (m : Modes) → ltb 96 byte ≡ false → is_free byte (modes_text m) ≡ true
modes_is_free byte m e = all_free (ltb 96) byte (modes_text m) e (letters m)
