-- The first bad line of bytes that are no text of a set of texts: the line after the greatest number of leading whole lines
-- that begin some text of the set.
use Rattle.std.specs.Prelude.{◌≡◌, ℕ, ◌+◌, true, List, [], ◌∷◌, ◌++◌, length}
use Rattle.std.specs.List.{list_all}
use Rattle.mx_name.specs.Names.{is_free}
use Rattle.mx_script.specs.SessionTexts.{lines_text}

-- some text of the set begins with these lines
pub record BeginsSome (IsOne : List ℕ → Type 0) (lines : List (List ℕ)) : Type 0 where
  pub text : List ℕ
  pub is_one : IsOne text
  pub more : List ℕ
  pub begins : text ≡ lines_text lines ++ more

-- the bytes are these whole lines and then this rest; the lines begin a text of the set, but not with one more whole line
pub record IsFirstBadAfter (IsOne : List ℕ → Type 0) (spelled : List ℕ) (number : ℕ) (lines : List (List ℕ)) (rest : List ℕ) : Type 0 where
  pub parts : spelled ≡ lines_text lines ++ rest
  pub whole : list_all (is_free 10) lines ≡ true
  pub at : number ≡ length lines + 1
  pub begins : BeginsSome IsOne lines
  pub bad : (line more : List ℕ) → is_free 10 line ≡ true → rest ≡ line ++ 10 ∷ more → BeginsSome IsOne (lines ++ line ∷ []) → ⊥

pub record IsFirstBad (IsOne : List ℕ → Type 0) (spelled : List ℕ) (number : ℕ) : Type 0 where
  pub none : IsOne spelled → ⊥
  pub lines : List (List ℕ)
  pub rest : List ℕ
  pub first : IsFirstBadAfter IsOne spelled number lines rest
