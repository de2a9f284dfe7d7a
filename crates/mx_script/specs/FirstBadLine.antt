-- The first bad line of bytes that are no session: the line after the greatest number of leading whole lines that begin
-- the text of some session.
use Rattle.std.specs.Prelude.{◌≡◌, ℕ, ◌+◌, true, List, [], ◌∷◌, ◌++◌, length, map}
use Rattle.std.specs.List.{list_all}
use Rattle.mx_name.specs.Names.{is_free}
use Rattle.mx_script.specs.Sessions.{Outline, is_session}
use Rattle.mx_script.specs.SessionTexts.{rows_of, row_text, fits, lines_text, IsSomeSession}

-- the lines of some session begin with these
pub record BeginsText (lines : List (List ℕ)) : Type 0 where
  pub session : Outline
  pub is_one : is_session session ≡ true
  pub fits_all : list_all fits (rows_of session) ≡ true
  pub more : List (List ℕ)
  pub begins : map row_text (rows_of session) ≡ lines ++ more

-- the bytes are these whole lines and then this rest; the lines begin a session, but not with one more whole line
pub record IsFirstBadAfter (spelled : List ℕ) (number : ℕ) (lines : List (List ℕ)) (rest : List ℕ) : Type 0 where
  pub parts : spelled ≡ lines_text lines ++ rest
  pub at : number ≡ length lines + 1
  pub begins : BeginsText lines
  pub bad : (text more : List ℕ) → is_free 10 text ≡ true → rest ≡ text ++ 10 ∷ more → BeginsText (lines ++ text ∷ []) → ⊥

pub record IsFirstBad (spelled : List ℕ) (number : ℕ) : Type 0 where
  pub no_session : IsSomeSession spelled → ⊥
  pub lines : List (List ℕ)
  pub rest : List ℕ
  pub first : IsFirstBadAfter spelled number lines rest
