-- What is found in a text: the session whose text it is, or the first bad line, as the reader of sessions names it, with its text.
use Rattle.std.specs.Prelude.{◌≡◌, ℕ, ◌-◌, List, ◌++◌, codes}
use Rattle.std.specs.Fmt.{decimal}
use Rattle.mx_script.specs.FirstBadLine.{IsFirstBad}
use Rattle.mx_script.specs.SessionTexts.{IsText}
use Rattle.mx_lint.specs.Faults.{IsFault}
use Rattle.mx_lint.specs.Lines.{is_last, line_of, without_lines}
use Rattle.mx_lint.specs.Places.{place_behind}
use Rattle.mx_lint.specs.Versions.{version_said}
use Rattle.mx_lint.specs.declared.linting.Diagnosis.{Diagnosis}
use Rattle.mx_lint.specs.declared.linting.Finding.{Finding}
use Rattle.mx_lint.specs.declared.linting.Finding.TheVariants.{Good, Bad}

pub record IsBadLine (spelled : List ℕ) (number : ℕ) (text : List ℕ) : Type 0 where
  pub first : IsFirstBad spelled number
  pub text_is : text ≡ line_of number spelled

-- and the fault is one that this line has, at the place that the lines before it make
pub record IsDiagnosis (spelled : List ℕ) (diagnosis : Diagnosis) : Type 0 where
  pub line : IsBadLine spelled diagnosis.number diagnosis.text.now
  pub fault_is : IsFault (place_behind (diagnosis.number - 1) spelled) (version_said spelled) diagnosis.text.now
      (is_last (without_lines (diagnosis.number - 1) spelled)) diagnosis.fault

abbrev pub IsFinding : List ℕ → Finding → Type 0
IsFinding spelled (Good session) = IsText spelled session
IsFinding spelled (Bad diagnosis) = IsDiagnosis spelled diagnosis

-- words that name the line of this number first
pub record IsAbout (words : List ℕ) (number : ℕ) : Type 0 where
  pub more : List ℕ
  pub begins : words ≡ codes "line " ++ decimal number ++ more
