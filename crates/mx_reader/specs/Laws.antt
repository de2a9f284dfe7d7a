-- The first bad line: there is one at most, and that of session texts is this one, said of their set.
use Rattle.std.specs.Prelude.{◌≡◌, ℕ, List}
use Rattle.mx_reader.specs.FirstBadLine.{IsFirstBad}
use Rattle.mx_reader.specs.RunTexts.{IsSomeRun}
use Rattle.mx_script.specs.FirstBadLine as sessions
use Rattle.mx_script.specs.SessionTexts.{IsSomeSession}

-- bytes that are the text of no run have one first bad line at most
abbrev pub OneFirstBadLaw : Type 0
OneFirstBadLaw = (spelled : List ℕ) (n m : ℕ) → IsFirstBad IsSomeRun spelled n → IsFirstBad IsSomeRun spelled m → n ≡ m

-- it is the first bad line of session texts where the set is that of the sessions
abbrev pub OfSessionsLaw : Type 0
OfSessionsLaw = (spelled : List ℕ) (n : ℕ) → (sessions.IsFirstBad spelled n → IsFirstBad IsSomeSession spelled n)
    × (IsFirstBad IsSomeSession spelled n → sessions.IsFirstBad spelled n)
