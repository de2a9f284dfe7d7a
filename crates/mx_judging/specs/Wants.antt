-- What is wanted on a directory or of a segment, and why it is not left: a letter of its modes, in rings up to a bracket.
use Rattle.std.specs.Prelude.{◌≡◌, ℕ, ◌<◌, nat_le, Bool, true, false, not, ◌&&◌, List, get_or}
use Rattle.mx_acl.specs.Modes.{has_r, has_e, has_w, has_s, has_m, has_a}
use Rattle.mx_acl.specs.declared.modes.Modes.{Modes}
use Rattle.mx_sdw.specs.Descriptors.{is_equal, is_neither}
use Rattle.mx_sdw.specs.declared.descriptors.Aim.{Aim}
use Rattle.mx_judging.specs.declared.reasons.Bracket.{Bracket}
use Rattle.mx_judging.specs.declared.reasons.Bracket.TheVariants as bracket
use Rattle.mx_judging.specs.declared.wants.Closed.{Closed}
use Rattle.mx_judging.specs.declared.wants.Closed.TheVariants as closed
use Rattle.mx_judging.specs.declared.wants.Lack.{Lack}
use Rattle.mx_judging.specs.declared.wants.Lack.TheVariants as lack
use Rattle.mx_judging.specs.declared.wants.Letter.{Letter}
use Rattle.mx_judging.specs.declared.wants.Letter.TheVariants as letter
use Rattle.mx_judging.specs.declared.wants.Use.{Use}
use Rattle.mx_judging.specs.declared.wants.Use.TheVariants as to
use Rattle.mx_judging.specs.Reasons.{bracket_ring}

abbrev pub has_letter : Letter → Modes → Bool
has_letter letter.S modes = has_s modes
has_letter letter.M modes = has_m modes
has_letter letter.A modes = has_a modes

-- s is left up to D2, and m and a up to D1
abbrev pub limit : Letter → ℕ → ℕ → ℕ
limit letter.S d1 d2 = d2
limit letter.M d1 d2 = d1
limit letter.A d1 d2 = d1

abbrev pub is_left : Modes → Letter → ℕ → ℕ → ℕ → Bool
is_left modes wanted ring d1 d2 = has_letter wanted modes && nat_le ring (limit wanted d1 d2)

-- the lack that is told is so: of the letter, or of the ring against the bracket of this letter
abbrev pub IsLack : Modes → Letter → ℕ → ℕ → ℕ → Lack → Type 0
IsLack modes wanted ring d1 d2 lack.NotGiven = has_letter wanted modes ≡ false
IsLack modes wanted ring d1 d2 (lack.AboveD1 told bracket) =
    (has_letter wanted modes ≡ true) × (told ≡ ring) × (bracket ≡ d1) × (limit wanted d1 d2 ≡ d1) × (d1 < ring)
IsLack modes wanted ring d1 d2 (lack.AboveD2 told bracket) =
    (has_letter wanted modes ≡ true) × (told ≡ ring) × (bracket ≡ d2) × (limit wanted d1 d2 ≡ d2) × (d2 < ring)

-- the letter of a segment's modes, and how the authorization has to stand to the class for it
abbrev pub gives : Use → Modes → Bool
gives to.R modes = has_r modes
gives to.E modes = has_e modes
gives to.W modes = has_w modes

abbrev pub aims : Use → Aim → Bool
aims to.R aim = not (is_neither aim)
aims to.E aim = not (is_neither aim)
aims to.W aim = is_equal aim

-- r is left up to R2, e from R1 to R3, and w up to R1
abbrev pub is_within : Use → ℕ → List ℕ → Bool
is_within to.R ring brackets = nat_le ring (get_or brackets 1 0)
is_within to.E ring brackets = nat_le (get_or brackets 0 0) ring && nat_le ring (get_or brackets 2 0)
is_within to.W ring brackets = nat_le ring (get_or brackets 0 0)

abbrev pub is_open : Modes → Use → Aim → ℕ → List ℕ → Bool
is_open modes wanted aim ring brackets = gives wanted modes && aims wanted aim && is_within wanted ring brackets

-- a bracket is the one of these, and the ring that it is
abbrev pub IsOf : List ℕ → Bracket → Type 0
IsOf brackets (bracket.R1 ring) = ring ≡ get_or brackets 0 0
IsOf brackets (bracket.R2 ring) = ring ≡ get_or brackets 1 0
IsOf brackets (bracket.R3 ring) = ring ≡ get_or brackets 2 0

-- why it is not left is so
abbrev pub IsClosed : Modes → Use → Aim → ℕ → List ℕ → Closed → Type 0
IsClosed modes wanted aim ring brackets closed.NotGiven = gives wanted modes ≡ false
IsClosed modes wanted aim ring brackets closed.Class = (gives wanted modes ≡ true) × (aims wanted aim ≡ false)
IsClosed modes wanted aim ring brackets (closed.Above limit) =
    (is_within wanted ring brackets ≡ false) × IsOf brackets limit × (bracket_ring limit < ring)
IsClosed modes wanted aim ring brackets (closed.Below limit) =
    (is_within wanted ring brackets ≡ false) × IsOf brackets limit × (ring < bracket_ring limit)
