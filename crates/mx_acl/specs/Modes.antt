-- Access modes, and which of them an access list of each kind takes.
use Rattle.std.specs.Prelude.{ℕ, ◌==◌, Bool, ◌&&◌, ◌||◌, not, List, [], ◌∷◌, Option, codes}
use Rattle.std.specs.List.{find, list_any}
use Rattle.std.specs.Cmp.Lexicographic.{pointwise}
use Rattle.mx_acl.specs.declared.modes.Modes.{Modes}
use Rattle.mx_acl.specs.declared.modes.Modes.TheVariants.{Null, R, E, W, Re, Rw, Ew, Rew, S, M, A, Sm, Sa, Ma, Sma}
use Rattle.mx_acl.specs.declared.modes.AclKind.{AclKind}
use Rattle.mx_acl.specs.declared.modes.AclKind.TheVariants.{Segment, Directory}

-- the text of modes: `null`, or their letters
abbrev pub modes_text : Modes → List ℕ
modes_text Null = codes "null"
modes_text R = codes "r"
modes_text E = codes "e"
modes_text W = codes "w"
modes_text Re = codes "re"
modes_text Rw = codes "rw"
modes_text Ew = codes "ew"
modes_text Rew = codes "rew"
modes_text S = codes "s"
modes_text M = codes "m"
modes_text A = codes "a"
modes_text Sm = codes "sm"
modes_text Sa = codes "sa"
modes_text Ma = codes "ma"
modes_text Sma = codes "sma"

-- the fifteen modes
abbrev pub all_modes : List Modes
all_modes = Null ∷ R ∷ E ∷ W ∷ Re ∷ Rw ∷ Ew ∷ Rew ∷ S ∷ M ∷ A ∷ Sm ∷ Sa ∷ Ma ∷ Sma ∷ []

-- the modes that a text spells: `null`, or one or more letters of `rew`, or of `sma`, in this order
abbrev pub modes_of_text : List ℕ → Option Modes
modes_of_text text = find (λ modes. pointwise ◌==◌ text (modes_text modes)) all_modes

-- whether the modes have a letter (`null` has none of the six)
abbrev pub has : ℕ → Modes → Bool
has letter modes = list_any (λ mark. mark == letter) (modes_text modes)

abbrev pub has_r : Modes → Bool
has_r modes = has 114 modes

abbrev pub has_e : Modes → Bool
has_e modes = has 101 modes

abbrev pub has_w : Modes → Bool
has_w modes = has 119 modes

abbrev pub has_s : Modes → Bool
has_s modes = has 115 modes

abbrev pub has_m : Modes → Bool
has_m modes = has 109 modes

abbrev pub has_a : Modes → Bool
has_a modes = has 97 modes

-- modes that a list of the kind takes: no letter of the other kind, and no m without s
abbrev pub suits : AclKind → Modes → Bool
suits Segment modes = not (has_s modes || has_m modes || has_a modes)
suits Directory modes = not (has_r modes || has_e modes || has_w modes) && (has_s modes || not (has_m modes))
