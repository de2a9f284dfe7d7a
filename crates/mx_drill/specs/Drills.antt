-- The drill session of a number: four processes, each with a segment of its own. In 256 rounds each stores into its own
-- segment, loads from all four, takes another process's right to write its segment away or gives it back, and stores
-- where its segment has no word.
use Rattle.std.specs.Prelude.{ℕ, ◌+◌, ◌*◌, ◌/◌, ◌%◌, ◌==◌, false, if◌then◌else◌, List, [], ◌∷◌, ◌++◌, map, None, codes}
use Rattle.std.specs.List.{flat_map, range_with_len}
use Rattle.mx_acl.specs.declared.modes.Modes.{Modes}
use Rattle.mx_acl.specs.declared.modes.Modes.TheVariants.{R, Rw, Sma}
use Rattle.mx_aim.specs.Classes.{lowest}
use Rattle.mx_name.specs.Identifiers.{PlainAclId}
use Rattle.mx_name.specs.Identifiers.Component.{Any, Literal}
use Rattle.mx_name.specs.Principals.{PlainPrincipal}
use Rattle.mx_request.specs.declared.entrants.Entrant.{Entrant}
use Rattle.mx_request.specs.declared.requests.Request.{Request}
use Rattle.mx_request.specs.declared.requests.Request.TheVariants.{CreateSeg, SetAcl, Initiate, Logout}
use Rattle.mx_script.specs.Sessions.{Outline, outline, entrant}
use Rattle.mx_script.specs.declared.lines.Base.TheVariants.{Segment}
use Rattle.mx_script.specs.declared.lines.Line.{Line}
use Rattle.mx_script.specs.declared.lines.Line.TheVariants.{Ask, Set, Lda, Sta}
use Rattle.mx_script.specs.declared.lines.Operand.{Operand}

-- a number below 10
abbrev pub digit : ℕ → List ℕ
digit number = (48 + number) ∷ []

-- each segment is `>sS`, with its number for S
abbrev pub segment_path : ℕ → List ℕ
segment_path segment = codes ">s" ++ digit segment

-- process p is `UP.Drill.a`, as a principal and on an access list
abbrev pub person : ℕ → List ℕ
person p = codes "U" ++ digit p

abbrev pub driller : ℕ → PlainPrincipal
driller p = record { person = person p; project = codes "Drill"; tag = codes "a" }

-- the session brings it in with the lowest class
abbrev pub drill_process : ℕ → Entrant
drill_process p = entrant (driller p) lowest

abbrev pub driller_id : ℕ → PlainAclId
driller_id p = record { person = Literal (person p); project = Literal (codes "Drill"); tag = Literal (codes "a") }

-- `*.Drill.*` and `*.*.*`
abbrev pub drillers_id : PlainAclId
drillers_id = record { person = Any; project = Literal (codes "Drill"); tag = Any }

abbrev pub everyone_id : PlainAclId
everyone_id = record { person = Any; project = Any; tag = Any }

-- the numbers of the processes, and of their segments
abbrev pub one_to_four : List ℕ
one_to_four = range_with_len 1 4

-- a segment of 64 words in ring 4, which everyone may read and write
abbrev pub segment_setup : ℕ → List Request
segment_setup segment =
    CreateSeg (segment_path segment) 64 (4 ∷ 4 ∷ 4 ∷ []) ∷ SetAcl (segment_path segment) everyone_id Rw ∷ []

-- the processes may do everything in the root
abbrev pub drill_setup : List Request
drill_setup = SetAcl (codes ">") drillers_id Sma ∷ flat_map segment_setup one_to_four

-- Process p knows a segment under its number and 7 more. In each of its turns it speaks of this word,
abbrev pub word_of_round : ℕ → ℕ → ℕ → ℕ
word_of_round number p turn = (number + 7 * turn + p) % 64

-- stores this value,
abbrev pub value_of_round : ℕ → ℕ → ℕ → ℕ
value_of_round number p turn = 1000 * p + turn + number

-- loads from the segment of this number,
abbrev pub loaded_segment : ℕ → ℕ → ℕ
loaded_segment number turn = 8 + (number + turn) % 4

-- and gives these modes to this process, which is never p.
abbrev pub other_process : ℕ → ℕ → ℕ
other_process p turn = 1 + (p + turn / 4 % 3) % 4

abbrev pub modes_of_round : ℕ → Modes
modes_of_round turn = if turn / 4 % 2 == 0 then R else Rw

-- `S|W`
abbrev pub address : ℕ → ℕ → Operand
address segno word = record { base = Segment segno; word = word; indirect = false }

-- In rounds 0, 4, 8 .. a value is stored into the own segment,
abbrev pub store : ℕ → ℕ → ℕ → List Line
store number p turn = Set (value_of_round number p turn) ∷ Sta (address (7 + p) (word_of_round number p turn)) ∷ []

-- in rounds 1, 5, 9 .. a word is loaded,
abbrev pub load : ℕ → ℕ → ℕ → List Line
load number p turn = Lda (address (loaded_segment number turn) (word_of_round number p turn)) ∷ []

-- in rounds 2, 6, 10 .. the access of another process to the own segment is changed,
abbrev pub change : ℕ → ℕ → List Line
change p turn = Ask (SetAcl (segment_path p) (driller_id (other_process p turn)) (modes_of_round turn)) ∷ []

-- and in rounds 3, 7, 11 .. a store behind the last word of the own segment is denied.
abbrev pub overrun : ℕ → List Line
overrun p = Sta (address (7 + p) 64) ∷ []

abbrev pub round_of_kind : ℕ → ℕ → ℕ → ℕ → List Line
round_of_kind kind number p turn =
    if kind == 0 then store number p turn
    else (if kind == 1 then load number p turn
    else (if kind == 2 then change p turn
    else overrun p))

abbrev pub round : ℕ → ℕ → ℕ → List Line
round number p turn = round_of_kind (turn % 4) number p turn

-- the first rounds of a process
unfoldable pub rounds : ℕ → ℕ → ℕ → List Line
rounds number p count = flat_map (round number p) (range_with_len 0 count)

abbrev pub initiation : ℕ → Line
initiation segment = Ask (Initiate (segment_path segment) None)

-- a process initiates the four segments, goes through its rounds and logs out
abbrev pub drill_script : ℕ → ℕ → List Line
drill_script number p = map initiation one_to_four ++ rounds number p 256 ++ Ask Logout ∷ []

abbrev pub drill_session : ℕ → Outline
drill_session number = outline 1 None drill_setup (map drill_process one_to_four) (map (drill_script number) one_to_four)
