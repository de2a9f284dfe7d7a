-- The session text: what a session's lines are, in order, and how each is written.
use Rattle.std.specs.Prelude.{◌≡◌, ◌^◌, ℕ, nat_lt, Bool, true, false, ◌&&◌, List, [], ◌∷◌, ◌++◌, map, Option, Some, None, is_none, codes, if◌then◌else◌}
use Rattle.std.specs.Fmt.{decimal}
use Rattle.std.specs.List.{list_all}
use Rattle.mx_aim.specs.Classes.{PlainClass, class_text, equals, lowest}
use Rattle.mx_name.specs.Principals.{components_fault, principal_text}
use Rattle.mx_sdw.specs.Octal.{octal}
use Rattle.mx_request.specs.declared.requests.Request.{Request}
use Rattle.mx_request.specs.declared.entrants.Entrant.{Entrant}
use Rattle.mx_request.specs.RequestTexts.{request_text, fits_request, is_class}
use Rattle.mx_script.specs.Sessions.{Outline, is_session, is_version, is_history, is_register, is_address}
use Rattle.mx_script.specs.declared.lines.Base.{Base}
use Rattle.mx_script.specs.declared.lines.Base.TheVariants.{Segment, Register}
use Rattle.mx_script.specs.declared.lines.Line.{Line}
use Rattle.mx_script.specs.declared.lines.Line.TheVariants.{Ask, Set, Epp, Lda, Sta, Spri, Fetch, Call, Return}
use Rattle.mx_script.specs.declared.lines.Operand.{Operand}
use Rattle.mx_script.specs.declared.rows.Row.{Row}
use Rattle.mx_script.specs.declared.rows.Row.TheVariants as row

-- `S`, in octal, or `prN`
abbrev pub base_text : Base → List ℕ
base_text (Segment segno) = octal segno
base_text (Register number) = codes "pr" ++ octal number

abbrev pub indirect_text : Bool → List ℕ
indirect_text true = codes ",*"
indirect_text false = []

-- `W`, in octal, and `,*` where the word is indirect
abbrev pub offset_text : ℕ → Bool → List ℕ
offset_text word indirect = octal word ++ indirect_text indirect

-- `S|W` or `prN|W`, with `,*` or without
abbrev pub operand_text : Operand → List ℕ
operand_text operand = base_text operand.base ++ codes "|" ++ offset_text operand.word operand.indirect

abbrev pub line_text : Line → List ℕ
line_text (Ask request) = request_text request
line_text (Set word) = codes "set " ++ octal word
line_text (Epp number operand) = codes "epp " ++ octal number ++ codes " " ++ operand_text operand
line_text (Lda operand) = codes "lda " ++ operand_text operand
line_text (Sta operand) = codes "sta " ++ operand_text operand
line_text (Spri number operand) = codes "spri " ++ octal number ++ codes " " ++ operand_text operand
line_text Fetch = codes "fetch"
line_text (Call operand) = codes "call " ++ operand_text operand
line_text (Return operand) = codes "return " ++ operand_text operand

-- the class of a process is written out where it is not the lowest
abbrev pub class_part : PlainClass → List ℕ
class_part class = if equals class lowest then [] else codes " " ++ class_text class

-- `PRINCIPAL`, and the class where it is written out
abbrev pub entrant_text : Entrant → List ℕ
entrant_text entrant = principal_text entrant.who ++ class_part entrant.authorization

abbrev pub row_text : Row → List ℕ
row_text (row.Header version) = codes "multics " ++ decimal version
row_text (row.History limit) = codes "history " ++ decimal limit
row_text (row.Line line) = line_text line
row_text (row.Process entrant) = codes "process " ++ entrant_text entrant
row_text row.End = codes "end"

-- a request of the setup, as a line
abbrev pub asked : Request → Row
asked request = row.Line (Ask request)

-- the limit that a session sets, as a line
abbrev pub history_rows : Option ℕ → List Row
history_rows None = []
history_rows (Some limit) = row.History limit ∷ []

-- header, limit and setup
abbrev pub setup_rows : ℕ → Option ℕ → List Request → List Row
setup_rows version history setup = row.Header version ∷ history_rows history ++ map asked setup

-- each process's line, and then its script
abbrev pub process_rows : List Entrant → List (List Line) → List Row
process_rows (entrant ∷ entrants) (script ∷ scripts) =
    row.Process entrant ∷ map row.Line script ++ process_rows entrants scripts
process_rows _ _ = []

-- the lines of a session: header, limit, setup, processes, end
abbrev pub rows_of : Outline → List Row
rows_of session = setup_rows session.version session.history session.setup ++ process_rows session.principals session.scripts ++ row.End ∷ []

-- lines, each with its newline
abbrev pub lines_text : List (List ℕ) → List ℕ
lines_text [] = []
lines_text (line ∷ lines) = line ++ 10 ∷ lines_text lines

-- what a line may say: requests, addresses, words, versions, limits, principals and classes of their grammar
abbrev pub fits_line : Line → Bool
fits_line (Ask request) = fits_request request
fits_line (Set word) = nat_lt word (2 ^ 36)
fits_line (Epp number operand) = is_register number && is_address operand
fits_line (Lda operand) = is_address operand
fits_line (Sta operand) = is_address operand
fits_line (Spri number operand) = is_register number && is_address operand
fits_line Fetch = true
fits_line (Call operand) = is_address operand
fits_line (Return operand) = is_address operand

abbrev pub fits : Row → Bool
fits (row.Header version) = is_version version
fits (row.History limit) = is_history limit
fits (row.Line line) = fits_line line
fits (row.Process entrant) = is_none (components_fault entrant.who) && is_class entrant.authorization
fits row.End = true

abbrev pub session_text : Outline → List ℕ
session_text session = lines_text (map row_text (rows_of session))

-- these bytes are the text of this session
pub record IsText (spelled : List ℕ) (outline : Outline) : Type 0 where
  pub session : is_session outline ≡ true
  pub fits_all : list_all fits (rows_of outline) ≡ true
  pub text : spelled ≡ session_text outline

-- these bytes are the text of some session
abbrev pub IsSomeSession : List ℕ → Type 0
IsSomeSession spelled = (session : Outline) × IsText spelled session
