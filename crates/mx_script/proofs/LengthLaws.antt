-- How many bytes the lines of a session take: at least six each, with its newline.
use Rattle.std.proofs.Common.{◌≡◌, ℕ, ◌+◌, ◌*◌, ◌<◌, ◌≤◌, true, List, [], ◌∷◌, ◌++◌, map, length, codes, ap, arith, length-append}
use Rattle.std.specs.List.{All, join_with_byte}
use Rattle.std.proofs.lemmas.List.Elements.{All-nil, All-cons, All-map}
use Rattle.mx_acl.specs.declared.modes.AclKind.TheVariants.{Segment as OfSegment, Directory as OfDirectory}
use Rattle.mx_sdw.specs.Octal.{octal, is_octal}
use Rattle.mx_sdw.proofs.OctalLaws.{is_octal-octal}
use Rattle.mx_request.specs.RequestTexts.{rule_text, request_text}
use Rattle.mx_request.specs.declared.entrants.Entrant.{Entrant}
use Rattle.mx_request.specs.declared.requests.Request.{Request}
use Rattle.mx_request.specs.declared.requests.Request.TheVariants.{CreateDir, CreateSeg, CreateObject, CreateLink, Rename, Delete, SetAcl, DelAcl, SetIacl, DelIacl, SetBrackets, SetDirBrackets, SetClass, Status, List as ListNames, ChangeWdir, SetRules, Initiate, Terminate, Wakeup, Block, Link, Resume, Logout}
use Rattle.mx_script.proofs.DraftLaws.{HasParts, parts_of_session}
use Rattle.mx_script.specs.Sessions.{Outline}
use Rattle.mx_script.specs.SessionTexts.{base_text, offset_text, operand_text, line_text, row_text, setup_rows, process_rows, rows_of, lines_text, IsText}
use Rattle.mx_script.specs.declared.lines.Line.{Line}
use Rattle.mx_script.specs.declared.lines.Line.TheVariants.{Ask, Set, Epp, Lda, Sta, Spri, Fetch, Call, Return}
use Rattle.mx_script.specs.declared.lines.Operand.{Operand}
use Rattle.mx_script.specs.declared.rows.Row.{Row}
use Rattle.mx_script.specs.declared.rows.Row.TheVariants as row

some_between : (before between after : List ℕ) → 1 ≤ length between → 1 ≤ length (before ++ between ++ after)
some_between before between after some =
    omega (arith, some, length-append (before ++ between) after, length-append before between)

some_digit : (text : List ℕ) → is_octal text ≡ true → 1 ≤ length text
some_digit [] is = absurd cc
some_digit (c ∷ text) is = omega arith

some_operand : (operand : Operand) → 1 ≤ length (operand_text operand)
some_operand operand =
    some_between (base_text operand.base) (codes "|") (offset_text operand.word operand.indirect) (omega arith)

word_first : (word : List ℕ) (fields : List (List ℕ)) → length word ≤ length (join_with_byte 32 (word ∷ fields))
word_first word [] = omega arith
word_first word (next ∷ fields) = omega (arith, length-append word (32 ∷ join_with_byte 32 (next ∷ fields)))

-- no request is written in fewer than five bytes
five_of_request : (request : Request) → 5 ≤ length (request_text request)
five_of_request (CreateDir path d1 d2) = omega arith
five_of_request (CreateSeg path words brackets) = omega arith
five_of_request (CreateObject path words brackets object) = omega arith
five_of_request (CreateLink path target) = omega arith
five_of_request (Rename path name) = omega arith
five_of_request (Delete path) = omega arith
five_of_request (SetAcl path id modes) = omega arith
five_of_request (DelAcl path id) = omega arith
five_of_request (SetIacl path OfSegment id modes) = omega arith
five_of_request (SetIacl path OfDirectory id modes) = omega arith
five_of_request (DelIacl path OfSegment id) = omega arith
five_of_request (DelIacl path OfDirectory id) = omega arith
five_of_request (SetBrackets path brackets) = omega arith
five_of_request (SetDirBrackets path d1 d2) = omega arith
five_of_request (SetClass path class) = omega arith
five_of_request (Status path) = omega arith
five_of_request (ListNames path) = omega arith
five_of_request (ChangeWdir path) = omega arith
five_of_request (SetRules rules) =
    let w : 5 ≤ length (codes "set_rules") = omega arith in
    omega (arith, w, word_first (codes "set_rules") (map rule_text rules))
five_of_request (Initiate path name) = omega arith
five_of_request (Terminate segno) = omega arith
five_of_request (Wakeup to word) = omega arith
five_of_request Block = omega arith
five_of_request (Link segno word) = omega arith
five_of_request Resume = omega arith
five_of_request Logout = omega arith

-- the shortest lines are `fetch` and `block`
five_bytes : (line : Line) → 5 ≤ length (line_text line)
five_bytes (Ask request) = five_of_request request
five_bytes (Set word) = omega (arith, some_digit (octal word) (is_octal-octal word))
five_bytes (Epp n operand) = omega (arith, some_between (octal n) (codes " ") (operand_text operand) (omega arith))
five_bytes (Lda operand) = omega (arith, some_operand operand)
five_bytes (Sta operand) = omega (arith, some_operand operand)
five_bytes (Spri n operand) = omega arith
five_bytes Fetch = omega arith
five_bytes (Call operand) = omega arith
five_bytes (Return operand) = omega arith

-- the bytes of rows, each with its newline
abbrev bytes : List Row → ℕ
bytes rows = length (lines_text (map row_text rows))

bytes_more : (r : Row) (rows : List Row) → bytes (r ∷ rows) ≡ length (row_text r) + 1 + bytes rows
bytes_more r rows = omega (arith, length-append (row_text r) (10 ∷ lines_text (map row_text rows)))

bytes_append : (rows others : List Row) → bytes (rows ++ others) ≡ bytes rows + bytes others
bytes_append [] others = omega arith
bytes_append (r ∷ rows) others =
    omega (arith, bytes_more r rows, bytes_more r (rows ++ others), bytes_append rows others)

script_bytes : (script : List Line) → 6 * length script ≤ bytes (map row.Line script)
script_bytes [] = omega arith
script_bytes (line ∷ script) =
    omega (arith, bytes_more (row.Line line) (map row.Line script), five_bytes line, script_bytes script)

each_script : (principals : List Entrant) (scripts : List (List Line)) (most : ℕ) → length scripts ≡ length principals
    → bytes (process_rows principals scripts) ≤ most → All (λ script. 6 * length script ≤ most) scripts
each_script principals [] most same within = All-nil (λ script. 6 * length script ≤ most)
each_script [] (script ∷ scripts) most same within = absurd (omega (arith, same))
each_script (principal ∷ principals) (script ∷ scripts) most same within =
    let own : List Row = map row.Line script in
    let rest : List Row = process_rows principals scripts in
    let few : 6 * length script ≤ bytes own = script_bytes script in
    let parts : bytes (own ++ rest) ≡ bytes own + bytes rest = bytes_append own rest in
    let all : bytes (row.Process principal ∷ own ++ rest) ≡ length (row_text (row.Process principal)) + 1 + bytes (own ++ rest)
    = bytes_more (row.Process principal) (own ++ rest) in
    All-cons (λ script. 6 * length script ≤ most) script scripts (omega (arith, few, parts, all, within))
    (each_script principals scripts most (omega (arith, same)) (omega (arith, parts, all, within)))

-- each script's lines take at least six bytes each
pub six_bytes_a_line : (spelled : List ℕ) (x : Outline) → IsText spelled x → All (λ script. 6 * length script ≤ length spelled) x.scripts
six_bytes_a_line spelled x is =
    let have : HasParts x = parts_of_session x is.session in
    let before : List Row = setup_rows x.version x.history x.setup in
    let own : List Row = process_rows x.principals x.scripts in
    let n : length spelled ≡ bytes (rows_of x) = ap length is.text in
    let a : bytes (before ++ own) ≡ bytes before + bytes own = bytes_append before own in
    let b : bytes (rows_of x) ≡ bytes (before ++ own) + bytes (row.End ∷ []) = bytes_append (before ++ own) (row.End ∷ []) in
    each_script x.principals x.scripts (length spelled) have.same (omega (arith, n, a, b))

-- and so a short text has few lines
pub few_lines : (spelled : List ℕ) (x : Outline) (most : ℕ) → IsText spelled x → length spelled < 6 * (most + 1)
    → All (λ number. number ≤ most) (map length x.scripts)
few_lines spelled x most is short =
    All-map (λ number. number ≤ most) length x.scripts
    (λ i script there. omega (arith, short, six_bytes_a_line spelled x is i script there))
