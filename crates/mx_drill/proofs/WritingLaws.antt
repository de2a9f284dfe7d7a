-- Laws of writing a session's text line by line.
use Rattle.std.proofs.Common.{◌≡◌, ℕ, ◌+◌, ◌<◌, ◌≤◌, List, [], ◌∷◌, ◌++◌, length, map, get_or, take, drop, Option, codes, refl, ap, sym, ◌∙◌, arith, append_assoc, append-nil, add-one, drop-cons}
use Rattle.std.proofs.lemmas.List.{map-append, map_more, drop_all}
use Rattle.mx_request.specs.declared.entrants.Entrant.{Entrant}
use Rattle.mx_script.proofs.ReadingLaws.{lines_text-append}
use Rattle.mx_request.specs.declared.requests.Request.{Request}
use Rattle.mx_script.specs.Sessions.{outline}
use Rattle.mx_script.specs.SessionTexts.{asked, history_rows, setup_rows, row_text, process_rows, lines_text, session_text}
use Rattle.mx_drill.specs.Writing.{rows_text}
use Rattle.mx_script.specs.declared.lines.Line.{Line}
use Rattle.mx_script.specs.declared.rows.Row.{Row}
use Rattle.mx_script.specs.declared.rows.Row.TheVariants as row

pub rows_text-append : (xs ys : List Row) → rows_text (xs ++ ys) ≡ rows_text xs ++ rows_text ys
rows_text-append xs ys = ap lines_text (map-append row_text xs ys) ∙ lines_text-append (map row_text xs) (map row_text ys)

-- One line more was written: its text, and a newline.
pub line_more : {X : Type 0} (f : X → Row) (xs : List X) (i : ℕ) (x : X) (start out mid new : List ℕ) → i < length xs → x ≡ get_or xs i x
    → out ≡ start ++ rows_text (map f (take i xs)) → mid ≡ out ++ row_text (f x) → new ≡ mid ++ 10 ∷ []
    → new ≡ start ++ rows_text (map f (take (i + 1) xs))
line_more f xs i x start out mid new within is before text end =
    let last : map f (take (i + 1) xs) ≡ map f (take i xs) ++ f x ∷ [] =
    map_more f xs i x within ∙ ap (λ y. map f (take i xs) ++ f y ∷ []) (sym is) in
    let one : rows_text (f x ∷ []) ≡ row_text (f x) ++ 10 ∷ [] = refl in
    let whole : rows_text (map f (take (i + 1) xs)) ≡ rows_text (map f (take i xs)) ++ (row_text (f x) ++ 10 ∷ []) =
    ap rows_text last ∙ rows_text-append (map f (take i xs)) (f x ∷ []) in
    end ∙ (ap (λ t. t ++ 10 ∷ []) (text ∙ ap (λ t. t ++ row_text (f x)) before)
    ∙ (append_assoc (start ++ rows_text (map f (take i xs))) (row_text (f x)) (10 ∷ [])
    ∙ (append_assoc start (rows_text (map f (take i xs))) (row_text (f x) ++ 10 ∷ [])
    ∙ ap (λ t. start ++ t) (sym whole))))

-- the processes that are left, taken apart
process_left : (principals : List Entrant) (scripts : List (List Line)) (i : ℕ) (principal : Entrant) (script : List Line)
    → i < length principals → length scripts ≡ length principals → principal ≡ get_or principals i principal → script ≡ get_or scripts i script
    → process_rows (drop i principals) (drop i scripts)
    ≡ row.Process principal ∷ map row.Line script ++ process_rows (drop (i + 1) principals) (drop (i + 1) scripts)
process_left principals scripts i principal script within same first second =
    let more : i < length scripts = omega arith in
    rw (add-one i, drop-cons principals i principal, drop-cons scripts i script, ← first, ← second) refl

-- One process more was written: its line, and its script.
pub process_more : (principals : List Entrant) (scripts : List (List Line)) (i : ℕ) (principal : Entrant) (script : List Line)
    (whole out mid new : List ℕ) → i < length principals → length scripts ≡ length principals → principal ≡ get_or principals i principal
    → script ≡ get_or scripts i script → out ++ rows_text (process_rows (drop i principals) (drop i scripts)) ≡ whole
    → mid ≡ out ++ rows_text (row.Process principal ∷ []) → new ≡ mid ++ rows_text (map row.Line script)
    → new ++ rows_text (process_rows (drop (i + 1) principals) (drop (i + 1) scripts)) ≡ whole
process_more principals scripts i principal script whole out mid new within same first second before line lines =
    let left : List Row = process_rows (drop (i + 1) principals) (drop (i + 1) scripts) in
    let parts : rows_text (process_rows (drop i principals) (drop i scripts))
    ≡ rows_text (row.Process principal ∷ []) ++ (rows_text (map row.Line script) ++ rows_text left) =
    ap rows_text (process_left principals scripts i principal script within same first second)
    ∙ (rows_text-append (row.Process principal ∷ []) (map row.Line script ++ left)
    ∙ ap (λ t. rows_text (row.Process principal ∷ []) ++ t) (rows_text-append (map row.Line script) left)) in
    ap (λ t. t ++ rows_text left) (lines ∙ ap (λ t. t ++ rows_text (map row.Line script)) line)
    ∙ (append_assoc (out ++ rows_text (row.Process principal ∷ [])) (rows_text (map row.Line script)) (rows_text left)
    ∙ (append_assoc out (rows_text (row.Process principal ∷ [])) (rows_text (map row.Line script) ++ rows_text left)
    ∙ (ap (λ t. out ++ t) (sym parts) ∙ before)))

-- all were written
pub processes_end : (principals : List Entrant) (scripts : List (List Line)) (i : ℕ) (whole out : List ℕ) → length principals ≤ i
    → out ++ rows_text (process_rows (drop i principals) (drop i scripts)) ≡ whole → out ≡ whole
processes_end principals scripts i whole out past before =
    sym (append-nil out) ∙ (ap (λ ps. out ++ rows_text (process_rows ps (drop i scripts))) (sym (drop_all i principals past)) ∙ before)

-- the whole text
regroup : (m h s p e : List ℕ) → (((m ++ h) ++ s) ++ p) ++ e ≡ ((m ++ (h ++ s)) ++ p) ++ e
regroup m h s p e = simp append_assoc

pub whole_text : (version : ℕ) (history : Option ℕ) (setup : List Request) (principals : List Entrant) (scripts : List (List Line))
    (a b c d e : List ℕ) → a ≡ rows_text (row.Header version ∷ []) → b ≡ a ++ rows_text (history_rows history) → c ≡ b ++ rows_text (map asked setup)
    → d ≡ c ++ rows_text (process_rows principals scripts) → e ≡ d ++ codes "end\n"
    → e ≡ session_text (outline version history setup principals scripts)
whole_text version history setup principals scripts a b c d e first second third fourth fifth =
    let m : List ℕ = rows_text (row.Header version ∷ []) in
    let h : List ℕ = rows_text (history_rows history) in
    let s : List ℕ = rows_text (map asked setup) in
    let p : List ℕ = rows_text (process_rows principals scripts) in
    let front : rows_text (setup_rows version history setup) ≡ m ++ (h ++ s) =
    rows_text-append (row.Header version ∷ []) (history_rows history ++ map asked setup)
    ∙ ap (λ t. m ++ t) (rows_text-append (history_rows history) (map asked setup)) in
    let parts : session_text (outline version history setup principals scripts) ≡ ((m ++ (h ++ s)) ++ p) ++ codes "end\n" =
    rows_text-append (setup_rows version history setup ++ process_rows principals scripts) (row.End ∷ [])
    ∙ ap (λ t. t ++ codes "end\n") (rows_text-append (setup_rows version history setup) (process_rows principals scripts) ∙ ap (λ t. t ++ p) front) in
    fifth ∙ (ap (λ t. t ++ codes "end\n") (fourth ∙ ap (λ t. t ++ p) (third ∙ ap (λ t. t ++ s) (second ∙ ap (λ t. t ++ h) first)))
    ∙ (regroup m h s p (codes "end\n") ∙ sym parts))
