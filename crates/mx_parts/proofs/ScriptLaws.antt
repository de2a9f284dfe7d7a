-- The lines of a process are those of the session, such as a script may hold and a text can say.
use Rattle.std.proofs.Common.{◌≡◌, ℕ, zero, suc, ◌-◌, ◌≤◌, Bool, true, ◌&&◌, nat_le, List, [], ◌∷◌, ◌++◌, length, map, Some, None, refl, sym, ◌∙◌, ap, subst, arith}
use Rattle.std.proofs.lemmas.List.Folds.{list_all-append, list_all-map}
use Rattle.std.specs.List.{list_all, slice_get}
use Rattle.mx_line.proofs.ScriptLaws.{script_is}
use Rattle.mx_line.specs.Operands.{IsSayable}
use Rattle.mx_request.proofs.StepLaws.{both, both_hold}
use Rattle.mx_request.specs.Classes.{class_of}
use Rattle.mx_request.specs.RequestTexts.{fits_request}
use Rattle.mx_request.specs.Versions.{since_version}
use Rattle.mx_request.specs.declared.classes.RequestClass.{RequestClass}
use Rattle.mx_request.specs.declared.classes.RequestClass.TheVariants.{OfPath, OfProcess, OfSupervisor}
use Rattle.mx_request.specs.declared.entrants.Entrant.{Entrant}
use Rattle.mx_request.specs.declared.requests.Request.{Request}
use Rattle.mx_script.specs.SessionTexts.{asked, fits, fits_line, history_rows, process_rows, rows_of, setup_rows}
use Rattle.mx_script.specs.Sessions.{Outline, ends, is_for_script, is_for_setup, is_script, is_script_line, is_setup_request, is_short}
use Rattle.mx_script.specs.declared.lines.Line.{Line}
use Rattle.mx_script.specs.declared.lines.Line.TheVariants.{Ask}
use Rattle.mx_script.specs.declared.rows.Row.{Row}
use Rattle.mx_script.specs.declared.rows.Row.TheVariants as row
use Rattle.mx_transcript.specs.Scripts.{first_line, lines_of, numbered, script_at}

-- what is said of all is said of each
pub all_at : {A : Type 0} (test : A → Bool) (xs : List A) (i : ℕ) (x : A) → list_all test xs ≡ true → slice_get xs i ≡ Some x → test x ≡ true
all_at test [] i x e at = absurd cc
all_at {A} test (y ∷ xs) zero x e at = subst (λ (z : A). test z ≡ true) (same y x at) (both (test y) (list_all test xs) e).0
  where
    same : (a b : A) → Some a ≡ Some b → a ≡ b
    same a b e = cc
all_at test (y ∷ xs) (suc i) x e at = all_at test xs i x (both (test y) (list_all test xs) e).1 at

pub sayable_at : (version : ℕ) (script : List Line) (place : ℕ) (line : Line) → list_all (is_script_line version) script ≡ true
    → slice_get script place ≡ Some line → IsSayable line
sayable_at version script place line e at = (version, all_at (is_script_line version) script place line e at)

-- the setup
for_script : (class : RequestClass) → is_for_setup class ≡ true → is_for_script class ≡ true
for_script OfPath e = refl
for_script OfProcess e = cc
for_script OfSupervisor e = cc

pub setup_sayable : (version : ℕ) (setup : List Request) → list_all (is_setup_request version) setup ≡ true
    → list_all (is_script_line version) (map Ask setup) ≡ true
setup_sayable version [] e = refl
setup_sayable version (request ∷ setup) e =
    let f = both (is_setup_request version request) (list_all (is_setup_request version) setup) e in
    let rest : Bool = nat_le (since_version request) version && is_short request in
    let g = both (is_for_setup (class_of request)) rest f.0 in
    both_hold (is_script_line version (Ask request)) (list_all (is_script_line version) (map Ask setup))
    (both_hold (is_for_script (class_of request)) rest (for_script (class_of request) g.0) g.1)
    (setup_sayable version setup f.1)

setup_rows_fit : (setup : List Request) → list_all fits (map asked setup) ≡ true → list_all fits_line (map Ask setup) ≡ true
setup_rows_fit [] e = refl
setup_rows_fit (request ∷ setup) e =
    let f = both (fits_request request) (list_all fits (map asked setup)) e in
    both_hold (fits_request request) (list_all fits_line (map Ask setup)) f.0 (setup_rows_fit setup f.1)

-- the rows of the setup, and those of the processes
rows_fit : (session : Outline) → list_all fits (rows_of session) ≡ true
    → (list_all fits (setup_rows session.version session.history session.setup) ≡ true)
    × (list_all fits (process_rows session.principals session.scripts) ≡ true)
rows_fit session e =
    let setup : List Row = setup_rows session.version session.history session.setup in
    let processes : List Row = process_rows session.principals session.scripts in
    let f = both (list_all fits (setup ++ processes)) (list_all fits (row.End ∷ []))
    (sym (list_all-append fits (setup ++ processes) (row.End ∷ [])) ∙ e) in
    both (list_all fits setup) (list_all fits processes) (sym (list_all-append fits setup processes) ∙ f.0)

pub setup_fits : (session : Outline) → list_all fits (rows_of session) ≡ true → list_all fits_line (map Ask session.setup) ≡ true
setup_fits session e =
    let limit : List Row = history_rows session.history in
    let lines : List Row = map asked session.setup in
    let f = both (fits (row.Header session.version)) (list_all fits (limit ++ lines)) (rows_fit session e).0 in
    let g = both (list_all fits limit) (list_all fits lines) (sym (list_all-append fits limit lines) ∙ f.1) in
    setup_rows_fit session.setup g.1

-- the scripts
behind : (who : Entrant) (script : List Line) (rest : List Row) → list_all fits (row.Process who ∷ map row.Line script ++ rest) ≡ true
    → (list_all fits (map row.Line script) ≡ true) × (list_all fits rest ≡ true)
behind who script rest e =
    both (list_all fits (map row.Line script)) (list_all fits rest)
    (sym (list_all-append fits (map row.Line script) rest)
    ∙ (both (fits (row.Process who)) (list_all fits (map row.Line script ++ rest)) e).1)

script_rows_fit : (principals : List Entrant) (scripts : List (List Line)) (i : ℕ) (script : List Line)
    → length scripts ≡ length principals → list_all fits (process_rows principals scripts) ≡ true
    → slice_get scripts i ≡ Some script → list_all fits_line script ≡ true
script_rows_fit principals [] i script many e at = absurd cc
script_rows_fit [] (s ∷ scripts) i script many e at = absurd (omega (arith, many))
script_rows_fit (who ∷ principals) (s ∷ scripts) zero script many e at =
    subst (λ (s : List Line). list_all fits_line s ≡ true) (same s script at)
    (sym (list_all-map fits row.Line s) ∙ (behind who s (process_rows principals scripts) e).0)
  where
    same : (a b : List Line) → Some a ≡ Some b → a ≡ b
    same a b e = cc
script_rows_fit (who ∷ principals) (s ∷ scripts) (suc i) script many e at =
    script_rows_fit principals scripts i script (omega (arith, many)) (behind who s (process_rows principals scripts) e).1 at

pub script_fits : (session : Outline) (i : ℕ) (script : List Line) → length session.scripts ≡ length session.principals
    → list_all fits (rows_of session) ≡ true → slice_get session.scripts i ≡ Some script → list_all fits_line script ≡ true
script_fits session i script many e at =
    script_rows_fit session.principals session.scripts i script many (rows_fit session e).1 at

pub script_sayable : (version : ℕ) (scripts : List (List Line)) (i : ℕ) (script : List Line) → list_all (is_script version) scripts ≡ true
    → slice_get scripts i ≡ Some script → list_all (is_script_line version) script ≡ true
script_sayable version scripts i script e at =
    (both (list_all (is_script_line version) script) (ends script) (all_at (is_script version) scripts i script e at)).0

-- the lines of a process
pub lines_at : (session : Outline) (p first : ℕ) (script : List Line) → 1 ≤ p → slice_get session.scripts (p - 1) ≡ Some script
    → first ≡ first_line session p → lines_of session p ≡ numbered first script
lines_at session zero first script some at is = absurd (omega (arith, some))
lines_at session (suc q) first script some at is =
    let before : suc q - 1 ≡ q = omega arith in
    ap (numbered (first_line session (suc q)))
    (script_is session.scripts q script (sym (ap (slice_get session.scripts) before) ∙ at))
    ∙ ap (λ (n : ℕ). numbered n script) (sym is)

no_script : (scripts : List (List Line)) (q : ℕ) → slice_get scripts q ≡ None → script_at scripts q ≡ []
no_script [] q e = refl
no_script (s ∷ scripts) zero e = absurd cc
no_script (s ∷ scripts) (suc q) e = no_script scripts q e

pub no_lines : (session : Outline) (p : ℕ) → 1 ≤ p → slice_get session.scripts (p - 1) ≡ None → lines_of session p ≡ []
no_lines session zero some at = absurd (omega (arith, some))
no_lines session (suc q) some at =
    let before : suc q - 1 ≡ q = omega arith in
    ap (numbered (first_line session (suc q)))
    (no_script session.scripts q (sym (ap (slice_get session.scripts) before) ∙ at))
