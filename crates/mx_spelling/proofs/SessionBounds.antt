-- The lines of a session are within the bounds, and so are the registers and return gates with which its processes begin.
use Rattle.std.proofs.Common.{◌≡◌, ℕ, zero, suc, ◌+◌, ◌≤◌, ◌^◌, true, List, [], ◌∷◌, ◌++◌, length, map, replicate, Option, refl, sym, ◌∙◌, arith}
use Rattle.std.specs.List.{All, list_all, sum_by}
use Rattle.std.proofs.lemmas.List.{length-map}
use Rattle.std.proofs.lemmas.List.Elements.{All-nil, All-cons}
use Rattle.std.proofs.lemmas.List.Folds.{list_all-append, list_all-map}
use Rattle.std.proofs.lemmas.List.Sums.{sum_by-cons}
use Rattle.mx_ptr.specs.Pointers.{PointerParts, IsPackable}
use Rattle.mx_call.proofs.RegisterLaws.{base_packable}
use Rattle.mx_call.specs.Loading.{opening_in}
use Rattle.mx_call.specs.Registers.{ArePackable, stack_base}
use Rattle.mx_upcall.specs.Gates.{no_gates}
use Rattle.mx_upcall.specs.Soundness.{IsPackableGate}
use Rattle.mx_request.proofs.StepLaws.{both}
use Rattle.mx_request.specs.Versions.{most_gates}
use Rattle.mx_request.specs.declared.entrants.Entrant.{Entrant}
use Rattle.mx_request.specs.declared.requests.Request.{Request}
use Rattle.mx_script.specs.SessionTexts.{asked, fits, fits_line, history_rows, process_rows, rows_of, setup_rows}
use Rattle.mx_script.specs.Sessions.{IsSession, Outline}
use Rattle.mx_script.specs.declared.lines.Line.{Line}
use Rattle.mx_script.specs.declared.lines.Line.TheVariants.{Ask}
use Rattle.mx_script.specs.declared.rows.Row.{Row}
use Rattle.mx_script.specs.declared.rows.Row.TheVariants as row
use Rattle.mx_transcript.specs.Openings.{opening_control}
use Rattle.mx_transcript.specs.Scripts.{first_line, lines_before, lines_of, numbered, script_at}
use Rattle.mx_spelling.proofs.LineBounds.{IsLowLine}
use Rattle.mx_spelling.proofs.NextBounds.{IsGood, IsWay}

-- each line of a process is one of its session, and its number has 32 bits
numbered_low : (first : ℕ) (lines : List Line) → first + length lines ≤ 2 ^ 32 → list_all fits_line lines ≡ true
    → All IsLowLine (numbered first lines)
numbered_low first [] h e = All-nil IsLowLine
numbered_low first (line ∷ lines) h e =
    let f = both (fits_line line) (list_all fits_line lines) e in
    All-cons IsLowLine (first, line) (numbered (suc first) lines) (omega (arith, h), f.0)
    (numbered_low (suc first) lines (omega (arith, h)) f.1)

pub parts_fit : (xs ys : List Row) → list_all fits (xs ++ ys) ≡ true → (list_all fits xs ≡ true) × (list_all fits ys ≡ true)
parts_fit xs ys e = both (list_all fits xs) (list_all fits ys) (sym (list_all-append fits xs ys) ∙ e)

setup_fits : (version : ℕ) (history : Option ℕ) (setup : List Request) → list_all fits (setup_rows version history setup) ≡ true
    → list_all fits_line (map Ask setup) ≡ true
setup_fits version history setup e =
    let f = both (fits (row.Header version)) (list_all fits (history_rows history ++ map asked setup)) e in
    list_all-map fits_line Ask setup ∙ sym (list_all-map fits asked setup) ∙ (parts_fit (history_rows history) (map asked setup) f.1).1

scripts_fit : (entrants : List Entrant) (scripts : List (List Line)) → length scripts ≡ length entrants
    → list_all fits (process_rows entrants scripts) ≡ true → (p : ℕ) → list_all fits_line (script_at scripts p) ≡ true
scripts_fit entrants [] same e p = refl
scripts_fit [] (script ∷ scripts) same e p = absurd (omega (arith, same))
scripts_fit (entrant ∷ entrants) (script ∷ scripts) same e p =
    let f = both (fits (row.Process entrant)) (list_all fits (map row.Line script ++ process_rows entrants scripts)) e in
    let g = parts_fit (map row.Line script) (process_rows entrants scripts) f.1 in
    by_place p (sym (list_all-map fits row.Line script) ∙ g.0) (scripts_fit entrants scripts (omega (arith, same)) g.1)
  where
    by_place : (p : ℕ) → list_all fits_line script ≡ true → ((q : ℕ) → list_all fits_line (script_at scripts q) ≡ true)
        → list_all fits_line (script_at (script ∷ scripts) p) ≡ true
    by_place zero here rest = here
    by_place (suc q) here rest = rest q

before_within : (scripts : List (List Line)) (p : ℕ)
    → lines_before scripts p + length (script_at scripts p) ≤ length scripts + sum_by length scripts
before_within [] zero = omega arith
before_within [] (suc p) = omega arith
before_within (script ∷ scripts) zero =
    let all : sum_by length (script ∷ scripts) ≡ length script + sum_by length scripts = sum_by-cons length script scripts in
    omega (arith, all)
before_within (script ∷ scripts) (suc p) =
    let all : sum_by length (script ∷ scripts) ≡ length script + sum_by length scripts = sum_by-cons length script scripts in
    let h = before_within scripts p in
    omega (arith, all, h)

pub session_low : (x : Outline) → IsSession x → list_all fits (rows_of x) ≡ true → (p : ℕ) → All IsLowLine (lines_of x p)
session_low x is e zero =
    let f = parts_fit (setup_rows x.version x.history x.setup ++ process_rows x.principals x.scripts) (row.End ∷ []) e in
    let g = parts_fit (setup_rows x.version x.history x.setup) (process_rows x.principals x.scripts) f.0 in
    let few = is.lines in
    let same : length (map Ask x.setup) ≡ length x.setup = length-map x.setup Ask in
    numbered_low (first_line x zero) (map Ask x.setup) (omega (arith, few, same)) (setup_fits x.version x.history x.setup g.0)
session_low x is e (suc p) =
    let f = parts_fit (setup_rows x.version x.history x.setup ++ process_rows x.principals x.scripts) (row.End ∷ []) e in
    let g = parts_fit (setup_rows x.version x.history x.setup) (process_rows x.principals x.scripts) f.0 in
    let few = is.lines in
    let same = is.scripts in
    let within = before_within x.scripts p in
    numbered_low (first_line x (suc p)) (script_at x.scripts p) (omega (arith, few, same, within))
    (scripts_fit x.principals x.scripts is.scripts g.1 p)

-- a process begins within the bounds
all_alike : (n : ℕ) (p : PointerParts) → IsPackable p → All IsPackable (replicate n p)
all_alike zero p is = All-nil IsPackable
all_alike (suc n) p is = All-cons IsPackable p (replicate n p) is (all_alike n p is)

opening_packable : (ring : ℕ) → ring ≤ 7 → ArePackable (opening_in ring)
opening_packable ring low = record {
  ring = low;
  procedure = base_packable ring low;
  pr = all_alike 8 (stack_base ring) (base_packable ring low);
}

begun_good : (ring most : ℕ) → ring ≤ 7 → IsGood (record { registers = opening_in ring; gates = no_gates most })
begun_good ring most low = record {
  packable = record { registers = opening_packable ring low; gates = All-nil IsPackableGate };
  word = omega arith;
  here = (refl, refl);
  ways = All-nil IsWay;
}

pub start_good : (x : Outline) (p : ℕ) → IsGood (opening_control x p)
start_good x zero = begun_good 0 (most_gates x.version) (omega arith)
start_good x (suc p) = begun_good 4 (most_gates x.version) (omega arith)
