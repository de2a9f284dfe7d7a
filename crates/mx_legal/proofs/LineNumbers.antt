-- The lines of a process and their numbers in the session text.
use Rattle.std.proofs.Common.{◌≡◌, inl, inr, ℕ, zero, suc, ◌+◌, ◌-◌, ◌<◌, ◌≤◌, ◌^◌, List, [], ◌∷◌, length, refl, ap, sym, ◌∙◌, arith}
use Rattle.std.specs.Prelude.{get_or, map, min}
use Rattle.std.specs.List.{sum_by}
use Rattle.std.proofs.lemmas.Bool.{cases_lt}
use Rattle.std.proofs.lemmas.List.{length-map}
use Rattle.std.proofs.lemmas.List.Sums.{sum_by-cons}
use Rattle.mx_script.specs.Sessions.{IsSession, Outline, line_count}
use Rattle.mx_script.specs.declared.lines.Line.{Line}
use Rattle.mx_script.specs.declared.lines.Line.TheVariants.{Ask}
use Rattle.mx_transcript.specs.Scripts.{first_line, lines_before, lines_of, numbered, script_at}
use Rattle.mx_legal.specs.Breach.{number_at}

pub numbered_count : (first : ℕ) (lines : List Line) → length (numbered first lines) ≡ length lines
numbered_count first [] = refl
numbered_count first (line ∷ lines) = ap suc (numbered_count (suc first) lines)

script_is : (scripts : List (List Line)) (i : ℕ) (script : List Line) → i < length scripts → script ≡ get_or scripts i script
    → script_at scripts i ≡ script
script_is [] i script l is = absurd (omega (arith, l))
script_is (first ∷ scripts) zero script l is = sym is
script_is (first ∷ scripts) (suc i) script l is = script_is scripts i script (omega (arith, l)) is

no_script : (scripts : List (List Line)) (i : ℕ) → length scripts ≤ i → length (script_at scripts i) ≡ 0
no_script [] i l = refl
no_script (script ∷ scripts) zero l = absurd (omega (arith, l))
no_script (script ∷ scripts) (suc i) l = no_script scripts i (omega (arith, l))

one_less : (i : ℕ) → suc i - 1 ≡ i
one_less i = omega arith

pub setup_line_count : (session : Outline) (p lines : ℕ) → p ≡ 0 → lines ≡ length session.setup → lines ≡ length (lines_of session p)
setup_line_count session zero lines first is =
    is ∙ sym (numbered_count (first_line session zero) (map Ask session.setup) ∙ length-map session.setup Ask)
setup_line_count session (suc p) lines first is = absurd (omega (arith, first))

pub script_line_count : (session : Outline) (p : ℕ) (script : List Line) → (p ≡ 0 → ⊥) → p - 1 < length session.scripts
    → script ≡ get_or session.scripts (p - 1) script → length script ≡ length (lines_of session p)
script_line_count session zero script first l is = absurd (first refl)
script_line_count session (suc p) script first l is =
    let at : script ≡ get_or session.scripts p script = is ∙ ap (λ (i : ℕ). get_or session.scripts i script) (one_less p) in
    sym (numbered_count (first_line session (suc p)) (script_at session.scripts p)
    ∙ ap (λ (s : List Line). length s) (script_is session.scripts p script (omega (arith, l)) at))

pub no_line_count : (session : Outline) (p : ℕ) → (p ≡ 0 → ⊥) → length session.scripts ≤ p - 1 → 0 ≡ length (lines_of session p)
no_line_count session zero first l = absurd (first refl)
no_line_count session (suc p) first l =
    sym (numbered_count (first_line session (suc p)) (script_at session.scripts p) ∙ no_script session.scripts p (omega (arith, l)))

-- the number at a place of lines that are numbered from one on
pub numbered_at : (first k : ℕ) (lines : List Line) → 1 ≤ length lines → number_at (numbered first lines) k ≡ first + min k (length lines - 1)
numbered_at first k [] l = absurd (omega (arith, l))
numbered_at first k (line ∷ []) l = omega arith
numbered_at first zero (line ∷ next ∷ lines) l = omega arith
numbered_at first (suc k) (line ∷ next ∷ lines) l =
    let rest = numbered_at (suc first) k (next ∷ lines) (omega arith) in omega (arith, rest)

pub number_is : (session : Outline) (p k : ℕ) → 1 ≤ length (lines_of session p)
    → first_line session p + min k (length (lines_of session p) - 1) ≡ number_at (lines_of session p) k
number_is session zero k l =
    let count = numbered_count (first_line session zero) (map Ask session.setup) in
    let at = numbered_at (first_line session zero) k (map Ask session.setup) (omega (arith, l, count)) in
    ap (λ (n : ℕ). first_line session zero + min k (n - 1)) count ∙ sym at
number_is session (suc p) k l =
    let count = numbered_count (first_line session (suc p)) (script_at session.scripts p) in
    let at = numbered_at (first_line session (suc p)) k (script_at session.scripts p) (omega (arith, l, count)) in
    ap (λ (n : ℕ). first_line session (suc p) + min k (n - 1)) count ∙ sym at

lines_to : (scripts : List (List Line)) (p : ℕ) → p < length scripts
    → lines_before scripts p + 1 + length (script_at scripts p) ≤ length scripts + sum_by length scripts
lines_to [] p l = absurd (omega (arith, l))
lines_to (script ∷ scripts) zero l = let sum = sum_by-cons length script scripts in omega (arith, sum)
lines_to (script ∷ scripts) (suc p) l =
    let sum = sum_by-cons length script scripts in
    let rest = lines_to scripts p (omega (arith, l)) in
    omega (arith, sum, rest)

-- a process that has lines is one of the session, and their numbers are among those of the text
pub record AreNumbers (session : Outline) (p : ℕ) : Type 0 where
  pub process : p ≤ 15
  pub below : first_line session p + length (lines_of session p) < 2 ^ 32

script_there : (scripts : List (List Line)) (p : ℕ) → 1 ≤ length (script_at scripts p) → p < length scripts
script_there [] p l = absurd (omega (arith, l))
script_there (script ∷ scripts) zero l = omega arith
script_there (script ∷ scripts) (suc p) l = let rest = script_there scripts p l in omega (arith, rest)

pub are_numbers : (session : Outline) (p : ℕ) → IsSession session → 1 ≤ length (lines_of session p) → AreNumbers session p
are_numbers session zero is l =
    let count = numbered_count (first_line session zero) (map Ask session.setup) ∙ length-map session.setup Ask in
    let lines = is.lines in
    record { process = omega arith; below = omega (arith, count, lines) }
are_numbers session (suc p) is l =
    let count = numbered_count (first_line session (suc p)) (script_at session.scripts p) in
    let there = script_there session.scripts p (omega (arith, l, count)) in
    let lines = is.lines in
    let to = lines_to session.scripts p there in
    let scripts = is.scripts in
    let most = is.most in
    record { process = omega (arith, there, scripts, most); below = omega (arith, count, lines, to, scripts) }

pub process_fits : (session : Outline) (p lines : ℕ) → IsSession session → lines ≡ length (lines_of session p) → (lines ≡ 0 → ⊥) → p ≤ 15
process_fits session p lines is count some = elim (cases_lt 0 lines) [
  | inl l ↦ (are_numbers session p is (omega (arith, l, count))).process
  | inr l ↦ absurd (some (omega (arith, l)))
]

-- and as the code adds it up
module _ (session : Outline) (p k lines first least : ℕ) (is : IsSession session) (count : lines ≡ length (lines_of session p))
    (some : lines ≡ 0 → ⊥) (first_is : first ≡ first_line session p) (least_is : least ≡ min k (lines - 1)) where
  some_lines : 1 ≤ length (lines_of session p)
  some_lines = elim (cases_lt 0 lines) [
    | inl l ↦ omega (arith, l, count)
    | inr l ↦ absurd (some (omega (arith, l)))
  ]

  pub sum_fits : first + least < 2 ^ 32
  sum_fits =
      let below = (are_numbers session p is some_lines).below in
      let some' = some_lines in
      omega (arith, below, count, first_is, least_is, some')

  pub sum_is : first + least ≡ number_at (lines_of session p) k
  sum_is =
      ap (λ (n : ℕ). n + least) first_is ∙ ap (λ (n : ℕ). first_line session p + n) least_is
      ∙ ap (λ (n : ℕ). first_line session p + min k (n - 1)) count ∙ number_is session p k some_lines
