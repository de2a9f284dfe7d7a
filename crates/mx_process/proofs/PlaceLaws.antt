-- The places of a script's lines.
use Rattle.std.proofs.Common.{◌≡◌, ◌⊎◌, inl, inr, ℕ, zero, suc, ◌<◌, ◌≤◌, ◌+◌, ◌-◌, ◌^◌, Bool, true, false, if◌then◌else◌, List, [], ◌∷◌, drop, length, Some, refl, sym, ◌∙◌, ap, arith}
use Rattle.std.proofs.lemmas.Bool.{cases_lt}
use Rattle.std.specs.List.{list_all, slice_get}
use Rattle.mx_line.proofs.ScriptLaws.{all_in, fewer_done, numbered_next, script_lines, scripts_fit}
use Rattle.mx_line.specs.Operands.{IsSayable}
use Rattle.mx_request.proofs.StepLaws.{both}
use Rattle.mx_request.specs.declared.requests.Request.{Request}
use Rattle.mx_request.specs.declared.requests.Request.TheVariants as ask
use Rattle.mx_script.specs.Sessions.{Outline, IsSession, ends, is_last, is_logout, is_script, is_script_line}
use Rattle.mx_script.specs.declared.lines.Line.{Line}
use Rattle.mx_script.specs.declared.lines.Line.TheVariants as variant
use Rattle.mx_transcript.specs.Parts.{last_line}
use Rattle.mx_transcript.specs.Scripts.{first_line, lines_of, numbered, script_at}
use Rattle.mx_process.specs.Processes.{script_of}

-- the lines of a process of the session
pub lines_are : (x : Outline) (p : ℕ) → 1 ≤ p → lines_of x p ≡ numbered (first_line x p) (script_of x p)
lines_are x zero some = absurd (omega (arith, some))
lines_are x (suc i) some =
    let place : i ≡ suc i - 1 = omega arith in
    ap (λ k. numbered (first_line x (suc i)) (script_at x.scripts k)) place

numbered_count : (first : ℕ) (lines : List Line) → length (numbered first lines) ≡ length lines
numbered_count first [] = refl
numbered_count first (l ∷ lines) = ap suc (numbered_count (suc first) lines)

-- as many as its script has
pub lines_count : (x : Outline) (p : ℕ) → 1 ≤ p → length (lines_of x p) ≡ length (script_of x p)
lines_count x p some =
    ap (λ (l : List (ℕ × Line)). length l) (lines_are x p some) ∙ numbered_count (first_line x p) (script_of x p)

next_at : (first k : ℕ) (lines : List Line) (number : ℕ) (line : Line) (left : List (ℕ × Line))
    → drop k (numbered first lines) ≡ (number, line) ∷ left → number ≡ first + k
next_at first zero [] number line left e = absurd (cc)
next_at first (suc k) [] number line left e = absurd (cc)
next_at first zero (l ∷ lines) number line left e =
    let none : first ≡ first + 0 = omega arith in
    ap (λ (p : ℕ × Line). p.0) (sym (same (first, l) (number, line) (numbered (suc first) lines) left e)) ∙ none
  where
    same : (a b : ℕ × Line) (more others : List (ℕ × Line)) → a ∷ more ≡ b ∷ others → a ≡ b
    same a b more others e = cc
next_at first (suc k) (l ∷ lines) number line left e =
    let shift : suc first + k ≡ first + suc k = omega arith in
    next_at (suc first) k lines number line left e ∙ shift

-- a script ends with its `logout`
script_ends : (version : ℕ) (scripts : List (List Line)) (i : ℕ) → list_all (is_script version) scripts ≡ true
    → (script_at scripts i ≡ []) ⊎ (ends (script_at scripts i) ≡ true)
script_ends version [] i e = inl refl
script_ends version (script ∷ scripts) zero e =
    inr (both (list_all (is_script_line version) script) (ends script)
    (both (is_script version script) (list_all (is_script version) scripts) e).0).1
script_ends version (script ∷ scripts) (suc i) e =
    script_ends version scripts i (both (is_script version script) (list_all (is_script version) scripts) e).1

asks_out : (request : Request) → is_logout (variant.Ask request) ≡ true → request ≡ ask.Logout
asks_out ask.Logout e = refl
asks_out (ask.CreateDir path d1 d2) e = absurd cc
asks_out (ask.CreateSeg path words brackets) e = absurd cc
asks_out (ask.CreateObject path words brackets object) e = absurd cc
asks_out (ask.CreateLink path target) e = absurd cc
asks_out (ask.Rename path name) e = absurd cc
asks_out (ask.Delete path) e = absurd cc
asks_out (ask.SetAcl path id modes) e = absurd cc
asks_out (ask.DelAcl path id) e = absurd cc
asks_out (ask.SetIacl path kind id modes) e = absurd cc
asks_out (ask.DelIacl path kind id) e = absurd cc
asks_out (ask.SetBrackets path brackets) e = absurd cc
asks_out (ask.SetDirBrackets path d1 d2) e = absurd cc
asks_out (ask.SetClass path class) e = absurd cc
asks_out (ask.Status path) e = absurd cc
asks_out (ask.List path) e = absurd cc
asks_out (ask.ChangeWdir path) e = absurd cc
asks_out (ask.SetRules rules) e = absurd cc
asks_out (ask.Initiate path name) e = absurd cc
asks_out (ask.Terminate segno) e = absurd cc
asks_out (ask.Wakeup to word) e = absurd cc
asks_out ask.Block e = absurd cc
asks_out (ask.Link segno word) e = absurd cc
asks_out ask.Resume e = absurd cc

logs_out : (l : Line) → is_logout l ≡ true → l ≡ variant.Ask ask.Logout
logs_out (variant.Ask request) e = ap variant.Ask (asks_out request e)
logs_out (variant.Set word) e = absurd cc
logs_out (variant.Epp n o) e = absurd cc
logs_out (variant.Lda o) e = absurd cc
logs_out (variant.Sta o) e = absurd cc
logs_out (variant.Spri n o) e = absurd cc
logs_out variant.Fetch e = absurd cc
logs_out (variant.Call o) e = absurd cc
logs_out (variant.Return o) e = absurd cc

last_ends : (first k : ℕ) (lines : List Line) (number : ℕ) (l : Line) (left : List (ℕ × Line)) → ends lines ≡ true
    → drop k (numbered first lines) ≡ (number, l) ∷ left → length lines ≤ suc k → l ≡ variant.Ask ask.Logout
last_ends first zero [] number l left end at past = absurd cc
last_ends first (suc k) [] number l left end at past = absurd cc
last_ends first zero (own ∷ []) number l left end at past =
    sym (same (first, own) (number, l) left at) ∙ logs_out own (by_test (is_logout own) refl end)
  where
    same : (a b : ℕ × Line) (others : List (ℕ × Line)) → a ∷ [] ≡ b ∷ others → a.1 ≡ b.1
    same a b others e = ap (λ (c : ℕ × Line). c.1) (heads a b others e)
      where
        heads : (a b : ℕ × Line) (others : List (ℕ × Line)) → a ∷ [] ≡ b ∷ others → a ≡ b
        heads a b others e = cc

    by_test : (test : Bool) → is_logout own ≡ test → (if test then true else false) ≡ true → is_logout own ≡ true
    by_test true is e = is
    by_test false is e = absurd cc
last_ends first zero (own ∷ next ∷ lines) number l left end at past = absurd (omega (arith, past))
last_ends first (suc k) (own ∷ lines) number l left end at past =
    by_test (is_logout own) end (λ e. last_ends (suc first) k lines number l left e at (omega (arith, past)))
  where
    none_behind : (lines : List Line) → is_last lines ≡ true → drop k (numbered (suc first) lines) ≡ (number, l) ∷ left → ⊥
    none_behind [] last at = none k at
      where
        none : (k : ℕ) → drop k (numbered (suc first) []) ≡ (number, l) ∷ left → ⊥
        none zero e = cc
        none (suc k) e = cc
    none_behind (next ∷ lines) last at = cc

    by_test : (test : Bool) → (if test then is_last lines else ends lines) ≡ true
        → (ends lines ≡ true → l ≡ variant.Ask ask.Logout) → l ≡ variant.Ask ask.Logout
    by_test true e on = absurd (none_behind lines e at)
    by_test false e on = on e

-- the line at a place
module _ (x : Outline) (p n : ℕ) (some : 1 ≤ p) where
  -- has the number so far behind the first
  pub number_at : (number : ℕ) (line : Line) (left : List (ℕ × Line)) → drop n (lines_of x p) ≡ (number, line) ∷ left
      → number ≡ first_line x p + n
  number_at number line left e =
      next_at (first_line x p) n (script_of x p) number line left (ap (drop n) (sym (lines_are x p some)) ∙ e)

  -- a script may hold it
  pub sayable_at : (number : ℕ) (line : Line) (left : List (ℕ × Line)) → IsSession x
      → drop n (lines_of x p) ≡ (number, line) ∷ left → IsSayable line
  sayable_at number line left session e = (
    x.version,
    all_in (is_script_line x.version) (first_line x p) n (script_of x p) number line left
        (script_lines x.version x.scripts (p - 1) session.each)
        (ap (drop n) (sym (lines_are x p some)) ∙ e),
  )

  pub fewer_at : (number : ℕ) (line : Line) (left : List (ℕ × Line)) → drop n (lines_of x p) ≡ (number, line) ∷ left
      → n < length (script_of x p)
  fewer_at number line left e =
      fewer_done (first_line x p) n (script_of x p) (number, line) left
      (ap (drop n) (sym (lines_are x p some)) ∙ e)

  pub script_at_place : (line : Line) → slice_get (script_of x p) n ≡ Some line
      → drop n (lines_of x p) ≡ (first_line x p + n, line) ∷ drop (suc n) (lines_of x p)
  script_at_place line e =
      let are = lines_are x p some in
      ap (drop n) are ∙ numbered_next (first_line x p) n (script_of x p) line e
      ∙ ap (λ (l : List (ℕ × Line)). (first_line x p + n, line) ∷ drop (suc n) l) (sym are)

  -- the last is the `logout`
  pub logout_at : (number : ℕ) (line : Line) (left : List (ℕ × Line)) → IsSession x
      → drop n (lines_of x p) ≡ (number, line) ∷ left → length (lines_of x p) ≤ suc n → line ≡ variant.Ask ask.Logout
  logout_at number line left session e past =
      elim (script_ends x.version x.scripts (p - 1) session.each) [
        | inl none ↦ absurd (empty none)
        | inr end ↦ last_ends (first_line x p) n (script_of x p) number line left end
            (ap (drop n) (sym (lines_are x p some)) ∙ e) (omega (arith, past, count))
      ]
    where
      count : length (lines_of x p) ≡ length (script_of x p)
      count = lines_count x p some

      empty : script_of x p ≡ [] → ⊥
      empty none =
          let fewer = fewer_at number line left e in
          let lines = ap (λ (l : List Line). length l) none in
          absurd (omega (arith, fewer, lines))

  -- so any other line has one behind it
  pub before_last : (number : ℕ) (line : Line) (left : List (ℕ × Line)) → IsSession x
      → drop n (lines_of x p) ≡ (number, line) ∷ left → (line ≡ variant.Ask ask.Logout → ⊥) → suc n < length (lines_of x p)
  before_last number line left session e other = elim (cases_lt (suc n) (length (lines_of x p))) [
    | inl less ↦ less
    | inr past ↦ absurd (other (logout_at number line left session e past))
  ]

-- numbers of lines have 32 bits
pub numbers_fit : (x : Outline) (p : ℕ) → 1 ≤ p → IsSession x → first_line x p + length (script_of x p) < 2 ^ 32
numbers_fit x zero some session = absurd (omega (arith, some))
numbers_fit x (suc i) some session =
    let place : suc i - 1 ≡ i = omega arith in
    let scripts = session.scripts in
    let lines = session.lines in
    let fit = scripts_fit x.scripts i in
    let count = ap (λ k. length (script_at x.scripts k)) place in
    omega (arith, fit, scripts, lines, count)

-- where there are lines there is a last one
last_of : (l : ℕ × Line) (lines : List (ℕ × Line)) → (last : ℕ × Line) × (drop (length lines) (l ∷ lines) ≡ last ∷ [])
last_of l [] = (l, refl)
last_of l (next ∷ lines) = last_of next lines

pub has_last : (lines : List (ℕ × Line)) → 1 ≤ length lines → (last : ℕ × Line) × (last_line lines ≡ last ∷ [])
has_last [] some = absurd (omega (arith, some))
has_last (l ∷ lines) some =
    let count : suc (length lines) - 1 ≡ length lines = omega arith in
    let last = last_of l lines in
    (last.0, ap (λ n. drop n (l ∷ lines)) count ∙ last.1)

-- so is there a line at each place before the end
pub line_there : (n : ℕ) (lines : List (ℕ × Line)) → n < length lines
    → (l : ℕ × Line) × (left : List (ℕ × Line)) × (drop n lines ≡ l ∷ left)
line_there n [] less = absurd (omega (arith, less))
line_there zero (l ∷ lines) less = (l, lines, refl)
line_there (suc n) (l ∷ lines) less = line_there n lines (omega (arith, less))
