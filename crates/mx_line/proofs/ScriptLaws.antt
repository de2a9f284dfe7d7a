-- The lines of scripts under their numbers: which is next, and that all are among those of the session.
use Rattle.std.proofs.Common.{◌≡◌, ℕ, zero, suc, ◌<◌, ◌≤◌, ◌+◌, Bool, true, List, [], ◌∷◌, drop, length, Some, None, refl, sym, ◌∙◌, ap, arith}
use Rattle.std.proofs.lemmas.List.Sums.{sum_by-cons}
use Rattle.std.specs.List.{slice_get, sum_by, list_all}
use Rattle.mx_request.proofs.StepLaws.{both}
use Rattle.mx_script.specs.Sessions.{is_script, is_script_line, ends}
use Rattle.mx_script.specs.declared.lines.Line.{Line}
use Rattle.mx_transcript.specs.Scripts.{numbered, lines_before, script_at}

pub numbered_next : (first k : ℕ) (lines : List Line) (line : Line) → slice_get lines k ≡ Some line
    → drop k (numbered first lines) ≡ (first + k, line) ∷ drop (suc k) (numbered first lines)
numbered_next first k [] line e = absurd (cc)
numbered_next first zero (l ∷ lines) line e =
    let none : first ≡ first + 0 = omega arith in
    ap (λ (m : Line). (first, m) ∷ numbered (suc first) lines) (same l line e) ∙ ap (λ n. (n, line) ∷ numbered (suc first) lines) none
  where
    same : (a b : Line) → Some a ≡ Some b → a ≡ b
    same a b e = cc
numbered_next first (suc k) (l ∷ lines) line e =
    let shift : suc first + k ≡ first + suc k = omega arith in
    numbered_next (suc first) k lines line e ∙ ap (λ n. (n, line) ∷ drop (suc k) (numbered (suc first) lines)) shift

pub numbered_none : (first k : ℕ) (lines : List Line) → length lines ≤ k → drop k (numbered first lines) ≡ []
numbered_none first zero [] h = refl
numbered_none first (suc k) [] h = refl
numbered_none first zero (l ∷ lines) h = absurd (omega (arith, h))
numbered_none first (suc k) (l ∷ lines) h = numbered_none (suc first) k lines (omega (arith, h))

pub script_is : (scripts : List (List Line)) (i : ℕ) (script : List Line) → slice_get scripts i ≡ Some script → script_at scripts i ≡ script
script_is [] i script e = absurd (cc)
script_is (s ∷ scripts) zero script e = cc
script_is (s ∷ scripts) (suc i) script e = script_is scripts i script e

pub past_end : {A : Type 0} (xs : List A) (i : ℕ) → slice_get xs i ≡ None → length xs ≤ i
past_end [] i e = omega arith
past_end (x ∷ xs) zero e = absurd (cc)
past_end (x ∷ xs) (suc i) e = omega (arith, past_end xs i e)

-- the lines of a script are among those of the session
pub scripts_fit : (scripts : List (List Line)) (i : ℕ) → lines_before scripts i + length (script_at scripts i) ≤ length scripts + sum_by length scripts
scripts_fit [] zero = omega arith
scripts_fit [] (suc i) = omega arith
scripts_fit (script ∷ scripts) zero =
    let here : length (script_at (script ∷ scripts) zero) ≡ length script = refl in
    let all : sum_by length (script ∷ scripts) ≡ length script + sum_by length scripts = sum_by-cons length script scripts in
    omega (arith, here, all)
scripts_fit (script ∷ scripts) (suc i) =
    let h = scripts_fit scripts i in
    let before : lines_before (script ∷ scripts) (suc i) ≡ 1 + length script + lines_before scripts i = refl in
    let all : sum_by length (script ∷ scripts) ≡ length script + sum_by length scripts = sum_by-cons length script scripts in
    omega (arith, h, before, all)

pub fewer_done : (first k : ℕ) (lines : List Line) (next : ℕ × Line) (left : List (ℕ × Line)) → drop k (numbered first lines) ≡ next ∷ left → k < length lines
fewer_done first zero [] next left e = absurd (cc)
fewer_done first (suc k) [] next left e = absurd (cc)
fewer_done first zero (l ∷ lines) next left e = omega arith
fewer_done first (suc k) (l ∷ lines) next left e = omega (arith, fewer_done (suc first) k lines next left e)

-- the line of a script is one that a script may hold
pub all_in : (f : Line → Bool) (first k : ℕ) (lines : List Line) (number : ℕ) (line : Line) (left : List (ℕ × Line)) → list_all f lines ≡ true
    → drop k (numbered first lines) ≡ (number, line) ∷ left → f line ≡ true
all_in f first zero [] number line left all e = absurd (cc)
all_in f first (suc k) [] number line left all e = absurd (cc)
all_in f first zero (l ∷ lines) number line left all e =
    let same : l ≡ line = heads e in ap f (sym same) ∙ (both (f l) (list_all f lines) all).0
  where
    heads : (first, l) ∷ numbered (suc first) lines ≡ (number, line) ∷ left → l ≡ line
    heads e = ap (λ (p : ℕ × Line). p.1) (first_of (first, l) (number, line) (numbered (suc first) lines) left e)
      where
        first_of : (a b : ℕ × Line) (more others : List (ℕ × Line)) → a ∷ more ≡ b ∷ others → a ≡ b
        first_of a b more others e = cc
all_in f first (suc k) (l ∷ lines) number line left all e =
    all_in f (suc first) k lines number line left (both (f l) (list_all f lines) all).1 e

pub script_lines : (version : ℕ) (scripts : List (List Line)) (i : ℕ) → list_all (is_script version) scripts ≡ true
    → list_all (is_script_line version) (script_at scripts i) ≡ true
script_lines version [] i e = refl
script_lines version (script ∷ scripts) zero e =
    (both (list_all (is_script_line version) script) (ends script)
    (both (is_script version script) (list_all (is_script version) scripts) e).0).0
script_lines version (script ∷ scripts) (suc i) e =
    script_lines version scripts i (both (is_script version script) (list_all (is_script version) scripts) e).1
