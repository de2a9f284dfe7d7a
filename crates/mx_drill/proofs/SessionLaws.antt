-- The drill is a session, and its text is the text of it alone.
use Rattle.std.proofs.Common.{◌≡◌, ℕ, ◌+◌, ◌-◌, ◌%◌, ◌^◌, ◌<◌, ◌≤◌, Bool, true, false, not, List, [], ◌∷◌, ◌++◌, map, length, Some, None, refl, ap, ◌∙◌, arith, length-append, nat_eq}
use Rattle.std.specs.Prelude.{◌&&◌, if◌then◌else◌}
use Rattle.std.specs.List.{All, list_all}
use Rattle.std.proofs.lemmas.List.Elements.{All-nil, All-cons}
use Rattle.std.proofs.lemmas.List.Folds.{list_all-append, list_all-map}
use Rattle.mx_request.specs.declared.entrants.Entrant.{Entrant}
use Rattle.mx_request.specs.declared.requests.Request.{Request}
use Rattle.mx_request.specs.declared.requests.Request.TheVariants.{Logout}
use Rattle.mx_script.specs.Sessions.{outline, session_of, is_session, line_count, is_script, is_script_line, is_logout, is_last, ends}
use Rattle.mx_script.specs.SessionTexts.{rows_of, fits, fits_line, process_rows, setup_rows, session_text, IsText}
use Rattle.mx_script.specs.declared.lines.Line.{Line}
use Rattle.mx_script.specs.declared.lines.Line.TheVariants.{Ask}
use Rattle.mx_script.specs.declared.rows.Row.TheVariants as row
use Rattle.mx_drill.specs.Drills.{drill_process, one_to_four, drill_setup, round, rounds, initiation, drill_script, drill_session, store, load, change, overrun}
use Rattle.mx_drill.proofs.ListLaws.{all_pieces, pieces_length, pieces_more}
use Rattle.mx_drill.proofs.DrillLaws.{IsGoodTest, both, round_good, script_lines, no_logouts, text_lines}

-- what a process does before its logout
abbrev pub work : ℕ → ℕ → List Line
work number p = map initiation one_to_four ++ rounds number p 256

-- no round yet
pub rounds_none : (number p : ℕ) → rounds number p 0 ≡ []
unfolding rounds
rounds_none number p = refl

-- one round more
pub rounds_more : (number p i : ℕ) → rounds number p (i + 1) ≡ rounds number p i ++ round number p i
unfolding rounds
rounds_more number p i = pieces_more (round number p) 0 i i (omega arith)

rounds_good : (good : Line → Bool) → IsGoodTest good → (number p : ℕ) → number ≤ 999999 → 1 ≤ p → p ≤ 4 → list_all good (rounds number p 256) ≡ true
unfolding rounds
rounds_good good test number p known least most =
    all_pieces good (round number p) 0 256 (λ i low high. round_good good test number p i known least most (omega arith))

work_good : (good : Line → Bool) → IsGoodTest good → (number p : ℕ) → number ≤ 999999 → 1 ≤ p → p ≤ 4 → list_all good (work number p) ≡ true
work_good good test number p known least most =
    list_all-append good (map initiation one_to_four) (rounds number p 256)
    ∙ both (both (test.begins 1 (omega arith) (omega arith)) (both (test.begins 2 (omega arith) (omega arith))
    (both (test.begins 3 (omega arith) (omega arith)) (both (test.begins 4 (omega arith) (omega arith)) refl))))
    (rounds_good good test number p known least most)

-- a script ends where its first logout is its last line
ends_with_logout : (lines : List Line) → list_all (λ line. not (is_logout line)) lines ≡ true → ends (lines ++ Ask Logout ∷ []) ≡ true
ends_with_logout [] e = refl
ends_with_logout (line ∷ lines) e = step (is_logout line) (list_all (λ other. not (is_logout other)) lines) (ends (lines ++ Ask Logout ∷ [])) (is_last (lines ++ Ask Logout ∷ [])) e (ends_with_logout lines)
  where
    step : (b rest found after : Bool) → (not b && rest) ≡ true → (rest ≡ true → found ≡ true) → (if b then after else found) ≡ true
    step true rest found after e on = cc
    step false rest found after e on = on e

-- a script of a drill is a script, and a text may say its lines
script_is : (number p : ℕ) → number ≤ 999999 → 1 ≤ p → p ≤ 4 → is_script 1 (drill_script number p) ≡ true
script_is number p known least most =
    both (list_all-append (is_script_line 1) (work number p) (Ask Logout ∷ []) ∙ both (work_good (is_script_line 1) script_lines number p known least most) refl)
    (ends_with_logout (work number p) (work_good (λ line. not (is_logout line)) no_logouts number p known least most))

script_fits : (number p : ℕ) → number ≤ 999999 → 1 ≤ p → p ≤ 4 → list_all fits_line (drill_script number p) ≡ true
script_fits number p known least most =
    list_all-append fits_line (work number p) (Ask Logout ∷ []) ∙ both (work_good fits_line text_lines number p known least most) refl

round_length : (number p i : ℕ) → length (round number p i) ≤ 2
round_length number p i = of_kind (nat_eq (i % 4) 0) (nat_eq (i % 4) 1) (nat_eq (i % 4) 2)
  where
    of_kind : (a b c : Bool) → length (if a then store number p i else (if b then load number p i else (if c then change p i else overrun p))) ≤ 2
    of_kind true b c = omega arith
    of_kind false true c = omega arith
    of_kind false false true = omega arith
    of_kind false false false = omega arith

rounds_length : (number p : ℕ) → length (rounds number p 256) ≤ 512
unfolding rounds
rounds_length number p = pieces_length (round number p) 0 256 (round_length number p)

script_length : (number p : ℕ) → length (drill_script number p) ≤ 517
script_length number p =
    let e : length (rounds number p 256 ++ Ask Logout ∷ []) ≡ length (rounds number p 256) + 1 = length-append (rounds number p 256) (Ask Logout ∷ []) in
    let h : length (rounds number p 256) ≤ 512 = rounds_length number p in
    omega (arith, e, h)

few_of : (number : ℕ) (processes : List ℕ) → All (λ lines. lines ≤ 600) (map length (map (drill_script number) processes))
few_of number [] = All-nil (λ lines. lines ≤ 600)
few_of number (p ∷ processes) =
    All-cons (λ lines. lines ≤ 600) (length (drill_script number p)) (map length (map (drill_script number) processes))
    (omega (arith, script_length number p)) (few_of number processes)

pub few_lines : (number : ℕ) → All (λ lines. lines ≤ 600) (map length (drill_session number).scripts)
few_lines number = few_of number one_to_four

scripts_are : (number : ℕ) → number ≤ 999999 → list_all (is_script 1) (map (drill_script number) one_to_four) ≡ true
scripts_are number known =
    both (script_is number 1 known (omega arith) (omega arith)) (both (script_is number 2 known (omega arith) (omega arith))
    (both (script_is number 3 known (omega arith) (omega arith)) (both (script_is number 4 known (omega arith) (omega arith)) refl)))

scripts_fit : (number : ℕ) → number ≤ 999999 → list_all (λ script. list_all fits_line script) (map (drill_script number) one_to_four) ≡ true
scripts_fit number known =
    both (script_fits number 1 known (omega arith) (omega arith)) (both (script_fits number 2 known (omega arith) (omega arith))
    (both (script_fits number 3 known (omega arith) (omega arith)) (both (script_fits number 4 known (omega arith) (omega arith)) refl)))

-- the drill has the parts of a session
drill_is_session : (number : ℕ) → number ≤ 999999 → is_session (drill_session number) ≡ true
drill_is_session number known = both refl (both refl (both refl (both refl (both refl (scripts_are number known)))))

drill_found : (number : ℕ) → number ≤ 999999 → session_of (drill_session number) ≡ Some (drill_session number)
drill_found number known = ap (λ b. if b then Some (drill_session number) else None) (drill_is_session number known)

-- and few lines
drill_lines : (number : ℕ) → line_count (drill_session number) < 2 ^ 32 - 1
drill_lines number = omega (arith, script_length number 1, script_length number 2, script_length number 3, script_length number 4)

pub lines_few : (number : ℕ) (setup : List Request) (principals : List Entrant) (scripts : List (List Line)) → setup ≡ drill_setup
    → principals ≡ map drill_process one_to_four → scripts ≡ map (drill_script number) one_to_four
    → line_count (outline 1 None setup principals scripts) < 2 ^ 32 - 1
lines_few number setup principals scripts a b c = rw (a, b, c) (drill_lines number)

pub parts_found : (number : ℕ) (setup : List Request) (principals : List Entrant) (scripts : List (List Line)) → number ≤ 999999
    → setup ≡ drill_setup → principals ≡ map drill_process one_to_four → scripts ≡ map (drill_script number) one_to_four
    → session_of (outline 1 None setup principals scripts) ≡ Some (drill_session number)
parts_found number setup principals scripts known a b c = rw (a, b, c) (drill_found number known)

-- processes whose principals and lines a text may say
split : (x y : Bool) → (x && y) ≡ true → (x ≡ true) × (y ≡ true)
split true y e = (refl, e)
split false y e = cc

process_fit : (principals : List Entrant) (scripts : List (List Line)) → list_all (λ who. fits (row.Process who)) principals ≡ true
    → list_all (λ script. list_all fits_line script) scripts ≡ true → list_all fits (process_rows principals scripts) ≡ true
process_fit [] scripts a b = refl
process_fit (who ∷ principals) [] a b = refl
process_fit (who ∷ principals) (script ∷ scripts) a b =
    let f = split (fits (row.Process who)) (list_all (λ other. fits (row.Process other)) principals) a in
    let g = split (list_all fits_line script) (list_all (λ other. list_all fits_line other) scripts) b in
    both f.0 (list_all-append fits (map row.Line script) (process_rows principals scripts)
    ∙ both (list_all-map fits row.Line script ∙ g.0) (process_fit principals scripts f.1 g.1))

drill_fits : (number : ℕ) → number ≤ 999999 → list_all fits (rows_of (drill_session number)) ≡ true
drill_fits number known =
    let processes : List _ = process_rows (map drill_process one_to_four) (map (drill_script number) one_to_four) in
    list_all-append fits (setup_rows 1 None drill_setup) (processes ++ row.End ∷ [])
    ∙ both refl (list_all-append fits processes (row.End ∷ [])
    ∙ both (process_fit (map drill_process one_to_four) (map (drill_script number) one_to_four) refl (scripts_fit number known)) refl)

-- so its text is that of a session
pub drill_text : (number : ℕ) → number ≤ 999999 → IsText (session_text (drill_session number)) (drill_session number)
drill_text number known = record {
  session = drill_is_session number known;
  fits_all = drill_fits number known;
  text = refl;
}
