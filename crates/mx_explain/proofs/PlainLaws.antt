-- Laws on the lines of a text, and on what is left of them without the titles.
use Rattle.std.proofs.Common.{◌≡◌, ℕ, ◌+◌, ◌-◌, ◌==◌, Bool, true, false, cond, not, List, [], ◌∷◌, ◌++◌, take, length, Option, None, Some, refl, ap, sym, ◌∙◌, arith, append-nil, append_assoc, length-append}
use Rattle.std.proofs.Math.Seq.{take-append_seam}
use Rattle.mx_name.specs.Names.{is_free}
use Rattle.mx_name.specs.Cuts.{behind, cut_at}
use Rattle.mx_name.proofs.CutLaws.{cut_takes}
use Rattle.mx_name.specs.OrderLaws.{both_left, both_right}
use Rattle.mx_explain.specs.PlainTexts.{lines_of, is_title, untitled, plain_text}

fails : (b : Bool) → not b ≡ true → b ≡ false
fails true e = cc
fails false e = refl

-- a line with its newline comes first
lines_front : (front after : List ℕ) → is_free 10 front ≡ true → lines_of (front ++ 10 ∷ after) ≡ (front ++ 10 ∷ []) ∷ lines_of after
unfolding lines_of
lines_front [] after free = refl
lines_front (c ∷ cs) after free =
    rw (
      fails (c == 10) (both_left (not (c == 10)) (is_free 10 cs) free),
      lines_front cs after (both_right (not (c == 10)) (is_free 10 cs) free),
    ) refl

-- what a cut leaves is after the first line
pub lines_cut : (text : List ℕ) (p : List ℕ × List ℕ) → cut_at 10 text ≡ Some p
    → lines_of text ≡ take (length text - length p.1) text ∷ lines_of p.1
lines_cut text p e =
    let cut = cut_takes 10 text p e in
    let same : text ≡ (p.0 ++ 10 ∷ []) ++ p.1 = cut.0 ∙ sym (append_assoc p.0 (10 ∷ []) p.1) in
    let front : List ℕ = p.0 ++ 10 ∷ [] in
    let long : length text ≡ length front + length p.1 = rw same (length-append front p.1) in
    let size : length text - length p.1 ≡ length front = omega (arith, long) in
    let line : take (length text - length p.1) text ≡ front =
    rw size (ap (λ t. take (length front) t) same ∙ take-append_seam front p.1) in
    let lines : lines_of text ≡ front ∷ lines_of p.1 = ap lines_of cut.0 ∙ lines_front p.0 p.1 cut.1 in
    lines ∙ ap (λ l. l ∷ lines_of p.1) (sym line)

-- a text without a newline
none_on : (test : Bool) (cs : List ℕ) (c : ℕ) (o : Option (List ℕ × List ℕ)) → cond test (Some ([], cs)) (behind (c ∷ []) o) ≡ None → (test ≡ false) × (o ≡ None)
none_on true cs c o e = cc
none_on false cs c None e = (refl, refl)
none_on false cs c (Some q) e = cc

lines_last : (c : ℕ) (cs : List ℕ) → cut_at 10 (c ∷ cs) ≡ None → lines_of (c ∷ cs) ≡ (c ∷ cs) ∷ []
unfolding lines_of cut_at
lines_last c [] e = rw (none_on (c == 10) [] c None e).0 refl
lines_last c (d ∷ ds) e =
    let none = none_on (c == 10) (d ∷ ds) c (cut_at 10 (d ∷ ds)) e in
    rw (none.0, lines_last d ds none.1) refl

pub plain_last : (text : List ℕ) → cut_at 10 text ≡ None → plain_text text ≡ untitled (text ∷ [])
unfolding lines_of
plain_last [] e = refl
plain_last (c ∷ cs) e = ap untitled (lines_last c cs e)

untitled_on : (title : Bool) (line rest : List ℕ) → cond title rest (line ++ rest) ≡ cond title [] (line ++ []) ++ rest
untitled_on true line rest = refl
untitled_on false line rest = ap (λ l. l ++ rest) (sym (append-nil line))

-- one line and the others
pub untitled_more : (line : List ℕ) (lines : List (List ℕ)) → untitled (line ∷ lines) ≡ untitled (line ∷ []) ++ untitled lines
untitled_more line lines = untitled_on (is_title line) line (untitled lines)

-- a line more is done
pub line_done : (plain plain' text whole : List ℕ) (p : List ℕ × List ℕ) → plain ++ plain_text text ≡ whole → cut_at 10 text ≡ Some p
    → plain' ≡ plain ++ untitled (take (length text - length p.1) text ∷ []) → plain' ++ plain_text p.1 ≡ whole
line_done plain plain' text whole p before e more =
    let line : List ℕ = take (length text - length p.1) text in
    let split : plain_text text ≡ untitled (line ∷ []) ++ plain_text p.1 =
    ap untitled (lines_cut text p e) ∙ untitled_more line (lines_of p.1) in
    ap (λ l. l ++ plain_text p.1) more
    ∙ (append_assoc plain (untitled (line ∷ [])) (plain_text p.1) ∙ (ap (λ l. plain ++ l) (sym split) ∙ before))

-- the last line
pub last_done : (plain plain' text whole : List ℕ) → plain ++ plain_text text ≡ whole → cut_at 10 text ≡ None
    → plain' ≡ plain ++ untitled (text ∷ []) → plain' ≡ whole
last_done plain plain' text whole before e more = more ∙ (ap (λ l. plain ++ l) (sym (plain_last text e)) ∙ before)
