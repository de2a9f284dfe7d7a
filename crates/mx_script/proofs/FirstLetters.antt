-- The first letter of a line that holds no text tells what it may be.
use Rattle.std.proofs.Common.{ℕ, ◌≡◌, ◌<◌, ◌==◌, length, Bool, true, false, cond, List, [], ◌∷◌, Option, None, Some, codes, refl, subst, arith}
use Rattle.std.specs.Cmp.Lexicographic.{pointwise}
use Rattle.std.proofs.lemmas.Bool.Decides.{nat_tests}
use Rattle.mx_script.specs.Fronts.{after, read_or}
use Rattle.mx_script.specs.Reading.{call_at, epp_at, lda_at, return_at, set_at, sta_at, spri_at, head, header_row, history_row, of_line, plain_at, memory_at}
use Rattle.mx_script.specs.declared.lines.Line.TheVariants.{Fetch}
use Rattle.mx_script.specs.declared.rows.Row.{Row}
use Rattle.mx_script.specs.declared.rows.Row.TheVariants as row

-- what is said of a text that begins with a byte holds of one whose first byte it is
begun : (P : List ℕ → Type 0) (first : ℕ) (line : List ℕ) → head line ≡ Some first → ((cs : List ℕ) → P (first ∷ cs)) → P line
begun P first [] at says = absurd (cc)
begun P first (c ∷ cs) at says = let same : first ≡ c = cc in subst (λ b. P (b ∷ cs)) same (says cs)

pub by_c : (line : List ℕ) → head line ≡ Some 99 → plain_at line ≡ of_line (read_or (after (codes "call ") line) call_at None)
unfolding plain_at memory_at after
by_c line at = begun (λ line. plain_at line ≡ of_line (read_or (after (codes "call ") line) call_at None)) 99 line at (λ cs. refl)

pub by_e : (line : List ℕ) → head line ≡ Some 101
    → plain_at line ≡ cond (pointwise ◌==◌ line (codes "end")) (Some row.End) (of_line (read_or (after (codes "epp ") line) epp_at None))
unfolding plain_at memory_at after
by_e line at = begun (λ line. plain_at line
    ≡ cond (pointwise ◌==◌ line (codes "end")) (Some row.End) (of_line (read_or (after (codes "epp ") line) epp_at None))) 101 line at (λ cs. refl)

pub by_f : (line : List ℕ) → head line ≡ Some 102
    → plain_at line ≡ cond (pointwise ◌==◌ line (codes "fetch")) (Some (row.Line Fetch)) None
unfolding plain_at memory_at after
by_f line at = begun (λ line. plain_at line ≡ cond (pointwise ◌==◌ line (codes "fetch")) (Some (row.Line Fetch)) None) 102 line at (λ cs. refl)

pub by_h : (line : List ℕ) → head line ≡ Some 104 → plain_at line ≡ read_or (after (codes "history ") line) history_row None
unfolding plain_at memory_at after
by_h line at = begun (λ line. plain_at line ≡ read_or (after (codes "history ") line) history_row None) 104 line at (λ cs. refl)

pub by_l : (line : List ℕ) → head line ≡ Some 108 → plain_at line ≡ of_line (read_or (after (codes "lda ") line) lda_at None)
unfolding plain_at memory_at after
by_l line at = begun (λ line. plain_at line ≡ of_line (read_or (after (codes "lda ") line) lda_at None)) 108 line at (λ cs. refl)

pub by_m : (line : List ℕ) → head line ≡ Some 109 → plain_at line ≡ read_or (after (codes "multics ") line) header_row None
unfolding plain_at memory_at after
by_m line at = begun (λ line. plain_at line ≡ read_or (after (codes "multics ") line) header_row None) 109 line at (λ cs. refl)

pub by_r : (line : List ℕ) → head line ≡ Some 114 → plain_at line ≡ of_line (read_or (after (codes "return ") line) return_at None)
unfolding plain_at memory_at after
by_r line at = begun (λ line. plain_at line ≡ of_line (read_or (after (codes "return ") line) return_at None)) 114 line at (λ cs. refl)

pub by_s : (line : List ℕ) → head line ≡ Some 115
    → plain_at line ≡ of_line (read_or (after (codes "set ") line) set_at
    (read_or (after (codes "sta ") line) sta_at (read_or (after (codes "spri ") line) spri_at None)))
unfolding plain_at memory_at after
by_s line at = begun (λ line. plain_at line ≡ of_line (read_or (after (codes "set ") line) set_at
    (read_or (after (codes "sta ") line) sta_at (read_or (after (codes "spri ") line) spri_at None)))) 115 line at (λ cs. refl)

differs : (a b : ℕ) → (b ≡ a → ⊥) → (a == b) ≡ false
differs a b apart = by_test (a == b) refl
  where
    by_test : (t : Bool) → (a == b) ≡ t → t ≡ false
    by_test false e = refl
    by_test true e = absurd (apart (grind (arith, nat_tests, e)))

no_front : (line : List ℕ) (first : ℕ) → head line ≡ Some first → (99 == first) ≡ false → (101 == first) ≡ false → (102 == first) ≡ false
    → (104 == first) ≡ false → (108 == first) ≡ false → (109 == first) ≡ false → (114 == first) ≡ false → (115 == first) ≡ false → plain_at line ≡ None
unfolding plain_at memory_at after
no_front line first at c e f h l m r s = begun (λ line. plain_at line ≡ None) first line at (λ cs. grind (arith, nat_tests, c, e, f, h, l, m, r, s))

-- no other letter begins such a line
pub by_none : (line : List ℕ) (first : ℕ) → head line ≡ Some first → (first ≡ 99 → ⊥) → (first ≡ 101 → ⊥) → (first ≡ 102 → ⊥)
    → (first ≡ 104 → ⊥) → (first ≡ 108 → ⊥) → (first ≡ 109 → ⊥) → (first ≡ 114 → ⊥) → (first ≡ 115 → ⊥) → plain_at line ≡ None
by_none line first at c e f h l m r s =
    no_front line first at (differs 99 first c) (differs 101 first e) (differs 102 first f) (differs 104 first h) (differs 108 first l)
    (differs 109 first m) (differs 114 first r) (differs 115 first s)

-- and an empty text is no such line
pub by_nothing : (line : List ℕ) → length line < 1 → plain_at line ≡ None
unfolding plain_at memory_at after
by_nothing [] few = refl
by_nothing (c ∷ cs) few = absurd (omega (arith, few))
