use Rattle.std.proofs.Common.{◌≡◌, ℕ, ◌<◌, ◌≤◌, Bool, true, false, List, [], ◌∷◌, length, map, get_or, ap, refl, sym, ◌∙◌, arith}
use Rattle.std.specs.Prelude.{◌↔◌, IsTrue, nat_eq, string_bytes}
use Rattle.std.specs.Cmp.Lexicographic.{pointwise, told_text}
use Rattle.mx_run.proofs.words.is_word.Goals as goal

one_word : {A : Type 0} (f : A → List ℕ) (words : List A) (word : A) (text : List ℕ) (b : Bool) → 1 ≤ length words → length words < 2
    → word ≡ get_or words 0 word → b ≡ pointwise nat_eq (f word) text → IsTrue b ↔ (map f words ≡ text ∷ [])
one_word f [] word text b low high is e = absurd (omega arith)
one_word f (w ∷ v ∷ words) word text b low high is e = absurd (omega arith)
one_word f (w ∷ []) word text true low high is e =
    (λ _. ap (λ (t : List ℕ). t ∷ []) (ap f (sym is) ∙ told_text (f word) text true e), λ _. refl)
one_word f (w ∷ []) word text false low high is e =
    (λ h. cc, λ q. let same : f w ≡ text = cc in absurd (told_text (f word) text false e (ap f is ∙ same)))

pub returns-in-len1 : goal.returns-in-len1
returns-in-len1 c = one_word string_bytes c.args.words.now c.only-item.result _ c.eq.result c.in-len1.len_at_least c.in-len1.len_below c.only-item.is
    (c.eq.ensures ∙ ap (λ (t : List ℕ). pointwise nat_eq t (c.args.word.now)) c.as_str.ensures.value)
