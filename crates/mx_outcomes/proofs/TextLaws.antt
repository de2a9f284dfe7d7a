-- Laws on texts in parts.
use Rattle.std.proofs.Common.{◌≡◌, ℕ, List, ◌++◌, ap, ◌∙◌, append_assoc}

-- a text of three parts
pub three_parts : (out a b d one two three : List ℕ) → one ≡ out ++ a → two ≡ one ++ b → three ≡ two ++ d → three ≡ out ++ (a ++ b ++ d)
three_parts out a b d one two three first second third =
    third ∙ ap (λ (l : List ℕ). l ++ d) (second ∙ ap (λ (l : List ℕ). l ++ b) first ∙ append_assoc out a b) ∙ append_assoc out (a ++ b) d
