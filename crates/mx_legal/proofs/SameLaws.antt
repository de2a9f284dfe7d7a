-- What has a text of its own is told apart by its text.
use Rattle.std.proofs.Common.{◌≡◌, ◌↔◌, Bool, List, ℕ, IsTrue, sym, ap, ◌∙◌}

pub told_apart : {A : Type 0} (text : A → List ℕ) (one other : A) (a b : List ℕ) (told : Bool) → a ≡ text one → b ≡ text other
    → (text one ≡ text other → one ≡ other) → (IsTrue told ↔ (a ≡ b)) → IsTrue told ↔ (one ≡ other)
told_apart text one other a b told first second own is = (
  λ t. own (sym first ∙ is.0 t ∙ second),
  λ same. is.1 (first ∙ ap text same ∙ sym second),
)
