-- What segment numbers stand for.
use Rattle.std.proofs.Common.{◌≡◌, ◌≤◌, ◌<◌, ◌⊎◌, ℕ, inl, inr, refl, sym, subst, ◌∙◌}
use Rattle.std.proofs.lemmas.Bool.{cases_lt, le-ltb, lt-ltb}
use Rattle.mx_kst.specs.KnownSegments.{KnownSegments}
use Rattle.mx_kst.specs.declared.lots.Lot.TheVariants.{Free, Branch}
use Rattle.mx_kst.specs.Lots.{lot_of}
use Rattle.mx_state.specs.Numbers.{stands_for}

-- a number up to the last stands for its lot, and one beyond for nothing
pub stands_within : (k : KnownSegments) (n : ℕ) → n ≤ k.last → stands_for k n ≡ lot_of k.lots n
stands_within k n within = rw (le-ltb k.last n within) refl

pub nothing_beyond : (k : KnownSegments) (n : ℕ) → k.last < n → stands_for k n ≡ Free
nothing_beyond k n beyond = rw (lt-ltb k.last n beyond) refl

-- where a number stands for a segment, its lot does
pub branch_at : (k : KnownSegments) (n uid : ℕ) → stands_for k n ≡ Branch uid → lot_of k.lots n ≡ Branch uid
branch_at k n uid e = by_number (cases_lt k.last n)
  where
    by_number : (k.last < n) ⊎ (n ≤ k.last) → lot_of k.lots n ≡ Branch uid
    by_number (inl beyond) = let f = sym (nothing_beyond k n beyond) ∙ e in cc
    by_number (inr within) = sym (stands_within k n within) ∙ e

-- two tables with one last number that have the same lot there
pub stands_alike : (k other : KnownSegments) (n : ℕ) → other.last ≡ k.last → lot_of k.lots n ≡ lot_of other.lots n
    → stands_for k n ≡ stands_for other n
stands_alike k other n last e = by_number (cases_lt k.last n)
  where
    by_number : (k.last < n) ⊎ (n ≤ k.last) → stands_for k n ≡ stands_for other n
    by_number (inl beyond) = nothing_beyond k n beyond ∙ sym (nothing_beyond other n (subst (λ m. m < n) (sym last) beyond))
    by_number (inr within) = stands_within k n within ∙ e ∙ sym (stands_within other n (subst (λ m. n ≤ m) (sym last) within))
