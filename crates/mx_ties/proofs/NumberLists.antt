-- The numbers of each process's entries in a journal that begins with the setup.
use Rattle.std.proofs.Common.{◌≡◌, ◌≢◌, ℕ, zero, suc, ◌+◌, ◌≤◌, Bool, true, false, List, [], ◌∷◌, ◌++◌, map, length, refl, ap, sym, ◌∙◌, subst, Some, arith, rules}
use Rattle.std.specs.Prelude.{◌==◌, if◌then◌else◌}
use Rattle.std.specs.List.{slice_get}
use Rattle.mx_state.specs.declared.journal.Entry as journaled
use Rattle.mx_ties.specs.Closed.{maker}
use Rattle.mx_ties.specs.Counting.{numbers_in, IsOwn, AreOwn, AreProcesses}
use Rattle.mx_transcript.specs.Transcripts.{numbers_from}

pub numbers_same : (first p : ℕ) (journal : List journaled.Entry)
    → numbers_from first p journal ≡ numbers_in first p (map maker journal)
numbers_same first p [] = refl
numbers_same first p (entry ∷ journal) =
    ap (λ (l : List ℕ). if entry.process == p then first ∷ l else l) (numbers_same (first + 1) p journal)

pub numbers_both : (first p : ℕ) (a b : List ℕ) → numbers_in first p (a ++ b) ≡ numbers_in first p a ++ numbers_in
    (first + length a) p b
numbers_both first p [] b = ap (λ (n : ℕ). numbers_in n p b) (omega arith)
numbers_both first p (owner ∷ a) b = put (owner == p)
    (numbers_both (first + 1) p a b ∙ ap (λ (n : ℕ). numbers_in (first + 1) p a ++ numbers_in n p b) (omega arith))
  where
    put : (own : Bool) → numbers_in (first + 1) p (a ++ b) ≡ numbers_in (first + 1) p a ++ numbers_in
        (first + length (owner ∷ a)) p b
        → (if own then first ∷ numbers_in (first + 1) p (a ++ b) else numbers_in (first + 1) p (a ++ b))
        ≡ (if own then first ∷ numbers_in (first + 1) p a else numbers_in (first + 1) p a) ++ numbers_in
        (first + length (owner ∷ a)) p b
    put true h = ap (λ (l : List ℕ). first ∷ l) h
    put false h = h

pub numbers_none : (first p : ℕ) (owners : List ℕ) → ((i owner : ℕ) → slice_get owners i ≡ Some owner → owner ≢ p)
    → numbers_in first p owners ≡ []
numbers_none first p [] other = refl
numbers_none first p (owner ∷ owners) other =
    put (owner == p) (not_own (other 0 owner refl)) (numbers_none (first + 1) p owners (λ i o h. other (suc i) o h))
  where
    not_own : owner ≢ p → (owner == p) ≡ false
    not_own n = search rules

    put : (own : Bool) → own ≡ false → numbers_in (first + 1) p owners ≡ []
        → (if own then first ∷ numbers_in (first + 1) p owners else numbers_in (first + 1) p owners) ≡ []
    put own e h = subst
        (λ (b : Bool). (if b then first ∷ numbers_in (first + 1) p owners else numbers_in (first + 1) p owners) ≡ [])
        (sym e) h

-- an entry's number is among those of its maker
pub record IsAmong (numbers : List ℕ) (number : ℕ) : Type 0 where
  pub i : ℕ
  pub at : slice_get numbers i ≡ Some number

pub among : (owners : List ℕ) (first p place : ℕ) → slice_get owners place ≡ Some p
    → IsAmong (numbers_in first p owners) (first + place)
among [] first p place h = cc
among (owner ∷ owners) first p zero h =
    let e : owner ≡ p = cc in
    subst (λ (n : ℕ). IsAmong (numbers_in first p (owner ∷ owners)) n) (omega arith) (front (owner == p) (own e))
  where
    own : owner ≡ p → (owner == p) ≡ true
    own e = search rules

    front : (b : Bool) → b ≡ true → IsAmong
        (if b then first ∷ numbers_in (first + 1) p owners else numbers_in (first + 1) p owners) first
    front b e = subst
        (λ (c : Bool). IsAmong
        (if c then first ∷ numbers_in (first + 1) p owners else numbers_in (first + 1) p owners) first) (sym e)
        (record { i = 0; at = refl })
among (owner ∷ owners) first p (suc place) h =
    let more = among owners (first + 1) p place h in
    subst (λ (n : ℕ). IsAmong (numbers_in first p (owner ∷ owners)) n) (omega arith) (behind (owner == p) more)
  where
    behind : (b : Bool) → IsAmong (numbers_in (first + 1) p owners) (first + 1 + place)
        → IsAmong (if b then first ∷ numbers_in (first + 1) p owners else numbers_in (first + 1) p owners)
        (first + 1 + place)
    behind true k = record { i = suc k.i; at = k.at }
    behind false k = k

pub all_own : (first p : ℕ) (owners numbers : List ℕ)
    → ((i number : ℕ) → slice_get numbers i ≡ Some number → IsOwn first p owners number)
    → AreOwn first p owners numbers
all_own first p owners [] own = tt
all_own first p owners (number ∷ numbers) own =
    (own 0 number refl, all_own first p owners numbers (λ i n h. own (suc i) n h))

pub process_at : (count : ℕ) (owners : List ℕ) → AreProcesses count owners → (i owner : ℕ)
    → slice_get owners i ≡ Some owner → (1 ≤ owner) × (owner ≤ count)
process_at count [] are i owner h = cc
process_at count (o ∷ owners) are zero owner h = let e : o ≡ owner = cc in
    (subst (λ (n : ℕ). 1 ≤ n) e are.0, subst (λ (n : ℕ). n ≤ count) e are.1)
process_at count (o ∷ owners) are (suc i) owner h = process_at count owners are.2 i owner h
