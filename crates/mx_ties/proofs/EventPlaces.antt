-- Places of own entries among events: numbers rise, and after a place there is a first one.
use Rattle.std.proofs.Common.{◌≡◌, inl, inr, ℕ, zero, suc, ◌+◌, ◌<◌, ◌≤◌, List, [], ◌∷◌, sym, ◌∙◌, Option, Some, None, refl, arith}
use Rattle.std.specs.List.{slice_get}
use Rattle.std.proofs.lemmas.Bool.{cases_lt}
use Rattle.mx_reads.specs.Deeds.{Deed, Enters, Stores, Loads, Refers, Misses}
use Rattle.mx_reads.proofs.Decide.{Dec, first_below}
use Rattle.mx_transcript.specs.declared.transcripts.Event2.{Event2}
use Rattle.mx_transcript.specs.declared.transcripts.Event2.TheVariants.{Core, Entry}
use Rattle.mx_transcript.specs.Points.{IsNextEntry}
use Rattle.mx_transcript.specs.Transcripts.{entries_named}
use Rattle.mx_ties.specs.Counting.{IsRising}

rising_low : (low : ℕ) (events : List Event2) (at number : ℕ) → IsRising low (entries_named events)
    → slice_get events at ≡ Some (Entry number) → low ≤ number
rising_low low [] at number rising h = cc
rising_low low (Core event ∷ events) zero number rising h = cc
rising_low low (Core event ∷ events) (suc at) number rising h = rising_low low events at number rising h
rising_low low (Entry first ∷ events) zero number rising h =
    let e : first ≡ number = cc in let l = rising.0 in omega arith
rising_low low (Entry first ∷ events) (suc at) number rising h =
    let l = rising_low (first + 1) events at number rising.1 h in let m = rising.0 in omega arith

pub rising_at : (low : ℕ) (events : List Event2) (a b m n : ℕ) → IsRising low (entries_named events) → a < b
    → slice_get events a ≡ Some (Entry m) → slice_get events b ≡ Some (Entry n) → m < n
rising_at low [] a b m n rising l h k = cc
rising_at low (Core event ∷ events) zero b m n rising l h k = absurd cc
rising_at low (Core event ∷ events) (suc a) zero m n rising l h k = absurd (omega arith)
rising_at low (Core event ∷ events) (suc a) (suc b) m n rising l h k =
    rising_at low events a b m n rising (omega arith) h k
rising_at low (Entry first ∷ events) zero zero m n rising l h k = absurd (omega arith)
rising_at low (Entry first ∷ events) zero (suc b) m n rising l h k =
    let e : first ≡ m = cc in let r = rising_low (first + 1) events b n rising.1 k in omega arith
rising_at low (Entry first ∷ events) (suc a) zero m n rising l h k = absurd (omega arith)
rising_at low (Entry first ∷ events) (suc a) (suc b) m n rising l h k =
    rising_at (first + 1) events a b m n rising.1 (omega arith) h k

-- an own entry after this place
record IsLater (done : List Deed) (place at : ℕ) : Type 0 where
  pub after : place < at
  pub number : ℕ
  pub entry : slice_get done at ≡ Some (Enters number)

later : (done : List Deed) (place at : ℕ) → Dec (IsLater done place at)
later done place at = elim (cases_lt place at) [
  | inr high ↦ inr (λ l. let after = l.after in omega arith)
  | inl after ↦ by_deed after (slice_get done at) refl
]
  where
    none : (d : Option Deed) → slice_get done at ≡ d → ((number : ℕ) → d ≡ Some (Enters number) → ⊥) → IsLater done place at → ⊥
    none d e never l = never l.number (sym e ∙ l.entry)

    by_deed : place < at → (d : Option Deed) → slice_get done at ≡ d → Dec (IsLater done place at)
    by_deed after None e = inr (none None e (λ number h. cc))
    by_deed after (Some (Enters number)) e = inl (record { after = after; number = number; entry = e })
    by_deed after (Some (Stores cell value point)) e = inr (none (Some (Stores cell value point)) e (λ number h. cc))
    by_deed after (Some (Loads cell value writer stamp point)) e =
        inr (none (Some (Loads cell value writer stamp point)) e (λ number h. cc))
    by_deed after (Some (Refers point)) e = inr (none (Some (Refers point)) e (λ number h. cc))
    by_deed after (Some (Misses segno by)) e = inr (none (Some (Misses segno by)) e (λ number h. cc))

-- the first of them
pub record HasNext (done : List Deed) (place most : ℕ) : Type 0 where
  pub number : ℕ
  pub next : IsNextEntry done place number
  pub within : next.at ≤ most

pub has_next : (done : List Deed) (place at number : ℕ) → place < at → slice_get done at ≡ Some (Enters number)
    → HasNext done place at
has_next done place at number after h = elim (first_below (IsLater done place) (suc at) (later done place)) [
  | inr none ↦ absurd (none at (omega arith) (record { after = after; number = number; entry = h }))
  | inl f ↦ let below = f.below in record {
    number = f.has.number;
    next = record {
      at = f.at;
      after = f.has.after;
      entry = f.has.entry;
      first = λ between other low high g. f.none between high (record { after = low; number = other; entry = g });
    };
    within = omega arith;
  }
]
