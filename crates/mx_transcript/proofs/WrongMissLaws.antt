-- Wrong misses are refused.
use Rattle.std.proofs.Common.{◌≡◌, ◌≢◌, ℕ, zero, suc, ◌<◌, ◌≤◌, List, [], ◌∷◌, refl, ap, subst, Some, arith}
use Rattle.std.specs.List.{slice_get}
use Rattle.mx_state.specs.declared.journal.Entry as journaled
use Rattle.mx_reads.specs.Deeds.{Deed, Enters, Stores, Loads, Refers, Misses}
use Rattle.mx_transcript.specs.Misses.{IsRightMiss}
use Rattle.mx_transcript.specs.Settings.{entry_at}
use Rattle.mx_transcript.specs.WrongMisses.{by_process, journal, changes, MayMiss, WrongMisses}

-- the deeds of right misses
abbrev done : List Deed
done = Misses 8 1 ∷ Misses 8 2 ∷ Misses 9 1 ∷ Enters 3 ∷ Misses 8 4 ∷ []

same_miss : (a b c d : ℕ) → Some (Misses a b) ≡ Some (Misses c d) → (a ≡ c) × (b ≡ d)
same_miss a b c d h = (cc, cc)

-- the one entry among them
the_entry : (at number : ℕ) → slice_get done at ≡ Some (Enters number) → (at ≡ 3) × (number ≡ 3)
the_entry zero number h = absurd cc
the_entry (suc zero) number h = absurd cc
the_entry (suc (suc zero)) number h = absurd cc
the_entry (suc (suc (suc zero))) number h = (refl, cc)
the_entry (suc (suc (suc (suc zero)))) number h = absurd cc
the_entry (suc (suc (suc (suc (suc at))))) number h = absurd cc

-- the misses of a number among them
miss_of : (at segno by : ℕ) → slice_get done at ≡ Some (Misses segno by) → (at < 4 → by ≤ 2) × (at < 1 → by ≤ 1)
miss_of zero segno by h = let is = same_miss 8 1 segno by h in (λ l. omega (arith, is.1), λ l. omega (arith, is.1))
miss_of (suc zero) segno by h = let is = same_miss 8 2 segno by h in (λ l. omega (arith, is.1), λ l. absurd (omega arith))
miss_of (suc (suc zero)) segno by h =
    let is = same_miss 9 1 segno by h in (λ l. omega (arith, is.1), λ l. absurd (omega arith))
miss_of (suc (suc (suc zero))) segno by h = absurd cc
miss_of (suc (suc (suc (suc zero)))) segno by h = (λ l. absurd (omega arith), λ l. absurd (omega arith))
miss_of (suc (suc (suc (suc (suc at))))) segno by h = absurd cc

-- none of 9 before the third
none_of_nine : (at by : ℕ) → at < 2 → slice_get done at ≡ Some (Misses 9 by) → ⊥
none_of_nine zero by l h = let is = (same_miss 8 1 9 by h).0 in omega (arith, is)
none_of_nine (suc zero) by l h = let is = (same_miss 8 2 9 by h).0 in omega (arith, is)
none_of_nine (suc (suc at)) by l h = omega arith

-- a miss before the entry, and the one after it
right_before : (place segno by : ℕ) (entry : journaled.Entry) → place < 3 → by ≤ 2
    → entry_at journal by ≡ Some entry → entry.process ≢ 1
    → ((before earlier : ℕ) → before < place → slice_get done before ≡ Some (Misses segno earlier) → earlier < by)
    → IsRightMiss journal changes 1 done place segno by
right_before place segno by entry early low at other rising = record {
  entry = entry;
  at = at;
  other = other;
  changed = λ five. omega arith;
  rising = rising;
  before_next = λ number next. let is = (the_entry next.at number next.entry).1 in omega arith;
}

right_after : IsRightMiss journal changes 1 done 4 8 4
right_after = record {
  entry = by_process 3;
  at = refl;
  other = λ e. omega arith;
  changed = λ five. omega arith;
  rising = λ before earlier l at. let low = (miss_of before 8 earlier at).0 l in omega arith;
  before_next = λ number next.
      let is = (the_entry next.at number next.entry).0 in let l = next.after in absurd (omega arith);
}

-- a miss at this place is right
abbrev IsRightAt : ℕ → Deed → Type 0
IsRightAt place (Enters number) = ⊥
IsRightAt place (Stores spot value point) = ⊥
IsRightAt place (Loads spot value writer stamp point) = ⊥
IsRightAt place (Refers point) = ⊥
IsRightAt place (Misses segno by) = IsRightMiss journal changes 1 done place segno by

right_misses : MayMiss done
right_misses zero segno by at =
    let same : Misses 8 1 ≡ Misses segno by = cc in
    subst (IsRightAt 0) same (right_before 0 8 1 (by_process 2) (omega arith) (omega arith) refl (λ e. omega arith)
    (λ before earlier l is. absurd (omega arith)))
right_misses (suc zero) segno by at =
    let same : Misses 8 2 ≡ Misses segno by = cc in
    subst (IsRightAt 1) same (right_before 1 8 2 (by_process 2) (omega arith) (omega arith) refl (λ e. omega arith)
    (λ before earlier l is. let low = (miss_of before 8 earlier is).1 l in omega arith))
right_misses (suc (suc zero)) segno by at =
    let same : Misses 9 1 ≡ Misses segno by = cc in
    subst (IsRightAt 2) same (right_before 2 9 1 (by_process 2) (omega arith) (omega arith) refl (λ e. omega arith)
    (λ before earlier l is. absurd (none_of_nine before earlier l is)))
right_misses (suc (suc (suc zero))) segno by at = absurd cc
right_misses (suc (suc (suc (suc zero)))) segno by at =
    let same : Misses 8 4 ≡ Misses segno by = cc in subst (IsRightAt 4) same right_after
right_misses (suc (suc (suc (suc (suc place))))) segno by at = absurd cc

maker : (a b : journaled.Entry) → Some a ≡ Some b → b.process ≡ a.process
maker a b h = let same : b ≡ a = cc in ap (λ (e : journaled.Entry). e.process) same

pub wrong_misses : WrongMisses
wrong_misses = record {
  right_misses = right_misses;
  own_entry = λ are. let miss = are 0 8 3 refl in miss.other (maker (by_process 1) miss.entry miss.at);
  unchanged = λ are. (are 0 8 5 refl).changed refl;
  twice = λ are. let l : 2 < 2 = (are 1 8 2 refl).rising 0 2 (omega arith) refl in omega arith;
  earlier = λ are. let l : 2 < 1 = (are 1 8 1 refl).rising 0 2 (omega arith) refl in omega arith;
  earlier_after_own = λ are. let l : 2 < 1 = (are 2 8 1 refl).rising 0 2 (omega arith) refl in omega arith;
  at_next = λ are.
      let l : 4 < 4 = (are 0 8 4 refl).before_next 4 (record {
        at = 1;
        after = omega arith;
        entry = refl;
        first = λ between other low high at. omega arith;
      }) in omega arith;
  after_next = λ are.
      let l : 4 < 3 = (are 0 8 4 refl).before_next 3 (record {
        at = 1;
        after = omega arith;
        entry = refl;
        first = λ between other low high at. omega arith;
      }) in omega arith;
  none_before = λ are. let at = (are 0 8 0 refl).at in cc;
  beyond = λ are. let at = (are 0 8 6 refl).at in cc;
}
