-- Wrong reads by the stores for which they stand, and of what nobody stored, are refused.
use Rattle.std.proofs.Common.{◌≡◌, ◌≢◌, ℕ, zero, suc, ◌<◌, ◌≤◌, [], ◌∷◌, refl, subst, Some, arith}
use Rattle.std.specs.List.{slice_get}
use Rattle.mx_reads.specs.Deeds.{CellUse, Deed, Deeds, Enters, Stores, Loads, Refers, Misses}
use Rattle.mx_reads.specs.ReadRule.{IsSuch, IsRightRead}
use Rattle.mx_reads.specs.Sightings.{Source, IsBeyond}
use Rattle.mx_transcript.specs.Reads.{IsKnown}
use Rattle.mx_transcript.specs.WrongReads.{cell, did}
use Rattle.mx_transcript.specs.WrongSources.{always, stored_twice, WrongSources}
use Rattle.mx_transcript.proofs.WrongRuleLaws.{reading}

positive : (n : ℕ) → n ≡ 2 → n ≢ 0
positive n is e = omega arith

-- the read of what was stored twice: nobody made an entry, so both stores will do
abbrev twice : Deeds
twice = did stored_twice

no_entry : (u at number : ℕ) → slice_get (twice u) at ≡ Some (Enters number) → ⊥
no_entry zero at number h = cc
no_entry (suc zero) zero number h = cc
no_entry (suc zero) (suc at) number h = cc
no_entry (suc (suc zero)) zero number h = cc
no_entry (suc (suc zero)) (suc zero) number h = cc
no_entry (suc (suc zero)) (suc (suc at)) number h = cc
no_entry (suc (suc (suc u))) at number h = cc

first_will_do : IsSuch twice (IsKnown twice) (reading 1 0 5 2 0 0) 0
first_will_do = record {
  stored = refl;
  current = λ s. no_entry s.other s.known.later s.known.number s.known.entry;
}

first_is_beyond : (source : Source) → IsBeyond twice source 1 0 cell 2 0
first_is_beyond source = record {
  again = λ j latest. let l = latest.before in absurd (omega arith);
  onward = λ none h j l sighted. absurd (omega arith);
}

right_read : IsRightRead twice (IsKnown twice) (always 0) (reading 1 0 5 2 0 0)
right_read = record {
  nobody = λ e. absurd (omega arith);
  such = λ n. first_will_do;
  own = λ n e. absurd (omega arith);
  another = λ n m. record {
    beyond = first_is_beyond (always 0);
    first = λ earlier l such beyond. omega arith;
  };
}

-- the first deed of process 1, if it is a load
abbrev IsRightOne : Deed → Type 0
IsRightOne (Enters number) = ⊥
IsRightOne (Stores c value point) = ⊥
IsRightOne (Loads c value writer stamp q) = IsRightRead twice (IsKnown twice) (always 0) (record {
  process = 1;
  place = 0;
  cell = c;
  value = value;
  writer = writer;
  stamp = stamp;
  point = q;
})
IsRightOne (Refers point) = ⊥
IsRightOne (Misses segno by) = ⊥

the_read : (p i : ℕ) (c : CellUse) (value writer stamp q : ℕ) → slice_get (twice p) i ≡ Some (Loads c value writer stamp q)
    → IsRightRead twice (IsKnown twice) (always 0) (record {
      process = p;
      place = i;
      cell = c;
      value = value;
      writer = writer;
      stamp = stamp;
      point = q;
    })
the_read zero i c value writer stamp q h = absurd cc
the_read (suc zero) zero c value writer stamp q h =
    let same : Loads cell 5 2 0 0 ≡ Loads c value writer stamp q = cc in subst IsRightOne same right_read
the_read (suc zero) (suc i) c value writer stamp q h = absurd cc
the_read (suc (suc zero)) zero c value writer stamp q h = absurd cc
the_read (suc (suc zero)) (suc zero) c value writer stamp q h = absurd cc
the_read (suc (suc zero)) (suc (suc i)) c value writer stamp q h = absurd cc
the_read (suc (suc (suc p))) i c value writer stamp q h = absurd cc

-- where the stores of the other rows stand
before_entry : (place : ℕ) → slice_get (Stores cell 5 0 ∷ Enters 1 ∷ []) place ≡ Some (Stores cell 5 0) → place < 1
before_entry zero at = omega arith
before_entry (suc zero) at = absurd cc
before_entry (suc (suc place)) at = absurd cc

own_before_entry : (place : ℕ)
    → slice_get (Stores cell 5 0 ∷ Enters 1 ∷ Loads cell 5 1 0 2 ∷ []) place ≡ Some (Stores cell 5 0) → place < 1
own_before_entry zero at = omega arith
own_before_entry (suc zero) at = absurd cc
own_before_entry (suc (suc zero)) at = absurd cc
own_before_entry (suc (suc (suc place))) at = absurd cc

-- a five and a six are stored in this order
same_store : (a b : ℕ) → Some (Stores cell a 0) ≡ Some (Stores cell b 0) → a ≡ b
same_store a b h = cc

five_first : (place : ℕ) → slice_get (Stores cell 5 0 ∷ Stores cell 6 0 ∷ []) place ≡ Some (Stores cell 5 0) → place < 1
five_first zero at = omega arith
five_first (suc zero) at = let w = same_store 6 5 at in absurd (omega arith)
five_first (suc (suc place)) at = absurd cc

six_later : (place : ℕ) → slice_get (Stores cell 5 0 ∷ Stores cell 6 0 ∷ []) place ≡ Some (Stores cell 6 0) → 1 ≤ place
six_later zero at = let w = same_store 5 6 at in absurd (omega arith)
six_later (suc place) at = omega arith

pub wrong_sources : WrongSources
wrong_sources = record {
  right_source = λ read at.
      the_read read.process read.place read.cell read.value read.writer read.stamp read.point at;
  second = λ are.
      ((are (reading 1 0 5 2 0 0) refl).another (positive 2 refl) (λ e. omega arith)).first 0 (omega arith) first_will_do
      (first_is_beyond (always 1));
  overwritten = λ are.
      let such = (are.right (reading 1 0 5 2 0 2) refl).such (positive 2 refl) in
      such.current (record {
        other = 3;
        at = 0;
        value = 9;
        point = 1;
        stored = refl;
        known = record { later = 1; number = 2; after = omega arith; entry = refl; within = omega arith };
        after = λ e. absurd (omega arith);
        knew = λ n. record {
          later = 1;
          number = 1;
          after = before_entry (are.source 1 0) such.stored;
          entry = refl;
          within = omega arith;
        };
      });
  own_overwritten = λ are.
      let such = (are.right (reading 1 2 5 1 0 2) refl).such (λ e. omega arith) in
      such.current (record {
        other = 2;
        at = 0;
        value = 9;
        point = 1;
        stored = refl;
        known = record { later = 1; number = 2; after = omega arith; entry = refl; within = omega arith };
        after = λ e. absurd (omega arith);
        knew = λ n. record {
          later = 1;
          number = 1;
          after = own_before_entry (are.source 1 2) such.stored;
          entry = refl;
          within = omega arith;
        };
      });
  earlier = λ are.
      let six = are.right (reading 1 0 6 2 0 0) refl in
      let five = are.right (reading 1 1 5 2 0 0) refl in
      let late = six_later (are.source 1 0) (six.such (positive 2 refl)).stored in
      let early = five_first (are.source 1 1) (five.such (positive 2 refl)).stored in
      let beyond = (five.another (positive 2 refl) (λ e. omega arith)).beyond in
      let l : are.source 1 0 ≤ are.source 1 1 = beyond.again (are.source 1 0) (record {
        earlier = 0;
        before = omega arith;
        sighted = record { deed = Loads cell 6 2 0 0; at = refl; sights = (refl, positive 2 refl, refl, refl) };
        last = λ later w j above below sighted. omega arith;
      }) in
      omega arith;
  unseen = λ are.
      ((are.right (reading 1 1 0 0 0 0) refl).nobody refl).unsighted 0 2 (are.source 1 0) (omega arith)
      (record { deed = Loads cell 5 2 0 0; at = refl; sights = (refl, positive 2 refl, refl, refl) });
  other_value = λ are. let w : 7 ≡ 0 = ((are.right (reading 1 0 7 0 0 0) refl).nobody refl).zero_value in omega arith;
  other_stamp = λ are. let w : 3 ≡ 0 = ((are.right (reading 1 0 0 0 3 3) refl).nobody refl).zero_stamp in omega arith;
}
