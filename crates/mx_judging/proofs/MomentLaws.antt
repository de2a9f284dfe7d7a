-- One more moment is told: what was told so far goes on to be a merge in time, and fewer are left.
use Rattle.std.proofs.Common.{rules, ◌≡◌, ◌≢◌, ◌⊎◌, inl, inr, ℕ, zero, suc, ◌+◌, ◌-◌, ◌==◌, ◌<◌, ◌≤◌, Bool, true, false, List, [], ◌∷◌, ◌++◌, map, length, get_or, refl, ap, sym, ◌∙◌, subst, arith, set, Option, Some, None, IfSome, get_or-set_same, get_or-set_other, length-append, add-one, nat_eq}
use Rattle.std.proofs.lemmas.Bool.{cases_eq, cases_lt}
use Rattle.std.proofs.lemmas.Grind.{common_steps, get_or_default_zero}
use Rattle.std.proofs.lemmas.List.Elements.{filter-append}
use Rattle.std.proofs.lemmas.List.{length-map, map-append}
use Rattle.std.specs.List.{filter, range_with_len}
use Rattle.mx_judging.specs.Stories.{AreRising, IsInTime, IsMerge, NeverFalls, Times, places_of, time_in}
use Rattle.mx_judging.specs.Ordering.{AreAllTold, HasMore, IsEarliest, IsNext, IsSoFar, IsSooner, IsSoonest, IsSoonestOf, left_of, next_time}
use Rattle.mx_judging.specs.declared.order.Choice.{Choice}
use Rattle.mx_judging.specs.declared.order.Turn.{Turn}

abbrev pub turn_of : ℕ → ℕ → Turn
turn_of p place = record { process = p; place = place }

-- One number more.
range_more : (a n : ℕ) → range_with_len a (suc n) ≡ range_with_len a n ++ (a + n) ∷ []
range_more a zero = ap (λ (k : ℕ). k ∷ []) (omega arith)
range_more a (suc n) = let more : range_with_len (a + 1) (suc n) ≡ range_with_len (a + 1) n ++ ((a + 1) + n) ∷ [] = range_more (a + 1) n in
    ap (λ (ks : List ℕ). a ∷ ks) (more ∙ ap (λ (k : ℕ). range_with_len (a + 1) n ++ k ∷ []) (omega arith))

from_zero : (n : ℕ) → range_with_len 0 (suc n) ≡ range_with_len 0 n ++ n ∷ []
from_zero n = range_more 0 n ∙ ap (λ (k : ℕ). range_with_len 0 n ++ k ∷ []) (omega arith)

-- A list that never falls goes on with a time that none is behind.
pub never_more : (times : List ℕ) (time : ℕ) → NeverFalls times → ((i : ℕ) → i < length times → get_or times i 0 ≤ time)
    → NeverFalls (times ++ time ∷ [])
never_more times time never most = record { each = λ i h. grind (arith, common_steps, never.each i, most i) }

-- The places of the process whose moment is told are one more, and those of another the same.
places_same : (p place : ℕ) (turns : List Turn) → places_of p (turns ++ turn_of p place ∷ []) ≡ places_of p turns ++ place ∷ []
places_same p place turns = grind (arith, common_steps, filter-append)

places_other : (p q place : ℕ) (turns : List Turn) → q ≢ p → places_of q (turns ++ turn_of p place ∷ []) ≡ places_of q turns
places_other p q place turns other = grind (arith, common_steps, filter-append)

-- It is one of the processes.
is_one : (times : Times) (told : List ℕ) (p : ℕ) → HasMore times told p → p < length times
is_one [] told p more = omega (arith, more.more)
is_one (ts ∷ times) told zero more = omega arith
is_one (ts ∷ times) [] (suc p) more = let rest = is_one times [] p (record { more = more.more }) in omega arith
is_one (ts ∷ times) (count ∷ told) (suc p) more = let rest = is_one times told p (record { more = more.more }) in omega arith

-- The number of moments that are told of a process.
told_same : (told : List ℕ) (p n : ℕ) → p < length told → get_or (set told p n) p 0 ≡ n
told_same told p n within = grind (arith, common_steps)

told_other : (told : List ℕ) (p q n : ℕ) → q ≢ p → get_or (set told p n) q 0 ≡ get_or told q 0
told_other told p q n other = grind (arith, common_steps)

-- The time of a turn, behind others.
time_behind : (times : Times) (turns : List Turn) (turn : Turn) → get_or (map (time_in times) (turns ++ turn ∷ [])) (length turns) 0 ≡ time_in times turn
time_behind times turns turn = grind (arith, common_steps)

time_before : (times : Times) (turns : List Turn) (turn : Turn) (i : ℕ) → i < length turns
    → get_or (map (time_in times) (turns ++ turn ∷ [])) i 0 ≡ get_or (map (time_in times) turns) i 0
time_before times turns turn i within = grind (arith, common_steps)

-- One more of process p is told.
abbrev one_told : List ℕ → ℕ → List ℕ
one_told told p = set told p (get_or told p 0 + 1)

merged_same : (times : Times) (told : List ℕ) (turns : List Turn) (p : ℕ) → IsSoFar times told turns → p < length told
    → places_of p (turns ++ turn_of p (get_or told p 0) ∷ []) ≡ range_with_len 0 (get_or (one_told told p) p 0)
merged_same times told turns p sofar one =
    let same : get_or (one_told told p) p 0 ≡ suc (get_or told p 0) = told_same told p (get_or told p 0 + 1) one ∙ omega arith in
    places_same p (get_or told p 0) turns ∙ ap (λ (ks : List ℕ). ks ++ get_or told p 0 ∷ []) (sofar.merged p)
    ∙ sym (from_zero (get_or told p 0)) ∙ ap (range_with_len 0) (sym same)

-- What a process has next then it had to be told before, and not earlier.
record IsLater (times : Times) (told : List ℕ) (p q : ℕ) : Type 0 where
  had : HasMore times told q
  later : next_time times told q ≤ next_time times (one_told told p) q

next_later : (times : Times) (told : List ℕ) (p q : ℕ) → AreRising times → p < length told → HasMore times (one_told told p) q
    → IsLater times told p q
next_later times told p q rising one more =
    elim (cases_eq q p) [
      | inl e ↦ subst (λ (k : ℕ). IsLater times told p k) (sym e) (later_same (subst (λ (k : ℕ). HasMore times (one_told told p) k) e more))
      | inr ne ↦
          let other : get_or (one_told told p) q 0 ≡ get_or told q 0 = told_other told p q (get_or told p 0 + 1) ne in
          record {
            had = record { more = subst (λ (n : ℕ). n < length (get_or times q [])) other more.more };
            later = rw other (omega arith);
          }
    ]
  where
    later_same : HasMore times (one_told told p) p → IsLater times told p p
    later_same next =
        let same : get_or (one_told told p) p 0 ≡ get_or told p 0 + 1 = told_same told p (get_or told p 0 + 1) one in
        let some : get_or told p 0 + 1 < length (get_or times p []) = subst (λ (n : ℕ). n < length (get_or times p [])) same next.more in
        let own = rising.each p in
        record {
          had = record { more = omega (arith, some) };
          later = rw same (own.each (get_or told p 0) some);
        }

pub so_far_more : (times : Times) (told : List ℕ) (turns : List Turn) (p : ℕ) → AreRising times → IsSoFar times told turns
    → IsEarliest times told p → IsSoFar times (one_told told p) (turns ++ turn_of p (get_or told p 0) ∷ [])
so_far_more times told turns p rising sofar next =
    let one : p < length told = omega (arith, sofar.count, is_one times told p next.has) in
    let now : Turn = turn_of p (get_or told p 0) in
    record {
      count = grind (arith, common_steps, sofar.count);
      merged = λ q. elim (cases_eq q p) [
        | inl e ↦ subst (λ (k : ℕ). places_of k (turns ++ now ∷ []) ≡ range_with_len 0 (get_or (one_told told p) k 0)) (sym e)
            (merged_same times told turns p sofar one)
        | inr ne ↦ rw (places_other p q (get_or told p 0) turns ne, told_other told p q (get_or told p 0 + 1) ne) (sofar.merged q)
      ];
      within = λ q. elim (cases_eq q p) [
        | inl e ↦ subst (λ (k : ℕ). get_or (one_told told p) k 0 ≤ length (get_or times k [])) (sym e)
            (rw (told_same told p (get_or told p 0 + 1) one) (omega (arith, next.has.more)))
        | inr ne ↦ rw (told_other told p q (get_or told p 0 + 1) ne) (sofar.within q)
      ];
      never = rw (map-append (time_in times) turns (now ∷ []))
          (never_more (map (time_in times) turns) (time_in times now) sofar.never
          (λ i h. sofar.before i p (rw length-map at h) next.has));
      before = λ i q h more.
          let is : IsLater times told p q = next_later times told p q rising one more in
          elim (cases_lt i (length turns)) [
            | inl below ↦ rw (time_before times turns now i below) (omega (arith, sofar.before i q below is.had, is.later))
            | inr above ↦
                let last : i ≡ length turns = grind (arith, common_steps, h, above) in
                rw (last, time_behind times turns now) (omega (arith, next.first q is.had, is.later))
          ];
    }

pub left_falls : (times : Times) (told : List ℕ) (p : ℕ) → HasMore times told p → p < length told
    → left_of times (set told p (get_or told p 0 + 1)) < left_of times told
left_falls [] told p more within = omega (arith, more.more)
left_falls (times ∷ others) [] p more within = omega (arith, within)
left_falls (times ∷ others) (count ∷ told) zero more within = omega (arith, more.more)
left_falls (times ∷ others) (count ∷ told) (suc p) more within =
    let rest = left_falls others told p (record { more = more.more }) (omega arith) in omega arith

-- The same for a count that was read.
read_at : (told : List ℕ) (p place : ℕ) → p < length told → place ≡ get_or told p place → place ≡ get_or told p 0
read_at told p place within read = read ∙ get_or_default_zero told p place within

pub turn_taken : (times : Times) (told seen : List ℕ) (turns after : List Turn) (p place : ℕ) → AreRising times
    → IsSoFar times told turns → seen ≡ told → IsEarliest times seen p → place ≡ get_or told p place
    → after ≡ turns ++ turn_of p place ∷ [] → IsSoFar times (set told p (place + 1)) after
turn_taken times told seen turns after p place rising sofar same next read pushed =
    let earliest : IsEarliest times told p = subst (λ (ks : List ℕ). IsEarliest times ks p) same next in
    let within : p < length told = omega (arith, sofar.count, is_one times told p earliest.has) in
    let place_is : place ≡ get_or told p 0 = read_at told p place within read in
    rw (pushed, place_is) (so_far_more times told turns p rising sofar earliest)

pub fewer_left : (times : Times) (told seen : List ℕ) (turns : List Turn) (p place : ℕ) → IsSoFar times told turns
    → seen ≡ told → IsEarliest times seen p → place ≡ get_or told p place
    → left_of times (set told p (place + 1)) < left_of times told
fewer_left times told seen turns p place sofar same next read =
    let earliest : IsEarliest times told p = subst (λ (ks : List ℕ). IsEarliest times ks p) same next in
    let within : p < length told = omega (arith, sofar.count, is_one times told p earliest.has) in
    let place_is : place ≡ get_or told p 0 = read_at told p place within read in
    rw place_is (left_falls times told p earliest.has within)
