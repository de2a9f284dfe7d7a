-- Laws on where an order is turned round.
use Rattle.std.proofs.Common.{◌≡◌, ◌<◌, ◌≤◌, ℕ, zero, suc, ◌+◌, ◌-◌, List, [], ◌∷◌, ◌++◌, length, reverse, take, drop, get_or, set, refl, sym, ap, ◌∙◌, subst, arith, append_assoc, append-nil}
use Rattle.std.specs.List.{swap}
use Rattle.std.proofs.Math.Seq.{get_or-append_seam, set-append_seam, take-append-add, drop-append-add, drop-append_seam}
use Rattle.std.proofs.lemmas.Grind.{get_or_default_zero}
use Rattle.std.proofs.lemmas.List.{nil_from_length, take-append-drop, drop_more, take_all, take_more, length-append, length-take, length-drop}
use Rattle.mx_outcomes.specs.Interleavings.{times, IsNext}
use Rattle.mx_outcomes.specs.Turning.{AreUpTo, IsRising, IsFalling, IsPivot, IsSuccessor}
use Rattle.mx_outcomes.proofs.OrderLaws.{falling_onto, falling_short, falling_turned, next_is, times_reverse, up_to_more, stands_first}

split : (order : List ℕ) (n : ℕ) → n < length order → order ≡ take n order ++ get_or order n 0 ∷ drop (n + 1) order
split order n within = sym (take-append-drop n order) ∙ ap (λ (l : List ℕ). take n order ++ l) (drop_more order n 0 within)

long : (order : List ℕ) (n : ℕ) → n ≤ length order → length (take n order) ≡ n
long order n within = omega (arith, length-take {A = ℕ})

module _ (order : List ℕ) (n : ℕ) (within : n + 1 < length order) (falling : IsFalling (drop (n + 1) order)) where
  rest : drop (n + 1) order ≡ get_or order (n + 1) 0 ∷ drop (n + 1 + 1) order
  rest = drop_more order (n + 1) 0 within

  pivot_at : get_or order n 0 < get_or order (n + 1) 0 → IsPivot order n
  pivot_at above = record {
    front = take n order;
    pivot = get_or order n 0;
    head = get_or order (n + 1) 0;
    tail = drop (n + 1 + 1) order;
    order_is = split order n (omega (arith, within)) ∙ ap (λ (l : List ℕ). take n order ++ get_or order n 0 ∷ l) rest;
    place_is = long order n (omega (arith, within));
    above = above;
    falling = subst IsFalling rest falling;
  }

  falling_at : get_or order (n + 1) 0 ≤ get_or order n 0 → IsFalling (drop n order)
  falling_at most =
      subst IsFalling (sym (drop_more order n 0 (omega (arith, within)) ∙ ap (λ (l : List ℕ). get_or order n 0 ∷ l) rest))
      (falling_onto (get_or order n 0) (get_or order (n + 1) 0) (drop (n + 1 + 1) order) most (subst IsFalling rest falling))

pub pivot_found : (order : List ℕ) (place : ℕ) → 0 < place → place ≤ length order - 1 → IsFalling (drop place order)
    → get_or order (place - 1) 0 < get_or order place 0 → IsPivot order (place - 1)
pivot_found order place some within falling above =
    let e : place ≡ place - 1 + 1 = omega (arith, some) in
    pivot_at order (place - 1) (omega (arith, some, within)) (subst (λ (k : ℕ). IsFalling (drop k order)) e falling)
    (subst (λ (k : ℕ). get_or order (place - 1) 0 < get_or order k 0) e above)

pub falling_more : (order : List ℕ) (place : ℕ) → 0 < place → place ≤ length order - 1 → IsFalling (drop place order)
    → get_or order place 0 ≤ get_or order (place - 1) 0 → IsFalling (drop (place - 1) order)
falling_more order place some within falling most =
    let e : place ≡ place - 1 + 1 = omega (arith, some) in
    falling_at order (place - 1) (omega (arith, some, within)) (subst (λ (k : ℕ). IsFalling (drop k order)) e falling)
    (subst (λ (k : ℕ). get_or order k 0 ≤ get_or order (place - 1) 0) e most)

pub falling_end : (order : List ℕ) (place : ℕ) → place ≡ length order - 1 → IsFalling (drop place order)
falling_end order place is = falling_short (drop place order) (omega (arith, is, length-drop {A = ℕ}))

pub all_falling : (order : List ℕ) (place : ℕ) → place ≤ 0 → IsFalling (drop place order) → IsFalling order
all_falling order zero none falling = falling
all_falling order (suc place) none falling = absurd (omega (arith, none))

pub successor_found : (order : List ℕ) (place pivot : ℕ) → place < length order → AreUpTo pivot (take place order)
    → pivot < get_or order place 0 → IsSuccessor order pivot place
successor_found order place pivot within up above = record {
  low = take place order;
  next = get_or order place 0;
  high = drop (place + 1) order;
  order_is = split order place within;
  place_is = long order place (omega (arith, within));
  above = above;
  up_to = up;
}

pub up_to_next : (order : List ℕ) (place pivot : ℕ) → place < length order → AreUpTo pivot (take place order)
    → get_or order place 0 ≤ pivot → AreUpTo pivot (take (place + 1) order)
up_to_next order place pivot within up most =
    subst (AreUpTo pivot) (sym (take_more order place 0 within)) (up_to_more pivot (get_or order place 0) (take place order) up most)

pub up_to_all : (order : List ℕ) (place pivot : ℕ) → length order ≤ place → AreUpTo pivot (take place order) → AreUpTo pivot order
up_to_all order place pivot past up = subst (AreUpTo pivot) (take_all place order past) up

-- two places of a list change their numbers
swap_is : (xs : List ℕ) (i j : ℕ) → i < length xs → j < length xs → swap xs i j ≡ set (set xs i (get_or xs j 0)) j (get_or xs i 0)
swap_is [] i j first second = absurd (omega (arith, first))
swap_is (d ∷ ys) i j first second =
    ap (λ (x : ℕ). set (set (d ∷ ys) i x) j (get_or (d ∷ ys) i d)) (get_or_default_zero (d ∷ ys) j d second)
    ∙ ap (λ (x : ℕ). set (set (d ∷ ys) i (get_or (d ∷ ys) j 0)) j x) (get_or_default_zero (d ∷ ys) i d first)

module _ (front : List ℕ) (p next : ℕ) (low high : List ℕ) where
  abbrev place : ℕ
  place = length front

  abbrev other : ℕ
  other = length front + 1 + length low

  abbrev whole : List ℕ
  whole = front ++ p ∷ (low ++ next ∷ high)

  cut_at : (x y : ℕ) → front ++ x ∷ (low ++ y ∷ high) ≡ (front ++ x ∷ low) ++ y ∷ high
  cut_at x y = sym (append_assoc front (x ∷ low) (y ∷ high))

  other_is : (x : ℕ) → other ≡ length (front ++ x ∷ low)
  other_is x = let e = length-append front (x ∷ low) in omega (arith, e)

  long_enough : other < length whole
  long_enough = let a = length-append front (p ∷ (low ++ next ∷ high)) in let b = length-append low (next ∷ high) in omega (arith, a, b)

  first_is : get_or whole place 0 ≡ p
  first_is = get_or-append_seam front p (low ++ next ∷ high) 0

  second_is : get_or whole other 0 ≡ next
  second_is = ap (λ (l : List ℕ). get_or l other 0) (cut_at p next)
      ∙ ap (λ (k : ℕ). get_or ((front ++ p ∷ low) ++ next ∷ high) k 0) (other_is p)
      ∙ get_or-append_seam (front ++ p ∷ low) next high 0

  pub swapped_places : swap whole place other ≡ front ++ next ∷ (low ++ p ∷ high)
  swapped_places = swap_is whole place other (omega (arith, long_enough)) long_enough
      ∙ ap (λ (x : ℕ). set (set whole place x) other (get_or whole place 0)) second_is
      ∙ ap (λ (x : ℕ). set (set whole place next) other x) first_is
      ∙ ap (λ (l : List ℕ). set l other p) (set-append_seam front p (low ++ next ∷ high) next ∙ cut_at next next)
      ∙ ap (λ (k : ℕ). set ((front ++ next ∷ low) ++ next ∷ high) k p) (other_is next)
      ∙ set-append_seam (front ++ next ∷ low) next high p
      ∙ sym (cut_at next p)

module _ (old : List ℕ) (place : ℕ) (at : IsPivot old place) (back turned : List ℕ) (back_is : back ≡ reverse (drop (place + 1) old))
    (turned_is : turned ≡ take (place + 1) old ++ back) where
  abbrev behind : List ℕ
  behind = at.head ∷ at.tail

  here : place ≡ length at.front
  here = sym at.place_is

  front_is : take (place + 1) old ≡ at.front ++ at.pivot ∷ []
  front_is = ap (λ (k : ℕ). take (k + 1) old) here ∙ ap (λ (l : List ℕ). take (length at.front + 1) l) at.order_is
      ∙ take-append-add at.front (at.pivot ∷ behind) 1

  behind_is : drop (place + 1) old ≡ behind
  behind_is = ap (λ (k : ℕ). drop (k + 1) old) here ∙ ap (λ (l : List ℕ). drop (length at.front + 1) l) at.order_is
      ∙ drop-append-add at.front (at.pivot ∷ behind) 1

  whole_is : turned ≡ at.front ++ at.pivot ∷ back
  whole_is = turned_is ∙ ap (λ (l : List ℕ). l ++ back) front_is ∙ append_assoc at.front (at.pivot ∷ []) back

  pivot_is : get_or turned place 0 ≡ at.pivot
  pivot_is = ap (λ (l : List ℕ). get_or l place 0) whole_is ∙ ap (λ (k : ℕ). get_or (at.front ++ at.pivot ∷ back) k 0) here
      ∙ get_or-append_seam at.front at.pivot back 0

  back_turned : back ≡ reverse behind
  back_turned = back_is ∙ ap (λ (l : List ℕ). reverse l) behind_is

  alike : (x : ℕ) → times x behind ≡ times x back
  alike x = times_reverse x behind ∙ ap (times x) (sym back_turned)

  rising : IsRising back
  rising = subst IsRising (sym back_turned) (falling_turned behind at.falling)

  pub no_successor : AreUpTo (get_or turned place 0) back → ⊥
  no_successor up =
      let there : 1 ≤ times at.head back = subst (λ (n : ℕ). 1 ≤ n) (alike at.head) (stands_first at.head at.head at.tail refl) in
      let most = up at.head there in let above = at.above in omega (arith, most, above, pivot_is)

  pub advanced : (k : ℕ) (new : List ℕ) → IsSuccessor back (get_or turned place 0) k → new ≡ swap turned place (place + 1 + k)
      → IsNext old new
  advanced k new s swapped =
      let above : at.pivot < s.next = subst (λ (p : ℕ). p < s.next) pivot_is s.above in
      let up : AreUpTo at.pivot s.low = subst (λ (p : ℕ). AreUpTo p s.low) pivot_is s.up_to in
      let is : turned ≡ at.front ++ at.pivot ∷ (s.low ++ s.next ∷ s.high) =
      whole_is ∙ ap (λ (l : List ℕ). at.front ++ at.pivot ∷ l) s.order_is in
      let then_is : new ≡ at.front ++ s.next ∷ (s.low ++ at.pivot ∷ s.high) = swapped
      ∙ ap (λ (l : List ℕ). swap l place (place + 1 + k)) is
      ∙ ap (λ (i : ℕ). swap (at.front ++ at.pivot ∷ (s.low ++ s.next ∷ s.high)) i (i + 1 + k)) here
      ∙ ap (λ (i : ℕ). swap (at.front ++ at.pivot ∷ (s.low ++ s.next ∷ s.high)) (length at.front) (length at.front + 1 + i)) (sym s.place_is)
      ∙ swapped_places at.front at.pivot s.next s.low s.high in
      let next = next_is at.pivot s.next behind s.low s.high at.falling
      (λ x. alike x ∙ ap (times x) s.order_is) above up (subst IsRising s.order_is rising) at.front in
      subst (λ (l : List ℕ). IsNext old l) (sym then_is) (subst (λ (l : List ℕ). IsNext l (at.front ++ s.next ∷ (s.low ++ at.pivot ∷ s.high))) (sym at.order_is) next)

-- the same in the words of slices: the part of a list from a place on, and that part put back
last_part : (a : ℕ) (xs : List ℕ) → take (length xs - a) (drop a xs) ≡ drop a xs
last_part a xs = take_all (length xs - a) (drop a xs) (omega (arith, length-drop {A = ℕ}))

put_back : (a : ℕ) (xs ys : List ℕ) → take a xs ++ (ys ++ drop (length xs - a) (drop a xs)) ≡ take a xs ++ ys
put_back a xs ys = ap (λ (l : List ℕ). take a xs ++ (ys ++ l))
    (nil_from_length (drop (length xs - a) (drop a xs)) (omega (arith, length-drop {A = ℕ})))
    ∙ ap (λ (l : List ℕ). take a xs ++ l) (append-nil ys)

part_back : (a : ℕ) (xs ys : List ℕ) → a ≤ length xs → drop a (take a xs ++ ys) ≡ ys
part_back a xs ys within = ap (λ (k : ℕ). drop k (take a xs ++ ys)) (sym (long xs a within)) ∙ drop-append_seam (take a xs) ys

module _ (old : List ℕ) (place : ℕ) (at : IsPivot old place) (back : List ℕ)
    (back_is : back ≡ reverse (take (length old - (place + 1)) (drop (place + 1) old))) where
  abbrev turned : List ℕ
  turned = take (place + 1) old ++ (back ++ drop (length old - (place + 1)) (drop (place + 1) old))

  within : place + 1 ≤ length old
  within = let a = ap (λ (l : List ℕ). length l) at.order_is in let b = length-append at.front (at.pivot ∷ at.head ∷ at.tail) in
      let c = at.place_is in omega (arith, a, b, c)

  is_turned : turned ≡ take (place + 1) old ++ back
  is_turned = put_back (place + 1) old back

  part_is : take (length turned - (place + 1)) (drop (place + 1) turned) ≡ back
  part_is = last_part (place + 1) turned ∙ ap (λ (l : List ℕ). drop (place + 1) l) is_turned ∙ part_back (place + 1) old back within

  is_back : back ≡ reverse (drop (place + 1) old)
  is_back = back_is ∙ ap (λ (l : List ℕ). reverse l) (last_part (place + 1) old)

  pub goes_on : (k : ℕ) (new : List ℕ) → IsSuccessor (take (length turned - (place + 1)) (drop (place + 1) turned)) (get_or turned place 0) k
      → new ≡ swap turned place (place + 1 + k) → IsNext old new
  goes_on k new s swapped = advanced old place at back turned is_back is_turned k new
      (subst (λ (l : List ℕ). IsSuccessor l (get_or turned place 0) k) part_is s) swapped

  pub has_one : AreUpTo (get_or turned place 0) (take (length turned - (place + 1)) (drop (place + 1) turned)) → ⊥
  has_one up = no_successor old place at back turned is_back is_turned
      (subst (λ (l : List ℕ). AreUpTo (get_or turned place 0) l) part_is up)
