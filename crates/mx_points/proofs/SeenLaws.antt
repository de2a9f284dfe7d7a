-- What the numbers of what was seen, and of the next own entry, say of the deeds.
use Rattle.std.proofs.Common.{◌≡◌, ℕ, zero, suc, ◌+◌, ◌-◌, ◌<◌, max, List, [], ◌∷◌, ◌++◌, Option, Some, None, take, drop, refl, ap, sym, subst, ◌∙◌, arith}
use Rattle.std.specs.List.{slice_get}
use Rattle.mx_reads.specs.Deeds.{Deed, Enters, Stores, Loads, Refers, Misses, point_of}
use Rattle.mx_stores.specs.Since.{entry_of}
use Rattle.mx_stores.proofs.Drops.{get_dropped}
use Rattle.mx_transcript.specs.Points.{IsNextEntry}
use Rattle.mx_points.specs.Seen.{IsBelow, first_entry, greatest, or_later}
use Rattle.mx_points.proofs.Places.{dropped_more, taken_more}

-- ---- the greatest number
pub greatest_more : (number : Deed → ℕ) (least : ℕ) (deeds : List Deed) (deed : Deed)
    → greatest number least (deeds ++ deed ∷ []) ≡ max (greatest number least deeds) (number deed)
greatest_more number least [] deed = refl
greatest_more number least (first ∷ deeds) deed = greatest_more number (max least (number first)) deeds deed

pub greatest_at : (number : Deed → ℕ) (least : ℕ) (deeds : List Deed) (place : ℕ) (deed : Deed) (floor here : ℕ) → slice_get deeds place ≡ Some deed
    → floor ≡ greatest number least (take place deeds) → here ≡ number deed
    → max floor here ≡ greatest number least (take (place + 1) deeds)
greatest_at number least deeds place deed floor here at e f =
    let one : place + 1 ≡ suc place = omega arith in
    let g : greatest number least (take (place + 1) deeds) ≡ max (greatest number least (take place deeds)) (number deed) =
    ap (λ (n : ℕ). greatest number least (take n deeds)) one
    ∙ ap (greatest number least) (taken_more deeds place deed at)
    ∙ greatest_more number least (take place deeds) deed in
    omega arith

pub above_least : (number : Deed → ℕ) (least : ℕ) (deeds : List Deed) (q : ℕ) → greatest number least deeds < q → least < q
above_least number least [] q h = h
above_least number least (first ∷ deeds) q h =
    let e : max least (number first) < q = above_least number (max least (number first)) deeds q h in
    omega arith

pub above_each : (number : Deed → ℕ) (least : ℕ) (deeds : List Deed) (q : ℕ) → greatest number least deeds < q
    → (k : ℕ) (deed : Deed) → slice_get deeds k ≡ Some deed → number deed < q
above_each number least [] q h k deed at = absurd cc
above_each number least (first ∷ deeds) q h zero deed at =
    let same : first ≡ deed = cc in
    let e : max least (number first) < q = above_least number (max least (number first)) deeds q h in
    let f : number first < q = omega arith in
    subst (λ (d : Deed). number d < q) same f
above_each number least (first ∷ deeds) q h (suc k) deed at =
    above_each number (max least (number first)) deeds q h k deed at

pub above_all : (number : Deed → ℕ) (least : ℕ) (deeds : List Deed) (q : ℕ) → least < q
    → ((k : ℕ) (deed : Deed) → slice_get deeds k ≡ Some deed → number deed < q) → greatest number least deeds < q
above_all number least [] q h each = h
above_all number least (first ∷ deeds) q h each =
    let e : number first < q = each 0 first refl in
    let f : max least (number first) < q = omega arith in
    above_all number (max least (number first)) deeds q f (λ k deed at. each (suc k) deed at)

-- ---- the first entry
pub no_entry : (deed : Deed) (deeds : List Deed) → entry_of deed ≡ None → first_entry (deed ∷ deeds) ≡ first_entry deeds
no_entry deed deeds e = ap (λ (o : Option ℕ). or_later o (first_entry deeds)) e

-- what has a point is no entry
pub pointed : (deed : Deed) (q : ℕ) → point_of deed ≡ Some q → entry_of deed ≡ None
pointed (Enters number) q e = absurd cc
pointed (Stores cell value point) q e = refl
pointed (Loads cell value writer stamp point) q e = refl
pointed (Refers point) q e = refl
pointed (Misses segno by) q e = refl

first_is : (deeds : List Deed) (at number : ℕ) → slice_get deeds at ≡ Some (Enters number)
    → ((between other : ℕ) → between < at → slice_get deeds between ≡ Some (Enters other) → ⊥) → first_entry deeds ≡ Some number
first_is [] at number e none = absurd cc
first_is (deed ∷ deeds) zero number e none =
    let same : deed ≡ Enters number = cc in
    ap (λ (d : Deed). or_later (entry_of d) (first_entry deeds)) same
first_is (Enters other ∷ deeds) (suc at) number e none = absurd (none 0 other (omega arith) refl)
first_is (Stores cell value point ∷ deeds) (suc at) number e none =
    first_is deeds at number e (λ between other h there. none (suc between) other (omega arith) there)
first_is (Loads cell value writer stamp point ∷ deeds) (suc at) number e none =
    first_is deeds at number e (λ between other h there. none (suc between) other (omega arith) there)
first_is (Refers point ∷ deeds) (suc at) number e none =
    first_is deeds at number e (λ between other h there. none (suc between) other (omega arith) there)
first_is (Misses segno by ∷ deeds) (suc at) number e none =
    first_is deeds at number e (λ between other h there. none (suc between) other (omega arith) there)

record HasFirst (deeds : List Deed) (number : ℕ) : Type 0 where
  at : ℕ
  entry : slice_get deeds at ≡ Some (Enters number)
  first : (between other : ℕ) → between < at → slice_get deeds between ≡ Some (Enters other) → ⊥

one_later : (deed : Deed) (deeds : List Deed) (number : ℕ) → ((other : ℕ) → deed ≡ Enters other → ⊥) → HasFirst deeds number
    → HasFirst (deed ∷ deeds) number
one_later deed deeds number none has = record { at = suc has.at; entry = has.entry; first = first }
  where
    first : (between other : ℕ) → between < suc has.at → slice_get (deed ∷ deeds) between ≡ Some (Enters other) → ⊥
    first zero other h there = none other (cc)
    first (suc between) other h there = has.first between other (omega arith) there

there : (deeds : List Deed) (number : ℕ) → first_entry deeds ≡ Some number → HasFirst deeds number
there [] number e = absurd cc
there (Enters own ∷ deeds) number e =
    let same : own ≡ number = cc in
    record { at = 0; entry = ap (λ (n : ℕ). Some (Enters n)) same; first = λ between other h at. omega arith }
there (Stores cell value point ∷ deeds) number e = one_later _ deeds number (λ other same. cc) (there deeds number e)
there (Loads cell value writer stamp point ∷ deeds) number e = one_later _ deeds number (λ other same. cc) (there deeds number e)
there (Refers point ∷ deeds) number e = one_later _ deeds number (λ other same. cc) (there deeds number e)
there (Misses segno by ∷ deeds) number e = one_later _ deeds number (λ other same. cc) (there deeds number e)

pub next_is : (done : List Deed) (place number : ℕ) → IsNextEntry done place number → first_entry (drop (suc place) done) ≡ Some number
next_is done place number next =
    let same : suc place + (next.at - suc place) ≡ next.at = omega (arith, next.after) in
    first_is (drop (suc place) done) (next.at - suc place) number
    (get_dropped (suc place) done (next.at - suc place) ∙ ap (λ (k : ℕ). slice_get done k) same ∙ next.entry)
    (λ between other h at.
    next.first (suc place + between) other (omega arith) (omega (arith, next.after)) (sym (get_dropped (suc place) done between) ∙ at))

next_there : (done : List Deed) (place number : ℕ) → first_entry (drop (suc place) done) ≡ Some number → IsNextEntry done place number
next_there done place number e =
    let has = there (drop (suc place) done) number e in
    record {
      at = suc place + has.at;
      after = omega arith;
      entry = sym (get_dropped (suc place) done has.at) ∙ has.entry;
      first = λ between other after before at.
          let same : suc place + (between - suc place) ≡ between = omega arith in
          has.first (between - suc place) other (omega arith)
          (get_dropped (suc place) done (between - suc place) ∙ ap (λ (k : ℕ). slice_get done k) same ∙ at);
    }

pub below_next : (done : List Deed) (place q : ℕ) (next : Option ℕ) → next ≡ first_entry (drop (suc place) done) → IsBelow q next
    → (number : ℕ) → IsNextEntry done place number → q < number
below_next done place q next e below number is = subst (IsBelow q) (e ∙ next_is done place number is) below

pub below_if : (done : List Deed) (place q : ℕ) (next : Option ℕ) → next ≡ first_entry (drop (suc place) done)
    → ((number : ℕ) → IsNextEntry done place number → q < number) → IsBelow q next
below_if done place q None e each = tt
below_if done place q (Some number) e each = each number (next_there done place number (sym e))

-- before a deed that is no entry the next own entry is the one after it
pub same_next : (done : List Deed) (place : ℕ) (deed : Deed) → slice_get done place ≡ Some deed → entry_of deed ≡ None
    → first_entry (drop place done) ≡ first_entry (drop (suc place) done)
same_next done place deed at e = ap first_entry (dropped_more done place deed at) ∙ no_entry deed (drop (suc place) done) e
