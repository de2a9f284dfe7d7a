-- The acts of a list of deeds and their places.
use Rattle.std.proofs.Common.{◌≡◌, ℕ, zero, suc, ◌<◌, ◌≤◌, List, [], ◌∷◌, refl, ap, sym, subst, Some, arith}
use Rattle.std.specs.List.{slice_get}
use Rattle.mx_reads.specs.Deeds.{Deed, Enters, Stores, Loads, Refers, Misses}
use Rattle.mx_ties.specs.Acts.{IsAct, acts, one_more, acts_before, place_of}

no_entry : (number : ℕ) (d : Deed) → IsAct d → Some (Enters number) ≡ Some d → ⊥
no_entry number d a h = let e : Enters number ≡ d = cc in subst IsAct (sym e) a

-- an act stands among the acts at the number of acts before it
pub act_at : (done : List Deed) (place : ℕ) (d : Deed) → IsAct d → slice_get done place ≡ Some d
    → slice_get (acts done) (acts_before done place) ≡ Some d
act_at [] place d a h = cc
act_at (Enters number ∷ done) zero d a h = absurd (no_entry number d a h)
act_at (Enters number ∷ done) (suc place) d a h = act_at done place d a h
act_at (Stores cell value point ∷ done) zero d a h = h
act_at (Stores cell value point ∷ done) (suc place) d a h = act_at done place d a h
act_at (Loads cell value writer stamp point ∷ done) zero d a h = h
act_at (Loads cell value writer stamp point ∷ done) (suc place) d a h = act_at done place d a h
act_at (Refers point ∷ done) zero d a h = h
act_at (Refers point ∷ done) (suc place) d a h = act_at done place d a h
act_at (Misses segno by ∷ done) zero d a h = h
act_at (Misses segno by ∷ done) (suc place) d a h = act_at done place d a h

-- and it stands at its place among the deeds
pub at_place : (done : List Deed) (i : ℕ) (d : Deed) → slice_get (acts done) i ≡ Some d
    → slice_get done (place_of done i) ≡ Some d
at_place [] i d h = cc
at_place (Enters number ∷ done) i d h = at_place done i d h
at_place (Stores cell value point ∷ done) zero d h = h
at_place (Stores cell value point ∷ done) (suc i) d h = at_place done i d h
at_place (Loads cell value writer stamp point ∷ done) zero d h = h
at_place (Loads cell value writer stamp point ∷ done) (suc i) d h = at_place done i d h
at_place (Refers point ∷ done) zero d h = h
at_place (Refers point ∷ done) (suc i) d h = at_place done i d h
at_place (Misses segno by ∷ done) zero d h = h
at_place (Misses segno by ∷ done) (suc i) d h = at_place done i d h

pub before_place : (done : List Deed) (i : ℕ) (d : Deed) → slice_get (acts done) i ≡ Some d
    → acts_before done (place_of done i) ≡ i
before_place [] i d h = cc
before_place (Enters number ∷ done) i d h = before_place done i d h
before_place (Stores cell value point ∷ done) zero d h = refl
before_place (Stores cell value point ∷ done) (suc i) d h = ap suc (before_place done i d h)
before_place (Loads cell value writer stamp point ∷ done) zero d h = refl
before_place (Loads cell value writer stamp point ∷ done) (suc i) d h = ap suc (before_place done i d h)
before_place (Refers point ∷ done) zero d h = refl
before_place (Refers point ∷ done) (suc i) d h = ap suc (before_place done i d h)
before_place (Misses segno by ∷ done) zero d h = refl
before_place (Misses segno by ∷ done) (suc i) d h = ap suc (before_place done i d h)

pub is_act : (done : List Deed) (i : ℕ) (d : Deed) → slice_get (acts done) i ≡ Some d → IsAct d
is_act [] i d h = cc
is_act (Enters number ∷ done) i d h = is_act done i d h
is_act (Stores cell value point ∷ done) zero d h = let e : Stores cell value point ≡ d = cc in subst IsAct e tt
is_act (Stores cell value point ∷ done) (suc i) d h = is_act done i d h
is_act (Loads cell value writer stamp point ∷ done) zero d h =
    let e : Loads cell value writer stamp point ≡ d = cc in subst IsAct e tt
is_act (Loads cell value writer stamp point ∷ done) (suc i) d h = is_act done i d h
is_act (Refers point ∷ done) zero d h = let e : Refers point ≡ d = cc in subst IsAct e tt
is_act (Refers point ∷ done) (suc i) d h = is_act done i d h
is_act (Misses segno by ∷ done) zero d h = let e : Misses segno by ≡ d = cc in subst IsAct e tt
is_act (Misses segno by ∷ done) (suc i) d h = is_act done i d h

-- the number of acts before a place grows with the place, and from an act's place on strictly
more_grows : (d : Deed) (a b : ℕ) → a ≤ b → one_more d a ≤ one_more d b
more_grows (Enters number) a b l = l
more_grows (Stores cell value point) a b l = omega arith
more_grows (Loads cell value writer stamp point) a b l = omega arith
more_grows (Refers point) a b l = omega arith
more_grows (Misses segno by) a b l = omega arith

more_rises : (d : Deed) (a b : ℕ) → a < b → one_more d a < one_more d b
more_rises (Enters number) a b l = l
more_rises (Stores cell value point) a b l = omega arith
more_rises (Loads cell value writer stamp point) a b l = omega arith
more_rises (Refers point) a b l = omega arith
more_rises (Misses segno by) a b l = omega arith

act_counts : (d : Deed) (n : ℕ) → IsAct d → 0 < one_more d n
act_counts (Enters number) n a = absurd a
act_counts (Stores cell value point) n a = omega arith
act_counts (Loads cell value writer stamp point) n a = omega arith
act_counts (Refers point) n a = omega arith
act_counts (Misses segno by) n a = omega arith

pub before_grows : (done : List Deed) (a b : ℕ) → a ≤ b → acts_before done a ≤ acts_before done b
before_grows [] a b l = omega arith
before_grows (deed ∷ done) zero b l = omega arith
before_grows (deed ∷ done) (suc a) zero l = absurd (omega arith)
before_grows (deed ∷ done) (suc a) (suc b) l =
    more_grows deed (acts_before done a) (acts_before done b) (before_grows done a b (omega arith))

pub before_rises : (done : List Deed) (a b : ℕ) (d : Deed) → IsAct d → slice_get done a ≡ Some d → a < b
    → acts_before done a < acts_before done b
before_rises [] a b d act h l = cc
before_rises (deed ∷ done) zero zero d act h l = absurd (omega arith)
before_rises (deed ∷ done) zero (suc b) d act h l =
    let e : deed ≡ d = cc in act_counts deed (acts_before done b) (subst IsAct (sym e) act)
before_rises (deed ∷ done) (suc a) zero d act h l = absurd (omega arith)
before_rises (deed ∷ done) (suc a) (suc b) d act h l =
    more_rises deed (acts_before done a) (acts_before done b) (before_rises done a b d act h (omega arith))
