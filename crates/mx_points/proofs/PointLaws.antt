-- A point is right exactly where it lies between what was seen and the next own entry.
use Rattle.std.proofs.Common.{◌≡◌, ◌↔◌, ℕ, suc, ◌+◌, ◌<◌, ◌≤◌, max, List, Option, Some, inl, inr, length, take, drop, refl, ap, sym, subst, ◌∙◌, arith}
use Rattle.std.specs.List.{slice_get}
use Rattle.std.proofs.lemmas.Bool.{cases_lt}
use Rattle.std.proofs.lemmas.Option.{slice_get_within}
use Rattle.mx_reads.specs.Deeds.{Deed, Enters, Stores, Loads, Refers, Misses, point_of}
use Rattle.mx_transcript.specs.Points.{ArePoints, IsPoint}
use Rattle.mx_points.specs.Fronts.{ArePointsTo, IsBadAt}
use Rattle.mx_points.specs.Seen.{HasRightPoint, MayBePoint, first_entry, greatest, seen}
use Rattle.mx_points.proofs.Places.{get_taken, taken_below}
use Rattle.mx_points.proofs.SeenLaws.{above_all, above_each, above_least, below_if, below_next, pointed, same_next}

-- a deed's point is among what it shows
point_seen : (deed : Deed) (q : ℕ) → point_of deed ≡ Some q → q ≤ seen deed
point_seen (Enters number) q e = absurd cc
point_seen (Stores cell value point) q e = let same : point ≡ q = cc in omega arith
point_seen (Loads cell value writer stamp point) q e = let same : point ≡ q = cc in omega arith
point_seen (Refers point) q e = let same : point ≡ q = cc in omega arith
point_seen (Misses segno by) q e = absurd cc

-- where a point is right, each deed before shows nothing beyond it
all_seen : (setup entries : ℕ) (done : List Deed) (place q : ℕ) → IsPoint setup entries done place q
    → (before : ℕ) (deed : Deed) → before < place → slice_get done before ≡ Some deed → seen deed ≤ q
all_seen setup entries done place q is before (Enters number) h at = is.after_entries before number h at
all_seen setup entries done place q is before (Stores cell value point) h at =
    is.rising before (Stores cell value point) point h at refl
all_seen setup entries done place q is before (Loads cell value writer stamp point) h at =
    let a : stamp ≤ q = is.after_stamps before cell value writer stamp point h at in
    let b : point ≤ q = is.rising before (Loads cell value writer stamp point) point h at refl in
    omega arith
all_seen setup entries done place q is before (Refers point) h at = is.rising before (Refers point) point h at refl
all_seen setup entries done place q is before (Misses segno by) h at = is.after_misses before segno by h at

pub point_right : (setup entries : ℕ) (done : List Deed) (place q floor : ℕ) (next : Option ℕ) (deed : Deed)
    → slice_get done place ≡ Some deed → point_of deed ≡ Some q → floor ≡ greatest seen setup (take place done)
    → next ≡ first_entry (drop place done) → MayBePoint floor entries next q → IsPoint setup entries done place q
point_right setup entries done place q floor next deed at point low high may =
    let low' : greatest seen setup (take place done) < suc q = omega (arith, may.after) in
    let least : setup < suc q = above_least seen setup (take place done) (suc q) low' in
    let each : (before : ℕ) (other : Deed) → before < place → slice_get done before ≡ Some other → seen other ≤ q =
    λ before other h there.
    let f : seen other < suc q = above_each seen setup (take place done) (suc q) low' before other (get_taken place done before h ∙ there) in
    omega arith in
    record {
      after_setup = omega arith;
      after_entries = λ before number h there. each before (Enters number) h there;
      after_misses = λ before segno by h there. each before (Misses segno by) h there;
      after_stamps = λ before cell value writer stamp point h there.
          let f : max stamp point ≤ q = each before (Loads cell value writer stamp point) h there in
          omega arith;
      rising = λ before other earlier h there e.
          let f : seen other ≤ q = each before other h there in
          let g : earlier ≤ seen other = point_seen other earlier e in
          omega arith;
      within = may.within;
      before_next = below_next done place q next (high ∙ same_next done place deed at (pointed deed q point)) may.before;
    }

pub point_may : (setup entries : ℕ) (done : List Deed) (place q floor : ℕ) (next : Option ℕ) (deed : Deed)
    → slice_get done place ≡ Some deed → point_of deed ≡ Some q → floor ≡ greatest seen setup (take place done)
    → next ≡ first_entry (drop place done) → IsPoint setup entries done place q → MayBePoint floor entries next q
point_may setup entries done place q floor next deed at point low high is =
    let least : setup < suc q = omega (arith, is.after_setup) in
    let each : (before : ℕ) (other : Deed) → slice_get (take place done) before ≡ Some other → seen other < suc q =
    λ before other there.
    let h : before < place = taken_below place done before other there in
    let f : seen other ≤ q = all_seen setup entries done place q is before other h (sym (get_taken place done before h) ∙ there) in
    omega arith in
    let all : greatest seen setup (take place done) < suc q = above_all seen setup (take place done) (suc q) least each in
    record {
      after = omega arith;
      within = is.within;
      before = below_if done place q next (high ∙ same_next done place deed at (pointed deed q point)) is.before_next;
    }

module _ (setup entries : ℕ) (done : List Deed) (place floor : ℕ) (next : Option ℕ) (deed : Deed)
    (at : slice_get done place ≡ Some deed) (low : floor ≡ greatest seen setup (take place done))
    (high : next ≡ first_entry (drop place done)) (good : ArePointsTo setup entries done place) where
  pub one_point_more : HasRightPoint floor entries next deed → ArePointsTo setup entries done (place + 1)
  one_point_more right other found q h there point = elim (cases_lt other place) [
    | inl lower ↦ good other found q lower there point
    | inr higher ↦
        let here : place ≡ other = omega (arith, h, higher) in
        let same : Some deed ≡ Some found = sym at ∙ ap (λ (k : ℕ). slice_get done k) here ∙ there in
        let is : deed ≡ found = cc in
        let e : point_of deed ≡ Some q = ap point_of is ∙ point in
        subst (λ (k : ℕ). IsPoint setup entries done k q) here
        (point_right setup entries done place q floor next deed at e low high (right q e))
  ]

  pub first_wrong_point : (HasRightPoint floor entries next deed → ⊥) → IsBadAt (ArePointsTo setup entries done) (length done) place
  first_wrong_point wrong = record {
    within = slice_get_within done place deed at;
    good = good;
    bad = λ all. wrong (λ q point.
        point_may setup entries done place q floor next deed at point low high (all place deed q (omega arith) at point));
  }

pub fewer_points : (setup entries : ℕ) (done : List Deed) (m n : ℕ) → m ≤ n → ArePointsTo setup entries done n
    → ArePointsTo setup entries done m
fewer_points setup entries done m n h all place deed q l at point = all place deed q (omega arith) at point

-- all points of a process
pub all_points : (setup entries : ℕ) (done : List Deed) → ArePointsTo setup entries done (length done) ↔ ArePoints setup entries done
all_points setup entries done = (
  λ all place deed q at point. all place deed q (slice_get_within done place deed at) at point,
  λ all place deed q h at point. all place deed q at point,
)
