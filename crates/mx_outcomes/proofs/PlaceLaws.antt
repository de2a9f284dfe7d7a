-- Laws on where the row of some outcomes stands.
use Rattle.std.proofs.Common.{◌≡◌, ◌<◌, ◌≤◌, Result, Ok, Err, OnOk, slice_set, ℕ, ◌+◌, Bool, true, false, if◌then◌else◌, List, [], ◌∷◌, ◌++◌, length, get_or, set, take, drop, sym, ap, ◌∙◌, refl, subst, arith}
use Rattle.std.proofs.lemmas.List.{take-append-drop, take_more, take_all, drop_more, length-take-le, length-append, get_or_at, set_at}
use Rattle.mx_outcomes.specs.Places.{IsNew, IsPlace}
use Rattle.mx_outcomes.specs.Tallies.{again, counted, first_row, is_of}
use Rattle.mx_outcomes.specs.declared.tallies.Row.{Row}

new_more : (o : List (List ℕ)) (rows : List Row) (row : Row) → IsNew o rows → is_of o row ≡ false → IsNew o (rows ++ row ∷ [])
new_more o [] row new other = (other, tt)
new_more o (r ∷ rows) row new other = (new.0, new_more o rows row new.1 other)

pub new_next : (o : List (List ℕ)) (rows : List Row) (i : ℕ) (row : Row) → i < length rows → row ≡ get_or rows i row → IsNew o (take i rows)
    → is_of o row ≡ false → IsNew o (take (i + 1) rows)
new_next o rows i row within is new other = subst (IsNew o) (sym (take_more rows i row within))
    (new_more o (take i rows) (get_or rows i row) new (ap (is_of o) (sym is) ∙ other))

pub new_all : (o : List (List ℕ)) (rows : List Row) (i : ℕ) → length rows ≤ i → IsNew o (take i rows) → IsNew o rows
new_all o rows i past new = subst (IsNew o) (take_all i rows past) new

pub place_found : (o : List (List ℕ)) (rows : List Row) (i : ℕ) (row : Row) → i < length rows → row ≡ get_or rows i row → IsNew o (take i rows)
    → is_of o row ≡ true → IsPlace o rows i
place_found o rows i row within is new same = record {
  before = take i rows;
  row = row;
  after = drop (i + 1) rows;
  rows_are = sym (take-append-drop i rows) ∙ ap (λ (l : List Row). take i rows ++ l) (drop_more rows i row within)
      ∙ ap (λ (r : Row). take i rows ++ r ∷ drop (i + 1) rows) (sym is);
  place_is = length-take-le i rows (omega (arith, within));
  same = same;
  others = new;
}

pub place_within : (o : List (List ℕ)) (rows : List Row) (place : ℕ) → IsPlace o rows place → place < length rows
place_within o rows place at =
    let a = ap (λ (l : List Row). length l) at.rows_are in let b = length-append at.before (at.row ∷ at.after) in
    let c = at.place_is in omega (arith, a, b, c)

-- outcomes that no row has
pub counted_new : (order : List ℕ) (o : List (List ℕ)) (rows : List Row) → IsNew o rows → counted order o rows ≡ rows ++ first_row order o ∷ []
counted_new order o [] new = refl
counted_new order o (row ∷ rows) new =
    ap (λ (b : Bool). if b then again row ∷ rows else row ∷ counted order o rows) new.0
    ∙ ap (λ (l : List Row). row ∷ l) (counted_new order o rows new.1)

-- and ones that one has
counted_behind : (order : List ℕ) (o : List (List ℕ)) (before : List Row) (row : Row) (after : List Row) → IsNew o before → is_of o row ≡ true
    → counted order o (before ++ row ∷ after) ≡ before ++ again row ∷ after
counted_behind order o [] row after new same = ap (λ (b : Bool). if b then again row ∷ after else row ∷ counted order o after) same
counted_behind order o (first ∷ before) row after new same =
    ap (λ (b : Bool). if b then again first ∷ (before ++ row ∷ after) else first ∷ counted order o (before ++ row ∷ after)) new.0
    ∙ ap (λ (l : List Row). first ∷ l) (counted_behind order o before row after new.1 same)

pub counted_at : (order : List ℕ) (o : List (List ℕ)) (rows new : List Row) (place : ℕ) (old row : Row) → IsPlace o rows place
    → old ≡ get_or rows place old → row ≡ again old → new ≡ set rows place row → new ≡ counted order o rows
counted_at order o rows new place old row at is more changed =
    let there : old ≡ at.row = is ∙ ap (λ (l : List Row). get_or l place old) at.rows_are
    ∙ get_or_at at.before at.row at.after old place at.place_is in
    let now : row ≡ again at.row = more ∙ ap again there in
    changed ∙ ap (λ (l : List Row). set l place row) at.rows_are ∙ set_at at.before at.row at.after row place at.place_is
    ∙ ap (λ (r : Row). at.before ++ r ∷ at.after) now
    ∙ sym (counted_behind order o at.before at.row at.after at.others at.same)
    ∙ ap (counted order o) (sym at.rows_are)

pub counted_once : {A E : Type 0} (told : Result A E) (order : List ℕ) (o : List (List ℕ)) (rows read : List Row) (place : ℕ) (old row : Row)
    → read ≡ rows → IsPlace o read place → old ≡ get_or rows place old → OnOk told (row ≡ again old)
    → OnOk told (slice_set rows place row ≡ counted order o rows)
counted_once (Ok u) order o rows read place old row same at is more =
    counted_at order o rows (slice_set rows place row) place old row (subst (λ (l : List Row). IsPlace o l place) same at) is more refl
counted_once (Err e) order o rows read place old row same at is more = tt

pub counted_first : (order first : List ℕ) (o : List (List ℕ)) (rows read new : List Row) → read ≡ rows → IsNew o read → first ≡ order
    → new ≡ rows ++ first_row first o ∷ [] → new ≡ counted order o rows
counted_first order first o rows read new same none is more =
    more ∙ ap (λ (l : List ℕ). rows ++ first_row l o ∷ []) is ∙ sym (counted_new order o rows (subst (IsNew o) same none))
