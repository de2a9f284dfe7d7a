-- What rows of descriptors have at a place, and past their end.
use Rattle.std.proofs.Common.{◌≡◌, inl, inr, ◌⊎◌, ℕ, zero, suc, ◌<◌, ◌≤◌, List, [], ◌∷◌, ◌++◌, length, Bool, true, false, refl, ap, sym, ◌∙◌, subst, Option, Some, None, arith}
use Rattle.std.specs.Prelude.{slice_set, slice_index_or, replicate}
use Rattle.std.specs.List.{slice_get}
use Rattle.std.proofs.lemmas.Bool.{cases_eq as same_or, cases_lt, or_from, false_from_ne_true}
use Rattle.std.proofs.lemmas.Option.{slice_get_within}
use Rattle.mx_sdw.specs.Admissible.{IsAdmissible}
use Rattle.mx_sdw.specs.Descriptors.{Descriptor, unknown_desc}
use Rattle.mx_worlds.specs.Marking.{AllShow}
use Rattle.mx_core.specs.Opening.{CanOpen, any_below, is_covered}
use Rattle.mx_core.specs.Pages.{covers}
use Rattle.mx_core.specs.Put.{put}
use Rattle.mx_core.specs.Lists.{Lists}
use Rattle.mx_worlds.specs.Shows.{Columns, ShowsSeat, ShowsNotes}
use Rattle.mx_worlds.specs.Tables.{desc_in, row_in, table_in, AreAdmissible, HasCover}
use Rattle.mx_worlds.specs.declared.seats.Seat.{Seat}
use Rattle.mx_core.proofs.Descriptors.{unknown_admissible}
use Rattle.mx_core.proofs.OpeningLaw.{some_below, unknown_bare}
use Rattle.mx_core.proofs.Puts.{put_all, put_here, put_else}
use Rattle.mx_worlds.proofs.Seating.{at_place}

nothing_at : {A : Type 0} (a : A) → None ≡ Some a → ⊥
nothing_at a h = cc

same_at : {A : Type 0} (a b : A) → Some a ≡ Some b → a ≡ b
same_at a b h = cc

pub row_listed : (row : List Descriptor) → Lists row (desc_in row)
row_listed [] n under = absurd (omega arith)
row_listed (d ∷ row) zero under = refl
row_listed (d ∷ row) (suc n) under = row_listed row n (omega arith)

pub rows_listed : (rows : List (List Descriptor)) → Lists rows (row_in rows)
rows_listed [] n under = absurd (omega arith)
rows_listed (row ∷ rows) zero under = refl
rows_listed (row ∷ rows) (suc n) under = rows_listed rows n (omega arith)

pub desc_past : (row : List Descriptor) (n : ℕ) → length row ≤ n → desc_in row n ≡ unknown_desc
desc_past [] n past = refl
desc_past (d ∷ row) zero past = absurd (omega arith)
desc_past (d ∷ row) (suc n) past = desc_past row n (omega arith)

pub row_past : (rows : List (List Descriptor)) (i : ℕ) → length rows ≤ i → row_in rows i ≡ []
row_past [] i past = refl
row_past (row ∷ rows) zero past = absurd (omega arith)
row_past (row ∷ rows) (suc i) past = row_past rows i (omega arith)

pub desc_at : (row : List Descriptor) (n : ℕ) (d : Descriptor) → slice_get row n ≡ Some d → desc_in row n ≡ d
desc_at row n d at = same_at (desc_in row n) d (sym (row_listed row n (slice_get_within row n d at)) ∙ at)

pub row_at : (rows : List (List Descriptor)) (i : ℕ) (row : List Descriptor) → slice_get rows i ≡ Some row
    → row_in rows i ≡ row
row_at rows i row at = same_at (row_in rows i) row (sym (rows_listed rows i (slice_get_within rows i row at)) ∙ at)

abbrev pub AreOf : List (List Descriptor) → ℕ → Type 0
AreOf rows numbers = (i : ℕ) (row : List Descriptor) → slice_get rows i ≡ Some row → length row ≡ numbers

pub table_past : (rows : List (List Descriptor)) (numbers : ℕ) → AreOf rows numbers → (p n : ℕ) → numbers ≤ n
    → table_in rows p n ≡ unknown_desc
table_past rows numbers of zero n past = refl
table_past rows numbers of (suc i) n past = elim (cases_lt i (length rows)) [
  | inl under ↦
      let e = of i (row_in rows i) (rows_listed rows i under) in desc_past (row_in rows i) n (omega arith)
  | inr over ↦ ap (λ (row : List Descriptor). desc_in row n) (row_past rows i over)
]

table_more : (rows : List (List Descriptor)) (p n : ℕ) → length rows < p → table_in rows p n ≡ unknown_desc
table_more rows zero n past = refl
table_more rows (suc i) n past = ap (λ (row : List Descriptor). desc_in row n) (row_past rows i (omega arith))

pub row_admissible : (row : List Descriptor) → ((n : ℕ) → n < length row → IsAdmissible (desc_in row n))
    → AreAdmissible row
row_admissible row all n = elim (cases_lt n (length row)) [
  | inl under ↦ all n under
  | inr over ↦ subst IsAdmissible (sym (desc_past row n over)) unknown_admissible
]

pub table_admissible : (rows : List (List Descriptor)) → ((i : ℕ) → i < length rows → AreAdmissible (row_in rows i))
    → (p n : ℕ) → IsAdmissible (table_in rows p n)
table_admissible rows all zero n = unknown_admissible
table_admissible rows all (suc i) n = elim (cases_lt i (length rows)) [
  | inl under ↦ all i under n
  | inr over ↦
      subst (λ (row : List Descriptor). IsAdmissible (desc_in row n)) (sym (row_past rows i over)) unknown_admissible
]

pub table_opens : (rows : List (List Descriptor)) (processes numbers start : ℕ) → length rows ≡ processes
    → AreOf rows numbers → 1 ≤ processes → processes ≤ 15 → start ≤ 262143
    → ((p n : ℕ) → IsAdmissible (table_in rows p n)) → CanOpen processes numbers start (table_in rows)
table_opens rows processes numbers start many of some most limit admissible = record {
  some = some;
  most = most;
  limit = limit;
  admissible = admissible;
  nobody = λ n. refl;
  more = λ p n past. table_more rows p n (omega arith);
  beyond = λ p n past. table_past rows numbers of p n past;
}

-- a descriptor replaced in its row
desc_put : (row : List Descriptor) (k : ℕ) (d : Descriptor) → k < length row → (n : ℕ)
    → desc_in (slice_set row k d) n ≡ put (desc_in row) k d n
desc_put row k d under = put_all (λ n b. desc_in (slice_set row k d) n ≡ b) (desc_in row) k d
    (set_desc row k under)
    (λ n apart. other_desc row k n apart)
  where
    set_desc : (row : List Descriptor) (k : ℕ) → k < length row → desc_in (slice_set row k d) k ≡ d
    set_desc [] k under = absurd (omega arith)
    set_desc (x ∷ row) zero under = refl
    set_desc (x ∷ row) (suc k) under = set_desc row k (omega arith)

    other_desc : (row : List Descriptor) (k n : ℕ) → (n ≡ k → ⊥) → desc_in (slice_set row k d) n ≡ desc_in row n
    other_desc [] k n apart = refl
    other_desc (x ∷ row) zero zero apart = absurd (apart refl)
    other_desc (x ∷ row) zero (suc n) apart = refl
    other_desc (x ∷ row) (suc k) zero apart = refl
    other_desc (x ∷ row) (suc k) (suc n) apart = other_desc row k n (λ e. apart (ap suc e))

row_set : (rows : List (List Descriptor)) (i : ℕ) (row : List Descriptor) → i < length rows
    → row_in (slice_set rows i row) i ≡ row
row_set [] i row under = absurd (omega arith)
row_set (x ∷ rows) zero row under = refl
row_set (x ∷ rows) (suc i) row under = row_set rows i row (omega arith)

row_else : (rows : List (List Descriptor)) (i j : ℕ) (row : List Descriptor) → (j ≡ i → ⊥)
    → row_in (slice_set rows i row) j ≡ row_in rows j
row_else [] i j row apart = refl
row_else (x ∷ rows) zero zero row apart = absurd (apart refl)
row_else (x ∷ rows) zero (suc j) row apart = refl
row_else (x ∷ rows) (suc i) zero row apart = refl
row_else (x ∷ rows) (suc i) (suc j) row apart = row_else rows i j row (λ e. apart (ap suc e))

pub table_put : (rows : List (List Descriptor)) (i p k : ℕ) (row : List Descriptor) (d : Descriptor) → p ≡ suc i
    → slice_get rows i ≡ Some row → k < length row → (q n : ℕ)
    → table_in (slice_set rows i (slice_set row k d)) q n
    ≡ put (table_in rows) p (put (table_in rows p) k d) q n
table_put rows i p k row d is at under =
    subst (λ (p : ℕ). (q n : ℕ) → table_in (slice_set rows i (slice_set row k d)) q n
    ≡ put (table_in rows) p (put (table_in rows p) k d) q n) (sym is) go
  where
    here : (n : ℕ) → desc_in (row_in (slice_set rows i (slice_set row k d)) i) n
        ≡ put (desc_in (row_in rows i)) k d n
    here n =
        ap (λ (r : List Descriptor). desc_in r n)
        (row_set rows i (slice_set row k d) (slice_get_within rows i row at))
        ∙ desc_put row k d under n
        ∙ ap (λ (r : List Descriptor). put (desc_in r) k d n) (sym (row_at rows i row at))

    go : (q n : ℕ) → table_in (slice_set rows i (slice_set row k d)) q n
        ≡ put (table_in rows) (suc i) (put (table_in rows (suc i)) k d) q n
    go zero n = ap (λ (h : ℕ → Descriptor). h n)
        (sym (put_else (table_in rows) (suc i) (put (table_in rows (suc i)) k d) 0 (λ e. absurd (omega arith))))
    go (suc j) n = elim (same_or (suc j) (suc i)) [
      | inl e ↦
          subst (λ (m : ℕ). table_in (slice_set rows i (slice_set row k d)) m n
          ≡ put (table_in rows) (suc i) (put (table_in rows (suc i)) k d) m n) (sym e)
          (here n ∙ sym (ap (λ (h : ℕ → Descriptor). h n)
          (put_here (table_in rows) (suc i) (put (table_in rows (suc i)) k d))))
      | inr apart ↦
          ap (λ (r : List Descriptor). desc_in r n)
          (row_else rows i j (slice_set row k d) (λ e. apart (ap suc e)))
          ∙ sym (ap (λ (h : ℕ → Descriptor). h n)
          (put_else (table_in rows) (suc i) (put (table_in rows (suc i)) k d) (suc j) apart))
    ]

-- pages that some row covers
pub table_covers : (rows : List (List Descriptor)) (processes numbers page i : ℕ) → length rows ≡ processes
    → AreOf rows numbers → i < length rows → HasCover (row_in rows i) page
    → is_covered processes numbers (table_in rows) page ≡ true
table_covers rows processes numbers page i many of under has =
    some_below (suc processes) (λ p. any_below numbers (λ n. covers (table_in rows p n) page)) (suc i) (omega arith)
    (some_below numbers (λ n. covers (desc_in (row_in rows i) n) page) has.number
    (let e = of i (row_in rows i) (rows_listed rows i under) in let here = has.here in omega arith) has.covered)

none_below : (n : ℕ) (has : ℕ → Bool) → ((i : ℕ) → i < n → has i ≡ false) → any_below n has ≡ false
none_below zero has none = refl
none_below (suc n) has none =
    or_from (has n) (any_below n has) (none n (omega arith)) (none_below n has (λ i under. none i (omega arith)))

pub row_bare : (row : List Descriptor) (page : ℕ) → (HasCover row page → ⊥) → (n : ℕ)
    → covers (desc_in row n) page ≡ false
row_bare row page none n = false_from_ne_true (covers (desc_in row n) page) (λ h. elim (cases_lt n (length row)) [
  | inl under ↦ none (record { number = n; here = under; covered = h })
  | inr over ↦ unknown_bare (desc_in row n) page (desc_past row n over) h
])

pub table_bare : (rows : List (List Descriptor)) (processes numbers page : ℕ)
    → ((i : ℕ) → i < length rows → HasCover (row_in rows i) page → ⊥)
    → is_covered processes numbers (table_in rows) page ≡ false
table_bare rows processes numbers page none =
    none_below (suc processes) (λ p. any_below numbers (λ n. covers (table_in rows p n) page))
    (λ p l. none_below numbers (λ n. covers (table_in rows p n) page) (λ n l. bare p n))
  where
    bare : (p n : ℕ) → covers (table_in rows p n) page ≡ false
    bare zero n = row_bare [] page (λ has. let here = has.here in absurd (omega arith)) n
    bare (suc i) n = elim (cases_lt i (length rows)) [
      | inl under ↦ row_bare (row_in rows i) page (none i under) n
      | inr over ↦
          subst (λ (row : List Descriptor). covers (desc_in row n) page ≡ false) (sym (row_past rows i over))
          (row_bare [] page (λ has. let here = has.here in absurd (omega arith)) n)
    ]

-- what stands in a list with one item more
last_found : {A : Type 0} (xs : List A) (x : A) (p : ℕ) (s : A) → slice_get (xs ++ x ∷ []) p ≡ Some s
    → (slice_get xs p ≡ Some s) ⊎ ((p ≡ length xs) × (s ≡ x))
last_found [] x zero s at = inr (refl, sym (same_at x s at))
last_found [] x (suc p) s at = absurd (nothing_at s at)
last_found (y ∷ xs) x zero s at = inl at
last_found (y ∷ xs) x (suc p) s at = elim (last_found xs x p s at) [
  | inl there ↦ inl there
  | inr last ↦ inr (ap suc last.0, last.1)
]

pub seat_added : (many : ℕ) (seats : List Seat) (f : ℕ → Columns) (s : Seat) → AllShow many seats f
    → ShowsSeat many s (f (length seats)) → AllShow many (seats ++ s ∷ []) f
seat_added many seats f s shows own p t at = elim (last_found seats s p t at) [
  | inl there ↦ shows p t there
  | inr last ↦
      subst (λ (x : Seat). ShowsSeat many x (f p)) (sym last.1)
      (subst (λ (q : ℕ). ShowsSeat many s (f q)) (sym last.0) own)
]

-- what stands at a place of a list that is known by another name
pub desc_here : (row items : List Descriptor) (n : ℕ) (d : Descriptor) → items ≡ row → n < length items
    → d ≡ slice_index_or items n d → desc_in row n ≡ d
desc_here row items n d e under is = desc_at row n d
    (subst (λ l. slice_get l n ≡ Some d) e (at_place items n d under is))

pub row_here : (rows items : List (List Descriptor)) (i : ℕ) (row : List Descriptor) → items ≡ rows → i < length items
    → row ≡ slice_index_or items i row → row_in rows i ≡ row
row_here rows items i row e under is =
    row_at rows i row (subst (λ l. slice_get l i ≡ Some row) e (at_place items i row under is))

pub unknown_row : (k n : ℕ) → desc_in (replicate k unknown_desc) n ≡ unknown_desc
unknown_row zero n = refl
unknown_row (suc k) zero = refl
unknown_row (suc k) (suc n) = unknown_row k n

-- rows of these many numbers, all of them unknown
abbrev pub AreUnknown : List (List Descriptor) → ℕ → Type 0
AreUnknown rows numbers = (i : ℕ) (row : List Descriptor) → slice_get rows i ≡ Some row
    → (length row ≡ numbers) × ((n : ℕ) → desc_in row n ≡ unknown_desc)

pub unknown_added : (rows : List (List Descriptor)) (numbers : ℕ) (row : List Descriptor) → AreUnknown rows numbers
    → length row ≡ numbers → ((n : ℕ) → desc_in row n ≡ unknown_desc) → AreUnknown (rows ++ row ∷ []) numbers
unknown_added rows numbers row all many none i r at = elim (last_found rows row i r at) [
  | inl there ↦ all i r there
  | inr last ↦
      subst (λ (x : List Descriptor). (length x ≡ numbers) × ((n : ℕ) → desc_in x n ≡ unknown_desc)) (sym last.1)
      (many, none)
]

pub unknown_table : (rows : List (List Descriptor)) (numbers : ℕ) → AreUnknown rows numbers → (p n : ℕ)
    → table_in rows p n ≡ unknown_desc
unknown_table rows numbers all zero n = refl
unknown_table rows numbers all (suc i) n = elim (cases_lt i (length rows)) [
  | inl under ↦ (all i (row_in rows i) (rows_listed rows i under)).1 n
  | inr over ↦ ap (λ (row : List Descriptor). desc_in row n) (row_past rows i over)
]

replicated : {A : Type 0} (n : ℕ) (x : A) → Lists (replicate n x) (λ k. x)
replicated zero x k under = absurd (omega arith)
replicated (suc n) x zero under = refl
replicated (suc n) x (suc k) under = replicated n x k (omega arith)

pub all_listed : {A : Type 0} (xs : List A) (n : ℕ) (x : A) → xs ≡ replicate n x → Lists xs (λ k. x)
all_listed xs n x e = subst (λ l. Lists l (λ k. x)) (sym e) (replicated n x)

pub none_noted : (floors : List (Option ℕ)) → floors ≡ [] → ShowsNotes floors 0 (λ i. None)
none_noted floors e = subst (λ l. ShowsNotes l 0 (λ i. None)) (sym e) (record {
  many = refl;
  notes = λ n under. absurd (omega arith);
})
