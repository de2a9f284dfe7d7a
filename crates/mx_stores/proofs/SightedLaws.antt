-- What a process has sighted: the latest sighting, and the place after all stores of one process.
use Rattle.std.proofs.Common.{◌≡◌, ◌≢◌, ◌↔◌, inl, inr, ℕ, zero, suc, ◌+◌, ◌<◌, ◌≤◌, ◌==◌, ◌&&◌, not, max, Bool, true, false, if◌then◌else◌, Option, Some, None, option_and_then, refl, ap, sym, ◌∙◌, subst, arith}
use Rattle.std.specs.List.{slice_get}
use Rattle.std.proofs.lemmas.Bool.{cases_Bool, cases_eq, cases_lt, eqb-true}
use Rattle.mx_reads.specs.Deeds.{CellUse, Deed, Deeds, Enters, Stores, Loads, Refers, Misses}
use Rattle.mx_reads.specs.Sightings.{Source, Sights, HasSighted, IsLatest, IsBeyond}
use Rattle.mx_stores.specs.Sighted.{Sighted, sighted_in, sighted_at, or_earlier, latest, after_store, after_all, floor_after, floor}
use Rattle.mx_stores.specs.SightedLaws.{BeyondLaw}
use Rattle.mx_stores.specs.Since.{is_same}
use Rattle.mx_stores.proofs.StoresFrom.{both, of_both, same_test, same_told}

pub picks : {A : Type 0} (b : Bool) (x y : A) → b ≡ true → (if b then x else y) ≡ x
picks true x y e = refl
picks false x y e = absurd cc

pub passes : {A : Type 0} (b : Bool) (x y : A) → b ≡ false → (if b then x else y) ≡ y
passes true x y e = absurd cc
passes false x y e = refl

pub equal_test : (a b : ℕ) → a ≡ b → (a == b) ≡ true
equal_test a b e = grind arith

pub unequal_test : (a b : ℕ) → a ≢ b → (a == b) ≡ false
unequal_test a b n = elim (cases_Bool (a == b)) [ inl e ↦ absurd (n (eqb-true a b e)) | inr e ↦ e ]

pub unequal_told : (a b : ℕ) → (a == b) ≡ false → a ≢ b
unequal_told a b h e = grind arith

pub not_test : (b : Bool) → b ≡ false → not b ≡ true
not_test true e = absurd cc
not_test false e = refl

pub not_told : (b : Bool) → not b ≡ true → b ≡ false
not_told true e = absurd cc
not_told false e = refl

same_cells : (a b : CellUse) → a ≡ b → is_same a b ≡ true
same_cells a b e = subst (λ (c : CellUse). is_same a c ≡ true) e (same_test a)

pub none_some : {A : Type 0} {B : Type 0} (x : A) → None ≡ Some x → B
none_some x h = absurd cc

pub some_same : {A : Type 0} (x y : A) → Some x ≡ Some y → x ≡ y
some_same x y h = cc

pub some_sighted : (b : Bool) (x s : Sighted) → (if b then Some x else None) ≡ Some s → (b ≡ true) × (x ≡ s)
some_sighted true x s h = (refl, some_same x s h)
some_sighted false x s h = none_some s h

module _ (done : Deeds) (source : Source) (p : ℕ) (cell : CellUse) where
  sight_forth : (here : ℕ) (deed : Deed) (w j : ℕ) → Sights source p here deed cell w j
      → sighted_in cell p here (source p here) deed ≡ Some (record { storer = w; store = j })
  sight_forth here (Enters number) w j s = absurd s
  sight_forth here (Stores own value point) w j s =
      picks (is_same own cell) (Some (record { storer = p; store = here })) None (same_cells own cell s.0)
      ∙ (λ i. Some (record { storer = sym s.1 i; store = sym s.2 i }))
  sight_forth here (Loads own value writer stamp point) w j s =
      picks (is_same own cell && not (writer == 0)) (Some (record { storer = writer; store = source p here })) None
      (of_both (is_same own cell) (not (writer == 0)) (same_cells own cell s.0)
      (not_test (writer == 0) (unequal_test writer 0 s.1)))
      ∙ (λ i. Some (record { storer = sym s.2 i; store = sym s.3 i }))
  sight_forth here (Refers point) w j s = absurd s
  sight_forth here (Misses segno by) w j s = absurd s

  sight_back : (here : ℕ) (deed : Deed) (sighted : Sighted)
      → sighted_in cell p here (source p here) deed ≡ Some sighted
      → Sights source p here deed cell sighted.storer sighted.store
  sight_back here (Enters number) sighted h = none_some sighted h
  sight_back here (Stores own value point) sighted h =
      let e = some_sighted (is_same own cell) (record { storer = p; store = here }) sighted h in
      (same_told own cell e.0, ap (λ (s : Sighted). s.storer) (sym e.1), ap (λ (s : Sighted). s.store) (sym e.1))
  sight_back here (Loads own value writer stamp point) sighted h =
      let e = some_sighted (is_same own cell && not (writer == 0)) (record { storer = writer; store = source p here })
      sighted h in
      let tests = both (is_same own cell) (not (writer == 0)) e.0 in (
        same_told own cell tests.0,
        unequal_told writer 0 (not_told (writer == 0) tests.1),
        ap (λ (s : Sighted). s.storer) (sym e.1),
        ap (λ (s : Sighted). s.store) (sym e.1),
      )
  sight_back here (Refers point) sighted h = none_some sighted h
  sight_back here (Misses segno by) sighted h = none_some sighted h

  pub sighted_forth : (here w j : ℕ) → HasSighted done source p here cell w j
      → sighted_at done source p cell here ≡ Some (record { storer = w; store = j })
  sighted_forth here w j s = at (slice_get (done p) here) s.at
    where
      at : (o : Option Deed) → o ≡ Some s.deed
          → option_and_then (λ deed. sighted_in cell p here (source p here) deed) o
          ≡ Some (record { storer = w; store = j })
      at None e = none_some s.deed e
      at (Some deed) e =
          ap (λ (d : Deed). sighted_in cell p here (source p here) d) (some_same deed s.deed e)
          ∙ sight_forth here s.deed w j s.sights

  pub sighted_back : (here : ℕ) (sighted : Sighted) → sighted_at done source p cell here ≡ Some sighted
      → HasSighted done source p here cell sighted.storer sighted.store
  sighted_back here sighted h = at (slice_get (done p) here) refl h
    where
      at : (o : Option Deed) → slice_get (done p) here ≡ o
          → option_and_then (λ deed. sighted_in cell p here (source p here) deed) o ≡ Some sighted
          → HasSighted done source p here cell sighted.storer sighted.store
      at None e h = none_some sighted h
      at (Some deed) e h = record { deed = deed; at = e; sights = sight_back here deed sighted h }

  pub same_sighted : (here w j : ℕ) (sighted : Sighted) → HasSighted done source p here cell w j
      → sighted_at done source p cell here ≡ Some sighted → (w ≡ sighted.storer) × (j ≡ sighted.store)
  same_sighted here w j sighted s h =
      let e = some_same (record { storer = w; store = j }) sighted (sym (sighted_forth here w j s) ∙ h) in
      (ap (λ (s : Sighted). s.storer) e, ap (λ (s : Sighted). s.store) e)

  abbrev HasNone : ℕ → Type 0
  HasNone here = (earlier w j : ℕ) → earlier < here → HasSighted done source p earlier cell w j → ⊥

  pub latest_none : (here : ℕ) → latest done source p cell here ≡ None → HasNone here
  latest_none zero e earlier w j l s = absurd (omega arith)
  latest_none (suc here) e earlier w j l s = at (latest_none here) (sighted_at done source p cell here) refl e
    where
      at : (latest done source p cell here ≡ None → HasNone here) → (o : Option Sighted)
          → sighted_at done source p cell here ≡ o
          → or_earlier o (latest done source p cell here) ≡ None → ⊥
      at before (Some sighted) f g = none_some sighted (sym g)
      at before None f g = elim (cases_eq earlier here) [
        | inl same ↦ none_some (record { storer = w; store = j }) (sym f
            ∙ sighted_forth here w j (subst (λ (h : ℕ). HasSighted done source p h cell w j) same s))
        | inr other ↦ before g earlier w j (omega arith) s
      ]

  pub latest_some : (here : ℕ) (sighted : Sighted) → latest done source p cell here ≡ Some sighted
      → IsLatest done source p here cell sighted.storer sighted.store
  latest_some zero sighted e = none_some sighted e
  latest_some (suc here) sighted e = at (latest_some here sighted) (sighted_at done source p cell here) refl e
    where
      at : (latest done source p cell here ≡ Some sighted → IsLatest done source p here cell sighted.storer sighted.store)
          → (o : Option Sighted) → sighted_at done source p cell here ≡ o
          → or_earlier o (latest done source p cell here) ≡ Some sighted
          → IsLatest done source p (suc here) cell sighted.storer sighted.store
      at earlier (Some own) f g = record {
        earlier = here;
        before = omega arith;
        sighted = sighted_back here sighted (f ∙ g);
        last = λ later w j a b s. absurd (omega arith);
      }
      at earlier None f g =
          let l : IsLatest done source p here cell sighted.storer sighted.store = earlier g in
          let before = l.before in record {
            earlier = l.earlier;
            before = omega arith;
            sighted = l.sighted;
            last = λ later w j a b s. elim (cases_eq later here) [
              | inl same ↦ none_some (record { storer = w; store = j }) (sym f
                  ∙ sighted_forth here w j (subst (λ (h : ℕ). HasSighted done source p h cell w j) same s))
              | inr other ↦ l.last later w j a (omega arith) s
            ];
          }

  -- there is one latest sighting
  same_latest : (here w j : ℕ) (sighted : Sighted) → IsLatest done source p here cell w j
      → IsLatest done source p here cell sighted.storer sighted.store → (w ≡ sighted.storer) × (j ≡ sighted.store)
  same_latest here w j sighted a b =
      let before_a = a.before in
      let before_b = b.before in
      elim (cases_eq a.earlier b.earlier) [
        | inl e ↦
            let s = sighted_forth a.earlier w j a.sighted in
            let t = sighted_forth b.earlier sighted.storer sighted.store b.sighted in
            same_sighted b.earlier w j sighted (subst (λ (h : ℕ). HasSighted done source p h cell w j) e a.sighted) t
        | inr n ↦ elim (cases_lt a.earlier b.earlier) [
          | inl l ↦ absurd (a.last b.earlier sighted.storer sighted.store l before_b b.sighted)
          | inr l ↦ absurd (b.last a.earlier w j (omega arith) before_a a.sighted)
        ]
      ]

  abbrev AreBefore : ℕ → ℕ → ℕ → Type 0
  AreBefore storer here place = (earlier store : ℕ) → earlier < here
      → HasSighted done source p earlier cell storer store → store < place

  most : (a b c : ℕ) → (max a b ≤ c) ↔ ((a ≤ c) × (b ≤ c))
  most a b c = (λ h. (grind arith, grind arith), λ h. let x = h.0 in let y = h.1 in grind arith)

  after_forth : (storer here place : ℕ) → after_all done source p cell storer here ≤ place
      → AreBefore storer here place
  after_forth storer zero place h earlier store l s = absurd (omega arith)
  after_forth storer (suc here) place h earlier store l s =
      let parts = (most (after_store storer (sighted_at done source p cell here)) (after_all done source p cell storer here)
      place).0 h in
      elim (cases_eq earlier here) [
        | inr other ↦ after_forth storer here place parts.1 earlier store (omega arith) s
        | inl same ↦
            let at = sighted_forth here storer store
            (subst (λ (h : ℕ). HasSighted done source p h cell storer store) same s) in
            let e : after_store storer (sighted_at done source p cell here) ≡ store + 1 =
            ap (after_store storer) at ∙ picks (storer == storer) (store + 1) 0 (equal_test storer storer refl) in
            let low = parts.0 in omega arith
      ]

  after_back : (storer here place : ℕ) → AreBefore storer here place
      → after_all done source p cell storer here ≤ place
  after_back storer zero place h = omega arith
  after_back storer (suc here) place h =
      (most (after_store storer (sighted_at done source p cell here)) (after_all done source p cell storer here) place).1
      (at (sighted_at done source p cell here) refl, after_back storer here place (λ e s l. h e s (omega arith)))
    where
      at : (o : Option Sighted) → sighted_at done source p cell here ≡ o → after_store storer o ≤ place
      at None e = omega arith
      at (Some sighted) e = elim (cases_Bool (sighted.storer == storer)) [
        | inl same ↦
            let w : sighted.storer ≡ storer = eqb-true sighted.storer storer same in
            let l : sighted.store < place = h here sighted.store (omega arith)
            (subst (λ (u : ℕ). HasSighted done source p here cell u sighted.store) w (sighted_back here sighted e)) in
            let value = picks (sighted.storer == storer) (sighted.store + 1) 0 same in omega arith
        | inr other ↦ let value = passes (sighted.storer == storer) (sighted.store + 1) 0 other in omega arith
      ]

  abbrev IsOnward : ℕ → ℕ → ℕ → Option Sighted → Type 0
  IsOnward storer here place o = IsBeyond done source p here cell storer place
      ↔ (floor_after storer o (after_all done source p cell storer here) ≤ place)

  -- where the latest sighting is of another, or there is none
  others_beyond : (storer here place : ℕ)
      → ((store : ℕ) → IsLatest done source p here cell storer store → ⊥)
      → IsBeyond done source p here cell storer place ↔ (after_all done source p cell storer here ≤ place)
  others_beyond storer here place none = (
    λ b. after_back storer here place (b.onward none),
    λ l. record {
      again = λ store latest. absurd (none store latest);
      onward = λ n. after_forth storer here place l;
    },
  )

  same_beyond : (storer here place : ℕ) (sighted : Sighted) → sighted.storer ≡ storer
      → IsLatest done source p here cell sighted.storer sighted.store
      → IsBeyond done source p here cell storer place ↔ (sighted.store ≤ place)
  same_beyond storer here place sighted same latest_here =
      let own : IsLatest done source p here cell storer sighted.store =
      subst (λ (u : ℕ). IsLatest done source p here cell u sighted.store) same latest_here in (
        λ b. b.again sighted.store own,
        λ l. record {
          again = λ store latest.
              let e = (same_latest here storer store sighted latest latest_here).1 in omega arith;
          onward = λ none. absurd (none sighted.store own);
        },
      )

  pub beyond : (here storer place : ℕ) → IsBeyond done source p here cell storer place
      ↔ (floor done source p cell storer here ≤ place)
  beyond here storer place = at (latest done source p cell here) refl
    where
      after : ℕ
      after = after_all done source p cell storer here

      at : (o : Option Sighted) → latest done source p cell here ≡ o → IsOnward storer here place o
      at None e = others_beyond storer here place
          (λ store l. latest_none here e l.earlier storer store l.before l.sighted)
      at (Some sighted) e = elim (cases_Bool (sighted.storer == storer)) [
        | inl same ↦
            let w : sighted.storer ≡ storer = eqb-true sighted.storer storer same in
            subst (λ (n : ℕ). IsBeyond done source p here cell storer place ↔ (n ≤ place))
            (sym (picks (sighted.storer == storer) sighted.store after same))
            (same_beyond storer here place sighted w (latest_some here sighted e))
        | inr other ↦
            subst (λ (n : ℕ). IsBeyond done source p here cell storer place ↔ (n ≤ place))
            (sym (passes (sighted.storer == storer) sighted.store after other))
            (others_beyond storer here place (λ store l.
            unequal_told sighted.storer storer other
            (sym (same_latest here storer store sighted l (latest_some here sighted e)).0)))
      ]

pub beyond_law : BeyondLaw
beyond_law done source p here cell storer place = beyond done source p cell here storer place
