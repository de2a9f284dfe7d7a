-- From when on a store is superseded: by the process's next store in the cell, or by the others' that knew it.
use Rattle.std.proofs.Common.{◌≡◌, ◌≢◌, inl, inr, ℕ, zero, suc, ◌+◌, ◌-◌, ◌<◌, ◌≤◌, ◌==◌, true, false, if◌then◌else◌, List, [], ◌∷◌, drop, Option, Some, None, refl, ap, sym, ◌∙◌, subst, arith}
use Rattle.std.specs.List.{slice_get}
use Rattle.std.proofs.lemmas.Bool.{cases_Bool, cases_eq, cases_lt, eqb-true}
use Rattle.std.proofs.lemmas.Option.{slice_get_within}
use Rattle.mx_reads.specs.Deeds.{CellUse, Deed, Deeds, Stores}
use Rattle.mx_reads.specs.ReadRule.{IsSuperseded}
use Rattle.mx_stores.specs.Known.{IsKnown, HasKnownStore}
use Rattle.mx_stores.specs.Least.{least_of, IsBy, IsNoLater}
use Rattle.mx_stores.specs.Since.{first, least_entry, least_since, since, stores_from}
use Rattle.mx_stores.specs.StoreLaws.{AreBelow, FirstLaw, SuchLaw, SupersededLaw, UntilLaw}
use Rattle.mx_stores.specs.Until.{overwritten, replaced, until}
use Rattle.mx_stores.proofs.Drops.{get_dropped, drop_dropped}
use Rattle.mx_stores.proofs.LeastLaws.{least_left, least_right, least_parts, IsOneBy, least_of_from, least_of_one, chosen, choose_then, choose_else}
use Rattle.mx_stores.proofs.SinceLaws.{dropped_later, known_law, since_law}
use Rattle.mx_stores.proofs.StoresFrom.{told_store, test_store}

-- a store in the cell among these deeds, with a point from this one on, known at q
pub record HasStoreBy (cell : CellUse) (from : ℕ) (deeds : List Deed) (q : ℕ) : Type 0 where
  pub at : ℕ
  pub value : ℕ
  pub point : ℕ
  pub stored : slice_get deeds at ≡ Some (Stores cell value point)
  pub after : from ≤ point
  pub by : IsBy (since deeds at) q

nothing_stored : (cell : CellUse) (value point : ℕ) → None ≡ Some (Stores cell value point) → ⊥
nothing_stored cell value point h = cc

same_deed : (a b : Deed) → Some a ≡ Some b → a ≡ b
same_deed a b h = cc

one_later : (cell : CellUse) (from : ℕ) (deed : Deed) (deeds : List Deed) (q : ℕ) → HasStoreBy cell from deeds q
    → HasStoreBy cell from (deed ∷ deeds) q
one_later cell from deed deeds q s = record {
  at = suc s.at;
  value = s.value;
  point = s.point;
  stored = s.stored;
  after = s.after;
  by = s.by;
}

at_once : (cell : CellUse) (from : ℕ) (deed : Deed) (deeds : List Deed) (q : ℕ) → stores_from cell from deed ≡ true
    → IsBy (least_entry deeds) q → HasStoreBy cell from (deed ∷ deeds) q
at_once cell from deed deeds q e h = let s = told_store cell from deed e in record {
  at = 0;
  value = s.value;
  point = s.point;
  stored = ap (λ (d : Deed). Some d) s.store;
  after = s.after;
  by = h;
}

stores_told : (cell : CellUse) (from value point : ℕ) (deed : Deed) → Some deed ≡ Some (Stores cell value point)
    → from ≤ point → stores_from cell from deed ≡ true
stores_told cell from value point deed e l =
    ap (λ (d : Deed). stores_from cell from d) (same_deed deed (Stores cell value point) e)
    ∙ test_store cell from value point l

pub least_since_by : (cell : CellUse) (from : ℕ) (deeds : List Deed) (at value point q : ℕ)
    → slice_get deeds at ≡ Some (Stores cell value point) → from ≤ point → IsBy (since deeds at) q
    → IsBy (least_since cell from deeds) q
least_since_by cell from [] at value point q e l h = absurd (nothing_stored cell value point e)
least_since_by cell from (deed ∷ deeds) zero value point q e l h =
    let own : Option ℕ = if stores_from cell from deed then least_entry deeds else None in
    least_left own (least_since cell from deeds) q
    (choose_then (stores_from cell from deed) (least_entry deeds) None q (stores_told cell from value point deed e l) h)
least_since_by cell from (deed ∷ deeds) (suc at) value point q e l h =
    let own : Option ℕ = if stores_from cell from deed then least_entry deeds else None in
    least_right own (least_since cell from deeds) q (least_since_by cell from deeds at value point q e l h)

pub by_least_since : (cell : CellUse) (from : ℕ) (deeds : List Deed) (q : ℕ) → IsBy (least_since cell from deeds) q
    → HasStoreBy cell from deeds q
by_least_since cell from [] q h = absurd h
by_least_since cell from (deed ∷ deeds) q h =
    let own : Option ℕ = if stores_from cell from deed then least_entry deeds else None in
    elim (least_parts own (least_since cell from deeds) q h) [
      | inr later ↦ one_later cell from deed deeds q (by_least_since cell from deeds q later)
      | inl here ↦ elim (chosen (stores_from cell from deed) (least_entry deeds) None q here) [
        | inl c ↦ at_once cell from deed deeds q c.0 c.1
        | inr c ↦ absurd c.1
      ]
    ]

replaced_by : (cell : CellUse) (deeds : List Deed) (at value point q : ℕ)
    → slice_get deeds at ≡ Some (Stores cell value point) → IsBy (since deeds at) q → IsBy (replaced cell deeds) q
replaced_by cell [] at value point q e h = absurd (nothing_stored cell value point e)
replaced_by cell (deed ∷ deeds) zero value point q e h =
    choose_then (stores_from cell 0 deed) (least_entry deeds) (replaced cell deeds) q
    (stores_told cell 0 value point deed e (omega arith)) h
replaced_by cell (deed ∷ deeds) (suc at) value point q e h = elim (cases_Bool (stores_from cell 0 deed)) [
  | inl here ↦ choose_then (stores_from cell 0 deed) (least_entry deeds) (replaced cell deeds) q here
      (dropped_later (suc at) deeds q h)
  | inr other ↦ choose_else (stores_from cell 0 deed) (least_entry deeds) (replaced cell deeds) q other
      (replaced_by cell deeds at value point q e h)
]

by_replaced : (cell : CellUse) (deeds : List Deed) (q : ℕ) → IsBy (replaced cell deeds) q → HasStoreBy cell 0 deeds q
by_replaced cell [] q h = absurd h
by_replaced cell (deed ∷ deeds) q h =
    elim (chosen (stores_from cell 0 deed) (least_entry deeds) (replaced cell deeds) q h) [
      | inl c ↦ at_once cell 0 deed deeds q c.0 c.1
      | inr c ↦ one_later cell 0 deed deeds q (by_replaced cell deeds q c.1)
    ]

-- places after some that are dropped
back_in : (n : ℕ) (cell : CellUse) (from : ℕ) (deeds : List Deed) (q : ℕ) → HasStoreBy cell from (drop n deeds) q
    → HasStoreBy cell from deeds q
back_in n cell from deeds q s =
    let e : n + suc s.at ≡ suc (n + s.at) = omega arith in record {
      at = n + s.at;
      value = s.value;
      point = s.point;
      stored = sym (get_dropped n deeds s.at) ∙ s.stored;
      after = s.after;
      by = subst (λ (ds : List Deed). IsBy (least_entry ds) q)
          (drop_dropped n (suc s.at) deeds ∙ ap (λ (m : ℕ). drop m deeds) e) s.by;
    }

-- the later stores of a process: of a place by the first of them
pub replaced_from : (cell : CellUse) (deeds : List Deed) (place at value point q : ℕ) → place < at
    → slice_get deeds at ≡ Some (Stores cell value point) → IsBy (since deeds at) q
    → IsBy (replaced cell (drop (suc place) deeds)) q
replaced_from cell deeds place at value point q l e h =
    let k : ℕ = at - suc place in
    let there : suc place + (at - suc place) ≡ at = omega arith in
    let next : suc at ≡ suc place + suc (at - suc place) = omega arith in
    replaced_by cell (drop (suc place) deeds) (at - suc place) value point q
    (get_dropped (suc place) deeds (at - suc place) ∙ ap (λ (n : ℕ). slice_get deeds n) there ∙ e)
    (subst (λ (ds : List Deed). IsBy (least_entry ds) q)
    (ap (λ (n : ℕ). drop n deeds) next ∙ sym (drop_dropped (suc place) (suc (at - suc place)) deeds)) h)

pub record IsReplaced (cell : CellUse) (deeds : List Deed) (place q : ℕ) : Type 0 where
  pub at : ℕ
  pub value : ℕ
  pub point : ℕ
  pub later : place < at
  pub stored : slice_get deeds at ≡ Some (Stores cell value point)
  pub by : IsBy (since deeds at) q

pub is_replaced : (cell : CellUse) (deeds : List Deed) (place q : ℕ) → IsBy (replaced cell (drop (suc place) deeds)) q
    → IsReplaced cell deeds place q
is_replaced cell deeds place q h =
    let s : HasStoreBy cell 0 (drop (suc place) deeds) q = by_replaced cell (drop (suc place) deeds) q h in
    let e : suc place + suc s.at ≡ suc (suc place + s.at) = omega arith in record {
      at = suc place + s.at;
      value = s.value;
      point = s.point;
      later = omega arith;
      stored = sym (get_dropped (suc place) deeds s.at) ∙ s.stored;
      by = subst (λ (ds : List Deed). IsBy (least_entry ds) q)
          (drop_dropped (suc place) (suc s.at) deeds ∙ ap (λ (m : ℕ). drop m deeds) e) s.by;
    }

-- a store of another process that knew one with this `since`
record IsOverwritten (cell : CellUse) (from : Option ℕ) (deeds : List Deed) (q : ℕ) : Type 0 where
  pub at : ℕ
  pub value : ℕ
  pub point : ℕ
  pub stored : slice_get deeds at ≡ Some (Stores cell value point)
  pub knew : IsBy from point
  pub by : IsBy (since deeds at) q

overwritten_by : (cell : CellUse) (from : Option ℕ) (deeds : List Deed) (q : ℕ) → IsOverwritten cell from deeds q
    → IsBy (overwritten cell from deeds) q
overwritten_by cell None deeds q o = absurd o.knew
overwritten_by cell (Some from) deeds q o = least_since_by cell from deeds o.at o.value o.point q o.stored o.knew o.by

by_overwritten : (cell : CellUse) (from : Option ℕ) (deeds : List Deed) (q : ℕ) → IsBy (overwritten cell from deeds) q
    → IsOverwritten cell from deeds q
by_overwritten cell None deeds q h = absurd h
by_overwritten cell (Some from) deeds q h =
    let s : HasStoreBy cell from deeds q = by_least_since cell from deeds q h in
    record { at = s.at; value = s.value; point = s.point; stored = s.stored; knew = s.after; by = s.by }

overwritten_rises : (cell : CellUse) (a b : Option ℕ) (deeds : List Deed) → IsNoLater a b
    → IsNoLater (overwritten cell a deeds) (overwritten cell b deeds)
overwritten_rises cell a b deeds l q h =
    let o : IsOverwritten cell b deeds q = by_overwritten cell b deeds q h in
    overwritten_by cell a deeds q (record {
      at = o.at;
      value = o.value;
      point = o.point;
      stored = o.stored;
      knew = l o.point o.knew;
      by = o.by;
    })

another : (a b : ℕ) → a ≢ b → (a == b) ≡ false
another a b n = elim (cases_Bool (a == b)) [ inl e ↦ absurd (n (eqb-true a b e)) | inr e ↦ e ]

apart : (a b : ℕ) → (a == b) ≡ false → a ≢ b
apart a b h e = grind arith

module _ (done : Deeds) (storer place : ℕ) (cell : CellUse) where
  abbrev of_other : ℕ → Option ℕ
  of_other other = if other == storer then None else overwritten cell (since (done storer) place) (done other)

  of_other_by : (other q : ℕ) → other ≢ storer
      → IsOverwritten cell (since (done storer) place) (done other) q → IsBy (of_other other) q
  of_other_by other q n o = choose_else (other == storer) None (overwritten cell (since (done storer) place) (done other)) q
      (another other storer n) (overwritten_by cell (since (done storer) place) (done other) q o)

  by_of_other : (other q : ℕ) → IsBy (of_other other) q
      → (other ≢ storer) × IsOverwritten cell (since (done storer) place) (done other) q
  by_of_other other q h =
      elim (chosen (other == storer) None (overwritten cell (since (done storer) place) (done other)) q h) [
        | inl c ↦ absurd c.1
        | inr c ↦ (apart other storer c.0, by_overwritten cell (since (done storer) place) (done other) q c.1)
      ]

counted : (count : ℕ) (done : Deeds) → AreBelow count done → (u at : ℕ) (d : Deed) → slice_get (done u) at ≡ Some d
    → u < count
counted count done below u at d e = elim (cases_lt u count) [
  | inl l ↦ l
  | inr out ↦
      let nothing = below u out in
      let within = slice_get_within (done u) at d e in absurd (omega arith)
]

pub superseded_law : SupersededLaw
superseded_law count done below u place cell q = (forth, back)
  where
    by_next : Option ℕ
    by_next = replaced cell (drop (suc place) (done u))

    by_others : Option ℕ
    by_others = least_of (of_other done u place cell) count

    forth : IsSuperseded done (IsKnown done) u place cell q → IsBy (until done count u place cell) q
    forth s =
        let by : IsBy (since (done s.other) s.at) q = (known_law done s.other s.at q).0 s.known in
        elim (cases_eq s.other u) [
          | inl e ↦ least_left by_next by_others q
              (replaced_from cell (done u) place s.at s.value s.point q (s.after e)
              (subst (λ (o : ℕ). slice_get (done o) s.at ≡ Some (Stores cell s.value s.point)) e s.stored)
              (subst (λ (o : ℕ). IsBy (since (done o) s.at) q) e by))
          | inr n ↦ least_right by_next by_others q
              (least_of_from (of_other done u place cell) count s.other q
              (counted count done below s.other s.at (Stores cell s.value s.point) s.stored)
              (of_other_by done u place cell s.other q n (record {
                at = s.at;
                value = s.value;
                point = s.point;
                stored = s.stored;
                knew = (known_law done u place s.point).0 (s.knew n);
                by = by;
              })))
        ]

    back : IsBy (until done count u place cell) q → IsSuperseded done (IsKnown done) u place cell q
    back h = elim (least_parts by_next by_others q h) [
      | inl next ↦
          let r : IsReplaced cell (done u) place q = is_replaced cell (done u) place q next in record {
            other = u;
            at = r.at;
            value = r.value;
            point = r.point;
            stored = r.stored;
            known = (known_law done u r.at q).1 r.by;
            after = λ e. r.later;
            knew = λ n. absurd (n refl);
          }
      | inr others ↦
          let one : IsOneBy (of_other done u place cell) count q = least_of_one (of_other done u place cell) count q others in
          let o = by_of_other done u place cell one.process q one.by in record {
            other = one.process;
            at = o.1.at;
            value = o.1.value;
            point = o.1.point;
            stored = o.1.stored;
            known = (known_law done one.process o.1.at q).1 o.1.by;
            after = λ e. absurd (o.0 e);
            knew = λ n. (known_law done u place o.1.point).1 o.1.knew;
          }
    ]

pub until_law : UntilLaw
until_law count done u i j cell l q h = elim (least_parts (next j) (others j) q h) [
  | inl later ↦
      let r : IsReplaced cell (done u) j q = is_replaced cell (done u) j q later in
      let after = r.later in
      least_left (next i) (others i) q
      (replaced_from cell (done u) i r.at r.value r.point q (omega arith) r.stored r.by)
  | inr of_others ↦
      let one : IsOneBy (of_other done u j cell) count q = least_of_one (of_other done u j cell) count q of_others in
      let o = by_of_other done u j cell one.process q one.by in
      least_right (next i) (others i) q
      (least_of_from (of_other done u i cell) count one.process q one.below
      (of_other_by done u i cell one.process q o.0 (record {
        at = o.1.at;
        value = o.1.value;
        point = o.1.point;
        stored = o.1.stored;
        knew = since_law (done u) i j l o.1.point o.1.knew;
        by = o.1.by;
      })))
]
  where
    next : ℕ → Option ℕ
    next place = replaced cell (drop (suc place) (done u))

    others : ℕ → Option ℕ
    others place = least_of (of_other done u place cell) count

pub first_law : FirstLaw
first_law count done below cell q = (forth, back)
  where
    of_storer : ℕ → Option ℕ
    of_storer storer = least_since cell 0 (done storer)

    forth : HasKnownStore done cell q → IsBy (first done count cell) q
    forth s = least_of_from of_storer count s.storer q
        (counted count done below s.storer s.place (Stores cell s.value s.point) s.stored)
        (least_since_by cell 0 (done s.storer) s.place s.value s.point q s.stored (omega arith)
        ((known_law done s.storer s.place q).0 s.known))

    back : IsBy (first done count cell) q → HasKnownStore done cell q
    back h =
        let one : IsOneBy of_storer count q = least_of_one of_storer count q h in
        let s : HasStoreBy cell 0 (done one.process) q = by_least_since cell 0 (done one.process) q one.by in record {
          storer = one.process;
          place = s.at;
          value = s.value;
          point = s.point;
          stored = s.stored;
          known = (known_law done one.process s.at q).1 s.by;
        }

pub such_law : SuchLaw
such_law count done below read i j l stored such = record {
  stored = stored;
  current = λ s. such.current ((superseded_law count done below read.writer i read.cell read.point).1
      (until_law count done read.writer i j read.cell l read.point
      ((superseded_law count done below read.writer j read.cell read.point).0 s)));
}
