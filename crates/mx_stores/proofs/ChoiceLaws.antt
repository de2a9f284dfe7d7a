-- A read is right exactly where the choice is the store that it stands for.
use Rattle.std.proofs.Common.{◌≡◌, ◌≢◌, inl, inr, ℕ, ◌==◌, ◌&&◌, not, nat_le, Bool, true, false, if◌then◌else◌, Option, Some, None, is_none, length, refl, ap, sym, ◌∙◌, subst, arith}
use Rattle.std.specs.List.{slice_get}
use Rattle.std.proofs.lemmas.Bool.{cases_Bool, cases_eq, eqb-true, leb-true, le-leb}
use Rattle.std.proofs.lemmas.Option.{slice_get_within}
use Rattle.mx_reads.specs.Deeds.{CellUse, Deed, Deeds, Enters, Stores, Loads, Refers, Misses}
use Rattle.mx_reads.specs.ReadRule.{Reading, IsSuch, IsUnwritten, IsOwnLast, IsFirstOther, IsRightRead}
use Rattle.mx_reads.specs.Sightings.{Source, HasStored, IsBeyond}
use Rattle.mx_stores.specs.ChoiceLaws.{ChoiceLaw}
use Rattle.mx_stores.specs.Choices.{is_deed, stores_word, is_such, own_choice, other_choice, is_unwritten, choice, StandsFor, last_below}
use Rattle.mx_stores.specs.Known.{IsKnown, HasKnownStore}
use Rattle.mx_stores.specs.Least.{IsBy, is_by}
use Rattle.mx_stores.specs.Sighted.{Sighted, floor, latest}
use Rattle.mx_stores.specs.Since.{first, is_same, stores_from}
use Rattle.mx_stores.specs.StoreLaws.{AreBelow}
use Rattle.mx_stores.specs.Until.{until}
use Rattle.mx_stores.proofs.Searches.{first_is, first_told, last_is, last_told, kept_is, kept_told}
use Rattle.mx_stores.proofs.SightedLaws.{picks, passes, equal_test, unequal_test, not_test, latest_none, latest_some, beyond}
use Rattle.mx_stores.proofs.StoresFrom.{both, of_both, same_test, same_told, told_store, test_store}
use Rattle.mx_stores.proofs.UntilLaws.{superseded_law, first_law}

by_told : (a : Option ℕ) (q : ℕ) → is_by a q ≡ true → IsBy a q
by_told None q e = absurd cc
by_told (Some n) q e = leb-true n q e

by_test : (a : Option ℕ) (q : ℕ) → IsBy a q → is_by a q ≡ true
by_test None q h = absurd h
by_test (Some n) q h = le-leb n q h

not_by : (a : Option ℕ) (q : ℕ) → (IsBy a q → ⊥) → not (is_by a q) ≡ true
not_by a q n = elim (cases_Bool (is_by a q)) [
  | inl e ↦ absurd (n (by_told a q e))
  | inr e ↦ not_test (is_by a q) e
]

clash : (b : Bool) → b ≡ true → not b ≡ true → ⊥
clash true e f = absurd cc
clash false e f = absurd cc

pub word_told : (cell : CellUse) (value stamp : ℕ) (o : Option Deed) → is_deed (stores_word cell value stamp) o ≡ true
    → o ≡ Some (Stores cell value stamp)
word_told cell value stamp None e = absurd cc
word_told cell value stamp (Some (Enters number)) e = absurd cc
word_told cell value stamp (Some (Stores own word point)) e =
    let tests = both (is_same own cell) (word == value && point == stamp) e in
    let words = both (word == value) (point == stamp) tests.1 in
    let c : own ≡ cell = same_told own cell tests.0 in
    let v : word ≡ value = eqb-true word value words.0 in
    let s : point ≡ stamp = eqb-true point stamp words.1 in
    λ i. Some (Stores (c i) (v i) (s i))
word_told cell value stamp (Some (Loads own word writer stored point)) e = absurd cc
word_told cell value stamp (Some (Refers point)) e = absurd cc
word_told cell value stamp (Some (Misses segno by)) e = absurd cc

word_test : (cell : CellUse) (value stamp : ℕ) (o : Option Deed) → o ≡ Some (Stores cell value stamp)
    → is_deed (stores_word cell value stamp) o ≡ true
word_test cell value stamp o e = ap (λ (d : Option Deed). is_deed (stores_word cell value stamp) d) e
    ∙ of_both (is_same cell cell) (value == value && stamp == stamp) (same_test cell)
    (of_both (value == value) (stamp == stamp) (equal_test value value refl) (equal_test stamp stamp refl))

-- a store in the cell, whatever it stored
pub record IsStored (cell : CellUse) (o : Option Deed) : Type 0 where
  pub value : ℕ
  pub point : ℕ
  pub stored : o ≡ Some (Stores cell value point)

pub stored_told : (cell : CellUse) (o : Option Deed) → is_deed (stores_from cell 0) o ≡ true → IsStored cell o
stored_told cell None e = absurd cc
stored_told cell (Some deed) e = let s = told_store cell 0 deed e in
    record { value = s.value; point = s.point; stored = ap (λ (d : Deed). Some d) s.store }

pub stored_test : (cell : CellUse) (value point : ℕ) (o : Option Deed) → o ≡ Some (Stores cell value point)
    → is_deed (stores_from cell 0) o ≡ true
stored_test cell value point o e = ap (λ (d : Option Deed). is_deed (stores_from cell 0) d) e
    ∙ test_store cell 0 value point (omega arith)

stands : (o : Option ℕ) (w s : ℕ) → StandsFor o w s → w ≢ 0 → o ≡ Some s
stands None w s h n = absurd h
stands (Some k) w s h n = ap (λ (m : ℕ). Some m) (h n)

module _ (count : ℕ) (done : Deeds) (below : AreBelow count done) (source : Source) (read : Reading) where
  abbrev here : ℕ
  here = source read.process read.place

  such_told : (place : ℕ) → is_such done count read place ≡ true → IsSuch done (IsKnown done) read place
  such_told place e =
      let by = is_by (until done count read.writer place read.cell) read.point in
      let stored = is_deed (stores_word read.cell read.value read.stamp) (slice_get (done read.writer) place) in
      let tests = both stored (not by) e in record {
        stored = word_told read.cell read.value read.stamp (slice_get (done read.writer) place) tests.0;
        current = λ s. clash by (by_test (until done count read.writer place read.cell) read.point
            ((superseded_law count done below read.writer place read.cell read.point).0 s)) tests.1;
      }

  such_test : (place : ℕ) → IsSuch done (IsKnown done) read place → is_such done count read place ≡ true
  such_test place s =
      of_both (is_deed (stores_word read.cell read.value read.stamp) (slice_get (done read.writer) place))
      (not (is_by (until done count read.writer place read.cell) read.point))
      (word_test read.cell read.value read.stamp (slice_get (done read.writer) place) s.stored)
      (not_by (until done count read.writer place read.cell) read.point
      (λ h. s.current ((superseded_law count done below read.writer place read.cell read.point).1 h)))

  unwritten_test : IsUnwritten done (IsKnown done) source read → is_unwritten done count source read ≡ true
  unwritten_test u =
      of_both (read.value == 0 && read.stamp == 0)
      (is_none (latest done source read.process read.cell read.place) && not (is_by (first done count read.cell) read.point))
      (of_both (read.value == 0) (read.stamp == 0) (equal_test read.value 0 u.zero_value)
      (equal_test read.stamp 0 u.zero_stamp))
      (of_both (is_none (latest done source read.process read.cell read.place))
      (not (is_by (first done count read.cell) read.point))
      (none (latest done source read.process read.cell read.place) refl)
      (not_by (first done count read.cell) read.point (λ h.
      let s : HasKnownStore done read.cell read.point = (first_law count done below read.cell read.point).1 h in
      u.unknown s.storer s.place s.value s.point s.stored s.known)))
    where
      none : (o : Option Sighted) → latest done source read.process read.cell read.place ≡ o → is_none o ≡ true
      none None e = refl
      none (Some sighted) e =
          let l = latest_some done source read.process read.cell read.place sighted e in
          absurd (u.unsighted l.earlier sighted.storer sighted.store l.before l.sighted)

  unwritten_told : is_unwritten done count source read ≡ true → IsUnwritten done (IsKnown done) source read
  unwritten_told e =
      let by = is_by (first done count read.cell) read.point in
      let parts = both (read.value == 0 && read.stamp == 0)
      (is_none (latest done source read.process read.cell read.place) && not by) e in
      let zeros = both (read.value == 0) (read.stamp == 0) parts.0 in
      let others = both (is_none (latest done source read.process read.cell read.place)) (not by) parts.1 in record {
        zero_value = eqb-true read.value 0 zeros.0;
        zero_stamp = eqb-true read.stamp 0 zeros.1;
        unsighted = latest_none done source read.process read.cell read.place
            (none (latest done source read.process read.cell read.place) others.0);
        unknown = λ storer place value point stored known.
            clash by (by_test (first done count read.cell) read.point ((first_law count done below read.cell read.point).0
            (record { storer = storer; place = place; value = value; point = point; stored = stored; known = known })))
            others.1;
      }
    where
      none : (o : Option Sighted) → is_none o ≡ true → o ≡ None
      none None e = refl
      none (Some sighted) e = absurd cc

  abbrev is_own_store : ℕ → Bool
  is_own_store place = is_deed (stores_from read.cell 0) (slice_get (done read.writer) place)

  own_test : (place : ℕ) → read.writer ≡ read.process → IsSuch done (IsKnown done) read place
      → IsOwnLast done read place → own_choice done count read ≡ Some place
  own_test place same such own = kept_is (is_such done count read) (last_below is_own_store read.place) place
      (last_is is_own_store read.place place own.before
      (stored_test read.cell read.value read.stamp (slice_get (done read.writer) place) such.stored)
      (λ later a b t. let s = stored_told read.cell (slice_get (done read.writer) later) t in
      own.last later s.value s.point a b
      (subst (λ (u : ℕ). HasStored done u later read.cell s.value s.point) same s.stored)))
      (such_test place such)

  own_told : (place : ℕ) → read.writer ≡ read.process → own_choice done count read ≡ Some place
      → IsSuch done (IsKnown done) read place × IsOwnLast done read place
  own_told place same e =
      let parts = kept_told (is_such done count read) (last_below is_own_store read.place) place e in
      let last = last_told is_own_store read.place place parts.0 in (
        such_told place parts.1,
        record {
          before = last.below;
          last = λ later value point a b stored. last.none later a b
              (stored_test read.cell value point (slice_get (done read.writer) later)
              (subst (λ (u : ℕ). HasStored done u later read.cell value point) (sym same) stored));
        },
      )

  abbrev will_do : ℕ → Bool
  will_do place =
      nat_le (floor done source read.process read.cell read.writer read.place) place && is_such done count read place

  do_test : (place : ℕ) → IsBeyond done source read.process read.place read.cell read.writer place
      → IsSuch done (IsKnown done) read place → will_do place ≡ true
  do_test place b s =
      let low = floor done source read.process read.cell read.writer read.place in
      of_both (nat_le low place) (is_such done count read place)
      (le-leb low place ((beyond done source read.process read.cell read.place read.writer place).0 b))
      (such_test place s)

  do_told : (place : ℕ) → will_do place ≡ true
      → IsBeyond done source read.process read.place read.cell read.writer place × IsSuch done (IsKnown done) read place
  do_told place e =
      let low = floor done source read.process read.cell read.writer read.place in
      let parts = both (nat_le low place) (is_such done count read place) e in (
        (beyond done source read.process read.cell read.place read.writer place).1 (leb-true low place parts.0),
        such_told place parts.1,
      )

  other_test : (place : ℕ) → IsSuch done (IsKnown done) read place
      → IsFirstOther done (IsKnown done) source read place → other_choice done count source read ≡ Some place
  other_test place such other = first_is will_do (length (done read.writer)) place
      (slice_get_within (done read.writer) place (Stores read.cell read.value read.stamp) such.stored)
      (do_test place other.beyond such)
      (λ earlier l t. let parts = do_told earlier t in other.first earlier l parts.1 parts.0)

  other_told : (place : ℕ) → other_choice done count source read ≡ Some place
      → IsSuch done (IsKnown done) read place × IsFirstOther done (IsKnown done) source read place
  other_told place e =
      let found = first_told will_do (length (done read.writer)) place e in
      let parts = do_told place found.has in
      (parts.1, record { beyond = parts.0; first = λ earlier l s b. found.none earlier l (do_test earlier b s) })

  abbrev nobodys : Option ℕ
  nobodys = if is_unwritten done count source read then Some 0 else None

  abbrev somebodys : Option ℕ
  somebodys = if read.writer == read.process then own_choice done count read else other_choice done count source read

  of_nobody : read.writer ≡ 0 → choice done count source read ≡ nobodys
  of_nobody e = picks (read.writer == 0) nobodys somebodys (equal_test read.writer 0 e)

  of_own : read.writer ≢ 0 → read.writer ≡ read.process
      → choice done count source read ≡ own_choice done count read
  of_own n e = passes (read.writer == 0) nobodys somebodys (unequal_test read.writer 0 n)
      ∙ picks (read.writer == read.process) (own_choice done count read) (other_choice done count source read)
      (equal_test read.writer read.process e)

  of_other : read.writer ≢ 0 → read.writer ≢ read.process
      → choice done count source read ≡ other_choice done count source read
  of_other n m = passes (read.writer == 0) nobodys somebodys (unequal_test read.writer 0 n)
      ∙ passes (read.writer == read.process) (own_choice done count read) (other_choice done count source read)
      (unequal_test read.writer read.process m)

  stands_nobody : (b : Bool) → StandsFor (if b then Some 0 else None) read.writer here → b ≡ true
  stands_nobody true h = refl
  stands_nobody false h = absurd h

  forth : IsRightRead done (IsKnown done) source read
      → StandsFor (choice done count source read) read.writer here
  forth right = elim (cases_eq read.writer 0) [
    | inl e ↦ subst (λ (o : Option ℕ). StandsFor o read.writer here)
        (sym (of_nobody e ∙ picks (is_unwritten done count source read) (Some 0) None (unwritten_test (right.nobody e))))
        (λ n. absurd (n e))
    | inr n ↦ elim (cases_eq read.writer read.process) [
      | inl e ↦ subst (λ (o : Option ℕ). StandsFor o read.writer here)
          (sym (of_own n e ∙ own_test here e (right.such n) (right.own n e))) (λ m. refl)
      | inr m ↦ subst (λ (o : Option ℕ). StandsFor o read.writer here)
          (sym (of_other n m ∙ other_test here (right.such n) (right.another n m))) (λ k. refl)
    ]
  ]

  back : StandsFor (choice done count source read) read.writer here
      → IsRightRead done (IsKnown done) source read
  back h = record {
    nobody = λ e. unwritten_told (stands_nobody (is_unwritten done count source read)
        (subst (λ (o : Option ℕ). StandsFor o read.writer here) (of_nobody e) h));
    such = λ n. elim (cases_eq read.writer read.process) [
      | inl e ↦ (own_told here e (sym (of_own n e) ∙ stands (choice done count source read) read.writer here h n)).0
      | inr m ↦ (other_told here (sym (of_other n m) ∙ stands (choice done count source read) read.writer here h n)).0
    ];
    own = λ n e. (own_told here e (sym (of_own n e) ∙ stands (choice done count source read) read.writer here h n)).1;
    another = λ n m.
        (other_told here (sym (of_other n m) ∙ stands (choice done count source read) read.writer here h n)).1;
  }

pub choice_law : ChoiceLaw
choice_law count done below source read = (forth count done below source read, back count done below source read)
