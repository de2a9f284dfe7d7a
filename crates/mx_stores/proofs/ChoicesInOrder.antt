-- The reads of a process in order: right exactly where there is a choice for each.
use Rattle.std.proofs.Common.{◌≡◌, ◌≢◌, inl, inr, ℕ, zero, suc, ◌+◌, ◌<◌, ◌==◌, ◌&&◌, not, nat_le, max, Bool, true, false, if◌then◌else◌, List, [], ◌∷◌, ◌++◌, Option, Some, None, IsSome, is_none, length, option_and_then, refl, ap, sym, ◌∙◌, subst, arith, length-append}
use Rattle.std.specs.List.{slice_get, slice_index_or}
use Rattle.std.proofs.lemmas.Bool.{cases_eq, cases_lt}
use Rattle.std.proofs.lemmas.Option.{slice_get_within}
use Rattle.mx_reads.specs.Deeds.{CellUse, Deed, Deeds, Enters, Stores, Loads, Refers, Misses}
use Rattle.mx_reads.specs.ReadRule.{Reading, HasRead, IsRightRead, AreRightReads}
use Rattle.mx_reads.specs.Sightings.{Source}
use Rattle.mx_stores.specs.Choices.{is_such, own_choice, choice, StandsFor, first_below}
use Rattle.mx_stores.specs.Deciding.{AreRightTo, source_of, choice_for, with_choice, next_choice, choices, RightToLaw, RightReadsLaw}
use Rattle.mx_stores.specs.Known.{IsKnown}
use Rattle.mx_stores.specs.Least.{is_by}
use Rattle.mx_stores.specs.Sighted.{Sighted, sighted_in, sighted_at, or_earlier, latest, after_store, after_all, floor_after, floor}
use Rattle.mx_stores.specs.Since.{first, is_same}
use Rattle.mx_stores.specs.StoreLaws.{AreBelow}
use Rattle.mx_stores.proofs.ChoiceLaws.{choice_law}
use Rattle.mx_stores.proofs.SightedLaws.{none_some, some_same, passes, equal_test}

pub index_kept : (xs : List ℕ) (x i : ℕ) → i < length xs → slice_index_or (xs ++ x ∷ []) i 0 ≡ slice_index_or xs i 0
index_kept [] x i l = absurd (omega arith)
index_kept (y ∷ xs) x zero l = refl
index_kept (y ∷ xs) x (suc i) l = index_kept xs x i (omega arith)

pub index_last : (xs : List ℕ) (x : ℕ) → slice_index_or (xs ++ x ∷ []) (length xs) 0 ≡ x
index_last [] x = refl
index_last (y ∷ xs) x = index_last xs x

pub length_with : (xs : List ℕ) (x : ℕ) → length (xs ++ x ∷ []) ≡ length xs + 1
length_with xs x = length-append xs (x ∷ [])

module _ (done : Deeds) (p : ℕ) where
  -- before a place two sources lead to the same sightings
  abbrev pub Agree : Source → Source → ℕ → Type 0
  Agree s t here = (i : ℕ) → i < here → (cell : CellUse) → sighted_at done s p cell i ≡ sighted_at done t p cell i

  pub latest_agrees : (s t : Source) (cell : CellUse) (here : ℕ) → Agree s t here
      → latest done s p cell here ≡ latest done t p cell here
  latest_agrees s t cell zero a = refl
  latest_agrees s t cell (suc here) a =
      ap (λ (o : Option Sighted). or_earlier o (latest done s p cell here)) (a here (omega arith) cell)
      ∙ ap (λ (o : Option Sighted). or_earlier (sighted_at done t p cell here) o)
      (latest_agrees s t cell here (λ i l. a i (omega arith)))

  pub after_agrees : (s t : Source) (cell : CellUse) (w here : ℕ) → Agree s t here
      → after_all done s p cell w here ≡ after_all done t p cell w here
  after_agrees s t cell w zero a = refl
  after_agrees s t cell w (suc here) a =
      ap (λ (o : Option Sighted). max (after_store w o) (after_all done s p cell w here)) (a here (omega arith) cell)
      ∙ ap (λ (n : ℕ). max (after_store w (sighted_at done t p cell here)) n)
      (after_agrees s t cell w here (λ i l. a i (omega arith)))

  floor_agrees : (s t : Source) (cell : CellUse) (w here : ℕ) → Agree s t here
      → floor done s p cell w here ≡ floor done t p cell w here
  floor_agrees s t cell w here a =
      ap (λ (o : Option Sighted). floor_after w o (after_all done s p cell w here)) (latest_agrees s t cell here a)
      ∙ ap (λ (n : ℕ). floor_after w (latest done t p cell here) n) (after_agrees s t cell w here a)

  pub equal_agree : (s t : Source) (here : ℕ) → ((i : ℕ) → i < here → s p i ≡ t p i) → Agree s t here
  equal_agree s t here e i l cell =
      ap (λ (n : ℕ). option_and_then (λ deed. sighted_in cell p i n deed) (slice_get (done p) i)) (e i l)

  choice_agrees : (count : ℕ) (s t : Source) (read : Reading) → read.process ≡ p → Agree s t read.place
      → choice done count s read ≡ choice done count t read
  choice_agrees count s t read same a =
      ap (λ (o : Option Sighted). by (low s) o) (subst
      (λ (u : ℕ). latest done s u read.cell read.place ≡ latest done t u read.cell read.place) (sym same)
      (latest_agrees s t read.cell read.place a))
      ∙ ap (λ (n : ℕ). by n (latest done t read.process read.cell read.place)) (subst
      (λ (u : ℕ). floor done s u read.cell read.writer read.place ≡ floor done t u read.cell read.writer read.place)
      (sym same) (floor_agrees s t read.cell read.writer read.place a))
    where
      low : Source → ℕ
      low source = floor done source read.process read.cell read.writer read.place

      by : ℕ → Option Sighted → Option ℕ
      by n o =
          if read.writer == 0 then (if (read.value == 0 && read.stamp == 0)
          && (is_none o && not (is_by (first done count read.cell) read.point)) then Some 0 else None)
          else (if read.writer == read.process then own_choice done count read
          else first_below (λ place. nat_le n place && is_such done count read place) (length (done read.writer)))

module _ (count : ℕ) (done : Deeds) (below : AreBelow count done) (p : ℕ) where
  -- which reads are right is the same for sources that agree up to the read
  right_agrees : (s t : Source) (read : Reading) → read.process ≡ p → Agree done p s t read.place
      → s read.process read.place ≡ t read.process read.place
      → IsRightRead done (IsKnown done) s read → IsRightRead done (IsKnown done) t read
  right_agrees s t read same a e right = (choice_law count done below t read).1
      (subst (λ (n : ℕ). StandsFor (choice done count t read) read.writer n) e
      (subst (λ (o : Option ℕ). StandsFor o read.writer (s read.process read.place))
      (choice_agrees done p count s t read same a)
      ((choice_law count done below s read).0 right)))

  pub record AreChosen (here : ℕ) (chosen : List ℕ) : Type 0 where
    pub count_of : length chosen ≡ here
    pub right : (read : Reading) → HasRead done read → read.process ≡ p → read.place < here
        → IsRightRead done (IsKnown done) (source_of chosen) read

  kept_choice : (here place : ℕ) (chosen : List ℕ) → AreChosen here chosen → (read : Reading) → HasRead done read
      → read.process ≡ p → read.place < here
      → IsRightRead done (IsKnown done) (source_of (chosen ++ place ∷ [])) read
  kept_choice here place chosen c read h same l =
      let long = c.count_of in
      let e : (i : ℕ) → i < here → slice_index_or chosen i 0 ≡ slice_index_or (chosen ++ place ∷ []) i 0 =
      λ i b. sym (index_kept chosen place i (omega arith)) in
      right_agrees (source_of chosen) (source_of (chosen ++ place ∷ [])) read same
      (equal_agree done p (source_of chosen) (source_of (chosen ++ place ∷ [])) read.place (λ i b. e i (omega arith)))
      (e read.place l) (c.right read h same l)

  -- a read at this place is right where it is chosen
  new_choice : (here place : ℕ) (chosen : List ℕ) → length chosen ≡ here → (read : Reading) → read.process ≡ p
      → read.place ≡ here → choice done count (source_of chosen) read ≡ Some place
      → IsRightRead done (IsKnown done) (source_of (chosen ++ place ∷ [])) read
  new_choice here place chosen long read same at e =
      let longer : Source = source_of (chosen ++ place ∷ []) in
      let agreed : choice done count longer read ≡ Some place =
      sym (choice_agrees done p count (source_of chosen) longer read same
      (equal_agree done p (source_of chosen) longer read.place
      (λ i b. sym (index_kept chosen place i (omega arith))))) ∙ e in
      let there : slice_index_or (chosen ++ place ∷ []) read.place 0 ≡ place =
      ap (λ (n : ℕ). slice_index_or (chosen ++ place ∷ []) n 0) (at ∙ sym long) ∙ index_last chosen place in
      (choice_law count done below longer read).1
      (subst (λ (o : Option ℕ). StandsFor o read.writer (slice_index_or (chosen ++ place ∷ []) read.place 0)) (sym agreed)
      (λ n. sym there))

  reading_of : (read : Reading) → HasRead done read → read.process ≡ p → (here : ℕ) → read.place ≡ here
      → (chosen : List ℕ) → choice_for done count p here chosen (slice_get (done p) here)
      ≡ choice done count (source_of chosen) read
  reading_of read h same here at chosen =
      ap (λ (o : Option Deed). choice_for done count p here chosen o)
      (ap (λ (i : ℕ). slice_get (done p) i) (sym at)
      ∙ ap (λ (u : ℕ). slice_get (done u) read.place) (sym same) ∙ h)
      ∙ (λ i. choice done count (source_of chosen) (record {
        process = sym same i;
        place = sym at i;
        cell = read.cell;
        value = read.value;
        writer = read.writer;
        stamp = read.stamp;
        point = read.point;
      }))

  with_next : (here place : ℕ) (chosen : List ℕ) → AreChosen here chosen
      → choice_for done count p here chosen (slice_get (done p) here) ≡ Some place
      → AreChosen (suc here) (chosen ++ place ∷ [])
  with_next here place chosen c e = let long = c.count_of in let longer = length_with chosen place in record {
    count_of = omega arith;
    right = λ read h same l. elim (cases_eq read.place here) [
      | inl at ↦ new_choice here place chosen long read same at (sym (reading_of read h same here at chosen) ∙ e)
      | inr other ↦ kept_choice here place chosen c read h same (omega arith)
    ];
  }

  pub chosen_right : (here : ℕ) (chosen : List ℕ) → choices done count p here ≡ Some chosen → AreChosen here chosen
  chosen_right zero chosen e = subst (λ (xs : List ℕ). AreChosen 0 xs) (some_same [] chosen e)
      (record { count_of = refl; right = λ read h same l. absurd (omega arith) })
  chosen_right (suc here) chosen e = at (choices done count p here) refl (chosen_right here) e
    where
      with : (before : List ℕ) → AreChosen here before → (o : Option ℕ)
          → choice_for done count p here before (slice_get (done p) here) ≡ o
          → with_choice before o ≡ Some chosen → AreChosen (suc here) chosen
      with before c None f g = none_some chosen g
      with before c (Some place) f g = subst (λ (xs : List ℕ). AreChosen (suc here) xs)
          (some_same (before ++ place ∷ []) chosen g) (with_next here place before c f)

      at : (o : Option (List ℕ)) → choices done count p here ≡ o
          → ((before : List ℕ) → choices done count p here ≡ Some before → AreChosen here before)
          → next_choice done count p here o ≡ Some chosen → AreChosen (suc here) chosen
      at None f rest g = none_some chosen g
      at (Some before) f rest g = with before (rest before f)
          (choice_for done count p here before (slice_get (done p) here)) refl g

  -- the choices that a right source leads to
  pub record Follows (source : Source) (here : ℕ) : Type 0 where
    pub chosen : List ℕ
    pub is : choices done count p here ≡ Some chosen
    pub long : length chosen ≡ here
    pub agree : Agree done p (source_of chosen) source here

  -- the choice for a deed, and that it is the source's where the deed sights anything
  record IsNext (source : Source) (here : ℕ) (chosen : List ℕ) (o : Option Deed) : Type 0 where
    pub place : ℕ
    pub is : choice_for done count p here chosen o ≡ Some place
    pub same : (cell : CellUse) → option_and_then (λ deed. sighted_in cell p here place deed) o
        ≡ option_and_then (λ deed. sighted_in cell p here (source p here) deed) o

  and_false : (a : Bool) → (a && false) ≡ false
  and_false true = refl
  and_false false = refl

  next_read : (source : Source) (here : ℕ) (chosen : List ℕ) → Agree done p (source_of chosen) source here
      → (cell : CellUse) (value writer stamp point : ℕ)
      → IsRightRead done (IsKnown done) source (record { process = p; place = here; cell = cell; value = value; writer = writer; stamp = stamp; point = point })
      → IsNext source here chosen (Some (Loads cell value writer stamp point))
  next_read source here chosen a cell value writer stamp point right = at (choice done count source read) refl
      ((choice_law count done below source read).0 right)
    where
      read : Reading
      read = record { process = p; place = here; cell = cell; value = value; writer = writer; stamp = stamp; point = point }

      agreed : choice done count (source_of chosen) read ≡ choice done count source read
      agreed = choice_agrees done p count (source_of chosen) source read refl a

      sights : (c : CellUse) (place : ℕ) → (writer ≢ 0 → place ≡ source p here)
          → sighted_in c p here place (Loads cell value writer stamp point)
          ≡ sighted_in c p here (source p here) (Loads cell value writer stamp point)
      sights c place e = elim (cases_eq writer 0) [
        | inr n ↦ ap (λ (k : ℕ). sighted_in c p here k (Loads cell value writer stamp point)) (e n)
        | inl z ↦
            let no_one : (is_same cell c && not (writer == 0)) ≡ false =
            ap (λ (b : Bool). is_same cell c && not b) (equal_test writer 0 z) ∙ and_false (is_same cell c) in
            passes (is_same cell c && not (writer == 0)) (Some (record { storer = writer; store = place })) None no_one
            ∙ sym (passes (is_same cell c && not (writer == 0)) (Some (record { storer = writer; store = source p here }))
            None no_one)
      ]

      at : (o : Option ℕ) → choice done count source read ≡ o → StandsFor o writer (source p here)
          → IsNext source here chosen (Some (Loads cell value writer stamp point))
      at None e s = absurd s
      at (Some place) e s = record { place = place; is = agreed ∙ e; same = λ c. sights c place s }

  next_of : (source : Source) (here : ℕ) (chosen : List ℕ) → Agree done p (source_of chosen) source here
      → ((read : Reading) → HasRead done read → read.process ≡ p → read.place < suc here
      → IsRightRead done (IsKnown done) source read)
      → (o : Option Deed) → slice_get (done p) here ≡ o → IsNext source here chosen o
  next_of source here chosen a right None e = record { place = 0; is = refl; same = λ cell. refl }
  next_of source here chosen a right (Some (Enters number)) e = record { place = 0; is = refl; same = λ cell. refl }
  next_of source here chosen a right (Some (Stores own value point)) e =
      record { place = 0; is = refl; same = λ cell. refl }
  next_of source here chosen a right (Some (Loads own value writer stamp point)) e =
      next_read source here chosen a own value writer stamp point (right (record { process = p; place = here; cell = own; value = value; writer = writer; stamp = stamp; point = point }) e refl (omega arith))
  next_of source here chosen a right (Some (Refers point)) e = record { place = 0; is = refl; same = λ cell. refl }
  next_of source here chosen a right (Some (Misses segno by)) e =
      record { place = 0; is = refl; same = λ cell. refl }

  one_more : (source : Source) (here : ℕ) (f : Follows source here)
      → IsNext source here f.chosen (slice_get (done p) here) → Follows source (suc here)
  one_more source here f n = let long = f.long in let longer = length_with f.chosen n.place in record {
    chosen = f.chosen ++ n.place ∷ [];
    is = ap (λ (o : Option (List ℕ)). next_choice done count p here o) f.is ∙ ap (with_choice f.chosen) n.is;
    long = omega arith;
    agree = λ i l cell. elim (cases_eq i here) [
      | inr other ↦
          ap (λ (k : ℕ). option_and_then (λ deed. sighted_in cell p i k deed) (slice_get (done p) i))
          (index_kept f.chosen n.place i (omega arith)) ∙ f.agree i (omega arith) cell
      | inl e ↦ subst (λ (k : ℕ). sighted_at done (source_of (f.chosen ++ n.place ∷ [])) p cell k
          ≡ sighted_at done source p cell k) (sym e)
          (ap (λ (k : ℕ). option_and_then (λ deed. sighted_in cell p here k deed) (slice_get (done p) here))
          (ap (λ (m : ℕ). slice_index_or (f.chosen ++ n.place ∷ []) m 0) (sym long) ∙ index_last f.chosen n.place)
          ∙ n.same cell)
    ];
  }

  pub follows : (source : Source) (here : ℕ) → ((read : Reading) → HasRead done read → read.process ≡ p → read.place < here
      → IsRightRead done (IsKnown done) source read) → Follows source here
  follows source zero right = record { chosen = []; is = refl; long = refl; agree = λ i l. absurd (omega arith) }
  follows source (suc here) right =
      let f : Follows source here = follows source here (λ read h same l. right read h same (omega arith)) in
      one_more source here f (next_of source here f.chosen f.agree right (slice_get (done p) here) refl)

is_some : {A : Type 0} (o : Option A) (x : A) → o ≡ Some x → IsSome o
is_some {A = A} o x e = subst (λ (p : Option A). IsSome p) (sym e) refl

pub right_to_law : RightToLaw
right_to_law count done below p here = (
  λ r. let f = follows count done below p r.source here r.right in is_some (choices done count p here) f.chosen f.is,
  λ s. at (choices done count p here) refl s,
)
  where
    at : (o : Option (List ℕ)) → choices done count p here ≡ o → IsSome o → AreRightTo done p here
    at None e s = absurd cc
    at (Some chosen) e s =
        record { source = source_of chosen; right = (chosen_right count done below p here chosen e).right }

pub right_reads_law : RightReadsLaw
right_reads_law count done below = (forth, back)
  where
    forth : AreRightReads done (IsKnown done) → (p : ℕ) → p < count → IsSome (choices done count p (length (done p)))
    forth r p l = (right_to_law count done below p (length (done p))).0
        (record { source = r.source; right = λ read h same b. r.right read h })

    chosen_by : Option (List ℕ) → ℕ → ℕ
    chosen_by None here = 0
    chosen_by (Some chosen) here = slice_index_or chosen here 0

    source : Source
    source p here = chosen_by (choices done count p (length (done p))) here

    back : ((p : ℕ) → p < count → IsSome (choices done count p (length (done p)))) → AreRightReads done (IsKnown done)
    back each = record { source = source; right = right }
      where
        right : (read : Reading) → HasRead done read → IsRightRead done (IsKnown done) source read
        right read h = at (choices done count read.process (length (done read.process))) refl
            (elim (cases_lt read.process count) [
              | inl l ↦ each read.process l
              | inr out ↦
                  let nothing = below read.process out in
                  let within = slice_get_within (done read.process) read.place
                  (Loads read.cell read.value read.writer read.stamp read.point) h in
                  absurd (omega arith)
            ])
          where
            at : (o : Option (List ℕ)) → choices done count read.process (length (done read.process)) ≡ o → IsSome o
                → IsRightRead done (IsKnown done) source read
            at None e s = absurd cc
            at (Some chosen) e s =
                let c = chosen_right count done below read.process (length (done read.process)) chosen e in
                let same : (i : ℕ) → slice_index_or chosen i 0 ≡ source read.process i =
                λ i. ap (λ (o : Option (List ℕ)). chosen_by o i) (sym e) in
                right_agrees count done below read.process (source_of chosen) source read refl
                (equal_agree done read.process (source_of chosen) source read.place (λ i l. same i)) (same read.place)
                (c.right read h refl (slice_get_within (done read.process) read.place
                (Loads read.cell read.value read.writer read.stamp read.point) h))
