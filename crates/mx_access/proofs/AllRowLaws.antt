-- What was told of the events of each process, and the rows of all processes.
use Rattle.std.proofs.Common.{◌≡◌, ◌⊎◌, inl, inr, ℕ, zero, suc, ◌+◌, ◌<◌, ◌≤◌, List, [], ◌∷◌, ◌++◌, map, take, drop, length, Option, None, Some, Result, Ok, IfOk, refl, ap, sym, subst, ◌∙◌, arith, append_assoc, append-nil}
use Rattle.std.proofs.lemmas.Bool.{cases_lt}
use Rattle.std.proofs.lemmas.List.{drop_more, get_or_append_left, get_or_default, get_or_push, length-append, length-drop, length-map, map-append}
use Rattle.std.proofs.lemmas.Option.{none-some, same_Some, slice_get-get_or, slice_get_within}
use Rattle.std.specs.List.{slice_get, slice_index_or, All}
use Rattle.std.specs.declared.alloc.AllocError.{AllocError}
use Rattle.mx_access.specs.AllRows.{AreRows, AreToldFrom, IsOf}
use Rattle.mx_access.specs.Answers.{IsAccess, is_changed, judged_on, missed_changed}
use Rattle.mx_access.specs.Passing.{AreTold}
use Rattle.mx_access.specs.Questions.{AreStarts, asked_of, question_of, questions_from}
use Rattle.mx_access.specs.Rows.{deed_of_process, IsRow}
use Rattle.mx_access.specs.declared.access.Access.{Access}
use Rattle.mx_access.specs.declared.answers.Row.{Row}
use Rattle.mx_access.specs.declared.questions.Question.{Question}
use Rattle.mx_access.specs.declared.questions.Told.{Told}
use Rattle.mx_access.proofs.RowLaws.{back_get, drop_get, front_get, get_map}
use Rattle.mx_script.specs.Sessions.{Outline}
use Rattle.mx_sdw.specs.Admissible.{IsAdmissible}
use Rattle.mx_state.specs.declared.journal.Entry as journaled
use Rattle.mx_transcript.specs.Access.{descriptor_of}
use Rattle.mx_transcript.specs.Transcripts.{Step, part, events_of}
use Rattle.mx_transcript.specs.declared.transcripts.Event2.{Event2}

-- the part of a process
pub part_at : (transcripts : List (List Step)) (p : ℕ) → slice_index_or (map events_of transcripts) p [] ≡ events_of (part transcripts p)
part_at [] p = refl
part_at (steps ∷ transcripts) zero = refl
part_at (steps ∷ transcripts) (suc p) = part_at transcripts p

pub part_is : (transcripts : List (List Step)) (p : ℕ) (steps : List Step) → p < length transcripts
    → steps ≡ slice_index_or transcripts p steps → steps ≡ part transcripts p
part_is [] p steps below is = absurd (omega (arith, below))
part_is (first ∷ transcripts) zero steps below is = is
part_is (first ∷ transcripts) (suc p) steps below is = part_is transcripts p steps (omega (arith, below)) is

-- the events of the part of a process, as one of a list of such
pub events_at : (transcripts : List (List Step)) (p : ℕ) → p < length transcripts
    → events_of (part transcripts p) ≡ slice_index_or (map events_of transcripts) p (events_of (part transcripts p))
events_at transcripts p below =
    sym (get_or_default (map events_of transcripts) p (events_of (part transcripts p)) [] (omega (arith, below, length-map transcripts events_of))
    ∙ part_at transcripts p)

-- one start more
pub starts_more : (f : ℕ → ℕ) (old new : List ℕ) (n p : ℕ) → length old ≡ p → new ≡ old ++ n ∷ []
    → ((q : ℕ) → q < p → slice_index_or old q 0 ≡ f q) → n ≡ f p → (q : ℕ) → q < p + 1 → slice_index_or new q 0 ≡ f q
starts_more f old new n p long pushed was one q under = elim (cases_lt q p) [
  | inl lower ↦
      ap (λ (l : List ℕ). slice_index_or l q 0) pushed
      ∙ get_or_append_left old (n ∷ []) 0 q (omega (arith, long, lower))
      ∙ was q lower
  | inr higher ↦
      let here : q ≡ p = omega (arith, under, higher) in
      ap (λ (l : List ℕ). slice_index_or l q 0) pushed
      ∙ get_or_push old n 0 q (long ∙ sym here)
      ∙ one
      ∙ ap f (sym here)
]

get_pushed : {X : Type 0} (xs : List X) (x y : X) (q : ℕ) → slice_get (xs ++ x ∷ []) q ≡ Some y
    → (slice_get xs q ≡ Some y) ⊎ ((length xs ≡ q) × (x ≡ y))
get_pushed [] x y zero e = inr (refl, same_Some x y e)
get_pushed [] x y (suc q) e = absurd (none-some y e)
get_pushed (z ∷ xs) x y zero e = inl e
get_pushed (z ∷ xs) x y (suc q) e = elim (get_pushed xs x y q e) [
  | inl was ↦ inl was
  | inr here ↦ inr (ap suc here.0, here.1)
]

-- there is no part beyond
no_part : (transcripts : List (List Step)) (p : ℕ) → length transcripts ≤ p → part transcripts p ≡ []
no_part [] p beyond = refl
no_part (steps ∷ transcripts) zero beyond = absurd (omega (arith, beyond))
no_part (steps ∷ transcripts) (suc p) beyond = no_part transcripts p (omega (arith, beyond))

-- the row of a process, and none where there is none
row_of : {X : Type 0} (g : Row → List X) (rows : List Row) (p : ℕ) (row : Row) → slice_get rows p ≡ Some row
    → slice_index_or (map g rows) p [] ≡ g row
row_of g [] p row e = absurd (none-some row e)
row_of g (first ∷ rows) zero row e = ap g (same_Some first row e)
row_of g (first ∷ rows) (suc p) row e = row_of g rows p row e

none_beyond : (rows : List Row) (p : ℕ) → slice_get rows p ≡ None → length rows ≤ p
none_beyond [] p e = omega arith
none_beyond (first ∷ rows) zero e = absurd (none-some first (sym e))
none_beyond (first ∷ rows) (suc p) e = let beyond = none_beyond rows p e in omega (arith, beyond)

nothing_at : {X : Type 0} (g : Row → List X) (rows : List Row) (p : ℕ) → slice_get rows p ≡ None
    → slice_index_or (map g rows) p [] ≡ []
nothing_at g [] p e = refl
nothing_at g (first ∷ rows) zero e = absurd (none-some first (sym e))
nothing_at g (first ∷ rows) (suc p) e = nothing_at g rows p e

-- one row more
pub row_made : (made left : List (Result Row AllocError)) (row : Row) (old new : Access) → IsOf made (Ok row ∷ left) old
    → new.deeds.items ≡ old.deeds.items ++ row.deeds ∷ [] → new.descriptors.items ≡ old.descriptors.items ++ row.descriptors ∷ []
    → new.changes.items ≡ old.changes.items ++ row.changes ∷ [] → IsOf made left new
row_made made left row old new is deeds descriptors changes = record {
  rows = is.rows ++ row ∷ [];
  all =
      is.all
      ∙ sym (append_assoc (map Ok is.rows) (Ok row ∷ []) left)
      ∙ ap (λ (l : List (Result Row AllocError)). l ++ left) (sym (map-append Ok is.rows (row ∷ [])));
  deeds =
      deeds
      ∙ ap (λ (l : List (List _)). l ++ row.deeds ∷ []) is.deeds
      ∙ sym (map-append (λ row. row.deeds) is.rows (row ∷ []));
  descriptors =
      descriptors
      ∙ ap (λ (l : List (List _)). l ++ row.descriptors ∷ []) is.descriptors
      ∙ sym (map-append (λ row. row.descriptors) is.rows (row ∷ []));
  changes =
      changes
      ∙ ap (λ (l : List (List _)). l ++ row.changes ∷ []) is.changes
      ∙ sym (map-append (λ row. row.changes) is.rows (row ∷ []));
}

-- the questions about the parts before one, and about those from it on
questions_cut : (entries first : ℕ) (parts : List (List Event2)) (p : ℕ) → p ≤ length parts
    → questions_from entries first parts
    ≡ questions_from entries first (take p parts) ++ questions_from entries (first + p) (drop p parts)
questions_cut entries first parts zero within =
    let same : first ≡ first + 0 = omega arith in
    ap (λ (n : ℕ). questions_from entries n parts) same
questions_cut entries first [] (suc p) within = absurd (omega (arith, within))
questions_cut entries first (events ∷ parts) (suc p) within =
    let same : suc first + p ≡ first + suc p = omega arith in
    ap (λ (rest : List Question). map (question_of entries first) events ++ rest)
    (questions_cut entries (suc first) parts p (omega (arith, within))
    ∙ ap (λ (n : ℕ). questions_from entries (suc first) (take p parts) ++ questions_from entries n (drop p parts)) same)
    ∙ sym (append_assoc (map (question_of entries first) events) (questions_from entries (suc first) (take p parts))
    (questions_from entries (first + suc p) (drop p parts)))

-- the questions of the next part, and of those after it
next_questions : (entries p : ℕ) (parts : List (List Event2)) (events : List Event2) → p < length parts → events ≡ slice_index_or parts p events
    → questions_from (entries) p (drop p parts)
    ≡ map (question_of (entries) p) events ++ questions_from (entries) (p + 1) (drop (p + 1) parts)
next_questions entries p parts events below is =
    let next : suc p ≡ p + 1 = omega arith in
    ap (questions_from (entries) p) (drop_more parts p events below)
    ∙ ap (λ (e : List Event2). map (question_of (entries) p) e ++ questions_from (entries) (suc p) (drop (p + 1) parts)) (sym is)
    ∙ ap (λ (n : ℕ). map (question_of (entries) p) events ++ questions_from (entries) n (drop (p + 1) parts)) next

module _ (session : Outline) (journal : List journaled.Entry) (transcripts : List (List Step)) where
  abbrev front : ℕ → List Question
  front p = questions_from (length journal) 0 (take p (map events_of transcripts))

  abbrev own : ℕ → List Question
  own p = map (question_of (length journal) p) (events_of (part transcripts p))

  abbrev rest : ℕ → List Question
  rest p = questions_from (length journal) (p + 1) (drop (p + 1) (map events_of transcripts))

  -- the questions about the events of a process stand behind those about the processes before it
  whole : (p : ℕ) → p < length transcripts
      → questions_from (length journal) 0 (map events_of transcripts) ≡ front p ++ (own p ++ rest p)
  whole p below =
      let parts : List (List Event2) = map events_of transcripts in
      let events : List Event2 = events_of (part transcripts p) in
      let many : p < length parts = omega (arith, below, length-map transcripts events_of) in
      let here : 0 + p ≡ p = omega arith in
      questions_cut (length journal) 0 parts p (omega (arith, many))
      ∙ ap (λ (n : ℕ). front p ++ questions_from (length journal) n (drop p parts)) here
      ∙ ap (λ (questions : List Question). front p ++ questions)
      (next_questions (length journal) p parts events many (events_at transcripts p below))

  pub told_from : (starts : List ℕ) (told : List Told) → AreStarts (length journal) transcripts starts
      → AreTold session journal (asked_of (length journal) transcripts) told → AreToldFrom session journal transcripts starts told
  told_from starts told are is = record {
    long = are.long;
    within = λ p below. omega (arith, many p below, are.each p below, is.long);
    each = λ p below. record {
      long = omega (
        arith,
        many p below,
        are.each p below,
        is.long,
        length-drop (slice_index_or starts p 0) told,
        length-map (events_of (part transcripts p)) (question_of (length journal) p),
      );
      each = λ at event answer found answered.
          is.each (length (front p) + at) (question_of (length journal) p event) answer
          (ap (λ (questions : List Question). slice_get questions (length (front p) + at)) (whole p below)
          ∙ back_get (front p) (own p ++ rest p) at (question_of (length journal) p event)
          (front_get (own p) (rest p) at (question_of (length journal) p event)
          (get_map (question_of (length journal) p) (events_of (part transcripts p)) at event found)))
          (drop_get told (length (front p)) at answer
          (ap (λ (n : ℕ). slice_get (drop n told) at) (sym (are.each p below)) ∙ answered));
    };
  }
    where
      many : (p : ℕ) → p < length transcripts
          → length (asked_of (length journal) transcripts) ≡ length (front p) + (length (own p) + length (rest p))
      many p below =
          ap length (whole p below)
          ∙ length-append (front p) (own p ++ rest p)
          ∙ ap (λ (n : ℕ). length (front p) + n) (length-append (own p) (rest p))

  -- the rows that calls side by side made
  pub all_made : (made : List (Result Row AllocError)) (count : ℕ) → length made ≡ count
      → ((p : ℕ) (d : Result Row AllocError) → p < count
      → IfOk (slice_index_or made p d) (λ row. IsRow session journal p (events_of (part transcripts p)) row))
      → AreRows session journal transcripts count made
  all_made made count len each = record {
    long = len;
    each = λ p row at.
        let within : p < length made = slice_get_within made p (Ok row) at in
        let read : slice_index_or made p (Ok row) ≡ Ok row =
        same_Some (slice_index_or made p (Ok row)) (Ok row) (sym (slice_get-get_or made p (Ok row) within) ∙ at) in
        subst (λ (r : Result Row AllocError). IfOk r (λ row. IsRow session journal p (events_of (part transcripts p)) row)) read
        (each p (Ok row) (omega (arith, within, len)));
  }

  -- one row more, made or not
  pub made_more : (old new : List (Result Row AllocError)) (made : Result Row AllocError) (p : ℕ) → length old ≡ p
      → new ≡ old ++ made ∷ []
      → ((q : ℕ) (row : Row) → slice_get old q ≡ Some (Ok row) → IsRow session journal q (events_of (part transcripts q)) row)
      → IfOk made (λ row. IsRow session journal p (events_of (part transcripts p)) row)
      → (q : ℕ) (row : Row) → slice_get new q ≡ Some (Ok row) → IsRow session journal q (events_of (part transcripts q)) row
  made_more old new made p long pushed was one q row at =
      elim (get_pushed old made (Ok row) q (ap (λ (l : List (Result Row AllocError)). slice_get l q) (sym pushed) ∙ at)) [
        | inl there ↦ was q row there
        | inr here ↦
            subst (λ (n : ℕ). IsRow session journal n (events_of (part transcripts n)) row) (sym long ∙ here.0)
            (subst (λ (r : Result Row AllocError). IfOk r (λ row. IsRow session journal p (events_of (part transcripts p)) row)) here.1 one)
      ]

  row_list : {X : Type 0} (g : Row → List X) (f : ℕ → Event2 → X) (rows : List Row) → length rows ≡ length transcripts
      → ((p : ℕ) (row : Row) → slice_get rows p ≡ Some row → g row ≡ map (f p) (events_of (part transcripts p)))
      → (p : ℕ) → slice_index_or (map g rows) p [] ≡ map (f p) (events_of (part transcripts p))
  row_list g f rows long each p = by_row (slice_get rows p) refl
    where
      by_row : (o : Option Row) → slice_get rows p ≡ o
          → slice_index_or (map g rows) p [] ≡ map (f p) (events_of (part transcripts p))
      by_row None e =
          nothing_at g rows p e
          ∙ sym (ap (λ (steps : List Step). map (f p) (events_of steps)) (no_part transcripts p (omega (arith, long, none_beyond rows p e))))
      by_row (Some row) e = row_of g rows p row e ∙ each p row e

  pub is_access : (made : List (Result Row AllocError)) (access : Access) → AreRows session journal transcripts (length transcripts) made
      → IsOf made [] access → IsAccess session journal transcripts access
  is_access made access are is = record {
    rows = ap length is.descriptors ∙ length-map is.rows _ ∙ many;
    deed_rows = ap length is.deeds ∙ length-map is.rows _ ∙ many;
    change_rows = ap length is.changes ∙ length-map is.rows _ ∙ many;
    deeds = λ p.
        ap (λ (rows : List (List _)). slice_index_or rows p []) is.deeds
        ∙ row_list (λ row. row.deeds) (deed_of_process session journal) is.rows many (λ q row found. (each q row found).deeds) p;
    descriptors = λ p.
        ap (λ (rows : List (List _)). slice_index_or rows p []) is.descriptors
        ∙ row_list (λ row. row.descriptors) (λ q. judged_on (descriptor_of session journal q)) is.rows many
        (λ q row found. (each q row found).descriptors) p;
    changes = λ p.
        ap (λ (rows : List (List _)). slice_index_or rows p []) is.changes
        ∙ row_list (λ row. row.changes) (λ q. missed_changed (is_changed session journal q)) is.rows many
        (λ q row found. (each q row found).changes) p;
    admissible = λ p.
        subst (λ (rows : List (List _)). All IsAdmissible (slice_index_or rows p [])) (sym is.descriptors) (admissible p (slice_get is.rows p) refl);
  }
    where
      all : made ≡ map Ok is.rows
      all = is.all ∙ append-nil (map Ok is.rows)

      many : length is.rows ≡ length transcripts
      many = sym (length-map is.rows Ok) ∙ ap length (sym all) ∙ are.long

      each : (p : ℕ) (row : Row) → slice_get is.rows p ≡ Some row → IsRow session journal p (events_of (part transcripts p)) row
      each p row found =
          are.each p row (ap (λ (l : List (Result Row AllocError)). slice_get l p) all ∙ get_map Ok is.rows p row found)

      admissible : (p : ℕ) (o : Option Row) → slice_get is.rows p ≡ o
          → All IsAdmissible (slice_index_or (map (λ row. row.descriptors) is.rows) p [])
      admissible p None e =
          subst (All IsAdmissible) (sym (nothing_at (λ row. row.descriptors) is.rows p e)) (λ k d under. absurd (omega (arith, under)))
      admissible p (Some row) e =
          subst (All IsAdmissible) (sym (row_of (λ row. row.descriptors) is.rows p row e)) (each p row e).admissible
