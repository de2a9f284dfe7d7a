-- What was told of an event says what it was.
use Rattle.std.proofs.Common.{◌≡◌, ℕ, zero, suc, ◌+◌, ◌-◌, ◌*◌, ◌/◌, ◌<◌, nat_lt, min, not, Bool, true, false, ◌&&◌, List, [], ◌∷◌, ◌++◌, map, take, drop, length, Some, Result, Ok, Err, Option, refl, ap, sym, subst, ◌∙◌, arith, append_assoc, append-nil}
use Rattle.std.proofs.lemmas.Bool.{ltb-false, ltb-true}
use Rattle.std.proofs.lemmas.List.{length-append, length-drop, map-append, map_more}
use Rattle.std.proofs.lemmas.List.Elements.{All-cons, All-nil}
use Rattle.std.proofs.lemmas.Option.{none-some, same_Some}
use Rattle.std.specs.List.{slice_get, slice_index_or, All}
use Rattle.mx_access.specs.Admissible.{HasAdmissible}
use Rattle.mx_access.specs.Answers.{is_changed, judged_on, missed_changed}
use Rattle.mx_access.specs.Passing.{IsTold, IsToldNow}
use Rattle.mx_access.specs.Questions.{question_of}
use Rattle.mx_access.specs.Rows.{AreToldOf, event_change, told_cell, told_change, told_desc, use_since}
use Rattle.mx_access.specs.declared.questions.Told.{Told}
use Rattle.mx_access.proofs.ChangeLaws.{descriptor_within, unchanged_within, use_within}
use Rattle.mx_core.specs.Pages.{cell_at, page_of, use_at}
use Rattle.mx_core.specs.declared.elements.Element.{Element}
use Rattle.mx_core.specs.declared.elements.Event.TheVariants.{Seen, Missing}
use Rattle.mx_core.specs.declared.elements.Kind.{Kind}
use Rattle.mx_core.specs.declared.elements.Kind.TheVariants as kind
use Rattle.mx_pages.specs.Runs.{page_count}
use Rattle.mx_reads.specs.Deeds.{CellUse}
use Rattle.mx_script.specs.Sessions.{Outline}
use Rattle.mx_sdw.proofs.JudgingLaws.{granted_has_cell, granted_is_allowed}
use Rattle.mx_sdw.specs.Admissible.{IsAdmissible}
use Rattle.mx_sdw.specs.Descriptors.{Descriptor, unknown_desc}
use Rattle.mx_sdw.specs.Judging.{judgement}
use Rattle.mx_sdw.specs.Same.{same_desc}
use Rattle.mx_sdw.specs.declared.denials.Denial.{Denial}
use Rattle.mx_sdw.specs.declared.descriptors.Cell.{Cell}
use Rattle.mx_sdw.specs.declared.operations.Op.{Op}
use Rattle.mx_sdw.specs.declared.operations.Op.TheVariants as op
use Rattle.mx_state.specs.declared.journal.Entry as journaled
use Rattle.mx_transcript.specs.Access.{descriptor_at, descriptor_of}
use Rattle.mx_transcript.specs.References.{cell_by, cell_of, deed_by, granted_cell, reference}
use Rattle.mx_transcript.specs.Uses.{given_by, use_of}
use Rattle.mx_transcript.specs.declared.transcripts.Event2.{Event2}
use Rattle.mx_transcript.specs.declared.transcripts.Event2.TheVariants.{Core, Entry}

pub unknown_admissible : IsAdmissible unknown_desc
unknown_admissible = record { unknown = λ kind. refl; gone = λ kind. cc; segment = λ kind. cc }

-- a cell that is granted lies on a page that there is
granted_page : (d : Descriptor) (o : Op) (ring word : ℕ) (cell : Cell) → IsAdmissible d → judgement d o ring word ≡ Ok cell
    → page_of (cell_at d word) < page_count
granted_page d o ring word cell admissible granted =
    let allowed = granted_is_allowed d o ring word cell granted in
    let under : word < d.bound = allowed.bound in
    let most = (admissible.segment allowed.kind).cells in
    low (64 * d.page + word) (omega (arith, under, most))
  where
    low : (n : ℕ) → n < 65536 → n / 64 < 1024
    low n h = omega (arith, h)

module _ (session : Outline) (journal : List journaled.Entry) (point word since : ℕ) (d : Descriptor) (admissible : IsAdmissible d)
    (told : page_of (cell_at d word) < page_count
    → since ≡ use_at 0 (given_by session journal) (page_of (cell_at d word)) (min point (length journal))) where
  granted_told : (o : Op) (ring : ℕ) → granted_cell (use_since since) (judgement d o ring word)
      ≡ granted_cell (λ cell. use_of session journal cell point) (judgement d o ring word)
  granted_told o ring = by_result (judgement d o ring word) refl
    where
      by_result : (r : Result Cell Denial) → judgement d o ring word ≡ r
          → granted_cell (use_since since) r ≡ granted_cell (λ cell. use_of session journal cell point) r
      by_result (Err denial) e = refl
      by_result (Ok cell) e =
          let there : cell_at d word ≡ cell.0 = sym (ap (λ (c : Cell). c.0) (granted_has_cell d o ring word cell e)) in
          let used : since ≡ use_at 0 (given_by session journal) (page_of cell.0) point
          = told (granted_page d o ring word cell admissible e)
          ∙ use_within session journal (page_of (cell_at d word)) point
          ∙ ap (λ (n : ℕ). use_at 0 (given_by session journal) (page_of n) point) there in
          ap (λ (n : ℕ). Some (use_since n cell.0)) used

  cell_told : (k : Kind) (ring : ℕ) → cell_by (use_since since) d k ring word ≡ cell_by (λ cell. use_of session journal cell point) d k ring word
  cell_told kind.Read ring = granted_told op.Read ring
  cell_told kind.Ind ring = granted_told op.Indirect ring
  cell_told kind.Write ring = granted_told op.Write ring
  cell_told kind.Fetch ring = granted_told op.Fetch ring
  cell_told kind.Call ring = refl
  cell_told kind.Return ring = refl

module _ (session : Outline) (journal : List journaled.Entry) (p : ℕ) where
  seen_desc : (e : Element) (told : Told) → IsToldNow session journal (question_of (length journal) p (Core (Seen e))) told
      → told.desc ≡ descriptor_of session journal p e
  seen_desc e told is = is.desc ∙ descriptor_within session journal e.point p e.segno

  seen_cell : (e : Element) (told : Told) → HasAdmissible session journal
      → IsToldNow session journal (question_of (length journal) p (Core (Seen e))) told
      → told_cell told e ≡ cell_of (use_of session journal) (descriptor_of session journal p) e
  seen_cell e told can is =
      cell_told session journal e.point e.word told.since told.desc
      (subst IsAdmissible (sym (seen_desc e told is)) (can.each e.point p e.segno)) is.since e.kind e.ring
      ∙ ap (λ (d : Descriptor). cell_by (λ cell. use_of session journal cell e.point) d e.kind e.ring e.word) (seen_desc e told is)

  pub deed_told : (event : Event2) (told : Told) → HasAdmissible session journal
      → IsTold session journal (question_of (length journal) p event) told
      → deed_by (told_cell told) event ≡ deed_by (cell_of (use_of session journal) (descriptor_of session journal p)) event
  deed_told (Entry number) told can is = refl
  deed_told (Core (Missing segno by)) told can is = refl
  deed_told (Core (Seen e)) told can is = ap (λ (c : Option CellUse). reference c e.outcome e.point) (seen_cell e told can is.now)

  pub desc_told : (event : Event2) (told : Told) → IsTold session journal (question_of (length journal) p event) told
      → told_desc told event ≡ judged_on (descriptor_of session journal p) event
  desc_told (Entry number) told is = refl
  desc_told (Core (Missing segno by)) told is = refl
  desc_told (Core (Seen e)) told is = seen_desc e told is.now

  missed_told : (segno by : ℕ) (told : Told) → IsTold session journal (question_of (length journal) p (Core (Missing segno by))) told
      → told_change (question_of (length journal) p (Core (Missing segno by))) told ≡ is_changed session journal p segno by
  missed_told segno by told is = by_test (nat_lt (min (by - 1) (length journal)) (min by (length journal))) refl
    where
      by_test : (b : Bool) → nat_lt (min (by - 1) (length journal)) (min by (length journal)) ≡ b
          → (b && not (same_desc told.before told.desc)) ≡ is_changed session journal p segno by
      by_test false e = sym (unchanged_within session journal p segno by (ltb-false _ _ e))
      by_test true e =
          let less : min (by - 1) (length journal) < min by (length journal) = ltb-true _ _ e in
          let before = (is.before less).desc ∙ descriptor_within session journal (by - 1) p segno in
          let now = is.now.desc ∙ descriptor_within session journal by p segno in
          ap (λ (d : Descriptor). not (same_desc d told.desc)) before
          ∙ ap (λ (d : Descriptor). not (same_desc (descriptor_at session journal (by - 1) p segno) d)) now

  pub change_told : (event : Event2) (told : Told) → IsTold session journal (question_of (length journal) p event) told
      → event_change (length journal) p told event ≡ missed_changed (is_changed session journal p) event
  change_told (Entry number) told is = refl
  change_told (Core (Seen e)) told is = refl
  change_told (Core (Missing segno by)) told is = missed_told segno by told is

  pub judged_admissible : (event : Event2) → HasAdmissible session journal → IsAdmissible (judged_on (descriptor_of session journal p) event)
  judged_admissible (Entry number) can = unknown_admissible
  judged_admissible (Core (Missing segno by)) can = unknown_admissible
  judged_admissible (Core (Seen e)) can = can.each e.point p e.segno

-- items of two lists, one behind the other
pub front_get : {X : Type 0} (xs ys : List X) (i : ℕ) (x : X) → slice_get xs i ≡ Some x → slice_get (xs ++ ys) i ≡ Some x
front_get [] ys i x e = cc
front_get (y ∷ xs) ys zero x e = e
front_get (y ∷ xs) ys (suc i) x e = front_get xs ys i x e

pub back_get : {X : Type 0} (xs ys : List X) (i : ℕ) (x : X) → slice_get ys i ≡ Some x → slice_get (xs ++ ys) (length xs + i) ≡ Some x
back_get [] ys i x e = let same : 0 + i ≡ i = omega arith in ap (slice_get ys) same ∙ e
back_get (y ∷ xs) ys i x e =
    let same : length (y ∷ xs) + i ≡ suc (length xs + i) = omega arith in
    ap (slice_get (y ∷ (xs ++ ys))) same ∙ back_get xs ys i x e

pub drop_get : {X : Type 0} (xs : List X) (n i : ℕ) (x : X) → slice_get (drop n xs) i ≡ Some x → slice_get xs (n + i) ≡ Some x
drop_get xs zero i x e = let same : 0 + i ≡ i = omega arith in ap (slice_get xs) same ∙ e
drop_get [] (suc n) i x e = cc
drop_get (y ∷ xs) (suc n) i x e =
    let same : suc n + i ≡ suc (n + i) = omega arith in
    ap (slice_get (y ∷ xs)) same ∙ drop_get xs n i x e

-- one item more of a row
pub row_more : {X Y : Type 0} (f : X → Y) (xs : List X) (i : ℕ) (x : X) (y : Y) (base old new : List Y) → i < length xs
    → x ≡ slice_index_or xs i x → old ≡ base ++ map f (take i xs) → new ≡ old ++ y ∷ [] → y ≡ f x
    → new ≡ base ++ map f (take (i + 1) xs)
row_more {X} {Y} f xs i x y base old new below is was pushed same =
    pushed ∙ ap (λ (l : List Y). l ++ y ∷ []) was ∙ append_assoc base (map f (take i xs)) (y ∷ [])
    ∙ ap (λ (z : Y). base ++ (map f (take i xs) ++ z ∷ [])) (same ∙ ap f is)
    ∙ ap (λ (l : List Y). base ++ l) (sym (map_more f xs i x below))

-- the items of events more, of some that are left
pub items_more : {X Y : Type 0} (f : X → Y) (old new : List Y) (left xs ys all : List X) → left ≡ xs ++ ys
    → old ++ map f left ≡ map f all → new ≡ old ++ map f xs → new ++ map f ys ≡ map f all
items_more {X} {Y} f old new left xs ys all cut was added =
    ap (λ (l : List Y). l ++ map f ys) added
    ∙ append_assoc old (map f xs) (map f ys)
    ∙ ap (λ (l : List Y). old ++ l) (sym (map-append f xs ys))
    ∙ ap (λ (l : List X). old ++ map f l) (sym cut)
    ∙ was

pub items_all : {X Y : Type 0} (f : X → Y) (items : List Y) (left all : List X) → left ≡ [] → items ++ map f left ≡ map f all
    → items ≡ map f all
items_all {X} {Y} f items left all none was =
    sym (append-nil items) ∙ ap (λ (l : List X). items ++ map f l) (sym none) ∙ was

pub get_map : {X Y : Type 0} (f : X → Y) (xs : List X) (i : ℕ) (x : X) → slice_get xs i ≡ Some x → slice_get (map f xs) i ≡ Some (f x)
get_map f [] i x e = absurd (none-some x e)
get_map f (y ∷ xs) zero x e = ap (λ (z : _). Some (f z)) (same_Some y x e)
get_map f (y ∷ xs) (suc i) x e = get_map f xs i x e

-- a table of descriptors may hold each
pub all_admissible : (session : Outline) (journal : List journaled.Entry) (p : ℕ) (events : List Event2) → HasAdmissible session journal
    → All IsAdmissible (map (judged_on (descriptor_of session journal p)) events)
all_admissible session journal p [] can = All-nil IsAdmissible
all_admissible session journal p (event ∷ events) can =
    All-cons IsAdmissible (judged_on (descriptor_of session journal p) event) (map (judged_on (descriptor_of session journal p)) events)
    (judged_admissible session journal p event can) (all_admissible session journal p events can)

-- what was told of events, and of those behind them
pub told_front : (session : Outline) (journal : List journaled.Entry) (p : ℕ) (xs ys : List Event2) (told : List Told)
    → AreToldOf session journal p (xs ++ ys) told → AreToldOf session journal p xs told
told_front session journal p xs ys told is = record {
  long = omega (arith, is.long, length-append xs ys);
  each = λ at event answer found answered. is.each at event answer (front_get xs ys at event found) answered;
}

pub told_back : (session : Outline) (journal : List journaled.Entry) (p : ℕ) (xs ys : List Event2) (told : List Told)
    → AreToldOf session journal p (xs ++ ys) told → AreToldOf session journal p ys (drop (length xs) told)
told_back session journal p xs ys told is = record {
  long = omega (arith, is.long, length-append xs ys, length-drop (length xs) told);
  each = λ at event answer found answered.
      is.each (length xs + at) event answer (back_get xs ys at event found) (drop_get told (length xs) at answer answered);
}
