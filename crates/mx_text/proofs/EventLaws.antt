-- Laws of the lines of transcripts: an event that fits is found again in the fields of its line.
use Rattle.std.proofs.Common.{◌≡◌, ℕ, ◌==◌, Bool, true, false, if◌then◌else◌, not, ◌&&◌, List, [], ◌∷◌, ◌++◌, Option, Some, None, codes, refl, subst, arith, append_assoc}
use Rattle.std.proofs.lemmas.Bool.{eqb-true}
use Rattle.std.specs.Cmp.Lexicographic.{pointwise}
use Rattle.std.specs.Fmt.{decimal}
use Rattle.std.specs.List.{find, list_all}
use Rattle.mx_name.proofs.CutLaws.{cut_again}
use Rattle.mx_name.proofs.TextLaws.{all_free}
use Rattle.mx_name.specs.Cuts.{cut_at}
use Rattle.mx_name.specs.Names.{is_free, is_name_byte}
use Rattle.mx_sdw.proofs.OctalLaws.{octal_value-octal}
use Rattle.mx_sdw.specs.declared.denials.Denial.{Denial}
use Rattle.mx_sdw.specs.declared.denials.Denial.TheVariants.{UnknownSegment, NoSegment, OutOfBounds, NotReadable, ReadBracket, NotWritable, WriteBracket, NotExecutable, ExecuteBracket, CallBracket, UpwardCall, Gate, RaisedRing, BadReturn, NotPointer, IndirectLimit, AimRead, AimWrite}
use Rattle.mx_sdw.specs.Denials.{denial_text}
use Rattle.mx_sdw.specs.Octal.{octal, octal_value}
use Rattle.mx_core.specs.declared.elements.Element.{Element}
use Rattle.mx_core.specs.declared.elements.Event.TheVariants.{Seen, Missing}
use Rattle.mx_core.specs.declared.elements.Kind.{Kind}
use Rattle.mx_core.specs.declared.elements.Kind.TheVariants as kind
use Rattle.mx_core.specs.declared.elements.Outcome.{Outcome}
use Rattle.mx_core.specs.declared.elements.Outcome.TheVariants as outcome
use Rattle.mx_transcript.specs.declared.transcripts.Event2.{Event2}
use Rattle.mx_transcript.specs.declared.transcripts.Event2.TheVariants.{Core, Entry}
use Rattle.mx_transcript.specs.declared.transcripts.Result2.{Result2}
use Rattle.mx_transcript.specs.declared.transcripts.Result2.TheVariants as result
use Rattle.mx_ptr.specs.Pointers.{PointerParts}
use Rattle.mx_request.proofs.ForeignLaws.{free_append}
use Rattle.mx_request.proofs.ReplyLaws.{IsApart, decimal_again, decimal_free, octal_free}
use Rattle.mx_request.proofs.StepLaws.{both, both_hold, fails}
use Rattle.mx_request.specs.Fields.{address_text}
use Rattle.mx_request.specs.RequestTexts.{is_ring, is_segno, is_word, is_word_address}
use Rattle.mx_script.specs.Sessions.{is_register}
use Rattle.mx_request.specs.Decimals.{decimal_after}
use Rattle.mx_request.specs.Steps.{◌>>=◌}
use Rattle.mx_text.specs.RunText.{kind_text}
use Rattle.mx_spelling.specs.Spelling.{fits_element, fits_event, fits_outcome, fits_pointer, fits_result, is_entry_number, is_process}
use Rattle.mx_text.proofs.NumberLaws.{is_number, at_most_number}

-- the fields of each line
abbrev pub outcome_fields : Outcome → List (List ℕ)
outcome_fields (outcome.Read value writer stamp) =
    codes "word" ∷ octal value ∷ codes "from" ∷ decimal writer ∷ codes "stamp" ∷ decimal stamp ∷ []
outcome_fields (outcome.Written value) = codes "word" ∷ octal value ∷ []
outcome_fields (outcome.Entered ring) = codes "enter" ∷ decimal ring ∷ []
outcome_fields (outcome.Denied denial) = codes "denied" ∷ denial_text denial ∷ []

abbrev pub element_fields : Element → List (List ℕ)
element_fields e =
    kind_text e.kind ∷ address_text e.segno e.word ∷ codes "ring" ∷ decimal e.ring ∷ codes "point" ∷ decimal e.point
    ∷ outcome_fields e.outcome

abbrev pub event_fields : Event2 → List (List ℕ)
event_fields (Core (Seen e)) = element_fields e
event_fields (Core (Missing segno by)) = codes "missing" ∷ octal segno ∷ codes "by" ∷ decimal by ∷ []
event_fields (Entry number) = codes "entry" ∷ decimal number ∷ []

abbrev pub result_fields : Result2 → List (List ℕ)
result_fields result.Done = codes "done" ∷ []
result_fields (result.A word) = codes "a" ∷ octal word ∷ []
result_fields (result.Pr n pointer) =
    codes "pr" ∷ decimal n ∷ decimal pointer.ring ∷ address_text pointer.segno pointer.word ∷ []
result_fields (result.Moved ring procedure) =
    codes "ring" ∷ decimal ring ∷ codes "at" ∷ address_text procedure.segno procedure.word ∷ []
result_fields (result.Denied denial) = codes "denied" ∷ denial_text denial ∷ []
result_fields result.Refused = codes "refused" ∷ []
result_fields result.HistoryFull = codes "history_full" ∷ []

-- denials and kinds, by their names
abbrev all_denials : List Denial
all_denials =
    UnknownSegment ∷ NoSegment ∷ OutOfBounds ∷ NotReadable ∷ ReadBracket ∷ NotWritable ∷ WriteBracket ∷ NotExecutable
    ∷ ExecuteBracket ∷ CallBracket ∷ UpwardCall ∷ Gate ∷ RaisedRing ∷ BadReturn ∷ NotPointer ∷ IndirectLimit
    ∷ AimRead ∷ AimWrite ∷ []

abbrev denial_at : List ℕ → Option Denial
denial_at text = find (λ denial. pointwise ◌==◌ text (denial_text denial)) all_denials

denial_again : (denial : Denial) → denial_at (denial_text denial) ≡ Some denial
denial_again UnknownSegment = refl
denial_again NoSegment = refl
denial_again OutOfBounds = refl
denial_again NotReadable = refl
denial_again ReadBracket = refl
denial_again NotWritable = refl
denial_again WriteBracket = refl
denial_again NotExecutable = refl
denial_again ExecuteBracket = refl
denial_again CallBracket = refl
denial_again UpwardCall = refl
denial_again Gate = refl
denial_again RaisedRing = refl
denial_again BadReturn = refl
denial_again NotPointer = refl
denial_again IndirectLimit = refl
denial_again AimRead = refl
denial_again AimWrite = refl

denial_bytes : (denial : Denial) → list_all is_name_byte (denial_text denial) ≡ true
denial_bytes UnknownSegment = refl
denial_bytes NoSegment = refl
denial_bytes OutOfBounds = refl
denial_bytes NotReadable = refl
denial_bytes ReadBracket = refl
denial_bytes NotWritable = refl
denial_bytes WriteBracket = refl
denial_bytes NotExecutable = refl
denial_bytes ExecuteBracket = refl
denial_bytes CallBracket = refl
denial_bytes UpwardCall = refl
denial_bytes Gate = refl
denial_bytes RaisedRing = refl
denial_bytes BadReturn = refl
denial_bytes NotPointer = refl
denial_bytes IndirectLimit = refl
denial_bytes AimRead = refl
denial_bytes AimWrite = refl

abbrev kind_at : List ℕ → Option Kind
kind_at text =
    find (λ k. pointwise ◌==◌ text (kind_text k))
    (kind.Read ∷ kind.Ind ∷ kind.Write ∷ kind.Fetch ∷ kind.Call ∷ kind.Return ∷ [])

kind_again : (k : Kind) → kind_at (kind_text k) ≡ Some k
kind_again kind.Read = refl
kind_again kind.Ind = refl
kind_again kind.Write = refl
kind_again kind.Fetch = refl
kind_again kind.Call = refl
kind_again kind.Return = refl

kind_bytes : (k : Kind) → list_all is_name_byte (kind_text k) ≡ true
kind_bytes kind.Read = refl
kind_bytes kind.Ind = refl
kind_bytes kind.Write = refl
kind_bytes kind.Fetch = refl
kind_bytes kind.Call = refl
kind_bytes kind.Return = refl

-- what fields say, by the first of them
abbrev is : List ℕ → List ℕ → Bool
is word text = pointwise ◌==◌ word text

abbrev one_field_at : List ℕ → List ℕ → Option Outcome
one_field_at word text =
    if is word (codes "word") then Some (outcome.Written (octal_value text))
    else (if is word (codes "enter") then Some (outcome.Entered (decimal_after 0 text))
    else (denial_at text >>= λ denial. Some (outcome.Denied denial)))

abbrev outcome_at : List (List ℕ) → Option Outcome
outcome_at (word ∷ text ∷ []) = one_field_at word text
outcome_at (word ∷ value ∷ from ∷ writer ∷ at ∷ stamp ∷ []) =
    Some (outcome.Read (octal_value value) (decimal_after 0 writer) (decimal_after 0 stamp))
outcome_at _ = None

abbrev element_at : Kind → List (List ℕ) → Option Event2
element_at kind (address ∷ r ∷ ring ∷ p ∷ point ∷ fields) =
    cut_at 124 address >>= λ a.
    outcome_at fields >>= λ came.
    Some (Core (Seen (record {
      kind = kind;
      segno = octal_value a.0;
      word = octal_value a.1;
      ring = decimal_after 0 ring;
      point = decimal_after 0 point;
      outcome = came;
    })))
element_at kind _ = None

abbrev other_at : List ℕ → List (List ℕ) → Option Event2
other_at word (number ∷ []) = Some (Entry (decimal_after 0 number))
other_at word (segno ∷ b ∷ by ∷ []) = Some (Core (Missing (octal_value segno) (decimal_after 0 by)))
other_at word _ = None

abbrev by_kind : List ℕ → Option Kind → List (List ℕ) → Option Event2
by_kind word None fields = other_at word fields
by_kind word (Some kind) fields = element_at kind fields

abbrev pub event_at : List (List ℕ) → Option Event2
event_at [] = None
event_at (word ∷ fields) = by_kind word (kind_at word) fields

outcome_again : (came : Outcome) → fits_outcome came ≡ true → outcome_at (outcome_fields came) ≡ Some came
outcome_again (outcome.Read value writer stamp) e =
    let f = both (is_word value) (is_process writer && is_entry_number stamp) e in
    let g = both (is_process writer) (is_entry_number stamp) f.1 in
    rw (
      octal_value-octal value,
      decimal_again writer (at_most_number writer 15 (omega arith) g.0),
      decimal_again stamp (at_most_number stamp 262143 (omega arith) g.1),
    ) refl
outcome_again (outcome.Written value) e = rw (octal_value-octal value) refl
outcome_again (outcome.Entered ring) e = rw (decimal_again ring (at_most_number ring 7 (omega arith) e)) refl
outcome_again (outcome.Denied denial) e = rw (denial_again denial) refl

element_again : (e : Element) → fits_element e ≡ true → element_at e.kind
    (address_text e.segno e.word ∷ codes "ring" ∷ decimal e.ring ∷ codes "point" ∷ decimal e.point ∷ outcome_fields e.outcome)
    ≡ Some (Core (Seen e))
element_again e fits =
    let a = both (is_word_address e.segno e.word) (is_ring e.ring && (is_entry_number e.point && fits_outcome e.outcome)) fits in
    let f = both (is_ring e.ring) (is_entry_number e.point && fits_outcome e.outcome) a.1 in
    let g = both (is_entry_number e.point) (fits_outcome e.outcome) f.1 in
    rw (
      append_assoc (octal e.segno) (124 ∷ []) (octal e.word),
      cut_again 124 (octal e.segno) (octal e.word) (octal_free 124 e.segno refl),
      outcome_again e.outcome g.1,
      octal_value-octal e.segno,
      octal_value-octal e.word,
      decimal_again e.ring (at_most_number e.ring 7 (omega arith) f.0),
      decimal_again e.point (at_most_number e.point 262143 (omega arith) g.0),
    ) refl

pub event_again : (event : Event2) → fits_event event ≡ true → event_at (event_fields event) ≡ Some event
event_again (Core (Seen e)) fits = rw (kind_again e.kind) (element_again e fits)
event_again (Core (Missing segno by)) fits =
    let f = both (is_segno segno) (is_entry_number by) fits in
    rw (octal_value-octal segno, decimal_again by (at_most_number by 262143 (omega arith) f.1)) refl
event_again (Entry number) fits = rw (decimal_again number (at_most_number number 262143 (omega arith) fits)) refl

abbrev pub result_at : List (List ℕ) → Option Result2
result_at (word ∷ []) =
    if is word (codes "done") then Some result.Done
    else (if is word (codes "refused") then Some result.Refused else Some result.HistoryFull)
result_at (word ∷ text ∷ []) =
    if is word (codes "a") then Some (result.A (octal_value text))
    else (denial_at text >>= λ denial. Some (result.Denied denial))
result_at (word ∷ n ∷ ring ∷ address ∷ []) =
    cut_at 124 address >>= λ a.
    if is word (codes "pr") then Some (result.Pr (decimal_after 0 n) (record {
      ring = decimal_after 0 ring;
      segno = octal_value a.0;
      word = octal_value a.1;
      further = false;
    }))
    else Some (result.Moved (decimal_after 0 n) (record {
      ring = decimal_after 0 n;
      segno = octal_value a.0;
      word = octal_value a.1;
      further = false;
    }))
result_at _ = None

moved_again : (p : PointerParts) → is_number p.ring ≡ true → not p.further ≡ true
    → result_at (result_fields (result.Moved p.ring p)) ≡ Some (result.Moved p.ring p)
moved_again p e f =
    rw (
      append_assoc (octal p.segno) (124 ∷ []) (octal p.word),
      cut_again 124 (octal p.segno) (octal p.word) (octal_free 124 p.segno refl),
      decimal_again p.ring e,
      octal_value-octal p.segno,
      octal_value-octal p.word,
      ← fails p.further f,
    ) refl

pub result_again : (ends : Result2) → fits_result ends ≡ true → result_at (result_fields ends) ≡ Some ends
result_again result.Done e = refl
result_again (result.A word) e = rw (octal_value-octal word) refl
result_again (result.Pr n p) e =
    let f = both (is_register n) (fits_pointer p) e in
    let g = both (is_ring p.ring) (is_word_address p.segno p.word && not p.further) f.1 in
    let h = both (is_word_address p.segno p.word) (not p.further) g.1 in
    rw (
      append_assoc (octal p.segno) (124 ∷ []) (octal p.word),
      cut_again 124 (octal p.segno) (octal p.word) (octal_free 124 p.segno refl),
      decimal_again n (at_most_number n 7 (omega arith) f.0),
      decimal_again p.ring (at_most_number p.ring 7 (omega arith) g.0),
      octal_value-octal p.segno,
      octal_value-octal p.word,
      ← fails p.further h.1,
    ) refl
result_again (result.Moved ring p) e =
    let f = both (p.ring == ring) (fits_pointer p) e in
    let g = both (is_ring p.ring) (is_word_address p.segno p.word && not p.further) f.1 in
    let h = both (is_word_address p.segno p.word) (not p.further) g.1 in
    subst (λ (n : ℕ). result_at (result_fields (result.Moved n p)) ≡ Some (result.Moved n p)) (eqb-true p.ring ring f.0)
    (moved_again p (at_most_number p.ring 7 (omega arith) g.0) h.1)
result_again (result.Denied denial) e = rw (denial_again denial) refl
result_again result.Refused e = refl
result_again result.HistoryFull e = refl

-- bytes that no field has
module _ (byte : ℕ) (apart : IsApart byte) (no_bar : (124 == byte) ≡ false) where
  pub word_free : (text : List ℕ) → list_all is_name_byte text ≡ true → is_free byte text ≡ true
  word_free text e = all_free is_name_byte byte text apart.no_name e

  address_free : (segno word : ℕ) → is_free byte (address_text segno word) ≡ true
  address_free segno word =
      free_append byte (octal segno ++ 124 ∷ []) (octal word)
      (free_append byte (octal segno) (124 ∷ []) (octal_free byte segno apart.no_octal) (rw no_bar refl))
      (octal_free byte word apart.no_octal)

  outcome_free : (came : Outcome) → fits_outcome came ≡ true → list_all (is_free byte) (outcome_fields came) ≡ true
  outcome_free (outcome.Read value writer stamp) e =
      let f = both (is_word value) (is_process writer && is_entry_number stamp) e in
      let g = both (is_process writer) (is_entry_number stamp) f.1 in
      both_hold _ _ (word_free (codes "word") refl)
      (both_hold _ _ (octal_free byte value apart.no_octal)
      (both_hold _ _ (word_free (codes "from") refl)
      (both_hold _ _ (decimal_free byte writer apart.no_digit (at_most_number writer 15 (omega arith) g.0))
      (both_hold _ _ (word_free (codes "stamp") refl)
      (both_hold _ _ (decimal_free byte stamp apart.no_digit (at_most_number stamp 262143 (omega arith) g.1)) refl)))))
  outcome_free (outcome.Written value) e =
      both_hold _ _ (word_free (codes "word") refl) (both_hold _ _ (octal_free byte value apart.no_octal) refl)
  outcome_free (outcome.Entered ring) e =
      both_hold _ _ (word_free (codes "enter") refl)
      (both_hold _ _ (decimal_free byte ring apart.no_digit (at_most_number ring 7 (omega arith) e)) refl)
  outcome_free (outcome.Denied denial) e =
      both_hold _ _ (word_free (codes "denied") refl) (both_hold _ _ (word_free (denial_text denial) (denial_bytes denial)) refl)

  pub event_free : (event : Event2) → fits_event event ≡ true → list_all (is_free byte) (event_fields event) ≡ true
  event_free (Core (Seen e)) fits =
      let a = both (is_word_address e.segno e.word) (is_ring e.ring && (is_entry_number e.point && fits_outcome e.outcome)) fits in
      let f = both (is_ring e.ring) (is_entry_number e.point && fits_outcome e.outcome) a.1 in
      let g = both (is_entry_number e.point) (fits_outcome e.outcome) f.1 in
      both_hold _ _ (word_free (kind_text e.kind) (kind_bytes e.kind))
      (both_hold _ _ (address_free e.segno e.word)
      (both_hold _ _ (word_free (codes "ring") refl)
      (both_hold _ _ (decimal_free byte e.ring apart.no_digit (at_most_number e.ring 7 (omega arith) f.0))
      (both_hold _ _ (word_free (codes "point") refl)
      (both_hold _ _ (decimal_free byte e.point apart.no_digit (at_most_number e.point 262143 (omega arith) g.0)) (outcome_free e.outcome g.1))))))
  event_free (Core (Missing segno by)) fits =
      let f = both (is_segno segno) (is_entry_number by) fits in
      both_hold _ _ (word_free (codes "missing") refl)
      (both_hold _ _ (octal_free byte segno apart.no_octal)
      (both_hold _ _ (word_free (codes "by") refl) (both_hold _ _ (decimal_free byte by apart.no_digit (at_most_number by 262143 (omega arith) f.1)) refl)))
  event_free (Entry number) fits =
      both_hold _ _ (word_free (codes "entry") refl) (both_hold _ _ (decimal_free byte number apart.no_digit (at_most_number number 262143 (omega arith) fits)) refl)

  pub result_free : (ends : Result2) → fits_result ends ≡ true → list_all (is_free byte) (result_fields ends) ≡ true
  result_free result.Done e = both_hold _ _ (word_free (codes "done") refl) refl
  result_free (result.A word) e =
      both_hold _ _ (word_free (codes "a") refl) (both_hold _ _ (octal_free byte word apart.no_octal) refl)
  result_free (result.Pr n p) e =
      let f = both (is_register n) (fits_pointer p) e in
      let g = both (is_ring p.ring) (is_word_address p.segno p.word && not p.further) f.1 in
      both_hold _ _ (word_free (codes "pr") refl)
      (both_hold _ _ (decimal_free byte n apart.no_digit (at_most_number n 7 (omega arith) f.0))
      (both_hold _ _ (decimal_free byte p.ring apart.no_digit (at_most_number p.ring 7 (omega arith) g.0))
      (both_hold _ _ (address_free p.segno p.word) refl)))
  result_free (result.Moved ring p) e =
      let f = both (p.ring == ring) (fits_pointer p) e in
      let g = both (is_ring p.ring) (is_word_address p.segno p.word && not p.further) f.1 in
      let low = subst (λ (n : ℕ). is_ring n ≡ true) (eqb-true p.ring ring f.0) g.0 in
      both_hold _ _ (word_free (codes "ring") refl)
      (both_hold _ _ (decimal_free byte ring apart.no_digit (at_most_number ring 7 (omega arith) low))
      (both_hold _ _ (word_free (codes "at") refl)
      (both_hold _ _ (address_free p.segno p.word) refl)))
  result_free (result.Denied denial) e =
      both_hold _ _ (word_free (codes "denied") refl) (both_hold _ _ (word_free (denial_text denial) (denial_bytes denial)) refl)
  result_free result.Refused e = both_hold _ _ (word_free (codes "refused") refl) refl
  result_free result.HistoryFull e = both_hold _ _ (word_free (codes "history_full") refl) refl
