-- Laws of the lines of transcripts: what a line is read as has that line, and what can be said is read back.
use Rattle.std.proofs.Common.{◌≡◌, ℕ, ◌==◌, true, not, ◌&&◌, List, ◌∷◌, ◌++◌, None, Some, codes, refl, ap, sym, subst, ◌∙◌, append_assoc}
use Rattle.std.proofs.lemmas.Bool.{eqb-true, eq-eqb}
use Rattle.std.proofs.lemmas.List.{append_cancel_right}
use Rattle.std.specs.Fmt.{decimal}
use Rattle.mx_core.specs.declared.elements.Element.{Element}
use Rattle.mx_core.specs.declared.elements.Event.TheVariants.{Seen, Missing}
use Rattle.mx_core.specs.declared.elements.Kind.{Kind}
use Rattle.mx_core.specs.declared.elements.Kind.TheVariants as kind
use Rattle.mx_core.specs.declared.elements.Outcome.{Outcome}
use Rattle.mx_core.specs.declared.elements.Outcome.TheVariants as outcome
use Rattle.mx_name.proofs.CutLaws.{cut_takes, cut_again}
use Rattle.mx_name.specs.Cuts.{cut_at}
use Rattle.mx_ptr.specs.Pointers.{PointerParts}
use Rattle.mx_reader.proofs.FieldLaws.{address_again, address_takes, denial_again, denial_takes, entry_number_again, entry_number_free, entry_number_takes, kind_again, kind_free, kind_takes, line_number_again, line_number_free, line_number_takes, process_again, process_free, process_takes, ring_number_again, ring_number_free, ring_number_takes}
use Rattle.mx_reader.proofs.FrontLaws.{read_or_takes, word_takes}
use Rattle.mx_reader.specs.Exact.{IsExact}
use Rattle.mx_reader.specs.Fields.{address_at, denial_at, entry_number_at, kind_at, line_number_at, process_at, ring_number_at}
use Rattle.mx_reader.specs.Lines.{IsEnd, IsEvent, end_text, says_end}
use Rattle.mx_reader.specs.ReadingEvents.{a_at, denied_at, denied_result, element_at, end_at, entered_at, event_at, granted_at, missing_at, moved_at, named_at, outcome_at, pr_at, read_at, result_at, written_at}
use Rattle.mx_reader.specs.RunTexts.{comes_to, says_event}
use Rattle.mx_request.proofs.AddressLaws.{address_free}
use Rattle.mx_request.proofs.FieldLaws.{segno_again, segno_takes}
use Rattle.mx_request.proofs.StepLaws.{both, both_hold, bind_some, fails, some_is}
use Rattle.mx_request.specs.Fields.{address_text}
use Rattle.mx_request.specs.RequestTexts.{is_ring, is_segno, is_word, is_word_address}
use Rattle.mx_script.proofs.FieldLaws.{octal_free, word_again}
use Rattle.mx_script.proofs.FieldLaws as field
use Rattle.mx_script.proofs.FrontLaws.{after_takes}
use Rattle.mx_script.specs.Fields.{word_at}
use Rattle.mx_script.specs.Fronts.{after}
use Rattle.mx_script.specs.Sessions.{is_register}
use Rattle.mx_sdw.specs.Denials.{denial_text}
use Rattle.mx_sdw.specs.Octal.{octal, octal_number}
use Rattle.mx_spelling.specs.Spelling.{fits_element, fits_outcome, fits_pointer, fits_result, is_entry_number, is_line_number, is_process}
use Rattle.mx_text.specs.RunText.{element_text, event_text, kind_text, result_text}
use Rattle.mx_transcript.specs.declared.transcripts.Event2.{Event2}
use Rattle.mx_transcript.specs.declared.transcripts.Event2.TheVariants.{Core, Entry}
use Rattle.mx_transcript.specs.declared.transcripts.Result2.{Result2}
use Rattle.mx_transcript.specs.declared.transcripts.Result2.TheVariants as result

-- the lines of events, field by field
abbrev outcome_line : Outcome → List ℕ
outcome_line (outcome.Read value writer stamp) =
    codes "word " ++ (octal value ++ 32 ∷ (codes "from " ++ (decimal writer ++ 32 ∷ (codes "stamp " ++ decimal stamp))))
outcome_line (outcome.Written value) = codes "word " ++ octal value
outcome_line (outcome.Entered ring) = codes "enter " ++ decimal ring
outcome_line (outcome.Denied denial) = codes "denied " ++ denial_text denial

abbrev element_line : Element → List ℕ
element_line e =
    kind_text e.kind ++ 32 ∷ (address_text e.segno e.word ++ 32 ∷ (codes "ring " ++ (decimal e.ring ++ 32 ∷ (codes "point " ++ (decimal e.point
    ++ 32 ∷ outcome_line e.outcome)))))

abbrev pub event_line : Event2 → List ℕ
event_line (Core (Seen e)) = element_line e
event_line (Core (Missing segno by)) = codes "missing " ++ (octal segno ++ 32 ∷ (codes "by " ++ decimal by))
event_line (Entry number) = codes "entry " ++ decimal number

pub event_whole : (event : Event2) → event_text event ≡ event_line event ++ codes "\n"
event_whole (Core (Seen e)) = by_outcome e.outcome
  where
    by_outcome : (came : Outcome) → element_text (record e { outcome = came }) ≡ element_line (record e { outcome = came }) ++ codes "\n"
    by_outcome (outcome.Read value writer stamp) = simp append_assoc
    by_outcome (outcome.Written value) = simp append_assoc
    by_outcome (outcome.Entered ring) = simp append_assoc
    by_outcome (outcome.Denied denial) = simp append_assoc
event_whole (Core (Missing segno by)) = simp append_assoc refl
event_whole (Entry number) = simp append_assoc refl

-- what a line of an event says, by its fields
record IsLine (line : List ℕ) (event : Event2) : Type 0 where
  pub spelled : event_line event ≡ line
  pub says : says_event event ≡ true

record IsCame (kind : Kind) (text : List ℕ) (came : Outcome) : Type 0 where
  pub spelled : outcome_line came ≡ text
  pub fits : fits_outcome came ≡ true
  pub comes : comes_to kind came ≡ true

-- what is read of each outcome
record IsRead (text : List ℕ) (came : Outcome) : Type 0 where
  pub spelled : outcome_line came ≡ text
  pub fits : fits_outcome came ≡ true
  pub read : comes_to kind.Read came ≡ true
  pub ind : comes_to kind.Ind came ≡ true
  pub fetch : comes_to kind.Fetch came ≡ true

read_takes : (text : List ℕ) (came : Outcome) → read_at text ≡ Some came → IsRead text came
read_takes text came e =
    let r = bind_some (after (codes "word ") text) _ came e in
    let v = bind_some (cut_at 32 r.0) _ came r.2 in
    let value = bind_some (word_at v.0.0) _ came v.2 in
    let s = bind_some (after (codes "from ") v.0.1) _ came value.2 in
    let p = bind_some (cut_at 32 s.0) _ came s.2 in
    let writer = bind_some (process_at p.0.0) _ came p.2 in
    let t = bind_some (after (codes "stamp ") p.0.1) _ came writer.2 in
    let stamp = bind_some (entry_number_at t.0) _ came t.2 in
    let f = field.word_takes v.0.0 value.0 value.1 in
    let g = process_takes p.0.0 writer.0 writer.1 in
    let h = entry_number_takes t.0 stamp.0 stamp.1 in
    subst (IsRead text) (some_is _ _ stamp.2) (record {
      spelled = spelled (octal value.0) (decimal writer.0) (decimal stamp.0) text r.0 v.0.0 v.0.1 s.0 p.0.0 p.0.1 t.0
          (after_takes (codes "word ") text r.0 r.1) (cut_takes 32 r.0 v.0 v.1).0 (after_takes (codes "from ") v.0.1 s.0 s.1)
          (cut_takes 32 s.0 p.0 p.1).0 (after_takes (codes "stamp ") p.0.1 t.0 t.1) f.0 g.0 h.0;
      fits = both_hold _ _ f.1 (both_hold _ _ g.1 h.1);
      read = refl;
      ind = refl;
      fetch = refl;
    })
  where
    spelled : (value writer stamp text r v w s p q t : List ℕ) → text ≡ codes "word " ++ r → r ≡ v ++ 32 ∷ w → w ≡ codes "from " ++ s
        → s ≡ p ++ 32 ∷ q → q ≡ codes "stamp " ++ t → value ≡ v → writer ≡ p → stamp ≡ t
        → codes "word " ++ (value ++ 32 ∷ (codes "from " ++ (writer ++ 32 ∷ (codes "stamp " ++ stamp)))) ≡ text
    spelled value writer stamp text r v w s p q t e f g h i j k l = rw (e, f, g, h, i, j, k, l) refl

written_takes : (text : List ℕ) (came : Outcome) → written_at text ≡ Some came → IsCame kind.Write text came
written_takes text came e =
    let r = bind_some (after (codes "word ") text) _ came e in
    let value = bind_some (word_at r.0) _ came r.2 in
    let f = field.word_takes r.0 value.0 value.1 in
    subst (IsCame kind.Write text) (some_is _ _ value.2) (record {
      spelled = ap (λ x. codes "word " ++ x) f.0 ∙ sym (after_takes (codes "word ") text r.0 r.1);
      fits = f.1;
      comes = refl;
    })

record IsEntered (text : List ℕ) (came : Outcome) : Type 0 where
  pub spelled : outcome_line came ≡ text
  pub fits : fits_outcome came ≡ true
  pub call : comes_to kind.Call came ≡ true
  pub return : comes_to kind.Return came ≡ true

entered_takes : (text : List ℕ) (came : Outcome) → entered_at text ≡ Some came → IsEntered text came
entered_takes text came e =
    let r = bind_some (after (codes "enter ") text) _ came e in
    let ring = bind_some (ring_number_at r.0) _ came r.2 in
    let f = ring_number_takes r.0 ring.0 ring.1 in
    subst (IsEntered text) (some_is _ _ ring.2) (record {
      spelled = ap (λ x. codes "enter " ++ x) f.0 ∙ sym (after_takes (codes "enter ") text r.0 r.1);
      fits = f.1;
      call = refl;
      return = refl;
    })

granted_takes : (kind : Kind) (text : List ℕ) (came : Outcome) → granted_at kind text ≡ Some came → IsCame kind text came
granted_takes kind.Read text came e = let f = read_takes text came e in record { spelled = f.spelled; fits = f.fits; comes = f.read }
granted_takes kind.Ind text came e = let f = read_takes text came e in record { spelled = f.spelled; fits = f.fits; comes = f.ind }
granted_takes kind.Write text came e = written_takes text came e
granted_takes kind.Fetch text came e = let f = read_takes text came e in record { spelled = f.spelled; fits = f.fits; comes = f.fetch }
granted_takes kind.Call text came e = let f = entered_takes text came e in record { spelled = f.spelled; fits = f.fits; comes = f.call }
granted_takes kind.Return text came e = let f = entered_takes text came e in record { spelled = f.spelled; fits = f.fits; comes = f.return }

denied_takes : (kind : Kind) (text : List ℕ) (came : Outcome) → denied_at text ≡ Some came → IsCame kind (codes "denied " ++ text) came
denied_takes kind text came e =
    let d = bind_some (denial_at text) _ came e in
    subst (IsCame kind (codes "denied " ++ text)) (some_is _ _ d.2) (record {
      spelled = ap (λ x. codes "denied " ++ x) (denial_takes text d.0 d.1);
      fits = refl;
      comes = refl;
    })

outcome_takes : (kind : Kind) (text : List ℕ) (came : Outcome) → outcome_at kind text ≡ Some came → IsCame kind text came
outcome_takes kind text came e =
    read_or_takes (IsCame kind) (codes "denied ") text denied_at (granted_at kind text) came (λ rest. denied_takes kind rest came)
    (granted_takes kind text came) e

-- what is read of each event
element_takes : (text : List ℕ) (event : Event2) → element_at text ≡ Some event → IsLine text event
element_takes text event e =
    let k = bind_some (cut_at 32 text) _ event e in
    let kind = bind_some (kind_at k.0.0) _ event k.2 in
    let a = bind_some (cut_at 32 k.0.1) _ event kind.2 in
    let address = bind_some (address_at a.0.0) _ event a.2 in
    let b = bind_some (after (codes "ring ") a.0.1) _ event address.2 in
    let r = bind_some (cut_at 32 b.0) _ event b.2 in
    let ring = bind_some (ring_number_at r.0.0) _ event r.2 in
    let c = bind_some (after (codes "point ") r.0.1) _ event ring.2 in
    let p = bind_some (cut_at 32 c.0) _ event c.2 in
    let point = bind_some (entry_number_at p.0.0) _ event p.2 in
    let came = bind_some (outcome_at kind.0 p.0.1) _ event point.2 in
    let f = address_takes a.0.0 address.0 address.1 in
    let g = ring_number_takes r.0.0 ring.0 ring.1 in
    let h = entry_number_takes p.0.0 point.0 point.1 in
    let i = outcome_takes kind.0 p.0.1 came.0 came.1 in
    subst (IsLine text) (some_is _ _ came.2) (record {
      spelled = front (kind_text kind.0) (address_text address.0.0 address.0.1) _ text k.0.0 k.0.1 a.0.0 a.0.1 (cut_takes 32 text k.0 k.1).0
          (cut_takes 32 k.0.1 a.0 a.1).0 (kind_takes k.0.0 kind.0 kind.1) f.spelled
          (back (decimal ring.0) (decimal point.0) (outcome_line came.0) a.0.1 b.0 r.0.0 r.0.1 c.0 p.0.0 p.0.1
          (after_takes (codes "ring ") a.0.1 b.0 b.1) (cut_takes 32 b.0 r.0 r.1).0 (after_takes (codes "point ") r.0.1 c.0 c.1)
          (cut_takes 32 c.0 p.0 p.1).0 g.0 h.0 i.spelled);
      says = both_hold _ _ (both_hold _ _ f.fits (both_hold _ _ g.1 (both_hold _ _ h.1 i.fits))) i.comes;
    })
  where
    back : (ring point came text b r s c p q : List ℕ) → text ≡ codes "ring " ++ b → b ≡ r ++ 32 ∷ s → s ≡ codes "point " ++ c
        → c ≡ p ++ 32 ∷ q → ring ≡ r → point ≡ p → came ≡ q
        → codes "ring " ++ (ring ++ 32 ∷ (codes "point " ++ (point ++ 32 ∷ came))) ≡ text
    back ring point came text b r s c p q e f g h i j k = rw (e, f, g, h, i, j, k) refl

    front : (kind address rest text x y a b : List ℕ) → text ≡ x ++ 32 ∷ y → y ≡ a ++ 32 ∷ b → kind ≡ x → address ≡ a → rest ≡ b
        → kind ++ 32 ∷ (address ++ 32 ∷ rest) ≡ text
    front kind address rest text x y a b e f g h i = rw (e, f, g, h, i) refl

missing_takes : (text : List ℕ) (event : Event2) → missing_at text ≡ Some event → IsLine (codes "missing " ++ text) event
missing_takes text event e =
    let s = bind_some (cut_at 32 text) _ event e in
    let segno = bind_some (octal_number 4 s.0.0) _ event s.2 in
    let b = bind_some (after (codes "by ") s.0.1) _ event segno.2 in
    let by = bind_some (entry_number_at b.0) _ event b.2 in
    let f = segno_takes s.0.0 segno.0 segno.1 in
    let g = entry_number_takes b.0 by.0 by.1 in
    subst (IsLine (codes "missing " ++ text)) (some_is _ _ by.2) (record {
      spelled = spelled (octal segno.0) (decimal by.0) text s.0.0 s.0.1 b.0 (cut_takes 32 text s.0 s.1).0
          (after_takes (codes "by ") s.0.1 b.0 b.1) f.0 g.0;
      says = both_hold _ _ (both_hold _ _ f.1 g.1) refl;
    })
  where
    spelled : (segno by text x y b : List ℕ) → text ≡ x ++ 32 ∷ y → y ≡ codes "by " ++ b → segno ≡ x → by ≡ b
        → codes "missing " ++ (segno ++ 32 ∷ (codes "by " ++ by)) ≡ codes "missing " ++ text
    spelled segno by text x y b e f g h = rw (e, f, g, h) refl

named_takes : (text : List ℕ) (event : Event2) → named_at text ≡ Some event → IsLine (codes "entry " ++ text) event
named_takes text event e =
    let n = bind_some (entry_number_at text) _ event e in
    let f = entry_number_takes text n.0 n.1 in
    subst (IsLine (codes "entry " ++ text)) (some_is _ _ n.2)
    (record { spelled = ap (λ x. codes "entry " ++ x) f.0; says = both_hold _ _ f.1 refl })

line_takes : (text : List ℕ) (event : Event2) → event_at text ≡ Some event → IsLine text event
unfolding event_at
line_takes text event e =
    read_or_takes IsLine (codes "entry ") text named_at _ event (λ rest. named_takes rest event)
    (read_or_takes IsLine (codes "missing ") text missing_at (element_at text) event (λ rest. missing_takes rest event)
    (element_takes text event)) e

-- and each event that can be said is read back
read_again : (value writer stamp : ℕ) → fits_outcome (outcome.Read value writer stamp) ≡ true
    → read_at (outcome_line (outcome.Read value writer stamp)) ≡ Some (outcome.Read value writer stamp)
unfolding after
read_again value writer stamp e =
    let f = both (is_word value) (is_process writer && is_entry_number stamp) e in
    let g = both (is_process writer) (is_entry_number stamp) f.1 in
    rw (
      cut_again 32 (octal value) (codes "from " ++ (decimal writer ++ 32 ∷ (codes "stamp " ++ decimal stamp))) (octal_free 32 value refl),
      word_again value f.0,
      cut_again 32 (decimal writer) (codes "stamp " ++ decimal stamp) (process_free 32 writer refl g.0),
      process_again writer g.0,
      entry_number_again stamp g.1,
    ) refl

outcome_again : (kind : Kind) (came : Outcome) → fits_outcome came ≡ true → comes_to kind came ≡ true
    → outcome_at kind (outcome_line came) ≡ Some came
unfolding after
outcome_again which (outcome.Denied denial) e t = rw (denial_again denial) refl
outcome_again kind.Read (outcome.Read value writer stamp) e t = read_again value writer stamp e
outcome_again kind.Ind (outcome.Read value writer stamp) e t = read_again value writer stamp e
outcome_again kind.Fetch (outcome.Read value writer stamp) e t = read_again value writer stamp e
outcome_again kind.Write (outcome.Read value writer stamp) e t = absurd (cc)
outcome_again kind.Call (outcome.Read value writer stamp) e t = absurd (cc)
outcome_again kind.Return (outcome.Read value writer stamp) e t = absurd (cc)
outcome_again kind.Write (outcome.Written value) e t = rw (word_again value e) refl
outcome_again kind.Read (outcome.Written value) e t = absurd (cc)
outcome_again kind.Ind (outcome.Written value) e t = absurd (cc)
outcome_again kind.Fetch (outcome.Written value) e t = absurd (cc)
outcome_again kind.Call (outcome.Written value) e t = absurd (cc)
outcome_again kind.Return (outcome.Written value) e t = absurd (cc)
outcome_again kind.Call (outcome.Entered ring) e t = rw (ring_number_again ring e) refl
outcome_again kind.Return (outcome.Entered ring) e t = rw (ring_number_again ring e) refl
outcome_again kind.Read (outcome.Entered ring) e t = absurd (cc)
outcome_again kind.Ind (outcome.Entered ring) e t = absurd (cc)
outcome_again kind.Fetch (outcome.Entered ring) e t = absurd (cc)
outcome_again kind.Write (outcome.Entered ring) e t = absurd (cc)

no_front : (e : Element) → event_at (element_line e) ≡ element_at (element_line e)
unfolding event_at after
no_front e = by_kind e.kind
  where
    by_kind : (kind : Kind) → event_at (element_line (record e { kind = kind })) ≡ element_at (element_line (record e { kind = kind }))
    by_kind kind.Read = refl
    by_kind kind.Ind = refl
    by_kind kind.Write = refl
    by_kind kind.Fetch = refl
    by_kind kind.Call = refl
    by_kind kind.Return = refl

element_again : (e : Element) → says_event (Core (Seen e)) ≡ true → element_at (element_line e) ≡ Some (Core (Seen e))
unfolding after
element_again e says =
    let s = both (fits_element e) (comes_to e.kind e.outcome) says in
    let a = both (is_word_address e.segno e.word) (is_ring e.ring && (is_entry_number e.point && fits_outcome e.outcome)) s.0 in
    let f = both (is_ring e.ring) (is_entry_number e.point && fits_outcome e.outcome) a.1 in
    let g = both (is_entry_number e.point) (fits_outcome e.outcome) f.1 in
    let third : List ℕ = outcome_line e.outcome in
    let second : List ℕ = decimal e.point ++ 32 ∷ third in
    let first : List ℕ = decimal e.ring ++ 32 ∷ (codes "point " ++ second) in
    rw (
      cut_again 32 (kind_text e.kind) (address_text e.segno e.word ++ 32 ∷ (codes "ring " ++ first)) (kind_free e.kind),
      kind_again e.kind,
      cut_again 32 (address_text e.segno e.word) (codes "ring " ++ first) (address_free 32 e.segno e.word refl refl),
      address_again e.segno e.word a.0,
      cut_again 32 (decimal e.ring) (codes "point " ++ second) (ring_number_free 32 e.ring refl f.0),
      ring_number_again e.ring f.0,
      cut_again 32 (decimal e.point) third (entry_number_free 32 e.point refl g.0),
      entry_number_again e.point g.0,
      outcome_again e.kind e.outcome g.1 s.1,
    ) refl

line_again : (event : Event2) → says_event event ≡ true → event_at (event_line event) ≡ Some event
unfolding event_at after
line_again (Core (Seen e)) says = no_front e ∙ element_again e says
line_again (Core (Missing segno by)) says =
    let f = both (is_segno segno) (is_entry_number by) (both (is_segno segno && is_entry_number by) true says).0 in
    rw (
      cut_again 32 (octal segno) (codes "by " ++ decimal by) (octal_free 32 segno refl),
      segno_again segno f.0,
      entry_number_again by f.1,
    ) refl
line_again (Entry number) says = rw (entry_number_again number (both (is_entry_number number) true says).0) refl

pub exact_events : IsExact IsEvent event_at
exact_events = record { takes = takes; again = again }
  where
    takes : (text : List ℕ) (event : Event2) → event_at text ≡ Some event → IsEvent text event
    takes text event e =
        let f = line_takes text event e in
        record { spelled = event_whole event ∙ ap (λ line. line ++ codes "\n") f.spelled; says = f.says }

    again : (text : List ℕ) (event : Event2) → IsEvent text event → event_at text ≡ Some event
    again text event is =
        let same : event_line event ≡ text = append_cancel_right (event_line event) text (codes "\n") (sym (event_whole event) ∙ is.spelled) in
        subst (λ t. event_at t ≡ Some event) same (line_again event is.says)

-- results, field by field
abbrev pub result_line : Result2 → List ℕ
result_line result.Done = codes "done"
result_line (result.A word) = codes "a " ++ octal word
result_line (result.Pr n p) = codes "pr " ++ (decimal n ++ 32 ∷ (decimal p.ring ++ 32 ∷ address_text p.segno p.word))
result_line (result.Moved ring p) = codes "ring " ++ (decimal ring ++ 32 ∷ (codes "at " ++ address_text p.segno p.word))
result_line (result.Denied denial) = codes "denied " ++ denial_text denial
result_line result.Refused = codes "refused"
result_line result.HistoryFull = codes "history_full"

result_whole : (ends : Result2) → result_text ends ≡ result_line ends
result_whole result.Done = refl
result_whole (result.A word) = refl
result_whole (result.Pr n p) = pr (decimal n) (decimal p.ring) (address_text p.segno p.word)
  where
    pr : (n ring address : List ℕ) → codes "pr " ++ (n ++ codes " " ++ ring ++ codes " " ++ address) ≡ codes "pr " ++ (n ++ 32 ∷ (ring ++ 32 ∷ address))
    pr n ring address = simp append_assoc refl
result_whole (result.Moved ring p) = moved (decimal ring) (address_text p.segno p.word)
  where
    moved : (ring address : List ℕ) → codes "ring " ++ ring ++ codes " at " ++ address ≡ codes "ring " ++ (ring ++ 32 ∷ (codes "at " ++ address))
    moved ring address = simp append_assoc refl
result_whole (result.Denied denial) = refl
result_whole result.Refused = refl
result_whole result.HistoryFull = refl

record IsResult (text : List ℕ) (ends : Result2) : Type 0 where
  pub spelled : result_line ends ≡ text
  pub fits : fits_result ends ≡ true

a_takes : (text : List ℕ) (ends : Result2) → a_at text ≡ Some ends → IsResult (codes "a " ++ text) ends
a_takes text ends e =
    let w = bind_some (word_at text) _ ends e in
    let f = field.word_takes text w.0 w.1 in
    subst (IsResult (codes "a " ++ text)) (some_is _ _ w.2) (record { spelled = ap (λ x. codes "a " ++ x) f.0; fits = f.1 })

pr_takes : (text : List ℕ) (ends : Result2) → pr_at text ≡ Some ends → IsResult (codes "pr " ++ text) ends
pr_takes text ends e =
    let p = bind_some (cut_at 32 text) _ ends e in
    let q = bind_some (cut_at 32 p.0.1) _ ends p.2 in
    let n = bind_some (ring_number_at p.0.0) _ ends q.2 in
    let ring = bind_some (ring_number_at q.0.0) _ ends n.2 in
    let a = bind_some (address_at q.0.1) _ ends ring.2 in
    let f = ring_number_takes p.0.0 n.0 n.1 in
    let g = ring_number_takes q.0.0 ring.0 ring.1 in
    let h = address_takes q.0.1 a.0 a.1 in
    subst (IsResult (codes "pr " ++ text)) (some_is _ _ a.2) (record {
      spelled = spelled (decimal n.0) (decimal ring.0) (address_text a.0.0 a.0.1) text p.0.0 p.0.1 q.0.0 q.0.1 (cut_takes 32 text p.0 p.1).0
          (cut_takes 32 p.0.1 q.0 q.1).0 f.0 g.0 h.spelled;
      fits = both_hold _ _ f.1 (both_hold _ _ g.1 (both_hold _ _ h.fits refl));
    })
  where
    spelled : (n ring address text x y z u : List ℕ) → text ≡ x ++ 32 ∷ y → y ≡ z ++ 32 ∷ u → n ≡ x → ring ≡ z → address ≡ u
        → codes "pr " ++ (n ++ 32 ∷ (ring ++ 32 ∷ address)) ≡ codes "pr " ++ text
    spelled n ring address text x y z u e f g h i = rw (e, f, g, h, i) refl

moved_takes : (text : List ℕ) (ends : Result2) → moved_at text ≡ Some ends → IsResult (codes "ring " ++ text) ends
moved_takes text ends e =
    let p = bind_some (cut_at 32 text) _ ends e in
    let ring = bind_some (ring_number_at p.0.0) _ ends p.2 in
    let r = bind_some (after (codes "at ") p.0.1) _ ends ring.2 in
    let a = bind_some (address_at r.0) _ ends r.2 in
    let f = ring_number_takes p.0.0 ring.0 ring.1 in
    let h = address_takes r.0 a.0 a.1 in
    subst (IsResult (codes "ring " ++ text)) (some_is _ _ a.2) (record {
      spelled = spelled (decimal ring.0) (address_text a.0.0 a.0.1) text p.0.0 p.0.1 r.0 (cut_takes 32 text p.0 p.1).0
          (after_takes (codes "at ") p.0.1 r.0 r.1) f.0 h.spelled;
      fits = both_hold _ _ (eq-eqb ring.0 ring.0 refl) (both_hold _ _ f.1 (both_hold _ _ h.fits refl));
    })
  where
    spelled : (ring address text x y r : List ℕ) → text ≡ x ++ 32 ∷ y → y ≡ codes "at " ++ r → ring ≡ x → address ≡ r
        → codes "ring " ++ (ring ++ 32 ∷ (codes "at " ++ address)) ≡ codes "ring " ++ text
    spelled ring address text x y r e f g h = rw (e, f, g, h) refl

denied_result_takes : (text : List ℕ) (ends : Result2) → denied_result text ≡ Some ends → IsResult (codes "denied " ++ text) ends
denied_result_takes text ends e =
    let d = bind_some (denial_at text) _ ends e in
    subst (IsResult (codes "denied " ++ text)) (some_is _ _ d.2)
    (record { spelled = ap (λ x. codes "denied " ++ x) (denial_takes text d.0 d.1); fits = refl })

result_takes : (text : List ℕ) (ends : Result2) → result_at text ≡ Some ends → IsResult text ends
unfolding result_at
result_takes text ends e =
    word_takes IsResult text (codes "done") result.Done ends _ (record { spelled = refl; fits = refl })
    (word_takes IsResult text (codes "refused") result.Refused ends _ (record { spelled = refl; fits = refl })
    (word_takes IsResult text (codes "history_full") result.HistoryFull ends _ (record { spelled = refl; fits = refl })
    (read_or_takes IsResult (codes "a ") text a_at _ ends (λ rest. a_takes rest ends)
    (read_or_takes IsResult (codes "pr ") text pr_at _ ends (λ rest. pr_takes rest ends)
    (read_or_takes IsResult (codes "ring ") text moved_at _ ends (λ rest. moved_takes rest ends)
    (read_or_takes IsResult (codes "denied ") text denied_result None ends (λ rest. denied_result_takes rest ends) (λ e. cc))))))) e

moved_again : (p : PointerParts) → fits_pointer p ≡ true → result_at (result_line (result.Moved p.ring p)) ≡ Some (result.Moved p.ring p)
unfolding result_at after
moved_again p e =
    let g = both (is_ring p.ring) (is_word_address p.segno p.word && not p.further) e in
    let h = both (is_word_address p.segno p.word) (not p.further) g.1 in
    rw (
      cut_again 32 (decimal p.ring) (codes "at " ++ address_text p.segno p.word) (ring_number_free 32 p.ring refl g.0),
      ring_number_again p.ring g.0,
      address_again p.segno p.word h.0,
      ← fails p.further h.1,
    ) refl

result_again : (ends : Result2) → fits_result ends ≡ true → result_at (result_line ends) ≡ Some ends
unfolding result_at after
result_again result.Done e = refl
result_again (result.A word) e = rw (word_again word e) refl
result_again (result.Pr n p) e =
    let f = both (is_register n) (fits_pointer p) e in
    let g = both (is_ring p.ring) (is_word_address p.segno p.word && not p.further) f.1 in
    let h = both (is_word_address p.segno p.word) (not p.further) g.1 in
    rw (
      cut_again 32 (decimal n) (decimal p.ring ++ 32 ∷ address_text p.segno p.word) (ring_number_free 32 n refl f.0),
      cut_again 32 (decimal p.ring) (address_text p.segno p.word) (ring_number_free 32 p.ring refl g.0),
      ring_number_again n f.0,
      ring_number_again p.ring g.0,
      address_again p.segno p.word h.0,
      ← fails p.further h.1,
    ) refl
result_again (result.Moved ring p) e =
    let f = both (p.ring == ring) (fits_pointer p) e in
    subst (λ (n : ℕ). result_at (result_line (result.Moved n p)) ≡ Some (result.Moved n p)) (eqb-true p.ring ring f.0) (moved_again p f.1)
result_again (result.Denied denial) e = rw (denial_again denial) refl
result_again result.Refused e = refl
result_again result.HistoryFull e = refl

-- the line that ends a line
pub end_whole : (ends : ℕ × Result2) → end_text ends ≡ codes "line " ++ (decimal ends.0 ++ 32 ∷ result_line ends.1)
end_whole ends = around (decimal ends.0) (result_text ends.1) ∙ ap (λ r. codes "line " ++ (decimal ends.0 ++ 32 ∷ r)) (result_whole ends.1)
  where
    around : (number text : List ℕ) → codes "line " ++ number ++ codes " " ++ text ≡ codes "line " ++ (number ++ 32 ∷ text)
    around number text = simp append_assoc refl

pub exact_ends : IsExact IsEnd end_at
unfolding end_at after
exact_ends = record { takes = takes; again = again }
  where
    spelled : (number ends text r x y : List ℕ) → text ≡ codes "line " ++ r → r ≡ x ++ 32 ∷ y → number ≡ x → ends ≡ y
        → codes "line " ++ (number ++ 32 ∷ ends) ≡ text
    spelled number ends text r x y e f g h = rw (e, f, g, h) refl

    takes : (text : List ℕ) (ends : ℕ × Result2) → end_at text ≡ Some ends → IsEnd text ends
    takes text ends e =
        let r = bind_some (after (codes "line ") text) _ ends e in
        let p = bind_some (cut_at 32 r.0) _ ends r.2 in
        let n = bind_some (line_number_at p.0.0) _ ends p.2 in
        let d = bind_some (result_at p.0.1) _ ends n.2 in
        let f = line_number_takes p.0.0 n.0 n.1 in
        let g = result_takes p.0.1 d.0 d.1 in
        subst (IsEnd text) (some_is _ _ d.2) (record {
          spelled = end_whole (n.0, d.0)
              ∙ spelled (decimal n.0) (result_line d.0) text r.0 p.0.0 p.0.1 (after_takes (codes "line ") text r.0 r.1)
              (cut_takes 32 r.0 p.0 p.1).0 f.0 g.spelled;
          says = both_hold _ _ f.1 g.fits;
        })

    line_again : (number : ℕ) (ends : Result2) → says_end (number, ends) ≡ true
        → end_at (codes "line " ++ (decimal number ++ 32 ∷ result_line ends)) ≡ Some (number, ends)
    line_again number ends e =
        let f = both (is_line_number number) (fits_result ends) e in
        rw (
          cut_again 32 (decimal number) (result_line ends) (line_number_free 32 number refl f.0),
          line_number_again number f.0,
          result_again ends f.1,
        ) refl

    again : (text : List ℕ) (ends : ℕ × Result2) → IsEnd text ends → end_at text ≡ Some ends
    again text ends is = subst (λ t. end_at t ≡ Some ends) (sym (end_whole ends) ∙ is.spelled) (line_again ends.0 ends.1 is.says)
