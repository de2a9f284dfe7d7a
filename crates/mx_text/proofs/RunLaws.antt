-- A run text is of one run: its lines are found again in it, and a journal and transcripts in its lines.
use Rattle.std.proofs.Common.{◌≡◌, ℕ, ◌==◌, ◌+◌, ◌<◌, ◌≤◌, ◌^◌, Bool, true, false, not, ◌||◌, ◌&&◌, List, [], ◌∷◌, ◌++◌, map, length, codes, refl, ap, sym, ◌∙◌, arith, append_assoc}
use Rattle.std.proofs.lemmas.Bool.Decides.{nat_tests}
use Rattle.std.proofs.lemmas.Fmt.{decimal_injective}
use Rattle.std.proofs.lemmas.List.{append_cancel_left, append_cancel_right}
use Rattle.std.proofs.lemmas.List.Folds.{list_all-append}
use Rattle.std.specs.Cmp.Lexicographic.{pointwise}
use Rattle.std.specs.Fmt.{decimal}
use Rattle.std.specs.List.{list_all}
use Rattle.mx_name.specs.Names.{is_free}
use Rattle.mx_sdw.specs.Denials.{denial_text}
use Rattle.mx_sdw.specs.Octal.{octal}
use Rattle.mx_core.specs.declared.elements.Event.TheVariants.{Seen, Missing}
use Rattle.mx_core.specs.declared.elements.Kind.{Kind}
use Rattle.mx_core.specs.declared.elements.Kind.TheVariants as kind
use Rattle.mx_core.specs.declared.elements.Outcome.{Outcome}
use Rattle.mx_core.specs.declared.elements.Outcome.TheVariants as outcome
use Rattle.mx_transcript.specs.declared.transcripts.Event2.{Event2}
use Rattle.mx_transcript.specs.declared.transcripts.Event2.TheVariants.{Core, Entry}
use Rattle.mx_transcript.specs.declared.transcripts.Result2.{Result2}
use Rattle.mx_transcript.specs.declared.transcripts.Result2.TheVariants as result
use Rattle.mx_transcript.specs.Transcripts.{Step}
use Rattle.mx_request.proofs.AgainLaws.{one_request}
use Rattle.mx_request.proofs.ForeignLaws.{equals_free, free_append, line_free, newline_free}
use Rattle.mx_request.proofs.LineLaws.{same_cut, same_fields}
use Rattle.mx_request.proofs.ReplyLaws.{IsApart, below, decimal_free, one_reply, reply_newline_free}
use Rattle.mx_request.proofs.StepLaws.{both, both_hold, some_is}
use Rattle.mx_request.specs.declared.replies.Reply.{Reply}
use Rattle.mx_request.specs.declared.requests.Request.{Request}
use Rattle.mx_request.specs.Fields.{address_text, line_of}
use Rattle.mx_request.specs.ReplyTexts.{fits_reply, reply_text}
use Rattle.mx_request.proofs.FieldLaws.{at_most}
use Rattle.mx_request.specs.RequestTexts.{fits_request, is_ring, request_text}
use Rattle.mx_script.proofs.ReadingLaws.{lines_text-append}
use Rattle.mx_script.specs.SessionTexts.{lines_text}
use Rattle.mx_state.specs.declared.journal.Entry as journaled
use Rattle.mx_text.proofs.EventLaws.{event_again, event_at, event_fields, event_free, result_again, result_at, result_fields, result_free, word_free}
use Rattle.mx_text.specs.RunText.{element_text, entries_text, entry_text, event_text, events_text, kind_text, parts_text, register_text, result_text, run_text, step_text, steps_text}
use Rattle.mx_spelling.proofs.SaidReplies.{reply_fits}
use Rattle.mx_spelling.specs.Spelling.{IsSpellable, bounds_reply, fits_entry, fits_event, fits_result, fits_step, is_line_number, is_process}
use Rattle.mx_text.proofs.NumberLaws.{is_number, at_most_number, line_number}
use Rattle.mx_text.specs.Spelling.{OneRunLaw}

both_of : {A : Type 0} (x y : A) (xs ys : List A) → x ≡ y → xs ≡ ys → x ∷ xs ≡ y ∷ ys
both_of x y xs ys e f = cc

blank : IsApart 32
blank = record { no_name = refl; no_digit = refl; no_octal = refl; no_letter = refl; no_mark = refl; no_bar = refl; no_colon = refl }

newline : IsApart 10
newline = record { no_name = refl; no_digit = refl; no_octal = refl; no_letter = refl; no_mark = refl; no_bar = refl; no_colon = refl }

-- the lines of a run, each without its newline
abbrev entry_line : ℕ → journaled.Entry → List ℕ
entry_line number entry =
    line_of (decimal number ∷ decimal entry.process ∷ decimal entry.ring ∷ request_text entry.request ∷ codes "="
    ∷ reply_text entry.reply ∷ [])

abbrev entries_lines : ℕ → List journaled.Entry → List (List ℕ)
entries_lines number [] = []
entries_lines number (entry ∷ entries) = entry_line number entry ∷ entries_lines (number + 1) entries

abbrev event_line : Event2 → List ℕ
event_line event = line_of (event_fields event)

abbrev end_fields : ℕ → Result2 → List (List ℕ)
end_fields number ends = codes "line" ∷ decimal number ∷ result_fields ends

abbrev end_line : Step → List ℕ
end_line step = line_of (end_fields step.0 step.2)

abbrev steps_lines : List Step → List (List ℕ)
steps_lines [] = []
steps_lines (step ∷ steps) = map event_line step.1 ++ end_line step ∷ steps_lines steps

abbrev process_line : ℕ → List ℕ
process_line p = codes "process " ++ decimal p

abbrev parts_lines : ℕ → List (List Step) → List (List ℕ)
parts_lines p [] = codes "end" ∷ []
parts_lines p (steps ∷ parts) = process_line p ∷ steps_lines steps ++ parts_lines (p + 1) parts

abbrev count_line : ℕ → List ℕ
count_line count = codes "journal " ++ decimal count

abbrev run_lines : List journaled.Entry → List (List Step) → List (List ℕ)
run_lines journal transcripts = count_line (length journal) ∷ entries_lines 1 journal ++ parts_lines 0 transcripts

-- a line of fields, and what stands behind it
abbrev behind_line : List (List ℕ) → List ℕ → List ℕ
behind_line [] rest = rest
behind_line (x ∷ []) rest = x ++ rest
behind_line (x ∷ y ∷ fields) rest = x ++ 32 ∷ behind_line (y ∷ fields) rest

with_rest : (fields : List (List ℕ)) (rest : List ℕ) → line_of fields ++ rest ≡ behind_line fields rest
with_rest [] rest = refl
with_rest (x ∷ []) rest = refl
with_rest (x ∷ y ∷ fields) rest =
    append_assoc x (32 ∷ line_of (y ∷ fields)) rest ∙ ap (λ text. x ++ 32 ∷ text) (with_rest (y ∷ fields) rest)

event_whole : (event : Event2) → event_text event ≡ event_line event ++ 10 ∷ []
event_whole (Core (Seen e)) = by_outcome e.outcome ∙ sym (with_rest (event_fields (Core (Seen e))) (10 ∷ []))
  where
    by_outcome : (came : Outcome) → element_text (record e { outcome = came })
        ≡ behind_line (event_fields (Core (Seen (record e { outcome = came })))) (10 ∷ [])
    by_outcome (outcome.Read value writer stamp) = simp append_assoc
    by_outcome (outcome.Written value) = simp append_assoc
    by_outcome (outcome.Entered ring) = simp append_assoc
    by_outcome (outcome.Denied denial) = simp append_assoc
event_whole (Core (Missing segno by)) = spelled ∙ sym (with_rest (event_fields (Core (Missing segno by))) (10 ∷ []))
  where
    spelled : event_text (Core (Missing segno by)) ≡ behind_line (event_fields (Core (Missing segno by))) (10 ∷ [])
    spelled = simp append_assoc refl
event_whole (Entry number) = spelled ∙ sym (with_rest (event_fields (Entry number)) (10 ∷ []))
  where
    spelled : event_text (Entry number) ≡ behind_line (event_fields (Entry number)) (10 ∷ [])
    spelled = simp append_assoc refl

one_more : (x text rest : List ℕ) → x ≡ text ++ 10 ∷ [] → x ++ rest ≡ text ++ 10 ∷ rest
one_more x text rest e = ap (λ t. t ++ rest) e ∙ append_assoc text (10 ∷ []) rest

events_whole : (events : List Event2) (rest : List ℕ) → events_text events ++ rest ≡ lines_text (map event_line events) ++ rest
events_whole [] rest = refl
events_whole (event ∷ events) rest =
    append_assoc (event_text event) (events_text events) rest
    ∙ ap (λ text. event_text event ++ text) (events_whole events rest)
    ∙ one_more (event_text event) (event_line event) (lines_text (map event_line events) ++ rest) (event_whole event)
    ∙ sym (append_assoc (event_line event) (10 ∷ lines_text (map event_line events)) rest)

end_whole : (number : ℕ) (ends : Result2) (rest : List ℕ) → behind_line (end_fields number ends) (10 ∷ rest)
    ≡ line_of (end_fields number ends) ++ 10 ∷ rest
end_whole number ends rest = sym (with_rest (end_fields number ends) (10 ∷ rest))

behind_events : (e a b c d f rest : List ℕ) → (e ++ a ++ b ++ c ++ d ++ f) ++ rest ≡ e ++ ((a ++ b ++ c ++ d ++ f) ++ rest)
behind_events e a b c d f rest = simp append_assoc

step_whole : (step : Step) (rest : List ℕ) → step_text step ++ rest
    ≡ lines_text (map event_line step.1) ++ (end_line step ++ 10 ∷ rest)
step_whole step rest =
    behind_events (events_text step.1) (codes "line ") (decimal step.0) (codes " ") (result_text step.2) (codes "\n") rest
    ∙ events_whole step.1 _
    ∙ ap (λ text. lines_text (map event_line step.1) ++ text) (by_result step.2 ∙ end_whole step.0 step.2 rest)
  where
    around : (text : List ℕ) → (codes "line " ++ decimal step.0 ++ codes " " ++ text ++ codes "\n") ++ rest
        ≡ codes "line " ++ (decimal step.0 ++ (codes " " ++ (text ++ 10 ∷ rest)))
    around text =
        append_assoc (codes "line " ++ decimal step.0 ++ codes " " ++ text) (codes "\n") rest
        ∙ append_assoc (codes "line " ++ decimal step.0 ++ codes " ") text (10 ∷ rest)
        ∙ append_assoc (codes "line " ++ decimal step.0) (codes " ") (text ++ 10 ∷ rest)
        ∙ append_assoc (codes "line ") (decimal step.0) (codes " " ++ (text ++ 10 ∷ rest))

    in_line : (x y : List ℕ) → x ≡ y
        → codes "line " ++ (decimal step.0 ++ (codes " " ++ x)) ≡ codes "line " ++ (decimal step.0 ++ (codes " " ++ y))
    in_line x y e = ap (λ text. codes "line " ++ (decimal step.0 ++ (codes " " ++ text))) e

    by_register : (n ring : ℕ) (address : List ℕ) → (codes "pr " ++ (decimal n ++ codes " " ++ decimal ring ++ codes " " ++ address)) ++ 10 ∷ rest
        ≡ codes "pr " ++ (decimal n ++ (codes " " ++ (decimal ring ++ (codes " " ++ (address ++ 10 ∷ rest)))))
    by_register n ring address =
        append_assoc (codes "pr ") (decimal n ++ codes " " ++ decimal ring ++ codes " " ++ address) (10 ∷ rest)
        ∙ ap (λ text. codes "pr " ++ text)
        (append_assoc (decimal n ++ codes " " ++ decimal ring ++ codes " ") address (10 ∷ rest)
        ∙ append_assoc (decimal n ++ codes " " ++ decimal ring) (codes " ") (address ++ 10 ∷ rest)
        ∙ append_assoc (decimal n ++ codes " ") (decimal ring) (codes " " ++ (address ++ 10 ∷ rest))
        ∙ append_assoc (decimal n) (codes " ") (decimal ring ++ (codes " " ++ (address ++ 10 ∷ rest))))

    by_procedure : (ring : ℕ) (address : List ℕ) → (codes "ring " ++ decimal ring ++ codes " at " ++ address) ++ 10 ∷ rest
        ≡ codes "ring " ++ (decimal ring ++ (codes " at " ++ (address ++ 10 ∷ rest)))
    by_procedure ring address =
        append_assoc (codes "ring " ++ decimal ring ++ codes " at ") address (10 ∷ rest)
        ∙ append_assoc (codes "ring " ++ decimal ring) (codes " at ") (address ++ 10 ∷ rest)
        ∙ append_assoc (codes "ring ") (decimal ring) (codes " at " ++ (address ++ 10 ∷ rest))

    by_result : (ends : Result2) → (codes "line " ++ decimal step.0 ++ codes " " ++ result_text ends ++ codes "\n") ++ rest
        ≡ behind_line (end_fields step.0 ends) (10 ∷ rest)
    by_result result.Done = around (codes "done")
    by_result (result.A word) =
        around (codes "a " ++ octal word) ∙ in_line _ _ (append_assoc (codes "a ") (octal word) (10 ∷ rest))
    by_result (result.Pr n p) =
        around (codes "pr " ++ register_text n p) ∙ in_line _ _ (by_register n p.ring (address_text p.segno p.word))
    by_result (result.Moved ring p) =
        around (codes "ring " ++ decimal ring ++ codes " at " ++ address_text p.segno p.word)
        ∙ in_line _ _ (by_procedure ring (address_text p.segno p.word))
    by_result (result.Denied denial) =
        around (codes "denied " ++ denial_text denial) ∙ in_line _ _ (append_assoc (codes "denied ") (denial_text denial) (10 ∷ rest))
    by_result result.Refused = around (codes "refused")
    by_result result.HistoryFull = around (codes "history_full")

steps_whole : (steps : List Step) → steps_text steps ≡ lines_text (steps_lines steps)
steps_whole [] = refl
steps_whole (step ∷ steps) =
    step_whole step (steps_text steps)
    ∙ ap (λ text. lines_text (map event_line step.1) ++ (end_line step ++ 10 ∷ text)) (steps_whole steps)
    ∙ sym (lines_text-append (map event_line step.1) (end_line step ∷ steps_lines steps))

heading_behind : (a b c d f rest : List ℕ) → (a ++ b ++ c ++ d ++ f) ++ rest ≡ a ++ (b ++ (c ++ (d ++ (f ++ rest))))
heading_behind a b c d f rest = simp append_assoc

parts_whole : (p : ℕ) (parts : List (List Step)) → parts_text p parts ++ codes "end\n" ≡ lines_text (parts_lines p parts)
parts_whole p [] = refl
parts_whole p (steps ∷ parts) =
    heading_behind (codes "process ") (decimal p) (codes "\n") (steps_text steps) (parts_text (p + 1) parts) (codes "end\n")
    ∙ ap (λ text. codes "process " ++ (decimal p ++ 10 ∷ text))
    (ap (λ text. text ++ (parts_text (p + 1) parts ++ codes "end\n")) (steps_whole steps)
    ∙ ap (λ text. lines_text (steps_lines steps) ++ text) (parts_whole (p + 1) parts)
    ∙ sym (lines_text-append (steps_lines steps) (parts_lines (p + 1) parts)))

entry_whole : (number : ℕ) (entry : journaled.Entry) → entry_text number entry ≡ entry_line number entry ++ 10 ∷ []
entry_whole number entry =
    spelled ∙ sym (with_rest (decimal number ∷ decimal entry.process ∷ decimal entry.ring ∷ request_text entry.request ∷ codes "="
    ∷ reply_text entry.reply ∷ []) (10 ∷ []))
  where
    spelled : entry_text number entry ≡ behind_line (decimal number ∷ decimal entry.process ∷ decimal entry.ring
        ∷ request_text entry.request ∷ codes "=" ∷ reply_text entry.reply ∷ []) (10 ∷ [])
    spelled = simp append_assoc

entries_whole : (number : ℕ) (entries : List journaled.Entry) → entries_text number entries ≡ lines_text (entries_lines number entries)
entries_whole number [] = refl
entries_whole number (entry ∷ entries) =
    ap (λ text. entry_text number entry ++ text) (entries_whole (number + 1) entries)
    ∙ one_more (entry_text number entry) (entry_line number entry) (lines_text (entries_lines (number + 1) entries)) (entry_whole number entry)

run_whole : (journal : List journaled.Entry) (transcripts : List (List Step)) → run_text journal transcripts
    ≡ lines_text (run_lines journal transcripts)
run_whole journal transcripts =
    heading_behind (codes "journal ") (decimal (length journal)) (codes "\n") (entries_text 1 journal) (parts_text 0 transcripts)
    (codes "end\n")
    ∙ ap (λ text. codes "journal " ++ (decimal (length journal) ++ 10 ∷ text))
    (ap (λ text. text ++ (parts_text 0 transcripts ++ codes "end\n")) (entries_whole 1 journal)
    ∙ ap (λ text. lines_text (entries_lines 1 journal) ++ text) (parts_whole 0 transcripts)
    ∙ sym (lines_text-append (entries_lines 1 journal) (parts_lines 0 transcripts)))

-- lists of lines without newlines
same_lines : (xs ys : List (List ℕ)) → list_all (is_free 10) xs ≡ true → list_all (is_free 10) ys ≡ true → lines_text xs ≡ lines_text ys
    → xs ≡ ys
same_lines [] [] a b e = refl
same_lines [] ([] ∷ ys) a b e = absurd (cc)
same_lines [] ((c ∷ y) ∷ ys) a b e = absurd (cc)
same_lines ([] ∷ xs) [] a b e = absurd (cc)
same_lines ((c ∷ x) ∷ xs) [] a b e = absurd (cc)
same_lines (x ∷ xs) (y ∷ ys) a b e =
    let f = both (is_free 10 x) (list_all (is_free 10) xs) a in
    let g = both (is_free 10 y) (list_all (is_free 10) ys) b in
    let same = same_cut 10 x y (lines_text xs) (lines_text ys) f.0 g.0 e in
    both_of x y xs ys same.0 (same_lines xs ys f.1 g.1 same.1)

-- lists whose lines are the same
same_map : {A : Type 0} (line : A → List ℕ) (fits : A → Bool)
    → ((x y : A) → fits x ≡ true → fits y ≡ true → line x ≡ line y → x ≡ y) → (xs ys : List A) → list_all fits xs ≡ true
    → list_all fits ys ≡ true → map line xs ≡ map line ys → xs ≡ ys
same_map line fits one [] [] a b e = refl
same_map line fits one [] (y ∷ ys) a b e = absurd (cc)
same_map line fits one (x ∷ xs) [] a b e = absurd (cc)
same_map line fits one (x ∷ xs) (y ∷ ys) a b e =
    let f = both (fits x) (list_all fits xs) a in
    let g = both (fits y) (list_all fits ys) b in
    both_of x y xs ys (one x y f.0 g.0 (first e)) (same_map line fits one xs ys f.1 g.1 (rest e))
  where
    first : line x ∷ map line xs ≡ line y ∷ map line ys → line x ≡ line y
    first e = cc

    rest : line x ∷ map line xs ≡ line y ∷ map line ys → map line xs ≡ map line ys
    rest e = cc

-- lists up to the first line with a mark
record AreSplit (xs ys : List (List ℕ)) (a b : List ℕ) (r s : List (List ℕ)) : Type 0 where
  pub fronts : xs ≡ ys
  pub marked : a ≡ b
  pub rests : r ≡ s

first_of : (x y : List ℕ) (xs ys : List (List ℕ)) → x ∷ xs ≡ y ∷ ys → x ≡ y
first_of x y xs ys e = cc

rest_of : (x y : List ℕ) (xs ys : List (List ℕ)) → x ∷ xs ≡ y ∷ ys → xs ≡ ys
rest_of x y xs ys e = cc

other_mark : (mark : List ℕ → Bool) (x y : List ℕ) → not (mark x) ≡ true → mark y ≡ true → x ≡ y → ⊥
other_mark mark x y a b e = differ (mark y) (ap (λ z. not (mark z)) (sym e) ∙ a) b
  where
    differ : (m : Bool) → not m ≡ true → m ≡ true → ⊥
    differ true a b = cc
    differ false a b = cc

split_marked : (mark : List ℕ → Bool) (xs ys : List (List ℕ)) (a b : List ℕ) (r s : List (List ℕ))
    → list_all (λ x. not (mark x)) xs ≡ true → list_all (λ x. not (mark x)) ys ≡ true → mark a ≡ true → mark b ≡ true
    → xs ++ a ∷ r ≡ ys ++ b ∷ s → AreSplit xs ys a b r s
split_marked mark [] [] a b r s p q m n e = record { fronts = refl; marked = first_of a b r s e; rests = rest_of a b r s e }
split_marked mark [] (y ∷ ys) a b r s p q m n e =
    absurd (other_mark mark y a (both (not (mark y)) _ q).0 m (sym (first_of a y r (ys ++ b ∷ s) e)))
split_marked mark (x ∷ xs) [] a b r s p q m n e =
    absurd (other_mark mark x b (both (not (mark x)) _ p).0 n (first_of x b (xs ++ a ∷ r) s e))
split_marked mark (x ∷ xs) (y ∷ ys) a b r s p q m n e =
    let f = both (not (mark x)) (list_all (λ x. not (mark x)) xs) p in
    let g = both (not (mark y)) (list_all (λ x. not (mark x)) ys) q in
    let on = split_marked mark xs ys a b r s f.1 g.1 m n (rest_of x y (xs ++ a ∷ r) (ys ++ b ∷ s) e) in
    record {
      fronts = both_of x y xs ys (first_of x y (xs ++ a ∷ r) (ys ++ b ∷ s) e) on.fronts;
      marked = on.marked;
      rests = on.rests;
    }

-- events
some_field : (event : Event2) → 1 ≤ length (event_fields event)
some_field (Core (Seen e)) = omega arith
some_field (Core (Missing segno by)) = omega arith
some_field (Entry number) = omega arith

one_event : (one other : Event2) → fits_event one ≡ true → fits_event other ≡ true → event_line one ≡ event_line other → one ≡ other
one_event one other e f same =
    let fields = same_fields (event_fields one) (event_fields other) (some_field one) (some_field other)
    (event_free 32 blank refl one e) (event_free 32 blank refl other f) same in
    some_is _ _ (sym (event_again one e) ∙ ap event_at fields ∙ event_again other f)

-- ends of lines
end_free : (byte : ℕ) → IsApart byte → (124 == byte) ≡ false → (number : ℕ) (ends : Result2) → is_number number ≡ true
    → fits_result ends ≡ true → list_all (is_free byte) (end_fields number ends) ≡ true
end_free byte apart bar number ends e f =
    both_hold _ _ (word_free byte apart bar (codes "line") refl)
    (both_hold _ _ (decimal_free byte number apart.no_digit e) (result_free byte apart bar ends f))

one_number : (n m : ℕ) → is_number n ≡ true → is_number m ≡ true → decimal n ≡ decimal m → n ≡ m
one_number n m e f same = decimal_injective n m (below n e) (below m f) same

second_of : (w x y : List ℕ) (xs ys : List (List ℕ)) → w ∷ x ∷ xs ≡ w ∷ y ∷ ys → (x ≡ y) × (xs ≡ ys)
second_of w x y xs ys e = (cc, cc)

one_end : (n m : ℕ) (one other : Result2) → is_number n ≡ true → is_number m ≡ true → fits_result one ≡ true
    → fits_result other ≡ true → line_of (end_fields n one) ≡ line_of (end_fields m other) → (n ≡ m) × (one ≡ other)
one_end n m one other e f g h same =
    let fields = same_fields (end_fields n one) (end_fields m other) (omega arith) (omega arith)
    (end_free 32 blank refl n one e g) (end_free 32 blank refl m other f h) same in
    let parts = second_of (codes "line") (decimal n) (decimal m) (result_fields one) (result_fields other) fields in
    (one_number n m e f parts.0, some_is _ _ (sym (result_again one g) ∙ ap result_at parts.1 ∙ result_again other h))

-- marks: the end of a line begins with `l`; what follows a process's lines is the next process or the end
abbrev begins : ℕ → List ℕ → Bool
begins c [] = false
begins c (d ∷ ds) = d == c

abbrev is_end : List ℕ → Bool
is_end text = begins 108 text

abbrev is_head : List ℕ → Bool
is_head text = begins 112 text || pointwise ◌==◌ text (codes "end")

no_end : (event : Event2) → not (is_end (event_line event)) ≡ true
no_end (Core (Seen e)) = by_kind e.kind _
  where
    by_kind : (k : Kind) (rest : List ℕ) → not (is_end (kind_text k ++ 32 ∷ rest)) ≡ true
    by_kind kind.Read rest = refl
    by_kind kind.Ind rest = refl
    by_kind kind.Write rest = refl
    by_kind kind.Fetch rest = refl
    by_kind kind.Call rest = refl
    by_kind kind.Return rest = refl
no_end (Core (Missing segno by)) = refl
no_end (Entry number) = refl

no_head : (event : Event2) → not (is_head (event_line event)) ≡ true
no_head (Core (Seen e)) = by_kind e.kind _
  where
    by_kind : (k : Kind) (rest : List ℕ) → not (is_head (kind_text k ++ 32 ∷ rest)) ≡ true
    by_kind kind.Read rest = refl
    by_kind kind.Ind rest = refl
    by_kind kind.Write rest = refl
    by_kind kind.Fetch rest = refl
    by_kind kind.Call rest = refl
    by_kind kind.Return rest = refl
no_head (Core (Missing segno by)) = refl
no_head (Entry number) = refl

all_lines : (p : List ℕ → Bool) → ((event : Event2) → p (event_line event) ≡ true) → (events : List Event2)
    → list_all p (map event_line events) ≡ true
all_lines p each [] = refl
all_lines p each (event ∷ events) = both_hold _ _ (each event) (all_lines p each events)

no_heads : (steps : List Step) → list_all (λ x. not (is_head x)) (steps_lines steps) ≡ true
no_heads [] = refl
no_heads (step ∷ steps) =
    list_all-append _ (map event_line step.1) (end_line step ∷ steps_lines steps)
    ∙ both_hold _ _ (all_lines (λ x. not (is_head x)) no_head step.1) (both_hold _ _ refl (no_heads steps))

-- lines of a transcript
not_nil : (xs : List (List ℕ)) (a : List ℕ) (r : List (List ℕ)) → [] ≡ xs ++ a ∷ r → ⊥
not_nil [] a r e = cc
not_nil (x ∷ xs) a r e = cc

same_step : (x y : Step) → x.0 ≡ y.0 → x.1 ≡ y.1 → x.2 ≡ y.2 → x ≡ y
same_step (a, b, c) (d, e, f) p q r = cc

one_steps : (xs ys : List Step) → list_all fits_step xs ≡ true → list_all fits_step ys ≡ true → steps_lines xs ≡ steps_lines ys → xs ≡ ys
one_steps [] [] a b e = refl
one_steps [] (y ∷ ys) a b e = absurd (not_nil (map event_line y.1) (end_line y) (steps_lines ys) e)
one_steps (x ∷ xs) [] a b e = absurd (not_nil (map event_line x.1) (end_line x) (steps_lines xs) (sym e))
one_steps (x ∷ xs) (y ∷ ys) a b e =
    let f = both (fits_step x) (list_all fits_step xs) a in
    let g = both (fits_step y) (list_all fits_step ys) b in
    let fx = both (is_line_number x.0) (list_all fits_event x.1 && fits_result x.2) f.0 in
    let gy = both (is_line_number y.0) (list_all fits_event y.1 && fits_result y.2) g.0 in
    let fe = both (list_all fits_event x.1) (fits_result x.2) fx.1 in
    let ge = both (list_all fits_event y.1) (fits_result y.2) gy.1 in
    let parts = split_marked is_end (map event_line x.1) (map event_line y.1) (end_line x) (end_line y) (steps_lines xs) (steps_lines ys)
    (all_lines (λ z. not (is_end z)) no_end x.1) (all_lines (λ z. not (is_end z)) no_end y.1) refl refl e in
    let ends = one_end x.0 y.0 x.2 y.2 (line_number x.0 fx.0) (line_number y.0 gy.0) fe.1 ge.1 parts.marked in
    let events = same_map event_line fits_event one_event x.1 y.1 fe.0 ge.0 parts.fronts in
    joined x y xs ys (same_step x y ends.0 events ends.1) (one_steps xs ys f.1 g.1 parts.rests)
  where
    joined : (x y : Step) (xs ys : List Step) → x ≡ y → xs ≡ ys → x ∷ xs ≡ y ∷ ys
    joined x y xs ys e f = cc

-- parts
record IsHeaded (lines : List (List ℕ)) : Type 0 where
  pub head : List ℕ
  pub rest : List (List ℕ)
  pub whole : lines ≡ head ∷ rest
  pub mark : is_head head ≡ true

headed : (p : ℕ) (parts : List (List Step)) → IsHeaded (parts_lines p parts)
headed p [] = record { head = codes "end"; rest = []; whole = refl; mark = refl }
headed p (steps ∷ parts) =
    record { head = process_line p; rest = steps_lines steps ++ parts_lines (p + 1) parts; whole = refl; mark = refl }

no_process : (p : ℕ) (xs ys : List (List ℕ)) → codes "end" ∷ xs ≡ process_line p ∷ ys → ⊥
no_process p xs ys e = differ (ap (begins 112) (first_of (codes "end") (process_line p) xs ys e))
  where
    differ : false ≡ true → ⊥
    differ e = cc

one_parts : (p : ℕ) (xs ys : List (List Step)) → list_all (list_all fits_step) xs ≡ true → list_all (list_all fits_step) ys ≡ true
    → parts_lines p xs ≡ parts_lines p ys → xs ≡ ys
one_parts p [] [] a b e = refl
one_parts p [] (y ∷ ys) a b e = absurd (no_process p [] (steps_lines y ++ parts_lines (p + 1) ys) e)
one_parts p (x ∷ xs) [] a b e = absurd (no_process p [] (steps_lines x ++ parts_lines (p + 1) xs) (sym e))
one_parts p (x ∷ xs) (y ∷ ys) a b e =
    let f = both (list_all fits_step x) (list_all (list_all fits_step) xs) a in
    let g = both (list_all fits_step y) (list_all (list_all fits_step) ys) b in
    let h = headed (p + 1) xs in
    let k = headed (p + 1) ys in
    let lines : steps_lines x ++ h.head ∷ h.rest ≡ steps_lines y ++ k.head ∷ k.rest
    = ap (λ r. steps_lines x ++ r) (sym h.whole)
    ∙ rest_of (process_line p) (process_line p) (steps_lines x ++ parts_lines (p + 1) xs) (steps_lines y ++ parts_lines (p + 1) ys) e
    ∙ ap (λ r. steps_lines y ++ r) k.whole in
    let parts = split_marked is_head (steps_lines x) (steps_lines y) h.head k.head h.rest k.rest (no_heads x) (no_heads y) h.mark k.mark lines in
    let later : parts_lines (p + 1) xs ≡ parts_lines (p + 1) ys
    = h.whole ∙ both_of h.head k.head h.rest k.rest parts.marked parts.rests ∙ sym k.whole in
    joined x y xs ys (one_steps x y f.0 g.0 parts.fronts) (one_parts (p + 1) xs ys f.1 g.1 later)
  where
    joined : (x y : List Step) (xs ys : List (List Step)) → x ≡ y → xs ≡ ys → x ∷ xs ≡ y ∷ ys
    joined x y xs ys e f = cc

-- entries
same_entry : (x y : journaled.Entry) → x.process ≡ y.process → x.ring ≡ y.ring → x.request ≡ y.request → x.reply ≡ y.reply → x ≡ y
same_entry x y p q r s =
    let f : ℕ → ℕ → Request → Reply → journaled.Entry
    = λ a b c d. record { process = a; ring = b; request = c; reply = d } in
    ap (λ a. f a x.ring x.request x.reply) p
    ∙ ap (λ b. f y.process b x.request x.reply) q
    ∙ ap (λ c. f y.process y.ring c x.reply) r
    ∙ ap (λ d. f y.process y.ring y.request d) s

last_cut : (xs ys : List ℕ) → xs ++ 32 ∷ [] ≡ ys ++ 32 ∷ [] → xs ≡ ys
last_cut xs ys e = append_cancel_right xs ys (32 ∷ []) e

behind_blank : (xs ys : List ℕ) → 32 ∷ xs ≡ 32 ∷ ys → xs ≡ ys
behind_blank xs ys e = cc

record HasParts (entry : journaled.Entry) : Type 0 where
  process : is_number entry.process ≡ true
  ring : is_number entry.ring ≡ true
  request : fits_request entry.request ≡ true
  reply : fits_reply entry.reply ≡ true

entry_parts : (entry : journaled.Entry) → fits_entry entry ≡ true → HasParts entry
entry_parts entry e =
    let f = both (is_process entry.process) (is_ring entry.ring && (fits_request entry.request && bounds_reply entry.reply)) e in
    let g = both (is_ring entry.ring) (fits_request entry.request && bounds_reply entry.reply) f.1 in
    let h = both (fits_request entry.request) (bounds_reply entry.reply) g.1 in
    record {
      process = at_most_number entry.process 15 (omega arith) f.0;
      ring = at_most_number entry.ring 7 (omega arith) g.0;
      request = h.0;
      reply = reply_fits entry.reply h.1;
    }

one_entry : (number : ℕ) (x y : journaled.Entry) → fits_entry x ≡ true → fits_entry y ≡ true → entry_line number x ≡ entry_line number y → x ≡ y
one_entry number x y e f same =
    let ex = entry_parts x e in
    let fy = entry_parts y f in
    let a = behind_blank _ _ (append_cancel_left (decimal number) _ _ same) in
    let b = same_cut 32 (decimal x.process) (decimal y.process) _ _ (decimal_free 32 x.process refl ex.process) (decimal_free 32 y.process refl fy.process) a in
    let c = same_cut 32 (decimal x.ring) (decimal y.ring) _ _ (decimal_free 32 x.ring refl ex.ring) (decimal_free 32 y.ring refl fy.ring) b.1 in
    let d = same_cut 61 (request_text x.request ++ 32 ∷ []) (request_text y.request ++ 32 ∷ []) (32 ∷ reply_text x.reply) (32 ∷ reply_text y.reply)
    (free_append 61 (request_text x.request) (32 ∷ []) (equals_free x.request ex.request) refl)
    (free_append 61 (request_text y.request) (32 ∷ []) (equals_free y.request fy.request) refl)
    (append_assoc (request_text x.request) (32 ∷ []) (61 ∷ 32 ∷ reply_text x.reply) ∙ c.1
    ∙ sym (append_assoc (request_text y.request) (32 ∷ []) (61 ∷ 32 ∷ reply_text y.reply))) in
    same_entry x y (one_number x.process y.process ex.process fy.process b.0) (one_number x.ring y.ring ex.ring fy.ring c.0)
    (one_request x.request y.request ex.request fy.request (last_cut (request_text x.request) (request_text y.request) d.0))
    (one_reply x.reply y.reply ex.reply fy.reply (behind_blank (reply_text x.reply) (reply_text y.reply) d.1))

one_journal : (number : ℕ) (xs ys : List journaled.Entry) (r s : List (List ℕ)) → length xs ≡ length ys → list_all fits_entry xs ≡ true
    → list_all fits_entry ys ≡ true → entries_lines number xs ++ r ≡ entries_lines number ys ++ s → (xs ≡ ys) × (r ≡ s)
one_journal number [] [] r s n a b e = (refl, e)
one_journal number [] (y ∷ ys) r s n a b e = absurd (omega (arith, n))
one_journal number (x ∷ xs) [] r s n a b e = absurd (omega (arith, n))
one_journal number (x ∷ xs) (y ∷ ys) r s n a b e =
    let f = both (fits_entry x) (list_all fits_entry xs) a in
    let g = both (fits_entry y) (list_all fits_entry ys) b in
    let first = first_of (entry_line number x) (entry_line number y) _ _ e in
    let rest = rest_of (entry_line number x) (entry_line number y) _ _ e in
    let on = one_journal (number + 1) xs ys r s (omega (arith, n)) f.1 g.1 rest in
    (joined x y xs ys (one_entry number x y f.0 g.0 first) on.0, on.1)
  where
    joined : (x y : journaled.Entry) (xs ys : List journaled.Entry) → x ≡ y → xs ≡ ys → x ∷ xs ≡ y ∷ ys
    joined x y xs ys e f = cc

small : (n : ℕ) → n < 2 ^ 64 → is_number n ≡ true
small n h = grind (arith, nat_tests)

-- no line has a newline
event_line_free : (event : Event2) → fits_event event ≡ true → is_free 10 (event_line event) ≡ true
event_line_free event e = line_free 10 (event_fields event) refl (event_free 10 newline refl event e)

event_lines_free : (events : List Event2) → list_all fits_event events ≡ true → list_all (is_free 10) (map event_line events) ≡ true
event_lines_free [] e = refl
event_lines_free (event ∷ events) e =
    let f = both (fits_event event) (list_all fits_event events) e in
    both_hold _ _ (event_line_free event f.0) (event_lines_free events f.1)

steps_free : (steps : List Step) → list_all fits_step steps ≡ true → list_all (is_free 10) (steps_lines steps) ≡ true
steps_free [] e = refl
steps_free (step ∷ steps) e =
    let f = both (fits_step step) (list_all fits_step steps) e in
    let g = both (is_line_number step.0) (list_all fits_event step.1 && fits_result step.2) f.0 in
    let h = both (list_all fits_event step.1) (fits_result step.2) g.1 in
    list_all-append _ (map event_line step.1) (end_line step ∷ steps_lines steps)
    ∙ both_hold _ _ (event_lines_free step.1 h.0)
    (both_hold _ _ (line_free 10 (end_fields step.0 step.2) refl (end_free 10 newline refl step.0 step.2 (line_number step.0 g.0) h.1)) (steps_free steps f.1))

parts_free : (p : ℕ) (parts : List (List Step)) → p + length parts < 2 ^ 64 → list_all (list_all fits_step) parts ≡ true
    → list_all (is_free 10) (parts_lines p parts) ≡ true
parts_free p [] h e = refl
parts_free p (steps ∷ parts) h e =
    let f = both (list_all fits_step steps) (list_all (list_all fits_step) parts) e in
    both_hold _ _ (free_append 10 (codes "process ") (decimal p) refl (decimal_free 10 p refl (small p (omega (arith, h)))))
    (list_all-append _ (steps_lines steps) (parts_lines (p + 1) parts)
    ∙ both_hold _ _ (steps_free steps f.0) (parts_free (p + 1) parts (omega (arith, h)) f.1))

entries_free : (number : ℕ) (entries : List journaled.Entry) → number + length entries ≤ 2 ^ 64 → list_all fits_entry entries ≡ true
    → list_all (is_free 10) (entries_lines number entries) ≡ true
entries_free number [] h e = refl
entries_free number (entry ∷ entries) h e =
    let f = both (fits_entry entry) (list_all fits_entry entries) e in
    let g = entry_parts entry f.0 in
    both_hold _ _ (line_free 10 (decimal number ∷ decimal entry.process ∷ decimal entry.ring ∷ request_text entry.request ∷ codes "="
    ∷ reply_text entry.reply ∷ []) refl
    (both_hold _ _ (decimal_free 10 number refl (small number (omega (arith, h))))
    (both_hold _ _ (decimal_free 10 entry.process refl g.process)
    (both_hold _ _ (decimal_free 10 entry.ring refl g.ring)
    (both_hold _ _ (newline_free entry.request g.request)
    (both_hold _ _ refl (both_hold _ _ (reply_newline_free entry.reply g.reply) refl)))))))
    (entries_free (number + 1) entries (omega (arith, h)) f.1)

run_free : (journal : List journaled.Entry) (transcripts : List (List Step)) → IsSpellable journal transcripts
    → list_all (is_free 10) (run_lines journal transcripts) ≡ true
run_free journal transcripts is =
    both_hold _ _ (free_append 10 (codes "journal ") (decimal (length journal)) refl (decimal_free 10 (length journal) refl (at_most_number (length journal) 262143 (omega arith) is.count)))
    (list_all-append _ (entries_lines 1 journal) (parts_lines 0 transcripts)
    ∙ both_hold _ _ (entries_free 1 journal (omega (arith, at_most (length journal) 262143 is.count)) is.entries)
    (parts_free 0 transcripts (omega (arith, at_most (length transcripts) 16 is.parts)) is.steps))

-- two runs that have one text are the same
pub one_run : OneRunLaw
one_run one other transcripts others a b e =
    let lines = same_lines (run_lines one transcripts) (run_lines other others) (run_free one transcripts a) (run_free other others b)
    (sym (run_whole one transcripts) ∙ e ∙ run_whole other others) in
    let count = first_of (count_line (length one)) (count_line (length other)) _ _ lines in
    let rest = rest_of (count_line (length one)) (count_line (length other)) _ _ lines in
    let same : length one ≡ length other
    = one_number (length one) (length other) (at_most_number (length one) 262143 (omega arith) a.count)
    (at_most_number (length other) 262143 (omega arith) b.count) (append_cancel_left (codes "journal ") _ _ count) in
    let journals = one_journal 1 one other (parts_lines 0 transcripts) (parts_lines 0 others) same a.entries b.entries rest in
    (journals.0, one_parts 0 transcripts others a.steps b.steps journals.1)
