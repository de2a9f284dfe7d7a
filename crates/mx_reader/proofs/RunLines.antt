-- The lines of a run: its text is that of these lines, and none of them has a newline.
use Rattle.std.proofs.Common.{◌≡◌, ℕ, ◌+◌, ◌<◌, ◌≤◌, ◌^◌, Bool, true, ◌&&◌, List, [], ◌∷◌, ◌++◌, length, map, codes, refl, ap, sym, ◌∙◌, subst, append_assoc, arith}
use Rattle.std.proofs.lemmas.List.Folds.{list_all-append}
use Rattle.std.specs.Fmt.{decimal}
use Rattle.std.specs.List.{list_all}
use Rattle.mx_core.specs.declared.elements.Event.TheVariants.{Seen, Missing}
use Rattle.mx_core.specs.declared.elements.Outcome.{Outcome}
use Rattle.mx_core.specs.declared.elements.Outcome.TheVariants as outcome
use Rattle.mx_name.specs.Names.{is_free}
use Rattle.mx_reader.proofs.EntryLaws.{entry_line, entry_whole}
use Rattle.mx_reader.proofs.EventLaws.{end_whole, event_line, event_whole, result_line}
use Rattle.mx_reader.proofs.FieldLaws.{line_number_free, process_free, ring_number_free}
use Rattle.mx_reader.specs.Lines.{end_text, says_end, says_entry}
use Rattle.mx_reader.specs.RunTexts.{says_event, tells_outcome, tells_path}
use Rattle.mx_request.proofs.FieldLaws.{at_most, number_free}
use Rattle.mx_request.proofs.ForeignLaws.{free_append, line_free, newline_free}
use Rattle.mx_request.proofs.ReplyLaws.{IsApart, reply_newline_free}
use Rattle.mx_request.proofs.StepLaws.{both, both_hold}
use Rattle.mx_request.specs.Fields.{line_of}
use Rattle.mx_request.specs.ReplyTexts.{reply_text}
use Rattle.mx_request.specs.RequestTexts.{fits_request, is_ring, request_text}
use Rattle.mx_script.proofs.ReadingLaws.{lines_text-append}
use Rattle.mx_script.specs.SessionTexts.{lines_text}
use Rattle.mx_state.specs.declared.journal.Entry as journaled
use Rattle.mx_spelling.proofs.SaidReplies.{reply_fits}
use Rattle.mx_spelling.specs.Spelling.{bounds_reply, fits_entry, fits_event, fits_result, is_entry_number, is_line_number, is_process}
use Rattle.mx_text.proofs.EventLaws.{event_fields, event_free, result_fields, result_free}
use Rattle.mx_text.specs.RunText.{entries_text, entry_text, event_text, events_text, parts_text, result_text, run_text, step_text, steps_text}
use Rattle.mx_transcript.specs.Transcripts.{Step}
use Rattle.mx_transcript.specs.declared.transcripts.Event2.{Event2}
use Rattle.mx_transcript.specs.declared.transcripts.Event2.TheVariants.{Core, Entry}
use Rattle.mx_transcript.specs.declared.transcripts.Result2.{Result2}
use Rattle.mx_transcript.specs.declared.transcripts.Result2.TheVariants as result

-- the lines, each without its newline
abbrev pub step_end : Step → List ℕ
step_end step = end_text (step.0, step.2)

abbrev pub steps_lines : List Step → List (List ℕ)
steps_lines [] = []
steps_lines (step ∷ steps) = map event_line step.1 ++ (step_end step ∷ steps_lines steps)

abbrev pub process_line : ℕ → List ℕ
process_line p = codes "process " ++ decimal p

abbrev pub parts_lines : ℕ → List (List Step) → List (List ℕ)
parts_lines p [] = []
parts_lines p (steps ∷ parts) = process_line p ∷ (steps_lines steps ++ parts_lines (p + 1) parts)

abbrev pub entries_lines : ℕ → List journaled.Entry → List (List ℕ)
entries_lines number [] = []
entries_lines number (entry ∷ entries) = entry_line number entry ∷ entries_lines (number + 1) entries

abbrev pub count_line : ℕ → List ℕ
count_line count = codes "journal " ++ decimal count

abbrev pub run_lines : List journaled.Entry → List (List Step) → List (List ℕ)
run_lines journal parts = count_line (length journal) ∷ (entries_lines 1 journal ++ (parts_lines 0 parts ++ (codes "end" ∷ [])))

-- the text of a run is that of its lines
one_more : (x text rest : List ℕ) → x ≡ text ++ 10 ∷ [] → x ++ rest ≡ text ++ 10 ∷ rest
one_more x text rest e = ap (λ t. t ++ rest) e ∙ append_assoc text (10 ∷ []) rest

events_whole : (events : List Event2) → events_text events ≡ lines_text (map event_line events)
events_whole [] = refl
events_whole (event ∷ events) =
    one_more (event_text event) (event_line event) (events_text events) (event_whole event)
    ∙ ap (λ t. event_line event ++ 10 ∷ t) (events_whole events)

step_whole : (step : Step) (rest : List ℕ) → step_text step ++ rest ≡ events_text step.1 ++ (step_end step ++ 10 ∷ rest)
step_whole step rest = around (events_text step.1) (codes "line ") (decimal step.0) (codes " ") (result_text step.2) rest
  where
    around : (e a b c d rest : List ℕ) → (e ++ a ++ b ++ c ++ d ++ codes "\n") ++ rest ≡ e ++ ((a ++ b ++ c ++ d) ++ 10 ∷ rest)
    around e a b c d rest = simp append_assoc

steps_whole : (steps : List Step) → steps_text steps ≡ lines_text (steps_lines steps)
steps_whole [] = refl
steps_whole (step ∷ steps) =
    step_whole step (steps_text steps)
    ∙ ap (λ t. events_text step.1 ++ (step_end step ++ 10 ∷ t)) (steps_whole steps)
    ∙ ap (λ t. t ++ (step_end step ++ 10 ∷ lines_text (steps_lines steps))) (events_whole step.1)
    ∙ sym (lines_text-append (map event_line step.1) (step_end step ∷ steps_lines steps))

parts_whole : (p : ℕ) (parts : List (List Step)) (rest : List ℕ) → parts_text p parts ++ rest ≡ lines_text (parts_lines p parts) ++ rest
parts_whole p [] rest = refl
parts_whole p (steps ∷ parts) rest =
    around (codes "process ") (decimal p) (steps_text steps) (parts_text (p + 1) parts) rest
    ∙ ap (λ t. process_line p ++ 10 ∷ (t ++ (parts_text (p + 1) parts ++ rest))) (steps_whole steps)
    ∙ ap (λ t. process_line p ++ 10 ∷ (lines_text (steps_lines steps) ++ t)) (parts_whole (p + 1) parts rest)
    ∙ sym (together (process_line p) (lines_text (steps_lines steps)) (lines_text (parts_lines (p + 1) parts)) _ rest
    (lines_text-append (steps_lines steps) (parts_lines (p + 1) parts)))
  where
    around : (a b s t rest : List ℕ) → (a ++ b ++ codes "\n" ++ s ++ t) ++ rest ≡ (a ++ b) ++ 10 ∷ (s ++ (t ++ rest))
    around a b s t rest = simp append_assoc

    together : (h s t u rest : List ℕ) → u ≡ s ++ t → (h ++ 10 ∷ u) ++ rest ≡ h ++ 10 ∷ (s ++ (t ++ rest))
    together h s t u rest e = rw e (append_assoc h (10 ∷ (s ++ t)) rest ∙ ap (λ x. h ++ 10 ∷ x) (append_assoc s t rest))

entries_whole : (number : ℕ) (entries : List journaled.Entry) (rest : List ℕ)
    → entries_text number entries ++ rest ≡ lines_text (entries_lines number entries) ++ rest
entries_whole number [] rest = refl
entries_whole number (entry ∷ entries) rest =
    append_assoc (entry_text number entry) (entries_text (number + 1) entries) rest
    ∙ one_more (entry_text number entry) (entry_line number entry) (entries_text (number + 1) entries ++ rest) (entry_whole number entry)
    ∙ ap (λ t. entry_line number entry ++ 10 ∷ t) (entries_whole (number + 1) entries rest)
    ∙ sym (append_assoc (entry_line number entry) (10 ∷ lines_text (entries_lines (number + 1) entries)) rest)

pub run_whole : (journal : List journaled.Entry) (parts : List (List Step)) → run_text journal parts ≡ lines_text (run_lines journal parts)
run_whole journal parts =
    around (codes "journal ") (decimal (length journal)) (entries_text 1 journal) (parts_text 0 parts) (codes "end\n")
    ∙ ap (λ t. count_line (length journal) ++ 10 ∷ t)
    (entries_whole 1 journal (parts_text 0 parts ++ codes "end\n")
    ∙ ap (λ t. lines_text (entries_lines 1 journal) ++ t)
    (parts_whole 0 parts (codes "end\n") ∙ sym (lines_text-append (parts_lines 0 parts) (codes "end" ∷ [])))
    ∙ sym (lines_text-append (entries_lines 1 journal) (parts_lines 0 parts ++ (codes "end" ∷ []))))
  where
    around : (a b e p last : List ℕ) → a ++ b ++ codes "\n" ++ e ++ p ++ last ≡ (a ++ b) ++ 10 ∷ (e ++ (p ++ last))
    around a b e p last = simp append_assoc

-- lines with one more
pub entries_on : (number : ℕ) (entries more : List journaled.Entry)
    → entries_lines number (entries ++ more) ≡ entries_lines number entries ++ entries_lines (number + length entries) more
entries_on number [] more = ap (λ n. entries_lines n more) (omega arith)
entries_on number (entry ∷ entries) more =
    ap (λ ls. entry_line number entry ∷ ls)
    (entries_on (number + 1) entries more ∙ ap (λ n. entries_lines (number + 1) entries ++ entries_lines n more) (omega arith))

pub steps_on : (steps more : List Step) → steps_lines (steps ++ more) ≡ steps_lines steps ++ steps_lines more
steps_on [] more = refl
steps_on (step ∷ steps) more =
    ap (λ ls. map event_line step.1 ++ (step_end step ∷ ls)) (steps_on steps more)
    ∙ sym (append_assoc (map event_line step.1) (step_end step ∷ steps_lines steps) (steps_lines more))

pub parts_on : (p : ℕ) (parts more : List (List Step)) → parts_lines p (parts ++ more) ≡ parts_lines p parts ++ parts_lines (p + length parts) more
parts_on p [] more = ap (λ n. parts_lines n more) (omega arith)
parts_on p (steps ∷ parts) more =
    ap (λ ls. process_line p ∷ (steps_lines steps ++ ls))
    (parts_on (p + 1) parts more ∙ ap (λ n. parts_lines (p + 1) parts ++ parts_lines n more) (omega arith))
    ∙ ap (λ ls. process_line p ∷ ls) (sym (append_assoc (steps_lines steps) (parts_lines (p + 1) parts) (parts_lines (p + length (steps ∷ parts)) more)))

-- no line has a newline
newline : IsApart 10
newline = record { no_name = refl; no_digit = refl; no_octal = refl; no_letter = refl; no_mark = refl; no_bar = refl; no_colon = refl }

event_fields_line : (event : Event2) → line_of (event_fields event) ≡ event_line event
event_fields_line (Core (Seen e)) = by_outcome e.outcome
  where
    by_outcome : (came : Outcome) → line_of (event_fields (Core (Seen (record e { outcome = came })))) ≡ event_line (Core (Seen (record e { outcome = came })))
    by_outcome (outcome.Read value writer stamp) = refl
    by_outcome (outcome.Written value) = refl
    by_outcome (outcome.Entered ring) = refl
    by_outcome (outcome.Denied denial) = refl
event_fields_line (Core (Missing segno by)) = refl
event_fields_line (Entry number) = refl

event_line_free : (event : Event2) → says_event event ≡ true → is_free 10 (event_line event) ≡ true
event_line_free event e =
    subst (λ t. is_free 10 t ≡ true) (event_fields_line event)
    (line_free 10 (event_fields event) refl (event_free 10 newline refl event (both (fits_event event) (tells_outcome event) e).0))

event_lines_free : (events : List Event2) → list_all says_event events ≡ true → list_all (is_free 10) (map event_line events) ≡ true
event_lines_free [] e = refl
event_lines_free (event ∷ events) e =
    let f = both (says_event event) (list_all says_event events) e in
    both_hold _ _ (event_line_free event f.0) (event_lines_free events f.1)

end_free : (ends : ℕ × Result2) → says_end ends ≡ true → is_free 10 (end_text ends) ≡ true
end_free ends e =
    let f = both (is_line_number ends.0) (fits_result ends.1) e in
    subst (λ t. is_free 10 t ≡ true) (by_result ends.0 ends.1 ∙ sym (end_whole ends))
    (line_free 10 (codes "line" ∷ decimal ends.0 ∷ result_fields ends.1) refl
    (both_hold _ _ refl (both_hold _ _ (line_number_free 10 ends.0 refl f.0) (result_free 10 newline refl ends.1 f.1))))
  where
    by_result : (number : ℕ) (ends : Result2) → line_of (codes "line" ∷ decimal number ∷ result_fields ends) ≡ codes "line " ++ (decimal number ++ 32 ∷ result_line ends)
    by_result number result.Done = refl
    by_result number (result.A word) = refl
    by_result number (result.Pr n p) = refl
    by_result number (result.Moved ring p) = refl
    by_result number (result.Denied denial) = refl
    by_result number result.Refused = refl
    by_result number result.HistoryFull = refl

-- a line of a transcript that can be said
abbrev pub says_step : Step → Bool
says_step step = is_line_number step.0 && (list_all says_event step.1 && fits_result step.2)

steps_free : (steps : List Step) → list_all says_step steps ≡ true → list_all (is_free 10) (steps_lines steps) ≡ true
steps_free [] e = refl
steps_free (step ∷ steps) e =
    let f = both (says_step step) (list_all says_step steps) e in
    let g = both (is_line_number step.0) (list_all says_event step.1 && fits_result step.2) f.0 in
    let h = both (list_all says_event step.1) (fits_result step.2) g.1 in
    list_all-append _ (map event_line step.1) (step_end step ∷ steps_lines steps)
    ∙ both_hold _ _ (event_lines_free step.1 h.0) (both_hold _ _ (end_free (step.0, step.2) (both_hold _ _ g.0 h.1)) (steps_free steps f.1))

parts_free : (p : ℕ) (parts : List (List Step)) → p + length parts < 2 ^ 64 → list_all (list_all says_step) parts ≡ true
    → list_all (is_free 10) (parts_lines p parts) ≡ true
parts_free p [] h e = refl
parts_free p (steps ∷ parts) h e =
    let f = both (list_all says_step steps) (list_all (list_all says_step) parts) e in
    both_hold _ _ (number_free 10 p refl (omega (arith, h)))
    (list_all-append _ (steps_lines steps) (parts_lines (p + 1) parts)
    ∙ both_hold _ _ (steps_free steps f.0) (parts_free (p + 1) parts (omega (arith, h)) f.1))

blank_between : (x y : List ℕ) → is_free 10 x ≡ true → is_free 10 y ≡ true → is_free 10 (x ++ 32 ∷ y) ≡ true
blank_between x y e f = free_append 10 x (32 ∷ y) e f

entry_line_free : (number : ℕ) (entry : journaled.Entry) → number < 2 ^ 64 → says_entry entry ≡ true → is_free 10 (entry_line number entry) ≡ true
entry_line_free number entry low e =
    let s = both (fits_entry entry) (tells_path entry.reply) e in
    let f = both (is_process entry.process) (is_ring entry.ring && (fits_request entry.request && bounds_reply entry.reply)) s.0 in
    let g = both (is_ring entry.ring) (fits_request entry.request && bounds_reply entry.reply) f.1 in
    let h = both (fits_request entry.request) (bounds_reply entry.reply) g.1 in
    let call : is_free 10 ((request_text entry.request ++ 32 ∷ []) ++ 61 ∷ (codes " " ++ reply_text entry.reply)) ≡ true
    = free_append 10 (request_text entry.request ++ 32 ∷ []) (61 ∷ (codes " " ++ reply_text entry.reply))
    (free_append 10 (request_text entry.request) (32 ∷ []) (newline_free entry.request h.0) refl)
    (reply_newline_free entry.reply (reply_fits entry.reply h.1)) in
    blank_between (decimal number) _ (number_free 10 number refl low)
    (blank_between (decimal entry.process) _ (process_free 10 entry.process refl f.0)
    (blank_between (decimal entry.ring) _ (ring_number_free 10 entry.ring refl g.0) call))

entries_free : (number : ℕ) (entries : List journaled.Entry) → number + length entries ≤ 2 ^ 64 → list_all says_entry entries ≡ true
    → list_all (is_free 10) (entries_lines number entries) ≡ true
entries_free number [] h e = refl
entries_free number (entry ∷ entries) h e =
    let f = both (says_entry entry) (list_all says_entry entries) e in
    both_hold _ _ (entry_line_free number entry (omega (arith, h)) f.0) (entries_free (number + 1) entries (omega (arith, h)) f.1)

-- a run that can be said
pub record IsSaid (journal : List journaled.Entry) (parts : List (List Step)) : Type 0 where
  pub count : is_entry_number (length journal) ≡ true
  pub entries : list_all says_entry journal ≡ true
  pub steps : list_all (list_all says_step) parts ≡ true

pub run_free : (journal : List journaled.Entry) (parts : List (List Step)) → IsSaid journal parts → length parts ≤ 16
    → list_all (is_free 10) (run_lines journal parts) ≡ true
run_free journal parts is few =
    let low : length journal ≤ 262143 = at_most (length journal) 262143 is.count in
    both_hold _ _ (number_free 10 (length journal) refl (omega (arith, low)))
    (list_all-append _ (entries_lines 1 journal) (parts_lines 0 parts ++ (codes "end" ∷ []))
    ∙ both_hold _ _ (entries_free 1 journal (omega (arith, low)) is.entries)
    (list_all-append _ (parts_lines 0 parts) (codes "end" ∷ [])
    ∙ both_hold _ _ (parts_free 0 parts (omega (arith, few)) is.steps) refl))
