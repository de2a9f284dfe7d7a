-- Laws of reading a run text line by line: what was read is right, each run is read, and what was read goes on to a run.
use Rattle.std.proofs.Common.{◌≡◌, ℕ, suc, ◌==◌, ◌+◌, ◌≤◌, nat_le, nat_lt, Bool, true, false, cond, ◌&&◌, List, [], ◌∷◌, ◌++◌, length, map, Option, Some, None, codes, refl, ap, sym, ◌∙◌, subst, append_assoc, append-nil, length-append, arith}
use Rattle.std.proofs.lemmas.Bool.{eqb-true, eq-eqb}
use Rattle.std.proofs.lemmas.Bool.Decides.{nat_tests}
use Rattle.std.proofs.lemmas.List.{append_cancel_right, map-append}
use Rattle.std.proofs.lemmas.List.Folds.{list_all-append}
use Rattle.std.specs.Cmp.Lexicographic.{pointwise}
use Rattle.std.specs.Fmt.{decimal}
use Rattle.std.specs.List.{list_all}
use Rattle.mx_name.specs.Cuts.{cut_at}
use Rattle.mx_reader.proofs.EntryLaws.{entry_line, entry_whole, exact_entries}
use Rattle.mx_reader.proofs.EventLaws.{end_whole, event_line, event_whole, exact_ends, exact_events, result_line}
use Rattle.mx_reader.proofs.FieldLaws.{entry_number_again, entry_number_takes, process_again, process_takes}
use Rattle.mx_reader.proofs.RunLines.{IsSaid, count_line, entries_lines, entries_on, parts_lines, parts_on, process_line, run_lines, says_step, step_end, steps_lines, steps_on}
use Rattle.mx_reader.specs.Fields.{process_at}
use Rattle.mx_reader.specs.Lines.{IsEnd, IsEntry, IsEvent, end_text, says_entry}
use Rattle.mx_reader.specs.Progress.{Counted, Ended, Nothing, Progress, Within, count_at, counted_step, head_step, headed, heading_at, is_some_event, line_by, line_step, part_at, run, step, within_by}
use Rattle.mx_reader.specs.ReadingEntries.{entry_at}
use Rattle.mx_reader.specs.ReadingEvents.{end_at, event_at}
use Rattle.mx_reader.specs.RunTexts.{says_event}
use Rattle.mx_reader.specs.declared.drafts.Heading.{Heading}
use Rattle.mx_reader.specs.declared.drafts.Heading.TheVariants as heading
use Rattle.mx_request.proofs.FieldLaws.{at_most, at_most_test}
use Rattle.mx_request.proofs.StepLaws.{both, both_hold, bind_some, same_bytes, some_is, when_some}
use Rattle.mx_request.specs.Steps.{◌>>=◌}
use Rattle.mx_script.proofs.FrontLaws.{after_takes}
use Rattle.mx_script.specs.Fronts.{after}
use Rattle.mx_spelling.specs.Spelling.{fits_result, is_entry_number, is_line_number, is_process}
use Rattle.mx_state.specs.declared.journal.Entry as journaled
use Rattle.mx_transcript.specs.Transcripts.{Step}
use Rattle.mx_transcript.specs.declared.transcripts.Event2.{Event2}
use Rattle.mx_transcript.specs.declared.transcripts.Result2.{Result2}

-- the lines that were read
abbrev pub texts_so_far : Progress → List (List ℕ)
texts_so_far Nothing = []
texts_so_far (Counted count journal) = count_line count ∷ entries_lines 1 journal
texts_so_far (Within journal parts steps events) =
    count_line (length journal) ∷ (entries_lines 1 journal ++ (parts_lines 0 parts ++ (process_line (length parts)
    ∷ (steps_lines steps ++ map event_line events))))
texts_so_far (Ended journal parts) = run_lines journal parts

-- what stands there stands there rightly
abbrev pub IsSound : Progress → Type 0
IsSound Nothing = Unit {0}
IsSound (Counted count journal) = (is_entry_number count ≡ true) × (length journal ≤ count) × (list_all says_entry journal ≡ true)
IsSound (Within journal parts steps events) =
    IsSaid journal parts × (length parts ≤ 15) × (list_all says_step steps ≡ true) × (list_all says_event events ≡ true)
IsSound (Ended journal parts) = IsSaid journal parts × (length parts ≤ 16)

-- one more line
record Adds (before : Progress) (line : List ℕ) (next : Progress) : Type 0 where
  pub texts : texts_so_far next ≡ texts_so_far before ++ line ∷ []
  pub sound : IsSound next

all_more : {A : Type 0} (test : A → Bool) (xs : List A) (x : A) → list_all test xs ≡ true → test x ≡ true → list_all test (xs ++ x ∷ []) ≡ true
all_more test xs x e f = list_all-append test xs (x ∷ []) ∙ both_hold _ _ e (both_hold _ _ f refl)

-- behind whole parts
abbrev front_lines : List journaled.Entry → List (List Step) → List (List ℕ)
front_lines journal parts = count_line (length journal) ∷ (entries_lines 1 journal ++ parts_lines 0 parts)

record Heads (journal : List journaled.Entry) (parts : List (List Step)) (line : List ℕ) (next : Progress) : Type 0 where
  pub texts : texts_so_far next ≡ front_lines journal parts ++ line ∷ []
  pub sound : IsSound next

pub part_takes : (number : ℕ) (line : List ℕ) (p : ℕ) → part_at number line ≡ Some p → (process_line number ≡ line) × (is_process number ≡ true)
part_takes number line p e =
    let r = bind_some (after (codes "process ") line) _ p e in
    let k = bind_some (process_at r.0) _ p r.2 in
    let own = when_some (k.0 == number) k.0 p k.2 in
    let same : k.0 ≡ number = eqb-true k.0 number own.0 in
    let f = process_takes r.0 k.0 k.1 in (
      ap process_line (sym same) ∙ ap (λ x. codes "process " ++ x) f.0 ∙ sym (after_takes (codes "process ") line r.0 r.1),
      subst (λ (n : ℕ). is_process n ≡ true) same f.1,
    )

heads : (journal : List journaled.Entry) (parts : List (List Step)) (line : List ℕ) (next : Progress) → IsSaid journal parts
    → length parts ≤ 16 → head_step journal parts line ≡ Some next → Heads journal parts line next
heads journal parts line next is few e =
    let h = bind_some (heading_at (length parts) line) _ next e in
    subst (Heads journal parts line) (some_is _ _ h.2) (by_test (pointwise ◌==◌ line (codes "end")) refl h.0 h.1)
  where
    by_test : (test : Bool) → pointwise ◌==◌ line (codes "end") ≡ test → (h : Heading)
        → cond test (Some heading.End) (part_at (length parts) line >>= λ p. Some heading.Part) ≡ Some h
        → Heads journal parts line (headed journal parts h)
    by_test true t h f =
        let same : line ≡ codes "end" = same_bytes line (codes "end") t in
        subst (λ h. Heads journal parts line (headed journal parts h)) (some_is _ _ f) (record {
          texts = ap (λ l. count_line (length journal) ∷ (entries_lines 1 journal ++ (parts_lines 0 parts ++ (l ∷ [])))) (sym same)
              ∙ ap (λ ls. count_line (length journal) ∷ ls) (sym (append_assoc (entries_lines 1 journal) (parts_lines 0 parts) (line ∷ [])));
          sound = (is, few);
        })
    by_test false t h f =
        let p = bind_some (part_at (length parts) line) _ h f in
        let told = part_takes (length parts) line p.0 p.1 in
        subst (λ h. Heads journal parts line (headed journal parts h)) (some_is _ _ p.2) (record {
          texts = ap (λ l. count_line (length journal) ∷ (entries_lines 1 journal ++ (parts_lines 0 parts ++ (l ∷ [])))) told.0
              ∙ ap (λ ls. count_line (length journal) ∷ ls) (sym (append_assoc (entries_lines 1 journal) (parts_lines 0 parts) (line ∷ [])));
          sound = (is, at_most (length parts) 15 told.1, refl, refl);
        })

-- an entry behind the count
more_entries : (count : ℕ) (journal : List journaled.Entry) (line : List ℕ) (next : Progress) → IsSound (Counted count journal)
    → nat_lt (length journal) count ≡ true
    → (entry_at (length journal + 1) line >>= λ entry. Some (Counted count (journal ++ entry ∷ []))) ≡ Some next
    → Adds (Counted count journal) line next
more_entries count journal line next is t e =
    let entry = bind_some (entry_at (length journal + 1) line) _ next e in
    let low : is_entry_number (length journal + 1) ≡ true = within (length journal) count t is.0 in
    let told : IsEntry (length journal + 1) line entry.0 = (exact_entries (length journal + 1) low).takes line entry.0 entry.1 in
    let own : entry_line (length journal + 1) entry.0 ≡ line
    = append_cancel_right (entry_line (length journal + 1) entry.0) line (codes "\n") (sym (entry_whole (length journal + 1) entry.0) ∙ told.spelled) in
    let other : 1 + length journal ≡ length journal + 1 = omega arith in
    subst (Adds (Counted count journal) line) (some_is _ _ entry.2) (record {
      texts = ap (λ ls. count_line count ∷ ls) (entries_on 1 journal (entry.0 ∷ [])
          ∙ ap (λ n. entries_lines 1 journal ++ entry_line n entry.0 ∷ []) other
          ∙ ap (λ l. entries_lines 1 journal ++ l ∷ []) own);
      sound = (is.0, longer (length journal) count (length (journal ++ entry.0 ∷ [])) t (length-append journal (entry.0 ∷ [])), all_more says_entry journal entry.0 is.2 told.says);
    })
  where
    within : (n count : ℕ) → nat_lt n count ≡ true → nat_le count 262143 ≡ true → nat_le (n + 1) 262143 ≡ true
    within n count e f = grind (arith, nat_tests)

    longer : (n count m : ℕ) → nat_lt n count ≡ true → m ≡ n + 1 → m ≤ count
    longer n count m e f = grind (arith, nat_tests)

all_counted : (n count : ℕ) → n ≤ count → nat_lt n count ≡ false → n ≡ count
all_counted n count e f = grind (arith, nat_tests)

counted_adds : (count : ℕ) (journal : List journaled.Entry) (line : List ℕ) (next : Progress) → IsSound (Counted count journal)
    → counted_step count journal line ≡ Some next → Adds (Counted count journal) line next
counted_adds count journal line next is e = by_test (nat_lt (length journal) count) refl e
  where
    by_test : (test : Bool) → nat_lt (length journal) count ≡ test
        → cond test (entry_at (length journal + 1) line >>= λ entry. Some (Counted count (journal ++ entry ∷ []))) (head_step journal [] line) ≡ Some next
        → Adds (Counted count journal) line next
    by_test true t f = more_entries count journal line next is t f
    by_test false t f =
        let all : length journal ≡ count = all_counted (length journal) count is.1 t in
        let h = heads journal [] line next
        (record { count = subst (λ (n : ℕ). is_entry_number n ≡ true) (sym all) is.0; entries = is.2; steps = refl }) (omega arith) f in
        record {
          texts = h.texts ∙ ap (λ ls. (count_line (length journal) ∷ ls) ++ line ∷ []) (append-nil (entries_lines 1 journal))
              ∙ ap (λ n. (count_line n ∷ entries_lines 1 journal) ++ line ∷ []) all;
          sound = h.sound;
        }

-- a line of a part
deep : (c : List ℕ) (e p : List (List ℕ)) (h : List ℕ) (s m more : List (List ℕ))
    → c ∷ (e ++ (p ++ (h ∷ (s ++ (m ++ more))))) ≡ (c ∷ (e ++ (p ++ (h ∷ (s ++ m))))) ++ more
deep c e p h s m more =
    ap (λ ls. c ∷ ls)
    (ap (λ x. e ++ (p ++ (h ∷ x))) (sym (append_assoc s m more))
    ∙ ap (λ x. e ++ x) (sym (append_assoc p (h ∷ (s ++ m)) more))
    ∙ sym (append_assoc e (p ++ (h ∷ (s ++ m))) more))

more_events : (journal : List journaled.Entry) (parts : List (List Step)) (steps : List Step) (events : List Event2) (line : List ℕ) (event : Event2)
    → IsSound (Within journal parts steps events) → event_at line ≡ Some event
    → Adds (Within journal parts steps events) line (Within journal parts steps (events ++ event ∷ []))
more_events journal parts steps events line event is e =
    let told : IsEvent line event = exact_events.takes line event e in
    let own : event_line event ≡ line = append_cancel_right (event_line event) line (codes "\n") (sym (event_whole event) ∙ told.spelled) in
    record {
      texts = ap (λ ls. count_line (length journal) ∷ (entries_lines 1 journal ++ (parts_lines 0 parts ++ (process_line (length parts) ∷ (steps_lines steps ++ ls)))))
          (map-append event_line events (event ∷ []) ∙ ap (λ l. map event_line events ++ l ∷ []) own)
          ∙ deep (count_line (length journal)) (entries_lines 1 journal) (parts_lines 0 parts) (process_line (length parts)) (steps_lines steps)
          (map event_line events) (line ∷ []);
      sound = (is.0, is.1, is.2, all_more says_event events event is.3 told.says);
    }

line_ends : (journal : List journaled.Entry) (parts : List (List Step)) (steps : List Step) (events : List Event2) (line : List ℕ) (ends : ℕ × Result2)
    → IsSound (Within journal parts steps events) → end_at line ≡ Some ends
    → Adds (Within journal parts steps events) line (Within journal parts (steps ++ (ends.0, events, ends.1) ∷ []) [])
line_ends journal parts steps events line ends is e =
    let told : IsEnd line ends = exact_ends.takes line ends e in
    let said = both (is_line_number ends.0) (fits_result ends.1) told.says in
    record {
      texts = ap (λ ls. count_line (length journal) ∷ (entries_lines 1 journal ++ (parts_lines 0 parts ++ (process_line (length parts) ∷ ls))))
          (append-nil (steps_lines (steps ++ (ends.0, events, ends.1) ∷ [])) ∙ steps_on steps ((ends.0, events, ends.1) ∷ [])
          ∙ ap (λ l. steps_lines steps ++ (map event_line events ++ (l ∷ []))) told.spelled)
          ∙ deep (count_line (length journal)) (entries_lines 1 journal) (parts_lines 0 parts) (process_line (length parts)) (steps_lines steps)
          (map event_line events) (line ∷ []);
      sound = (is.0, is.1, all_more says_step steps (ends.0, events, ends.1) is.2 (both_hold _ _ said.0 (both_hold _ _ is.3 said.1)), refl);
    }

part_ends : (journal : List journaled.Entry) (parts : List (List Step)) (steps : List Step) (line : List ℕ) (next : Progress)
    → IsSound (Within journal parts steps []) → head_step journal (parts ++ steps ∷ []) line ≡ Some next
    → Adds (Within journal parts steps []) line next
part_ends journal parts steps line next is e =
    let h = heads journal (parts ++ steps ∷ []) line next
    (record { count = is.0.count; entries = is.0.entries; steps = all_more (list_all says_step) parts steps is.0.steps is.2 })
    (longer (length parts) (length (parts ++ steps ∷ [])) is.1 (length-append parts (steps ∷ []))) e in
    let number : 0 + length parts ≡ length parts = omega arith in
    let whole : parts_lines 0 (parts ++ steps ∷ []) ≡ parts_lines 0 parts ++ (process_line (length parts) ∷ (steps_lines steps ++ []))
    = parts_on 0 parts (steps ∷ []) ∙ ap (λ n. parts_lines 0 parts ++ (process_line n ∷ (steps_lines steps ++ []))) number in
    record {
      texts = h.texts ∙ ap (λ ls. (count_line (length journal) ∷ (entries_lines 1 journal ++ ls)) ++ line ∷ []) whole;
      sound = h.sound;
    }
  where
    longer : (n m : ℕ) → n ≤ 15 → m ≡ n + 1 → m ≤ 16
    longer n m e f = omega (arith, e, f)

within_adds : (journal : List journaled.Entry) (parts : List (List Step)) (steps : List Step) (events : List Event2) (line : List ℕ) (next : Progress)
    → IsSound (Within journal parts steps events) → (event : Option Event2) → event_at line ≡ event → (ends : Option (ℕ × Result2)) → end_at line ≡ ends
    → within_by journal parts steps events line (line_by steps events event ends) ≡ Some next
    → Adds (Within journal parts steps events) line next
within_adds journal parts steps events line next is (Some event) p ends q e =
    subst (Adds (Within journal parts steps events) line) (some_is _ _ e) (more_events journal parts steps events line event is p)
within_adds journal parts steps events line next is None p (Some ends) q e =
    subst (Adds (Within journal parts steps events) line) (some_is _ _ e) (line_ends journal parts steps events line ends is q)
within_adds journal parts steps [] line next is None p None q e = part_ends journal parts steps line next is e
within_adds journal parts steps (event ∷ events) line next is None p None q e = absurd (cc)

adds : (before : Progress) (line : List ℕ) (next : Progress) → IsSound before → step before line ≡ Some next → Adds before line next
adds Nothing line next is e =
    let n = bind_some (count_at line) _ next e in
    let r = bind_some (after (codes "journal ") line) _ n.0 n.1 in
    let f = entry_number_takes r.0 n.0 r.2 in
    subst (Adds Nothing line) (some_is _ _ n.2) (record {
      texts = ap (λ l. l ∷ []) (ap (λ x. codes "journal " ++ x) f.0 ∙ sym (after_takes (codes "journal ") line r.0 r.1));
      sound = (f.1, omega arith, refl);
    })
adds (Counted count journal) line next is e = counted_adds count journal line next is e
adds (Within journal parts steps events) line next is e =
    within_adds journal parts steps events line next is (event_at line) refl (end_at line) refl e
adds (Ended journal parts) line next is e = absurd (cc)

-- so what lines lead to has those lines
pub record IsLed (lines : List (List ℕ)) (progress : Progress) : Type 0 where
  pub texts : texts_so_far progress ≡ lines
  pub sound : IsSound progress

led_on : (lines : List (List ℕ)) (before after : Progress) → IsSound before → run lines before ≡ Some after
    → IsLed (texts_so_far before ++ lines) after
led_on [] before after is e =
    subst (IsLed (texts_so_far before ++ [])) (some_is _ _ e) (record { texts = sym (append-nil (texts_so_far before)); sound = is })
led_on (line ∷ lines) before after is e =
    let s = bind_some (step before line) (run lines) after e in
    let a = adds before line s.0 is s.1 in
    let on = led_on lines s.0 after a.sound s.2 in
    record {
      texts = on.texts ∙ ap (λ t. t ++ lines) a.texts ∙ append_assoc (texts_so_far before) (line ∷ []) lines;
      sound = on.sound;
    }

pub led : (lines : List (List ℕ)) (after : Progress) → run lines Nothing ≡ Some after → IsLed lines after
led lines after e = led_on lines Nothing after tt e

-- lines and then others
pub run_on : (xs ys : List (List ℕ)) (before after : Progress) → run xs before ≡ Some after → run (xs ++ ys) before ≡ run ys after
run_on [] ys before after e = ap (run ys) (some_is _ _ e)
run_on (x ∷ xs) ys before after e =
    let s = bind_some (step before x) (run xs) after e in rw s.1 (run_on xs ys s.0 after s.2)

-- one line more leads on
pub goes : (line : List ℕ) (lines : List (List ℕ)) (before next : Progress) → step before line ≡ Some next → run (line ∷ lines) before ≡ run lines next
goes line lines before next e = rw e refl

-- a run is read line by line: its events
step_event : (journal : List journaled.Entry) (parts : List (List Step)) (steps : List Step) (events : List Event2) (line : List ℕ) (event : Event2)
    → event_at line ≡ Some event → step (Within journal parts steps events) line ≡ Some (Within journal parts steps (events ++ event ∷ []))
step_event journal parts steps events line event e = rw e refl

step_ends : (journal : List journaled.Entry) (parts : List (List Step)) (steps : List Step) (events : List Event2) (line : List ℕ) (ends : ℕ × Result2)
    → event_at line ≡ None → end_at line ≡ Some ends
    → step (Within journal parts steps events) line ≡ Some (Within journal parts (steps ++ (ends.0, events, ends.1) ∷ []) [])
step_ends journal parts steps events line ends e f = rw (e, f) refl

events_run : (journal : List journaled.Entry) (parts : List (List Step)) (steps : List Step) (first events : List Event2) (rest : List (List ℕ))
    → list_all says_event events ≡ true
    → run (map event_line events ++ rest) (Within journal parts steps first) ≡ run rest (Within journal parts steps (first ++ events))
events_run journal parts steps first [] rest e = ap (λ es. run rest (Within journal parts steps es)) (sym (append-nil first))
events_run journal parts steps first (event ∷ events) rest e =
    let f = both (says_event event) (list_all says_event events) e in
    let again : event_at (event_line event) ≡ Some event
    = exact_events.again (event_line event) event (record { spelled = event_whole event; says = f.0 }) in
    goes (event_line event) (map event_line events ++ rest) (Within journal parts steps first) (Within journal parts steps (first ++ event ∷ []))
    (step_event journal parts steps first (event_line event) event again)
    ∙ events_run journal parts steps (first ++ event ∷ []) events rest f.1
    ∙ ap (λ es. run rest (Within journal parts steps es)) (append_assoc first (event ∷ []) events)

-- lines that are no events
no_event : (rest : List ℕ) → event_at (codes "line " ++ rest) ≡ None
unfolding event_at after cut_at
no_event rest = refl

pub process_no_event : (rest : List ℕ) → event_at (codes "process " ++ rest) ≡ None
unfolding event_at after cut_at
process_no_event rest = refl

pub end_no_event : event_at (codes "end") ≡ None
unfolding event_at after cut_at
end_no_event = refl

-- nor ends of lines
pub process_no_end : (rest : List ℕ) → end_at (codes "process " ++ rest) ≡ None
unfolding end_at after
process_no_end rest = refl

pub end_no_end : end_at (codes "end") ≡ None
unfolding end_at after
end_no_end = refl

-- the ends of its lines
no_event_end : (ends : ℕ × Result2) → event_at (end_text ends) ≡ None
no_event_end ends = ap event_at (end_whole ends) ∙ no_event (decimal ends.0 ++ 32 ∷ result_line ends.1)

steps_run : (journal : List journaled.Entry) (parts : List (List Step)) (first steps : List Step) (rest : List (List ℕ))
    → list_all says_step steps ≡ true
    → run (steps_lines steps ++ rest) (Within journal parts first []) ≡ run rest (Within journal parts (first ++ steps) [])
steps_run journal parts first [] rest e = ap (λ ss. run rest (Within journal parts ss [])) (sym (append-nil first))
steps_run journal parts first (step ∷ steps) rest e =
    let f = both (says_step step) (list_all says_step steps) e in
    let g = both (is_line_number step.0) (list_all says_event step.1 && fits_result step.2) f.0 in
    let h = both (list_all says_event step.1) (fits_result step.2) g.1 in
    let again : end_at (step_end step) ≡ Some (step.0, step.2)
    = exact_ends.again (step_end step) (step.0, step.2) (record { spelled = refl; says = both_hold _ _ g.0 h.1 }) in
    ap (λ ls. run ls (Within journal parts first [])) (append_assoc (map event_line step.1) (step_end step ∷ steps_lines steps) rest)
    ∙ events_run journal parts first [] step.1 (step_end step ∷ (steps_lines steps ++ rest)) h.0
    ∙ goes (step_end step) (steps_lines steps ++ rest) (Within journal parts first step.1) (Within journal parts (first ++ step ∷ []) [])
    (step_ends journal parts first step.1 (step_end step) (step.0, step.2) (no_event_end (step.0, step.2)) again)
    ∙ steps_run journal parts (first ++ step ∷ []) steps rest f.1
    ∙ ap (λ ss. run rest (Within journal parts ss [])) (append_assoc first (step ∷ []) steps)

-- its parts: where the next line is a heading
abbrev pub IsAtHead : Progress → List journaled.Entry → List (List Step) → Type 0
IsAtHead progress journal parts =
    (line : List ℕ) → event_at line ≡ None → end_at line ≡ None → step progress line ≡ head_step journal parts line

pub within_head : (journal : List journaled.Entry) (parts : List (List Step)) (steps : List Step)
    → IsAtHead (Within journal parts steps []) journal (parts ++ steps ∷ [])
within_head journal parts steps line e f = rw (e, f) refl

pub counted_head : (journal : List journaled.Entry) → IsAtHead (Counted (length journal) journal) journal []
counted_head journal line e f = rw (never (length journal)) refl
  where
    never : (n : ℕ) → nat_lt n n ≡ false
    never n = grind (arith, nat_tests)

pub opens : (journal : List journaled.Entry) (parts : List (List Step)) → length parts ≤ 15
    → head_step journal parts (process_line (length parts)) ≡ Some (Within journal parts [] [])
unfolding after
opens journal parts few =
    rw (process_again (length parts) (at_most_test (length parts) 15 few), eq-eqb (length parts) (length parts) refl) refl

parts_run : (journal : List journaled.Entry) (first parts : List (List Step)) (progress : Progress) → IsAtHead progress journal first
    → length first + length parts ≤ 16 → list_all (list_all says_step) parts ≡ true
    → run (parts_lines (length first) parts ++ (codes "end" ∷ [])) progress ≡ Some (Ended journal (first ++ parts))
parts_run journal first [] progress at few e =
    goes (codes "end") [] progress (Ended journal first) (at (codes "end") end_no_event end_no_end ∙ refl)
    ∙ ap (λ ps. Some (Ended journal ps)) (sym (append-nil first))
parts_run journal first (steps ∷ parts) progress at few e =
    let f = both (list_all says_step steps) (list_all (list_all says_step) parts) e in
    let line : List ℕ = process_line (length first) in
    let rest : List (List ℕ) = parts_lines (length first + 1) parts ++ (codes "end" ∷ []) in
    let longer : length (first ++ steps ∷ []) ≡ length first + 1 = length-append first (steps ∷ []) in
    goes line ((steps_lines steps ++ parts_lines (length first + 1) parts) ++ (codes "end" ∷ [])) progress (Within journal first [] [])
    (at line (process_no_event (decimal (length first))) (process_no_end (decimal (length first))) ∙ opens journal first (fewer (length first) (length parts) few))
    ∙ ap (λ ls. run ls (Within journal first [] [])) (append_assoc (steps_lines steps) (parts_lines (length first + 1) parts) (codes "end" ∷ []))
    ∙ steps_run journal first [] steps rest f.0
    ∙ ap (λ n. run (parts_lines n parts ++ (codes "end" ∷ [])) (Within journal first steps [])) (sym longer)
    ∙ parts_run journal (first ++ steps ∷ []) parts (Within journal first steps []) (within_head journal first steps)
    (still (length first) (length parts) (length (first ++ steps ∷ [])) few longer) f.1
    ∙ ap (λ ps. Some (Ended journal ps)) (append_assoc first (steps ∷ []) parts)
  where
    fewer : (n m : ℕ) → n + suc m ≤ 16 → n ≤ 15
    fewer n m h = omega (arith, h)

    still : (n m k : ℕ) → n + suc m ≤ 16 → k ≡ n + 1 → k + m ≤ 16
    still n m k h e = omega (arith, h, e)

-- its entries
entries_run : (count : ℕ) (first entries : List journaled.Entry) (rest : List (List ℕ)) → length first + length entries ≤ count → count ≤ 262143
    → list_all says_entry entries ≡ true
    → run (entries_lines (length first + 1) entries ++ rest) (Counted count first) ≡ run rest (Counted count (first ++ entries))
entries_run count first [] rest few low e = ap (λ es. run rest (Counted count es)) (sym (append-nil first))
entries_run count first (entry ∷ entries) rest few low e =
    let f = both (says_entry entry) (list_all says_entry entries) e in
    let number : ℕ = length first + 1 in
    let within : is_entry_number (length first + 1) ≡ true
    = at_most_test (length first + 1) 262143 (least (length first) (length entries) count few low) in
    let again : entry_at (length first + 1) (entry_line (length first + 1) entry) ≡ Some entry
    = (exact_entries (length first + 1) within).again (entry_line (length first + 1) entry) entry
    (record { spelled = entry_whole (length first + 1) entry; says = f.0 }) in
    let longer : length (first ++ entry ∷ []) ≡ length first + 1 = length-append first (entry ∷ []) in
    goes (entry_line (length first + 1) entry) (entries_lines (length first + 1 + 1) entries ++ rest) (Counted count first)
    (Counted count (first ++ entry ∷ [])) (rw (room (length first) (length entries) count few, again) refl)
    ∙ ap (λ n. run (entries_lines (n + 1) entries ++ rest) (Counted count (first ++ entry ∷ []))) (sym longer)
    ∙ entries_run count (first ++ entry ∷ []) entries rest
    (still (length first) (length entries) (length (first ++ entry ∷ [])) count few longer) low f.1
    ∙ ap (λ es. run rest (Counted count es)) (append_assoc first (entry ∷ []) entries)
  where
    least : (n m count : ℕ) → n + suc m ≤ count → count ≤ 262143 → n + 1 ≤ 262143
    least n m count h k = omega (arith, h, k)

    room : (n m count : ℕ) → n + suc m ≤ count → nat_lt n count ≡ true
    room n m count h = grind (arith, nat_tests)

    still : (n m k count : ℕ) → n + suc m ≤ count → k ≡ n + 1 → k + m ≤ count
    still n m k count h e = omega (arith, h, e)

-- so each run is read
begins_count : (count : ℕ) → is_entry_number count ≡ true → step Nothing (count_line count) ≡ Some (Counted count [])
unfolding after
begins_count count e = rw (entry_number_again count e) refl

pub reads : (journal : List journaled.Entry) (parts : List (List Step)) → IsSaid journal parts → length parts ≤ 16
    → run (run_lines journal parts) Nothing ≡ Some (Ended journal parts)
reads journal parts is few =
    let last : List (List ℕ) = parts_lines 0 parts ++ (codes "end" ∷ []) in
    goes (count_line (length journal)) (entries_lines 1 journal ++ last) Nothing (Counted (length journal) []) (begins_count (length journal) is.count)
    ∙ entries_run (length journal) [] journal last (same (length journal)) (at_most (length journal) 262143 is.count) is.entries
    ∙ parts_run journal [] parts (Counted (length journal) journal) (counted_head journal) (none_before (length parts) 16 few) is.steps
  where
    same : (n : ℕ) → 0 + n ≤ n
    same n = omega arith

    none_before : (n m : ℕ) → n ≤ m → 0 + n ≤ m
    none_before n m h = omega (arith, h)

-- what a draft does at the end of a part
pub part_read : (journal : List journaled.Entry) (parts next : List (List Step)) (steps : List Step) (events : List Event2) (line : List ℕ)
    → (heading : Heading) (at : Progress) → line_step steps events line ≡ None → is_some_event events ≡ false
    → heading_at (length parts + 1) line ≡ Some heading → next ≡ parts ++ steps ∷ [] → at ≡ headed journal next heading
    → Some at ≡ step (Within journal parts steps events) line
part_read journal parts next steps [] line heading at none idle told same is =
    let longer : length (parts ++ steps ∷ []) ≡ length parts + 1 = length-append parts (steps ∷ []) in
    rw (none, longer, told, is, same) refl
part_read journal parts next steps (event ∷ events) line heading at none idle told same is = absurd (cc)
