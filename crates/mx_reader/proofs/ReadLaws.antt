-- Laws of the reader: what was read begins some run text, a run text is read as its run, and a line at which reading stops is the
-- first bad one.
use Rattle.std.proofs.Common.{◌≡◌, ℕ, zero, suc, ◌+◌, ◌-◌, ◌≤◌, Bool, true, ◌&&◌, List, [], ◌∷◌, ◌++◌, length, map, Option, Some, None, codes, refl, ap, sym, ◌∙◌, subst, append_assoc, append-nil, length-append, arith}
use Rattle.std.proofs.lemmas.List.Folds.{list_all-append}
use Rattle.std.specs.List.{list_all}
use Rattle.mx_name.proofs.CutLaws.{cut_again, cut_takes}
use Rattle.mx_name.specs.Cuts.{cut_at}
use Rattle.mx_name.specs.Names.{is_free}
use Rattle.mx_reader.proofs.EventLaws.{event_line}
use Rattle.mx_reader.proofs.ProgressLaws.{IsSound, goes, led, reads, run_on, texts_so_far}
use Rattle.mx_reader.proofs.RunLines.{IsSaid, count_line, entries_lines, entries_on, parts_lines, parts_on, process_line, run_free, run_lines, run_whole, says_step, step_end, steps_lines, steps_on}
use Rattle.mx_reader.specs.FirstBadLine.{BeginsSome, IsFirstBad}
use Rattle.mx_reader.specs.Lines.{says_entry}
use Rattle.mx_reader.specs.Progress.{Counted, Ended, HasRead, Nothing, Progress, Within, finished, run, step}
use Rattle.mx_reader.specs.RunTexts.{IsRunText, IsSomeRun, says_event, tells_outcome, tells_path}
use Rattle.mx_request.proofs.FieldLaws.{at_most, at_most_test}
use Rattle.mx_request.proofs.LineLaws.{same_cut}
use Rattle.mx_request.proofs.StepLaws.{both, both_hold, some_is}
use Rattle.mx_request.specs.declared.replies.Reply.TheVariants.{Done as IsDone}
use Rattle.mx_request.specs.declared.requests.Request.TheVariants.{Block}
use Rattle.mx_script.proofs.ReadingLaws.{lines_front, lines_text-append}
use Rattle.mx_script.specs.SessionTexts.{lines_text}
use Rattle.mx_spelling.specs.Spelling.{fits_entry, fits_event, fits_result, fits_step, is_entry_number, is_line_number}
use Rattle.mx_state.specs.declared.journal.Entry as journaled
use Rattle.mx_text.specs.RunText.{run_text}
use Rattle.mx_transcript.specs.Transcripts.{Step}
use Rattle.mx_transcript.specs.declared.transcripts.Result2.TheVariants.{Done}

-- tests over lists
all_of : {A : Type 0} (p q : A → Bool) → ((a : A) → p a ≡ true → q a ≡ true) → (xs : List A) → list_all p xs ≡ true → list_all q xs ≡ true
all_of p q one [] e = refl
all_of p q one (x ∷ xs) e = let f = both (p x) (list_all p xs) e in both_hold _ _ (one x f.0) (all_of p q one xs f.1)

all_two : {A : Type 0} (p q r : A → Bool) → ((a : A) → p a ≡ true → q a ≡ true → r a ≡ true) → (xs : List A) → list_all p xs ≡ true
    → list_all q xs ≡ true → list_all r xs ≡ true
all_two p q r one [] e f = refl
all_two p q r one (x ∷ xs) e f =
    let g = both (p x) (list_all p xs) e in
    let h = both (q x) (list_all q xs) f in
    both_hold _ _ (one x g.0 h.0) (all_two p q r one xs g.1 h.1)

-- a run that can be said, and its text
abbrev tells_step : Step → Bool
tells_step step = list_all tells_outcome step.1

step_fits : (step : Step) → says_step step ≡ true → fits_step step ≡ true
step_fits step e =
    let f = both (is_line_number step.0) (list_all says_event step.1 && fits_result step.2) e in
    let g = both (list_all says_event step.1) (fits_result step.2) f.1 in
    both_hold _ _ f.0 (both_hold _ _ (all_of says_event fits_event (λ event e. (both (fits_event event) (tells_outcome event) e).0) step.1 g.0) g.1)

step_tells : (step : Step) → says_step step ≡ true → tells_step step ≡ true
step_tells step e =
    let f = both (is_line_number step.0) (list_all says_event step.1 && fits_result step.2) e in
    let g = both (list_all says_event step.1) (fits_result step.2) f.1 in
    all_of says_event tells_outcome (λ event e. (both (fits_event event) (tells_outcome event) e).1) step.1 g.0

step_says : (step : Step) → fits_step step ≡ true → tells_step step ≡ true → says_step step ≡ true
step_says step e t =
    let f = both (is_line_number step.0) (list_all fits_event step.1 && fits_result step.2) e in
    let g = both (list_all fits_event step.1) (fits_result step.2) f.1 in
    both_hold _ _ f.0 (both_hold _ _ (all_two fits_event tells_outcome says_event (λ event e t. both_hold _ _ e t) step.1 g.0 t) g.1)

text_of : (journal : List journaled.Entry) (parts : List (List Step)) → IsSaid journal parts → length parts ≤ 16
    → IsRunText (run_text journal parts) journal parts
text_of journal parts is few = record {
  spellable = record {
    count = is.count;
    entries = all_of says_entry fits_entry (λ entry e. (both (fits_entry entry) (tells_path entry.reply) e).0) journal is.entries;
    parts = at_most_test (length parts) 16 few;
    steps = all_of (list_all says_step) (list_all fits_step) (all_of says_step fits_step step_fits) parts is.steps;
  };
  replies = all_of says_entry (λ entry. tells_path entry.reply) (λ entry e. (both (fits_entry entry) (tells_path entry.reply) e).1) journal is.entries;
  events = all_of (list_all says_step) (list_all tells_step) (all_of says_step tells_step step_tells) parts is.steps;
  text = refl;
}

record IsOf (text : List ℕ) (journal : List journaled.Entry) (parts : List (List Step)) : Type 0 where
  pub said : IsSaid journal parts
  pub few : length parts ≤ 16
  pub lines : text ≡ lines_text (run_lines journal parts)

is_of : (text : List ℕ) (journal : List journaled.Entry) (parts : List (List Step)) → IsRunText text journal parts → IsOf text journal parts
is_of text journal parts is = record {
  said = record {
    count = is.spellable.count;
    entries = all_two fits_entry (λ entry. tells_path entry.reply) says_entry (λ entry e t. both_hold _ _ e t) journal is.spellable.entries is.replies;
    steps = all_two (list_all fits_step) (list_all tells_step) (list_all says_step) (all_two fits_step tells_step says_step step_says) parts
        is.spellable.steps is.events;
  };
  few = at_most (length parts) 16 is.spellable.parts;
  lines = is.text ∙ run_whole journal parts;
}

-- what was read begins the text of a run
begins_run : (lines more : List (List ℕ)) (journal : List journaled.Entry) (parts : List (List Step)) → IsSaid journal parts
    → length parts ≤ 16 → run_lines journal parts ≡ lines ++ more → BeginsSome IsSomeRun lines
begins_run lines more journal parts is few e = record {
  text = run_text journal parts;
  is_one = (journal, parts, text_of journal parts is few);
  more = lines_text more;
  begins = run_whole journal parts ∙ ap lines_text e ∙ lines_text-append lines more;
}

-- as many entries as are wanting
abbrev fill : ℕ → List journaled.Entry
fill zero = []
fill (suc k) = record { process = 0; ring = 0; request = Block; reply = IsDone } ∷ fill k

fill_length : (k : ℕ) → length (fill k) ≡ k
fill_length zero = refl
fill_length (suc k) = ap suc (fill_length k)

fill_says : (k : ℕ) → list_all says_entry (fill k) ≡ true
fill_says zero = refl
fill_says (suc k) = fill_says k

begins : (progress : Progress) → IsSound progress → BeginsSome IsSomeRun (texts_so_far progress)
begins Nothing is = begins_run [] (run_lines [] []) [] [] (record { count = refl; entries = refl; steps = refl }) (omega arith) refl
begins (Counted count journal) is =
    let added : List journaled.Entry = fill (count - length journal) in
    let whole : length (journal ++ added) ≡ count
    = filled (length journal) count (length added) (length (journal ++ added)) is.1 (fill_length (count - length journal)) (length-append journal added) in
    begins_run (texts_so_far (Counted count journal)) (entries_lines (1 + length journal) added ++ (codes "end" ∷ [])) (journal ++ added) []
    (record {
      count = subst (λ (n : ℕ). is_entry_number n ≡ true) (sym whole) is.0;
      entries = list_all-append says_entry journal added ∙ both_hold _ _ is.2 (fill_says (count - length journal));
      steps = refl;
    })
    (omega arith)
    (ap (λ n. count_line n ∷ (entries_lines 1 (journal ++ added) ++ (codes "end" ∷ []))) whole
    ∙ ap (λ ls. count_line count ∷ (ls ++ (codes "end" ∷ []))) (entries_on 1 journal added)
    ∙ ap (λ ls. count_line count ∷ ls) (append_assoc (entries_lines 1 journal) (entries_lines (1 + length journal) added) (codes "end" ∷ [])))
  where
    filled : (n count k m : ℕ) → n ≤ count → k ≡ count - n → m ≡ n + k → m ≡ count
    filled n count k m h e f = omega (arith, h, e, f)
begins (Within journal parts steps events) is =
    let last : Step = (0, events, Done) in
    let added : List Step = steps ++ last ∷ [] in
    let longer : length (parts ++ added ∷ []) ≡ length parts + 1 = length-append parts (added ∷ []) in
    let number : 0 + length parts ≡ length parts = omega arith in
    begins_run (texts_so_far (Within journal parts steps events)) (step_end last ∷ codes "end" ∷ []) journal (parts ++ added ∷ [])
    (record {
      count = is.0.count;
      entries = is.0.entries;
      steps = list_all-append (list_all says_step) parts (added ∷ []) ∙ both_hold _ _ is.0.steps
          (both_hold _ _ (list_all-append says_step steps (last ∷ []) ∙ both_hold _ _ is.2 (both_hold _ _ (both_hold _ _ refl (both_hold _ _ is.3 refl)) refl)) refl);
    })
    (few (length parts) (length (parts ++ added ∷ [])) is.1 longer)
    (ap (λ ls. count_line (length journal) ∷ (entries_lines 1 journal ++ (ls ++ (codes "end" ∷ []))))
    (parts_on 0 parts (added ∷ [])
    ∙ ap (λ n. parts_lines 0 parts ++ (process_line n ∷ (steps_lines added ++ []))) number
    ∙ ap (λ ls. parts_lines 0 parts ++ (process_line (length parts) ∷ (ls ++ []))) (steps_on steps (last ∷ [])))
    ∙ whole (count_line (length journal)) (entries_lines 1 journal) (parts_lines 0 parts) (process_line (length parts)) (steps_lines steps)
    (map event_line events) (step_end last) (codes "end"))
  where
    few : (n m : ℕ) → n ≤ 15 → m ≡ n + 1 → m ≤ 16
    few n m h e = omega (arith, h, e)

    whole : (c : List ℕ) (e p : List (List ℕ)) (h : List ℕ) (s m : List (List ℕ)) (l d : List ℕ)
        → c ∷ (e ++ ((p ++ (h ∷ ((s ++ (m ++ (l ∷ []))) ++ []))) ++ (d ∷ []))) ≡ (c ∷ (e ++ (p ++ (h ∷ (s ++ m))))) ++ (l ∷ d ∷ [])
    whole c e p h s m l d =
        ap (λ ls. c ∷ (e ++ ((p ++ (h ∷ ls)) ++ (d ∷ [])))) (append-nil (s ++ (m ++ (l ∷ []))))
        ∙ ap (λ ls. c ∷ ls) (inner e p s m)
      where
        inner : (e p s m : List (List ℕ)) → e ++ ((p ++ (h ∷ (s ++ (m ++ (l ∷ []))))) ++ (d ∷ [])) ≡ (e ++ (p ++ (h ∷ (s ++ m)))) ++ (l ∷ d ∷ [])
        inner e p s m =
            ap (λ ls. e ++ ls)
            (append_assoc p (h ∷ (s ++ (m ++ (l ∷ [])))) (d ∷ [])
            ∙ ap (λ ls. p ++ (h ∷ ls)) (append_assoc s (m ++ (l ∷ [])) (d ∷ []) ∙ ap (λ ls. s ++ ls) (append_assoc m (l ∷ []) (d ∷ [])) ∙ sym (append_assoc s m (l ∷ d ∷ [])))
            ∙ sym (append_assoc p (h ∷ (s ++ m)) (l ∷ d ∷ [])))
            ∙ sym (append_assoc e (p ++ (h ∷ (s ++ m))) (l ∷ d ∷ []))
begins (Ended journal parts) is = begins_run (run_lines journal parts) [] journal parts is.0 is.1 (sym (append-nil (run_lines journal parts)))

-- at the start, and one more line
pub nothing_read : (bytes : List ℕ) → HasRead bytes bytes 1 Nothing
nothing_read bytes = record { lines = []; parts = refl; next = refl; whole = refl; leads = refl }

pub read_on : (spelled rest : List ℕ) (number : ℕ) (progress next : Progress) (p : List ℕ × List ℕ) → HasRead spelled rest number progress
    → cut_at 10 rest ≡ Some p → step progress p.0 ≡ Some next → HasRead spelled p.1 (number + 1) next
read_on spelled rest number progress next p h c e =
    let cut = cut_takes 10 rest p c in
    record {
      lines = h.lines ++ p.0 ∷ [];
      parts = parts h.lines p.0 p.1 rest spelled h.parts cut.0;
      next = count h.lines p.0 number h.next;
      whole = list_all-append (is_free 10) h.lines (p.0 ∷ []) ∙ both_hold _ _ h.whole (both_hold _ _ cut.1 refl);
      leads = run_on h.lines (p.0 ∷ []) Nothing progress h.leads ∙ goes p.0 [] progress next e;
    }
  where
    parts : (xs : List (List ℕ)) (line after rest spelled : List ℕ) → spelled ≡ lines_text xs ++ rest → rest ≡ line ++ 10 ∷ after
        → spelled ≡ lines_text (xs ++ line ∷ []) ++ after
    parts xs line after rest spelled e f = rw (e, f, lines_text-append, append_assoc, append_assoc) refl

    count : (xs : List (List ℕ)) (line : List ℕ) (n : ℕ) → n ≡ length xs + 1 → n + 1 ≡ length (xs ++ line ∷ []) + 1
    count xs line n e = omega (arith, e, length-append xs (line ∷ []))

-- the number of the next line is small
fewer_lines : (xs : List (List ℕ)) → length xs ≤ length (lines_text xs)
fewer_lines [] = omega arith
fewer_lines (x ∷ xs) = omega (arith, fewer_lines xs, length-append x (10 ∷ lines_text xs))

pub counted : (spelled rest : List ℕ) (number : ℕ) (progress : Progress) (p : List ℕ × List ℕ) → HasRead spelled rest number progress
    → cut_at 10 rest ≡ Some p → number ≤ length spelled
counted spelled rest number progress p h c =
    omega (
      arith,
      h.next,
      ap length h.parts,
      length-append (lines_text h.lines) rest,
      fewer_lines h.lines,
      ap length (cut_takes 10 rest p c).0,
      length-append p.0 (10 ∷ p.1),
    )

-- the lines of a run text that begins with those read
record Leads (lines : List (List ℕ)) (rest : List ℕ) (journal : List journaled.Entry) (parts : List (List Step)) : Type 0 where
  pub more : List (List ℕ)
  pub same : run_lines journal parts ≡ lines ++ more
  pub left : lines_text more ≡ rest
  pub free : list_all (is_free 10) more ≡ true
  pub runs : run (lines ++ more) Nothing ≡ Some (Ended journal parts)

leads : (text : List ℕ) (lines : List (List ℕ)) (rest : List ℕ) (journal : List journaled.Entry) (parts : List (List Step))
    → list_all (is_free 10) lines ≡ true → text ≡ lines_text lines ++ rest → IsRunText text journal parts → Leads lines rest journal parts
leads text lines rest journal parts whole e is =
    let own = is_of text journal parts is in
    let free = run_free journal parts own.said own.few in
    let m = lines_front (run_lines journal parts) lines rest free whole (sym own.lines ∙ e) in
    let all : list_all (is_free 10) (lines ++ m.0) ≡ true = subst (λ ls. list_all (is_free 10) ls ≡ true) m.1 free in
    record {
      more = m.0;
      same = m.1;
      left = m.2;
      free = (both _ _ (sym (list_all-append (is_free 10) lines m.0) ∙ all)).1;
      runs = ap (λ ls. run ls Nothing) (sym m.1) ∙ reads journal parts own.said own.few;
    }

-- no line at which reading stops leads on
none_is_some : {A : Type 0} (a : A) → ◌≡◌ {A = Option A} None (Some a) → ⊥
none_is_some a e = cc

stops : (progress last : Progress) (lines more : List (List ℕ)) (line : List ℕ) → run lines Nothing ≡ Some progress
    → step progress line ≡ None → run (lines ++ line ∷ more) Nothing ≡ Some last → ⊥
stops progress last lines more line e s f =
    none_is_some last (sym (run_on lines (line ∷ more) Nothing progress e ∙ rw s refl) ∙ f)

not_empty : (x t rest : List ℕ) → (x ++ 10 ∷ t) ++ rest ≡ [] → ⊥
not_empty [] t rest e = cc
not_empty (c ∷ x) t rest e = cc

next_line : (rest : List ℕ) (p : List ℕ × List ℕ) (line more : List ℕ) → cut_at 10 rest ≡ Some p → is_free 10 line ≡ true
    → rest ≡ line ++ 10 ∷ more → p.0 ≡ line
next_line rest p line more c f e =
    let cut = cut_takes 10 rest p c in (same_cut 10 p.0 line p.1 more cut.1 f (sym cut.0 ∙ e)).0

no_more : (lines more : List (List ℕ)) (rest : List ℕ) (p : List ℕ × List ℕ) (progress last : Progress) → run lines Nothing ≡ Some progress
    → cut_at 10 rest ≡ Some p → step progress p.0 ≡ None → lines_text more ≡ rest → list_all (is_free 10) more ≡ true
    → run (lines ++ more) Nothing ≡ Some last → ⊥
no_more lines [] rest p progress last e c s left free f = not_empty p.0 p.1 [] (append-nil _ ∙ sym (cut_takes 10 rest p c).0 ∙ sym left)
no_more lines (line ∷ more) rest p progress last e c s left free f =
    let same = next_line rest p line (lines_text more) c (both (is_free 10 line) (list_all (is_free 10) more) free).0 (sym left) in
    stops progress last lines more line e (subst (λ l. step progress l ≡ None) same s) f

started : (spelled rest : List ℕ) (number : ℕ) (progress : Progress) (h : HasRead spelled rest number progress) → BeginsSome IsSomeRun h.lines
started spelled rest number progress h =
    let l = led h.lines progress h.leads in subst (BeginsSome IsSomeRun) l.texts (begins progress l.sound)

pub bad_line : (spelled rest : List ℕ) (number : ℕ) (progress : Progress) (p : List ℕ × List ℕ) → HasRead spelled rest number progress
    → cut_at 10 rest ≡ Some p → step progress p.0 ≡ None → IsFirstBad IsSomeRun spelled number
bad_line spelled rest number progress p h c s = record {
  none = λ some.
      let l = leads spelled h.lines rest some.0 some.1 h.whole h.parts some.2 in
      no_more h.lines l.more rest p progress (Ended some.0 some.1) h.leads c s l.left l.free l.runs;
  lines = h.lines;
  rest = rest;
  first = record {
    parts = h.parts;
    whole = h.whole;
    at = h.next;
    begins = started spelled rest number progress h;
    bad = λ line more free e b.
        let same = next_line rest p line more c free e in
        let some = b.is_one in
        let whole : list_all (is_free 10) (h.lines ++ line ∷ []) ≡ true
        = list_all-append (is_free 10) h.lines (line ∷ []) ∙ both_hold _ _ h.whole (both_hold _ _ free refl) in
        let l = leads b.text (h.lines ++ line ∷ []) b.more some.0 some.1 whole b.begins some.2 in
        stops progress (Ended some.0 some.1) h.lines l.more line h.leads (subst (λ l. step progress l ≡ None) same s)
        (ap (λ ls. run ls Nothing) (sym (append_assoc h.lines (line ∷ []) l.more)) ∙ l.runs);
  };
}

-- where no whole line is left
record HasEnded (progress : Progress) (rest : List ℕ) (journal : List journaled.Entry) (parts : List (List Step)) : Type 0 where
  pub ended : progress ≡ Ended journal parts
  pub nothing : rest ≡ []

done : (spelled rest : List ℕ) (number : ℕ) (progress : Progress) (journal : List journaled.Entry) (parts : List (List Step))
    → HasRead spelled rest number progress → cut_at 10 rest ≡ None → IsRunText spelled journal parts → HasEnded progress rest journal parts
done spelled rest number progress journal parts h c is =
    let l = leads spelled h.lines rest journal parts h.whole h.parts is in by_more l.more l.left l.free l.runs
  where
    by_more : (more : List (List ℕ)) → lines_text more ≡ rest → list_all (is_free 10) more ≡ true
        → run (h.lines ++ more) Nothing ≡ Some (Ended journal parts) → HasEnded progress rest journal parts
    by_more [] left free runs = record {
      ended = some_is _ _ (sym h.leads ∙ ap (λ ls. run ls Nothing) (sym (append-nil h.lines)) ∙ runs);
      nothing = sym left;
    }
    by_more (line ∷ more) left free runs =
        absurd (none_is_some (line, lines_text more) (sym c ∙ ap (cut_at 10) (sym left)
        ∙ cut_again 10 line (lines_text more) (both (is_free 10 line) (list_all (is_free 10) more) free).0))

pub only_run : (spelled rest : List ℕ) (number : ℕ) (progress : Progress) (journal : List journaled.Entry) (parts : List (List Step))
    → HasRead spelled rest number progress → cut_at 10 rest ≡ None → IsRunText spelled journal parts → finished progress rest ≡ Some (journal, parts)
only_run spelled rest number progress journal parts h c is =
    let d = done spelled rest number progress journal parts h c is in rw (d.ended, d.nothing) refl

pub bad_end : (spelled rest : List ℕ) (number : ℕ) (progress : Progress) → HasRead spelled rest number progress → cut_at 10 rest ≡ None
    → finished progress rest ≡ None → IsFirstBad IsSomeRun spelled number
bad_end spelled rest number progress h c f = record {
  none = λ some. none_is_some (some.0, some.1) (sym f ∙ only_run spelled rest number progress some.0 some.1 h c some.2);
  lines = h.lines;
  rest = rest;
  first = record {
    parts = h.parts;
    whole = h.whole;
    at = h.next;
    begins = started spelled rest number progress h;
    bad = λ line more free e b. none_is_some (line, more) (sym c ∙ ap (cut_at 10) e ∙ cut_again 10 line more free);
  };
}

pub whole_text : (spelled rest : List ℕ) (number : ℕ) (progress : Progress) (r : List journaled.Entry × List (List Step))
    → HasRead spelled rest number progress → finished progress rest ≡ Some r → IsRunText spelled r.0 r.1
whole_text spelled [] number (Ended journal parts) r h e =
    let l = led h.lines (Ended journal parts) h.leads in
    let is = text_of journal parts l.sound.0 l.sound.1 in
    let same : spelled ≡ run_text journal parts
    = h.parts ∙ append-nil (lines_text h.lines) ∙ ap lines_text (sym l.texts) ∙ sym (run_whole journal parts) in
    subst (λ (r : List journaled.Entry × List (List Step)). IsRunText spelled r.0 r.1) (some_is _ _ e)
    (subst (λ text. IsRunText text journal parts) (sym same) is)
whole_text spelled (c ∷ rest) number (Ended journal parts) r h e = absurd (cc)
whole_text spelled rest number Nothing r h e = absurd (cc)
whole_text spelled rest number (Counted count journal) r h e = absurd (cc)
whole_text spelled rest number (Within journal parts steps events) r h e = absurd (cc)
