-- Laws of parts that were read alone: with the journal they are the run of the whole text.
use Rattle.std.proofs.Common.{◌≡◌, ℕ, ◌+◌, ◌==◌, true, List, [], ◌∷◌, ◌++◌, length, take, drop, Err, Ok, Option, Some, None, Result, IfOk, IfSome, codes, refl, ap, sym, ◌∙◌, subst, append_assoc, append-nil, length-append}
use Rattle.std.proofs.lemmas.List.{take-append-drop}
use Rattle.std.proofs.lemmas.List.Folds.{list_all-append}
use Rattle.std.proofs.lemmas.Result.{IfOk-at_ok}
use Rattle.std.specs.Cmp.Lexicographic.{pointwise}
use Rattle.std.specs.Fmt.{decimal}
use Rattle.std.specs.List.{list_all}
use Rattle.mx_name.proofs.CutLaws.{cut_takes}
use Rattle.mx_name.specs.Cuts.{cut_at}
use Rattle.mx_name.specs.Names.{is_free}
use Rattle.mx_reader.proofs.ProgressLaws.{IsAtHead, counted_head, end_no_end, end_no_event, goes, opens, part_takes, process_no_end, process_no_event, run_on, within_head}
use Rattle.mx_reader.proofs.ReadLaws.{only_run, whole_text}
use Rattle.mx_reader.proofs.RunLines.{process_line}
use Rattle.mx_reader.specs.Parts.{AreParts, HasFollowed, IsHead, IsPart, IsReadWhole, lines_step}
use Rattle.mx_reader.specs.Progress.{Counted, Ended, Nothing, Progress, Within, line_step, part_at, run, step, within_by}
use Rattle.mx_reader.specs.RunTexts.{IsRunText}
use Rattle.mx_request.proofs.FieldLaws.{at_most}
use Rattle.mx_request.proofs.StepLaws.{bind_some, both_hold, same_bytes, some_is}
use Rattle.mx_script.proofs.ReadingLaws.{lines_text-append}
use Rattle.mx_script.specs.SessionTexts.{lines_text}
use Rattle.mx_state.specs.declared.journal.Entry as journaled
use Rattle.mx_transcript.specs.Transcripts.{Step}
use Rattle.mx_transcript.specs.declared.transcripts.Event2.{Event2}

-- lines of a part, and one more
steps_on : (lines more : List (List ℕ)) (before after : List Step × List Event2) → lines_step lines before ≡ Some after
    → lines_step (lines ++ more) before ≡ lines_step more after
steps_on [] more before after e = ap (lines_step more) (some_is _ _ e)
steps_on (line ∷ lines) more before after e =
    let s = bind_some (line_step before.0 before.1 line) (lines_step lines) after e in rw s.1 (steps_on lines more s.0 after s.2)

pub nothing_followed : (spelled : List ℕ) → HasFollowed spelled spelled [] []
nothing_followed spelled = record { lines = []; parts = refl; whole = refl; leads = refl }

pub followed_on : (spelled rest : List ℕ) (steps next : List Step) (events more : List Event2) (p : List ℕ × List ℕ)
    → HasFollowed spelled rest steps events → cut_at 10 rest ≡ Some p → line_step steps events p.0 ≡ Some (next, more)
    → HasFollowed spelled p.1 next more
followed_on spelled rest steps next events more p h c e =
    let cut = cut_takes 10 rest p c in
    record {
      lines = h.lines ++ p.0 ∷ [];
      parts = parts h.lines p.0 p.1 rest spelled h.parts cut.0;
      whole = list_all-append (is_free 10) h.lines (p.0 ∷ []) ∙ both_hold _ _ h.whole (both_hold _ _ cut.1 refl);
      leads = steps_on h.lines (p.0 ∷ []) ([], []) (steps, events) h.leads ∙ one (steps, events) p.0 (next, more) e;
    }
  where
    parts : (xs : List (List ℕ)) (line after rest spelled : List ℕ) → spelled ≡ lines_text xs ++ rest → rest ≡ line ++ 10 ∷ after
        → spelled ≡ lines_text (xs ++ line ∷ []) ++ after
    parts xs line after rest spelled e f = rw (e, f, lines_text-append, append_assoc, append_assoc) refl

    one : (before : List Step × List Event2) (line : List ℕ) (next : List Step × List Event2)
        → line_step before.0 before.1 line ≡ Some next → lines_step (line ∷ []) before ≡ Some next
    one before line next e = rw e refl

-- a part with its first line
one_part : (number : ℕ) (spelled : List ℕ) (steps : List Step) (p : List ℕ × List ℕ) (process : ℕ) → cut_at 10 spelled ≡ Some p
    → part_at number p.0 ≡ Some process → HasFollowed p.1 [] steps [] → IsPart number spelled steps
one_part number spelled steps p process c e h =
    let cut = cut_takes 10 spelled p c in
    record { first = p.0; rest = p.1; parts = cut.0; whole = cut.1; process = process; heads = e; says = h }

pub read_part_of : {E : Type 0} (number : ℕ) (spelled : List ℕ) (p : List ℕ × List ℕ) (process : ℕ)
    → (result : Result (Option (List Step)) E) → cut_at 10 spelled ≡ Some p → part_at number p.0 ≡ Some process
    → IfOk result (λ read. IfSome read (λ steps. HasFollowed p.1 [] steps []))
    → IfOk result (λ read. IfSome read (λ steps. IsPart number spelled steps))
read_part_of number spelled p process (Ok (Some steps)) c e h = one_part number spelled steps p process c e h
read_part_of number spelled p process (Ok None) c e h = tt
read_part_of number spelled p process (Err error) c e h = tt

-- behind whole parts, these lines lead on as they lead alone
lines_within : (journal : List journaled.Entry) (parts : List (List Step)) (lines : List (List ℕ))
    → (before after : List Step × List Event2) → lines_step lines before ≡ Some after
    → run lines (Within journal parts before.0 before.1) ≡ Some (Within journal parts after.0 after.1)
lines_within journal parts [] before after e =
    ap (λ (p : List Step × List Event2). Some (Within journal parts p.0 p.1)) (some_is _ _ e)
lines_within journal parts (line ∷ lines) before after e =
    let s = bind_some (line_step before.0 before.1 line) (lines_step lines) after e in
    goes line lines (Within journal parts before.0 before.1) (Within journal parts s.0.0 s.0.1)
    (ap (within_by journal parts before.0 before.1 line) s.1)
    ∙ lines_within journal parts lines s.0 after s.2

-- the lines of the text that go on from here to the end of the run
record Leads (journal : List journaled.Entry) (first parts : List (List Step)) (spelled : List ℕ) (progress : Progress)
    : Type 0 where
  pub lines : List (List ℕ)
  pub spells : spelled ≡ lines_text lines
  pub whole : list_all (is_free 10) lines ≡ true
  pub runs : run (lines ++ codes "end" ∷ []) progress ≡ Some (Ended journal (first ++ parts))

parts_lead : (journal : List journaled.Entry) (first : List (List Step)) (spelled : List ℕ) (parts : List (List Step))
    → (progress : Progress) → IsAtHead progress journal first → AreParts (length first) spelled parts
    → Leads journal first parts spelled progress
parts_lead journal first spelled [] progress at are = record {
  lines = [];
  spells = are;
  whole = refl;
  runs = goes (codes "end") [] progress (Ended journal first) (at (codes "end") end_no_event end_no_end ∙ refl)
      ∙ ap (λ ps. Some (Ended journal ps)) (sym (append-nil first));
}
parts_lead journal first spelled (steps ∷ parts) progress at are =
    let is = are.is in
    let told = part_takes (length first) is.first is.process is.heads in
    let longer : length (first ++ steps ∷ []) ≡ length first + 1 = length-append first (steps ∷ []) in
    let on : Leads journal (first ++ steps ∷ []) parts are.rest (Within journal first steps [])
    = parts_lead journal (first ++ steps ∷ []) are.rest parts (Within journal first steps []) (within_head journal first steps)
    (subst (λ (n : ℕ). AreParts n are.rest parts) (sym longer) are.others) in
    let own : List (List ℕ) = is.first ∷ is.says.lines in
    let heads : step progress is.first ≡ Some (Within journal first [] [])
    = subst (λ line. step progress line ≡ Some (Within journal first [] [])) told.0
    (at (process_line (length first)) (process_no_event (decimal (length first))) (process_no_end (decimal (length first)))
    ∙ opens journal first (at_most (length first) 15 told.1)) in
    record {
      lines = own ++ on.lines;
      spells = are.parts ∙ both_spell are.front is.first is.rest is.says.lines are.rest on.lines is.parts is.says.parts on.spells;
      whole = list_all-append (is_free 10) own on.lines ∙ both_hold _ _ (both_hold _ _ is.whole is.says.whole) on.whole;
      runs = ap (λ ls. run ls progress) (append_assoc own on.lines (codes "end" ∷ []))
          ∙ goes is.first (is.says.lines ++ (on.lines ++ codes "end" ∷ [])) progress (Within journal first [] []) heads
          ∙ run_on is.says.lines (on.lines ++ codes "end" ∷ []) (Within journal first [] []) (Within journal first steps [])
          (lines_within journal first is.says.lines ([], []) (steps, []) is.says.leads)
          ∙ on.runs
          ∙ ap (λ ps. Some (Ended journal ps)) (append_assoc first (steps ∷ []) parts);
    }
  where
    both_spell : (text line rest : List ℕ) (lines : List (List ℕ)) (others : List ℕ) (more : List (List ℕ))
        → text ≡ line ++ 10 ∷ rest → rest ≡ lines_text lines ++ [] → others ≡ lines_text more
        → text ++ others ≡ lines_text ((line ∷ lines) ++ more)
    both_spell text line rest lines others more e f g =
        rw (e, f, g, append-nil) (sym (lines_text-append (line ∷ lines) more))

-- what is said of a result that holds
pub found : {T E : Type 0} (P : T → Type 0) (result : Result (Option T) E) (read : Option T) (x : T) → result ≡ Ok read
    → read ≡ Some x → IfOk result (λ read. IfSome read P) → P x
found P result read x e f h = subst (λ read. IfSome read P) f (IfOk-at_ok (λ read. IfSome read P) e h)

-- a text that ends with the line `end`
pub ends : (spelled front : List ℕ) (n : ℕ) → pointwise ◌==◌ (drop n spelled) (codes "end\n") ≡ true → front ≡ take n spelled
    → spelled ≡ front ++ codes "end\n"
ends spelled front n e f =
    sym (take-append-drop n spelled)
    ∙ ap (λ t. t ++ drop n spelled) (sym f)
    ∙ ap (λ t. front ++ t) (same_bytes (drop n spelled) (codes "end\n") e)

-- so the parts are those of the run of the whole text
pub put_together : (spelled front head rest : List ℕ) (journal : List journaled.Entry) (parts : List (List Step))
    → spelled ≡ front ++ codes "end\n" → front ≡ head ++ rest → IsHead head journal → AreParts 0 rest parts
    → IsReadWhole spelled journal parts
put_together spelled front head rest journal parts e f h are =
    let on = parts_lead journal [] rest parts (Counted (length journal) journal) (counted_head journal) are in
    let lines : List (List ℕ) = h.read.lines ++ (on.lines ++ codes "end" ∷ []) in
    record {
      next = length lines + 1;
      read = record {
        lines = lines;
        parts = e ∙ ap (λ t. t ++ codes "end\n") f ∙ all_spell head rest h.read.lines on.lines h.read.parts on.spells;
        next = refl;
        whole = list_all-append (is_free 10) h.read.lines (on.lines ++ codes "end" ∷ [])
            ∙ both_hold _ _ h.read.whole (list_all-append (is_free 10) on.lines (codes "end" ∷ []) ∙ both_hold _ _ on.whole refl);
        leads = run_on h.read.lines (on.lines ++ codes "end" ∷ []) Nothing (Counted (length journal) journal) h.read.leads
            ∙ on.runs;
      };
    }
  where
    all_spell : (head others : List ℕ) (xs ys : List (List ℕ)) → head ≡ lines_text xs ++ [] → others ≡ lines_text ys
        → (head ++ others) ++ codes "end\n" ≡ lines_text (xs ++ (ys ++ codes "end" ∷ [])) ++ []
    all_spell head others xs ys e f =
        rw (e, f, append-nil, append-nil)
        (append_assoc (lines_text xs) (lines_text ys) (codes "end\n")
        ∙ ap (λ t. lines_text xs ++ t) (sym (lines_text-append ys (codes "end" ∷ [])))
        ∙ sym (lines_text-append xs (ys ++ codes "end" ∷ [])))

pub run_found : (spelled : List ℕ) (journal : List journaled.Entry) (parts : List (List Step)) → IsReadWhole spelled journal parts
    → IsRunText spelled journal parts
run_found spelled journal parts is = whole_text spelled [] is.next (Ended journal parts) (journal, parts) is.read refl

pub run_only : (spelled : List ℕ) (journal other : List journaled.Entry) (parts others : List (List Step))
    → IsReadWhole spelled journal parts → IsRunText spelled other others
    → ◌≡◌ {A = List journaled.Entry × List (List Step)} (journal, parts) (other, others)
unfolding cut_at
run_only spelled journal other parts others is text =
    some_is _ _ (only_run spelled [] is.next (Ended journal parts) other others is.read refl text)
