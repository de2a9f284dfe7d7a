-- What the top call did without auditors over an empty sink: under `run` it printed a run of the session that its source held, under
-- `drill` the summary of a drill.
use Rattle.std.proofs.Common.{◌≡◌, ℕ, ◌≤◌, List, [], ◌∷◌, length, subst, ap, sym, Option, Some, None, Result, Ok, Err, IfOk, refl, inl, inr}
use Rattle.std.specs.Prelude.{codes, IfSome}
use Rattle.mx_audit.specs.Accounts.{Account}
use Rattle.mx_check.specs.Judgements.{IsLegalText}
use Rattle.mx_drill.specs.Drills.{drill_session}
use Rattle.mx_proc.specs.Auditors.{WereTold}
use Rattle.mx_run.proofs.VerdictLaws.{run_done}
use Rattle.mx_run.specs.Commands.{IsCheck, IsRun}
use Rattle.mx_run.specs.Done.{IsDrilled, IsDoneBy}
use Rattle.mx_run.specs.Statuses.{IsDueStatus}
use Rattle.mx_script.specs.Sessions.{Outline}
use Rattle.mx_script.specs.SessionTexts.{IsText}
use Rattle.mx_transcript.specs.Transcripts.{Step}
use Rattle.session_files.specs.Runs.{IsRunOf, IsPrintedOf, IsSummaryOf, IsCheckEnded, IsEnded, IsDrillEnded, IsEndedBy}
use Rattle.session_files.specs.declared.runs.Ended.{Ended}
use Rattle.session_files.specs.declared.runs.Ended.TheVariants.{Ran, Otherwise}

-- where there were no auditors there are none
pub none_told : (x : Outline) (transcripts : List (List Step)) (after : List Account) → WereTold x [] transcripts after
    → WereTold x [] transcripts []
none_told x transcripts after told = subst (WereTold x [] transcripts) told.grown told

pub none_told_in : {J T E : Type 0} (x : Outline) (parts : T → List (List Step)) (before after : List Account) (r : Result (J × T) E)
    → before ≡ [] → IfOk r (λ ran. WereTold x before (parts ran.1) after) → IfOk r (λ ran. WereTold x [] (parts ran.1) [])
none_told_in x parts before after (Ok ran) none told =
    none_told x (parts ran.1) after (subst (λ (a : List Account). WereTold x a (parts ran.1) after) none told)
none_told_in x parts before after (Err error) none told = told

without : (words : List (List ℕ)) (source left sink sink' : Option (List ℕ)) (told : List Account)
    → IsDoneBy words source left sink sink' [] told → IsDoneBy words source left sink sink' [] []
without words source left sink sink' told (inl done) = inl (
  done.0,
  record {
    journal = done.1.journal;
    transcripts = done.1.transcripts;
    run = done.1.run;
    told = none_told done.1.run.session done.1.transcripts told done.1.told;
    printed = done.1.printed;
  },
)
without words source left sink sink' told (inr (inl drilled)) = inr (inl (record {
  number = drilled.number;
  words_are = drilled.words_are;
  journal = drilled.journal;
  transcripts = drilled.transcripts;
  run = drilled.run;
  spellable = drilled.spellable;
  told = none_told (drill_session drilled.number) drilled.transcripts told drilled.told;
  printed = drilled.printed;
}))
without words source left sink sink' told (inr (inr checked)) = inr (inr (record {
  words_are = checked.words_are;
  spelled = checked.spelled;
  read = checked.read;
  within = checked.within;
  legal = checked.legal;
  untold = refl;
  printed = checked.printed;
}))

-- over a source that held this text and an empty sink
pub done_over : (words : List (List ℕ)) (text held before after printed : List ℕ) (left : Option (List ℕ)) (accounts told : List Account)
    → held ≡ text → before ≡ [] → after ≡ printed → accounts ≡ []
    → IsDoneBy words (Some held) left (Some before) (Some after) accounts told
    → (left : Option (List ℕ)) × IsDoneBy words (Some text) left (Some []) (Some printed) [] []
done_over words text held before after printed left accounts told is_text is_empty is_printed none done = (
  left,
  subst (λ (s : List ℕ). IsDoneBy words (Some s) left (Some []) (Some printed) [] []) is_text
      (subst (λ (b : List ℕ). IsDoneBy words (Some held) left (Some b) (Some printed) [] []) is_empty
      (subst (λ (a : List ℕ). IsDoneBy words (Some held) left (Some before) (Some a) [] []) is_printed
      (without words (Some held) left (Some before) (Some after) told
      (subst (λ (those : List Account). IsDoneBy words (Some held) left (Some before) (Some after) those told) none done)))),
)

-- under `run`
pub run_of : (words : List (List ℕ)) (session printed : List ℕ) → IsRun words
    → (left : Option (List ℕ)) × IsDoneBy words (Some session) left (Some []) (Some printed) [] [] → IsRunOf session printed
run_of words session printed run done =
    (done.0, run_done words (Some session) done.0 (Some []) (Some printed) [] [] run done.1)

-- `drill` and a word are neither `run` nor `check`
drill_is_no_run : (number : List ℕ) → IsRun (codes "drill" ∷ number ∷ []) → ⊥
drill_is_no_run number run = cc

drill_is_no_check : (number : List ℕ) → IsCheck (codes "drill" ∷ number ∷ []) → ⊥
drill_is_no_check number check = cc

drilled_of : (number : List ℕ) (source left sink sink' : Option (List ℕ))
    → IsDoneBy (codes "drill" ∷ number ∷ []) source left sink sink' [] [] → IsDrilled (codes "drill" ∷ number ∷ []) sink sink' [] []
drilled_of number source left sink sink' (inl done) = absurd (drill_is_no_run number done.0)
drilled_of number source left sink sink' (inr (inl drilled)) = drilled
drilled_of number source left sink sink' (inr (inr checked)) = absurd (drill_is_no_check number checked.words_are)

-- under `drill`
pub summary_of : (words : List (List ℕ)) (number text printed : List ℕ) → words ≡ codes "drill" ∷ number ∷ []
    → (left : Option (List ℕ)) × IsDoneBy words (Some text) left (Some []) (Some printed) [] [] → IsSummaryOf number printed
summary_of words number text printed are done =
    drilled_of number (Some text) done.0 (Some []) (Some printed)
    (subst (λ (those : List (List ℕ)). IsDoneBy those (Some text) done.0 (Some []) (Some printed) [] []) are done.1)

-- `check` is neither `run` nor `drill` and a word
check_is_no_run : IsRun (codes "check" ∷ []) → ⊥
check_is_no_run run = cc

check_is_no_drill : (digits : List ℕ) → codes "check" ∷ [] ≡ codes "drill" ∷ digits ∷ [] → ⊥
check_is_no_drill digits are = cc

same_bytes : (printed bytes : List ℕ) → Some printed ≡ Some bytes → printed ≡ bytes
same_bytes printed bytes e = cc

checked_of : (text printed : List ℕ) (left : Option (List ℕ))
    → IsDoneBy (codes "check" ∷ []) (Some text) left (Some []) (Some printed) [] [] → IsLegalText text × (printed ≡ codes "legal\n")
checked_of text printed left (inl done) = absurd (check_is_no_run done.0)
checked_of text printed left (inr (inl drilled)) = absurd (check_is_no_drill drilled.words_are.digits drilled.words_are.words_are)
checked_of text printed left (inr (inr checked)) =
    (subst IsLegalText (sym checked.read.0) checked.legal, same_bytes printed (codes "legal\n") checked.printed)

-- under `check`
pub legal_of : (words : List (List ℕ)) (text printed : List ℕ) → words ≡ codes "check" ∷ []
    → (left : Option (List ℕ)) × IsDoneBy words (Some text) left (Some []) (Some printed) [] []
    → IsLegalText text × (printed ≡ codes "legal\n")
legal_of words text printed are done =
    checked_of text printed done.0
    (subst (λ (those : List (List ℕ)). IsDoneBy those (Some text) done.0 (Some []) (Some printed) [] []) are done.1)

-- what was printed of a session that has this text
pub printed_of : (text printed : List ℕ) (session : Outline) → length text ≤ 4194304 → IsText text session → IsPrintedOf session printed
    → IsRunOf text printed
printed_of text printed session within spelled told = (
  Some [],
  record {
    journal = told.journal;
    transcripts = told.transcripts;
    run = record {
      spelled = text;
      session = session;
      read = (refl, refl);
      within = within;
      text = spelled;
      run = told.run;
      spellable = told.spellable;
    };
    told = told.told;
    printed = ap Some told.text;
  },
)

-- what a command came to, under `run`, `drill` and `check`
pub ended_of : {E : Type 0} (words : List (List ℕ)) (session : List ℕ) (r : Result Ended E) → words ≡ codes "run" ∷ []
    → IfOk r (IsEndedBy words session) → IfOk r (IsEnded session)
ended_of words session (Ok (Ran printed)) are told = run_of words session printed.items are told
ended_of words session (Ok (Otherwise status printed)) are told = record {
  other = told.0;
  due = elim told.1 [
    | inl stopped ↦ inl stopped
    | inr due ↦ inr (subst (λ (those : List (List ℕ)). IsDueStatus those session status) are due)
  ];
}
ended_of words session (Err error) are told = told

pub drill_ended_of : {E : Type 0} (words : List (List ℕ)) (number text : List ℕ) (r : Result Ended E)
    → words ≡ codes "drill" ∷ number ∷ [] → IfOk r (IsEndedBy words text) → IfOk r (IsDrillEnded number)
drill_ended_of words number text (Ok (Ran printed)) are told = summary_of words number text printed.items are told
drill_ended_of words number text (Ok (Otherwise status printed)) are told = told.0
drill_ended_of words number text (Err error) are told = told

pub check_ended_of : {E : Type 0} (words : List (List ℕ)) (both : List ℕ) (r : Result Ended E) → words ≡ codes "check" ∷ []
    → IfOk r (IsEndedBy words both) → IfOk r (IsCheckEnded both)
check_ended_of words both (Ok (Ran printed)) are told = legal_of words both printed.items are told
check_ended_of words both (Ok (Otherwise status printed)) are told = (
  told.0,
  elim told.1 [
    | inl stopped ↦ inl stopped
    | inr due ↦ inr (subst (λ (those : List (List ℕ)). IsDueStatus those both status) are due)
  ],
)
check_ended_of words both (Err error) are told = told

-- what a session prints in an order
pub in_order_of : {E V : Type 0} (items : V → List ℕ) (text : List ℕ) (session : Outline) (r : Result (Option V) E)
    → length text ≤ 4194304 → IsText text session
    → IfOk r (λ told. IfSome told (λ printed. IsPrintedOf session (items printed)))
    → IfOk r (λ told. IfSome told (λ printed. IsRunOf text (items printed)))
in_order_of items text session (Ok (Some printed)) within spelled told = printed_of text (items printed) session within spelled told
in_order_of items text session (Ok None) within spelled told = told
in_order_of items text session (Err error) within spelled told = told
