-- What a right verdict means for a source that tells its bytes.
use Rattle.std.proofs.Common.{◌≡◌, ℕ, ◌<◌, ◌≤◌, List, [], ◌∷◌, length, codes, refl, sym, ◌∙◌, subst, Option, Some, Result, Ok, Err, IfOk, OnErr, IsErrOf, inl, inr, arith}
use Rattle.mx_audit.specs.Accounts.{Account, HaveGrown}
use Rattle.mx_io.specs.Bytes.{TakesAll, TakesTooMany, Appends, AppendsPart}
use Rattle.mx_io.specs.declared.reading.ReadError.{ReadError}
use Rattle.mx_io.specs.declared.reading.ReadError.TheVariants as reading
use Rattle.mx_check.specs.Judgements.{IsJudgement, judgement_status, judgement_text}
use Rattle.mx_check.specs.Laws.{DueStatusLaw}
use Rattle.mx_check.specs.declared.judgements.Judgement.{Judgement}
use Rattle.mx_check.specs.declared.judgements.Judgement.TheVariants as judged
use Rattle.mx_run.proofs.CommandLaws.{check_is_no_drill, run_is_no_check, run_is_no_drill}
use Rattle.mx_proc.specs.Auditors.{WereTold}
use Rattle.mx_script.specs.FirstBadLine.{IsFirstBad}
use Rattle.mx_script.specs.SessionTexts.{IsText}
use Rattle.mx_script.specs.Sessions.{Outline}
use Rattle.mx_script.specs.declared.reading.SessionError.{SessionError}
use Rattle.mx_script.specs.declared.reading.SessionError.TheVariants as session
use Rattle.mx_spelling.specs.Spelling.{IsSpellable}
use Rattle.mx_state.specs.declared.journal.Entry.{Entry}
use Rattle.mx_transcript.specs.Runs.{IsRunOf}
use Rattle.mx_transcript.specs.Transcripts.{Step}
use Rattle.mx_run.specs.Commands.{IsCheck, IsRun}
use Rattle.mx_run.specs.Done.{most_bytes, IsChecked, IsDone, IsDoneBy}
use Rattle.mx_run.specs.Statuses.{HasPrinted, IsDueStatus}
use Rattle.mx_run.specs.Verdicts.{IsVerdict, verdict_status, verdict_text}
use Rattle.mx_run.specs.Unread.{no_session, unread}
use Rattle.mx_run.specs.declared.verdicts.Unreached.{Unreached}
use Rattle.mx_run.specs.declared.verdicts.Unreached.TheVariants.{Fault, Memory}
use Rattle.mx_run.specs.declared.verdicts.Verdict.{Verdict}
use Rattle.mx_run.specs.declared.verdicts.Verdict.TheVariants.{Ran, Drilled, Checked, BadWords, BadLine, TooLong}

pub due_status : DueStatusLaw → (words : List (List ℕ)) (spelled : List ℕ) (source' : Option (List ℕ)) (accounts accounts' : List Account) (verdict : Verdict)
    → IsVerdict words (Some spelled) source' accounts accounts' verdict → IsDueStatus words spelled (verdict_status verdict)
due_status law words spelled source' accounts accounts' (Ran journal transcripts) right = record {
  bad_words = λ other. absurd (other (inl right.0));
  drill = λ number d. absurd (run_is_no_drill words number right.0 d);
  session = λ run within some. refl;
  no_session = λ run within none.
      absurd (none (right.1.session, subst (λ (l : List ℕ). IsText l right.1.session) (sym right.1.read.0) right.1.text));
  too_long = λ run more.
      let within : length spelled ≤ most_bytes = subst (λ (l : List ℕ). length l ≤ most_bytes) (sym right.1.read.0) right.1.within in
      absurd (omega arith);
  check = λ check. absurd (run_is_no_check words right.0 check);
}
due_status law words spelled source' accounts accounts' (Drilled number journal transcripts) right = record {
  bad_words = λ other. absurd (other (inr (inl (number, right.0))));
  drill = λ other d. refl;
  session = λ run within some. refl;
  no_session = λ run within none. absurd (run_is_no_drill words number run right.0);
  too_long = λ run more. absurd (run_is_no_drill words number run right.0);
  check = λ check. absurd (check_is_no_drill words number check right.0);
}
due_status law words spelled source' accounts accounts' (Checked judgement) right = record {
  bad_words = λ other. absurd (other (inr (inr right.0)));
  drill = λ number d. absurd (check_is_no_drill words number right.0 d);
  session = λ run within some. absurd (run_is_no_check words run right.0);
  no_session = λ run within none. absurd (run_is_no_check words run right.0);
  too_long = λ run more. absurd (run_is_no_check words run right.0);
  check = λ check. law spelled source' judgement right.1;
}
due_status law words spelled source' accounts accounts' BadWords right = record {
  bad_words = λ other. refl;
  drill = λ number d. absurd (right.0 (inr (inl (number, d))));
  session = λ run within some. absurd (right.0 (inl run));
  no_session = λ run within none. absurd (right.0 (inl run));
  too_long = λ run more. absurd (right.0 (inl run));
  check = λ check. absurd (right.0 (inr (inr check)));
}
due_status law words spelled source' accounts accounts' (BadLine number) right = record {
  bad_words = λ other. absurd (other (inl right.0));
  drill = λ number d. absurd (run_is_no_drill words number right.0 d);
  session = λ run within some. absurd (right.1.first.no_session (some.0, subst (λ (l : List ℕ). IsText l some.0) right.1.read.0 some.1));
  no_session = λ run within none. refl;
  too_long = λ run more.
      let within : length spelled ≤ most_bytes = subst (λ (l : List ℕ). length l ≤ most_bytes) (sym right.1.read.0) right.1.within in
      absurd (omega arith);
  check = λ check. absurd (run_is_no_check words right.0 check);
}
due_status law words spelled source' accounts accounts' TooLong right = record {
  bad_words = λ other. absurd (other (inl right.0));
  drill = λ number d. absurd (run_is_no_drill words number right.0 d);
  session = λ run within some. let more : most_bytes < length spelled = right.1.0 in absurd (omega arith);
  no_session = λ run within none. let more : most_bytes < length spelled = right.1.0 in absurd (omega arith);
  too_long = λ run more. refl;
  check = λ check. absurd (run_is_no_check words right.0 check);
}

-- under `run` a session was run
pub run_done : (words : List (List ℕ)) (source source' sink sink' : Option (List ℕ)) (accounts accounts' : List Account) → IsRun words
    → IsDoneBy words source source' sink sink' accounts accounts' → IsDone source source' sink sink' accounts accounts'
run_done words source source' sink sink' accounts accounts' run (inl done) = done.1
run_done words source source' sink sink' accounts accounts' run (inr (inl drilled)) =
    absurd (run_is_no_drill words drilled.number run drilled.words_are)
run_done words source source' sink sink' accounts accounts' run (inr (inr checked)) = absurd (run_is_no_check words run checked.words_are)

-- What a verdict leaves. That the accounts have grown names them.
pub due_of : DueStatusLaw → (words : List (List ℕ)) (spelled : List ℕ) (source source' : Option (List ℕ)) (accounts accounts' : List Account) (verdict : Verdict)
    → HaveGrown accounts accounts' → source ≡ Some spelled → IsVerdict words source source' accounts accounts' verdict
    → IsDueStatus words spelled (verdict_status verdict)
due_of law words spelled source source' accounts accounts' verdict grown told right =
    due_status law words spelled source' accounts accounts' verdict
    (subst (λ (l : Option (List ℕ)). IsVerdict words l source' accounts accounts' verdict) told right)

checked_of : (words : List (List ℕ)) (source source' sink sink' : Option (List ℕ)) (accounts accounts' : List Account) (judgement : Judgement)
    → IsCheck words × IsJudgement source source' judgement × (accounts' ≡ accounts) → Appends sink sink' (judgement_text judgement)
    → judgement_status judgement ≡ 0 → IsChecked words source source' sink sink' accounts accounts'
checked_of words source source' sink sink' accounts accounts' judged.Legal right printed done = record {
  words_are = right.0;
  spelled = right.1.spelled;
  read = right.1.read;
  within = right.1.within;
  legal = right.1.judged;
  untold = right.2;
  printed = printed;
}
checked_of words source source' sink sink' accounts accounts' (judged.Breach breach) right printed done = absurd (omega (arith, done))
checked_of words source source' sink sink' accounts accounts' (judged.BadLine number) right printed done = absurd (omega (arith, done))
checked_of words source source' sink sink' accounts accounts' judged.TooLong right printed done = absurd (omega (arith, done))

pub done_of : (words : List (List ℕ)) (source source' sink sink' : Option (List ℕ)) (accounts accounts' : List Account) (verdict : Verdict)
    → HaveGrown accounts accounts' → IsVerdict words source source' accounts accounts' verdict → Appends sink sink' (verdict_text verdict)
    → verdict_status verdict ≡ 0 → IsDoneBy words source source' sink sink' accounts accounts'
done_of words source source' sink sink' accounts accounts' (Ran journal transcripts) grown right printed done =
    inl (right.0, record { journal = journal; transcripts = transcripts; run = right.1; told = right.2; printed = printed })
done_of words source source' sink sink' accounts accounts' (Drilled number journal transcripts) grown right printed done =
    inr (inl (record {
      number = number;
      words_are = right.0;
      journal = journal;
      transcripts = transcripts;
      run = right.1;
      spellable = right.2;
      told = right.4;
      printed = printed;
    }))
done_of words source source' sink sink' accounts accounts' (Checked judgement) grown right printed done =
    inr (inr (checked_of words source source' sink sink' accounts accounts' judgement right printed done))
done_of words source source' sink sink' accounts accounts' BadWords grown right printed done = absurd (omega (arith, done))
done_of words source source' sink sink' accounts accounts' (BadLine number) grown right printed done = absurd (omega (arith, done))
done_of words source source' sink sink' accounts accounts' TooLong grown right printed done = absurd (omega (arith, done))

pub front_of : (words : List (List ℕ)) (source source' sink sink' : Option (List ℕ)) (accounts accounts' : List Account) (verdict : Verdict)
    → HaveGrown accounts accounts' → IsVerdict words source source' accounts accounts' verdict
    → verdict_status verdict ≡ 0 → AppendsPart sink sink' (verdict_text verdict)
    → HasPrinted (AppendsPart sink sink') words source source' accounts accounts' 0
front_of words source source' sink sink' accounts accounts' verdict grown right run front = record {
  verdict = verdict;
  right = right;
  status_is = sym run;
  printed = front;
}

-- that these bytes are a session's and that it was run is one on the bytes
pub ran_right : (bytes : List ℕ) (x : Outline) (journal : List Entry) (transcripts : List (List Step))
    (accounts accounts' : List Account) → length bytes ≤ most_bytes → IsText bytes x → IsRunOf x journal transcripts → IsSpellable journal transcripts
    → WereTold x accounts transcripts accounts'
    → IsVerdict (codes "run" ∷ []) (Some bytes) (Some []) accounts accounts' (Ran journal transcripts)
ran_right bytes x journal transcripts accounts accounts' within text run spellable told = (
  refl,
  record { spelled = bytes; session = x; read = (refl, refl); within = within; text = text; run = run; spellable = spellable },
  told,
)

-- a verdict on other words is one on words that are the same
pub of_words : (words others : List (List ℕ)) (source source' : Option (List ℕ)) (accounts accounts' : List Account)
    (result : Result Verdict Unreached) → words ≡ others → IfOk result (IsVerdict others source source' accounts accounts')
    → IfOk result (IsVerdict words source source' accounts accounts')
of_words words others source source' accounts accounts' result same right =
    subst (λ (l : List (List ℕ)). IfOk result (IsVerdict l source source' accounts accounts')) (sym same) right

-- a verdict on the bytes that a source gave is one on the source
of_read : (words : List (List ℕ)) (source source' : Option (List ℕ)) (spelled : List ℕ) (accounts accounts' : List Account)
    (verdict : Verdict) → IsRun words → TakesAll source source' spelled → length spelled ≤ most_bytes
    → IsVerdict words (Some spelled) (Some []) accounts accounts' verdict → IsVerdict words source source' accounts accounts' verdict
of_read words source source' spelled accounts accounts' (Ran journal transcripts) run takes within right = (
  right.0,
  record {
    spelled = spelled;
    session = right.1.session;
    read = takes;
    within = within;
    text = subst (λ (l : List ℕ). IsText l right.1.session) (sym right.1.read.0) right.1.text;
    run = right.1.run;
    spellable = right.1.spellable;
  },
  right.2,
)
of_read words source source' spelled accounts accounts' (Drilled number journal transcripts) run takes within right =
    absurd (run_is_no_drill words number run right.0)
of_read words source source' spelled accounts accounts' (Checked judgement) run takes within right =
    absurd (run_is_no_check words run right.0)
of_read words source source' spelled accounts accounts' BadWords run takes within right = absurd (right.0 (inl run))
of_read words source source' spelled accounts accounts' (BadLine number) run takes within right = (
  right.0,
  record {
    spelled = spelled;
    read = takes;
    within = within;
    first = subst (λ (l : List ℕ). IsFirstBad l number) (sym right.1.read.0) right.1.first;
  },
  right.2,
)
of_read words source source' spelled accounts accounts' TooLong run takes within right =
    let more : most_bytes < length spelled = right.1.0 in absurd (omega arith)

pub of_read_ok : (words : List (List ℕ)) (source source' : Option (List ℕ)) (spelled : List ℕ) (accounts accounts' : List Account)
    (result : Result Verdict Unreached) → IsRun words → TakesAll source source' spelled → length spelled ≤ most_bytes
    → IfOk result (IsVerdict words (Some spelled) (Some []) accounts accounts')
    → IfOk result (IsVerdict words source source' accounts accounts')
of_read_ok words source source' spelled accounts accounts' (Ok verdict) run takes within right =
    of_read words source source' spelled accounts accounts' verdict run takes within right
of_read_ok words source source' spelled accounts accounts' (Err why) run takes within right = tt

-- what comes of a source that was not read to its end is right
pub unread_right : (source source' : Option (List ℕ)) (accounts : List Account) (error : ReadError) (result : Result Verdict Unreached)
    → result ≡ unread error → (error ≡ reading.TooLong → TakesTooMany 4194304 source source')
    → IfOk result (IsVerdict (codes "run" ∷ []) source source' accounts accounts)
unread_right source source' accounts reading.TooLong result is taken =
    subst (λ (r : Result Verdict Unreached). IfOk r (IsVerdict (codes "run" ∷ []) source source' accounts accounts)) (sym is) (refl, taken refl, refl)
unread_right source source' accounts reading.Fault result is taken =
    subst (λ (r : Result Verdict Unreached). IfOk r (IsVerdict (codes "run" ∷ []) source source' accounts accounts)) (sym is) tt
unread_right source source' accounts reading.Memory result is taken =
    subst (λ (r : Result Verdict Unreached). IfOk r (IsVerdict (codes "run" ∷ []) source source' accounts accounts)) (sym is) tt

-- and it is a fault exactly where the source failed
pub unread_fault : (error : ReadError) (result : Result Verdict Unreached) → result ≡ unread error → IsErrOf result Fault → error ≡ reading.Fault
unread_fault reading.TooLong result is failed = let clash = sym is ∙ failed in absurd (cc)
unread_fault reading.Fault result is failed = refl
unread_fault reading.Memory result is failed = let clash = sym is ∙ failed in absurd (cc)

pub fault_unread : (error : ReadError) (result : Result Verdict Unreached) → result ≡ unread error → error ≡ reading.Fault → IsErrOf result Fault
fault_unread reading.TooLong result is failed = absurd (cc)
fault_unread reading.Fault result is failed = is
fault_unread reading.Memory result is failed = absurd (cc)

-- what comes of bytes of which no session was read is right
pub no_session_right : (bytes : List ℕ) (accounts : List Account) (error : SessionError) (result : Result Verdict Unreached)
    → result ≡ no_session error → length bytes ≤ 4194304 → ((n : ℕ) → error ≡ session.BadLine n → IsFirstBad bytes n)
    → IfOk result (IsVerdict (codes "run" ∷ []) (Some bytes) (Some []) accounts accounts)
no_session_right bytes accounts (session.BadLine number) result is within first =
    subst (λ (r : Result Verdict Unreached). IfOk r (IsVerdict (codes "run" ∷ []) (Some bytes) (Some []) accounts accounts)) (sym is)
    (refl, record { spelled = bytes; read = (refl, refl); within = within; first = first number refl }, refl)
no_session_right bytes accounts session.Memory result is within first =
    subst (λ (r : Result Verdict Unreached). IfOk r (IsVerdict (codes "run" ∷ []) (Some bytes) (Some []) accounts accounts)) (sym is) tt

-- and the only error is that memory is wanting
pub no_session_memory : (error : SessionError) (result : Result Verdict Unreached) → result ≡ no_session error → OnErr result (IsErrOf result Memory)
no_session_memory (session.BadLine number) result is = subst (λ (r : Result Verdict Unreached). OnErr r (IsErrOf r Memory)) (sym is) tt
no_session_memory session.Memory result is = subst (λ (r : Result Verdict Unreached). OnErr r (IsErrOf r Memory)) (sym is) refl
