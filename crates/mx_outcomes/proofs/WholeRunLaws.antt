-- A run without auditors has no part that is cut.
use Rattle.std.proofs.Common.{◌≡◌, ℕ, zero, suc, ◌<◌, List, [], length, refl, ap, ◌∙◌, arith, None}
use Rattle.std.specs.List.{slice_get}
use Rattle.mx_audit.specs.Accounts.{Account}
use Rattle.mx_proc.specs.Auditors.{HasLines, WereTold}
use Rattle.mx_script.specs.Sessions.{Outline}
use Rattle.mx_state.specs.declared.journal.Entry as journaled
use Rattle.mx_transcript.specs.Legal.{IsLegal, HasGatedFalls, HasSoundRegisters}
use Rattle.mx_transcript.specs.Scripts.{lines_of}
use Rattle.mx_transcript.specs.Transcripts.{Step, part}
use Rattle.mx_outcomes.specs.WholeRuns.{IsWholeRun}

pub whole_run : (session : Outline) (journal : List journaled.Entry) (transcripts : List (List Step))
    (before after : List Account) → before ≡ [] → IsLegal session journal transcripts
    → HasGatedFalls session journal transcripts → HasSoundRegisters session journal transcripts
    → WereTold session before transcripts after → IsWholeRun session journal transcripts
whole_run session journal transcripts before after none legal gated sound told = record {
  run = record { legal = legal; gated = gated; sound = sound };
  whole = each;
}
  where
    each : (p : ℕ) → p < length transcripts → HasLines (part transcripts p) (lines_of session p)
    each zero below = told.initial
    each (suc i) below =
        let parts = legal.parts in
        told.alone i (omega arith) (ap (λ (accounts : List Account). slice_get accounts i) none)
