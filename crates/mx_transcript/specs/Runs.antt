-- A run of a session: what is claimed of a journal and transcripts together.
use Rattle.std.specs.Prelude.{List}
use Rattle.mx_script.specs.Sessions.{Outline}
use Rattle.mx_state.specs.declared.journal.Entry as journaled
use Rattle.mx_transcript.specs.Legal.{IsLegal, HasGatedFalls, HasSoundRegisters}
use Rattle.mx_transcript.specs.Transcripts.{Step}

-- The journal and the transcripts are a legal run of the session, whose rings fall only through gates and whose pointer
-- registers never have less than the ring.
pub record IsRunOf (session : Outline) (journal : List journaled.Entry) (transcripts : List (List Step)) : Type 0 where
  pub legal : IsLegal session journal transcripts
  pub gated : HasGatedFalls session journal transcripts
  pub sound : HasSoundRegisters session journal transcripts
