use Rattle.std.proofs.Common.{◌∙◌, ap, Err}
use Rattle.mx_audit.proofs.AccountLaws.{grown_none}
use Rattle.mx_run.proofs.RoomLaws.{room_for_text}
use Rattle.mx_run.proofs.VerdictLaws.{no_session_memory, no_session_right, ran_right}
use Rattle.mx_run.proofs.verdicts.Verdict.of_bytes.Goals as goal

pub returns-in-Err-clause-right : goal.returns-in-Err-clause-right
returns-in-Err-clause-right g c =
    no_session_right c.args.bytes.items _ c.in-Err.error c.no_session.result c.no_session.ensures c.requires.within
    (λ n is. c.session_of_text.ensures.bad_line n (c.in-Err.is ∙ ap Err is))

pub returns-in-Err-clause-grown : goal.returns-in-Err-clause-grown
returns-in-Err-clause-grown g c = grown_none _

pub returns-in-Err-clause-cause : goal.returns-in-Err-clause-cause
returns-in-Err-clause-cause g c = no_session_memory c.in-Err.error c.no_session.result c.no_session.ensures

-- the text's scripts are short
pub ran-requires-clause-room : goal.ran-requires-clause-room
ran-requires-clause-room g c κs within = room_for_text c.args.bytes.items _ _ c.in-Ok.ensures.found c.requires.within c.requires.room

pub returns-in_ok-journal-in-Ok-clause-right : goal.returns-in_ok-journal-in-Ok-clause-right
returns-in_ok-journal-in-Ok-clause-right g c =
    ran_right c.args.bytes.items _ c.in_ok-journal-in-Ok.journal c.in_ok-journal-in-Ok.transcripts _ _ c.requires.within
    c.in-Ok.ensures.found c.in_ok-journal-in-Ok.ensures.run c.in_ok-journal-in-Ok.ensures.spellable c.in_ok-journal-in-Ok.ensures.told
